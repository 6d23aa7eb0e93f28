use Rattle.std.proofs.Common.{None, Some, ap, refl, sym, ◌∙◌}
use Rattle.std.specs.Int.{to_be_bytes, w32}
use Rattle.ip_translation.specs.AddressMappings.{mapped_to_ipv4}
use Rattle.ip_translation.proofs.AddressTableLemmas.{extracted_is}
use Rattle.ip_translation.proofs.address_table.AddressTable.ipv4_of.Goals as goal

pub returns-in-Some : goal.returns-in-Some
returns-in-Some c =
    let is = extracted_is c.args.self.now c.args.address.now _ (Some c.in-Some.mapping) refl
    (sym c.mapping_of_ipv6.ensures ∙ c.in-Some.is) in
    let written = c.to_ipv4.ensures ∙ ap (mapped_to_ipv4 c.in-Some.mapping) c.from_be_bytes.ensures in
    record { ipv4 = c.to_be_bytes.ensures ∙ ap (to_be_bytes w32) written ∙ sym is }

pub returns-in-None : goal.returns-in-None
returns-in-None c =
    let is = extracted_is c.args.self.now c.args.address.now _ None refl
    (sym c.mapping_of_ipv6.ensures ∙ c.in-None.is) in
    record { ipv4 = c.ipv4_after.ensures ∙ sym is }
