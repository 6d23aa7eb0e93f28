use Rattle.std.proofs.Common.{List, length, sym, ap, ◌∙◌}
use Rattle.std.proofs.lemmas.Bool.{eqb-true}
use Rattle.std.proofs.lemmas.List.{nil_from_length}
use Rattle.std.specs.Int.{from_be_bytes, w32}
use Rattle.ip_translation.specs.AddressMappings.{longest_ipv4}
use Rattle.ip_translation.specs.declared.address_mapping.AddressMapping.{AddressMapping}
use Rattle.ip_translation.proofs.address_table.AddressTable.mapping_of_ipv4.Goals as goal

pub returns-then-is_empty : goal.returns-then-is_empty
returns-then-is_empty c =
    let mappings : List AddressMapping = c.args.self.now.mappings.now in
    sym (ap (λ mappings. longest_ipv4 mappings (from_be_bytes w32 c.args.ipv4))
    (nil_from_length mappings (eqb-true (length mappings) 0 (sym c.is_empty.ensures ∙ c.if-is_empty.true))))
