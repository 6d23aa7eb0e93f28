use Rattle.std.proofs.Common.{List, length, sym, ap, ◌∙◌}
use Rattle.std.proofs.lemmas.Bool.{eqb-true}
use Rattle.std.proofs.lemmas.List.{nil_from_length}
use Rattle.std.specs.Int.{from_be_bytes, w128}
use Rattle.ip_translation.specs.AddressMappings.{longest_ipv6}
use Rattle.ip_translation.specs.declared.address_mapping.AddressMapping.{AddressMapping}
use Rattle.ip_translation.proofs.address_table.AddressTable.mapping_of_ipv6.Goals as goal

pub returns-then-is_empty : goal.returns-then-is_empty
returns-then-is_empty c =
    let mappings : List AddressMapping = c.args.self.now.mappings.now in
    sym (ap (λ mappings. longest_ipv6 mappings (from_be_bytes w128 c.args.address.now))
    (nil_from_length mappings (eqb-true (length mappings) 0 (sym c.is_empty.ensures ∙ c.if-is_empty.true))))
