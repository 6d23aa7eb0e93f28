use Rattle.std.proofs.Common.{◌≡◌, ◌++◌, [], None, Some, drop, drop_of_length-le, refl, ap, sym, ◌∙◌, arith}
use Rattle.std.proofs.lemmas.List.{append-nil}
use Rattle.ip_translation.proofs.AddressTableLemmas.{embedded_is}
use Rattle.ip_translation.proofs.address_table.AddressTable.write_embedded.Goals as goal

pub returns-in-Some-mapping_of_ipv4 : goal.returns-in-Some-mapping_of_ipv4
returns-in-Some-mapping_of_ipv4 c =
    let is = embedded_is c.args.self.now c.args.ipv4 _ (Some c.in-Some-mapping_of_ipv4.mapping) refl
    (sym c.mapping_of_ipv4.ensures ∙ c.in-Some-mapping_of_ipv4.is) in
    let rest : drop 16 c.args.place.now ≡ [] = drop_of_length-le c.args.place.now {i = 16} (omega (arith, c.requires)) in
    ap (λ rest. c.write_mapped.new.address ++ rest) rest ∙ append-nil c.write_mapped.new.address ∙ c.write_mapped.ensures ∙ sym is

pub returns-in-None : goal.returns-in-None
returns-in-None c =
    let is = embedded_is c.args.self.now c.args.ipv4 _ None refl (sym c.mapping_of_ipv4.ensures ∙ c.in-None.is) in
    let rest : drop 16 c.args.place.now ≡ [] = drop_of_length-le c.args.place.now {i = 16} (omega (arith, c.requires)) in
    ap (λ rest. c.write.new.address ++ rest) rest ∙ append-nil c.write.new.address ∙ c.write.ensures.written ∙ sym is
