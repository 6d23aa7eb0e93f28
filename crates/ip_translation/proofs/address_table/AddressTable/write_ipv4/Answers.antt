use Rattle.std.proofs.Common.{◌≡◌, None, Some, ap, refl, subst, sym, ◌∙◌}
use Rattle.std.specs.Int.{to_be_bytes, w32}
use Rattle.ip_translation.specs.AddressMappings.{mapped_to_ipv4}
use Rattle.ip_translation.proofs.AddressTableLemmas.{extracted_is, to_ipv4_refusal_is}
use Rattle.ip_translation.proofs.address_table.AddressTable.write_ipv4.Goals as goal
use Rattle.std.specs.Prelude.{IfOk}
use Rattle.net_base.specs.Refusals.{RefusesExactly}

pub returns-in-Some-clause-refused : goal.returns-in-Some-clause-refused
returns-in-Some-clause-refused c =
    to_ipv4_refusal_is c.args.self.now c.args.address.now _ (Some c.in-Some.mapping) refl
    (sym c.mapping_of_ipv6.ensures ∙ c.in-Some.is)

pub returns-in-None-clause-refused : goal.returns-in-None-clause-refused
returns-in-None-clause-refused c =
    let is = to_ipv4_refusal_is c.args.self.now c.args.address.now _ None refl
    (sym c.mapping_of_ipv6.ensures ∙ c.in-None.is) in
    subst (RefusesExactly c.write_ipv4.result) (sym is) c.write_ipv4.ensures.refused

pub returns-in-Some-clause-written : goal.returns-in-Some-clause-written
returns-in-Some-clause-written c =
    let is = extracted_is c.args.self.now c.args.address.now _ (Some c.in-Some.mapping) refl
    (sym c.mapping_of_ipv6.ensures ∙ c.in-Some.is) in
    c.to_be_bytes.ensures
    ∙ ap (to_be_bytes w32) (c.to_ipv4.ensures ∙ ap (mapped_to_ipv4 c.in-Some.mapping) c.from_be_bytes.ensures)
    ∙ sym is

pub returns-in-None-clause-written : goal.returns-in-None-clause-written
returns-in-None-clause-written c =
    let is = extracted_is c.args.self.now c.args.address.now _ None refl
    (sym c.mapping_of_ipv6.ensures ∙ c.in-None.is) in
    subst (λ expected. IfOk c.write_ipv4.result (λ _. c.write_ipv4.new.ipv4 ≡ expected)) (sym is) c.write_ipv4.ensures.written
