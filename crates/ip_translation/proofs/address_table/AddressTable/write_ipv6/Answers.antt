use Rattle.std.proofs.Common.{◌≡◌, None, Some, refl, subst, sym, ◌∙◌}
use Rattle.ip_translation.proofs.AddressTableLemmas.{embedded_is, to_ipv6_refusal_is}
use Rattle.ip_translation.proofs.address_table.AddressTable.write_ipv6.Goals as goal
use Rattle.std.specs.Prelude.{IfOk}
use Rattle.net_base.specs.Refusals.{RefusesExactly}

pub returns-in-Some-clause-refused : goal.returns-in-Some-clause-refused
returns-in-Some-clause-refused c =
    to_ipv6_refusal_is c.args.self.now c.args.ipv4 _ (Some c.in-Some.mapping) refl
    (sym c.mapping_of_ipv4.ensures ∙ c.in-Some.is)

pub returns-in-None-clause-refused : goal.returns-in-None-clause-refused
returns-in-None-clause-refused c =
    let is = to_ipv6_refusal_is c.args.self.now c.args.ipv4 _ None refl
    (sym c.mapping_of_ipv4.ensures ∙ c.in-None.is) in
    subst (RefusesExactly c.write_ipv6.result) (sym is) c.write_ipv6.ensures.refused

pub returns-in-Some-clause-written : goal.returns-in-Some-clause-written
returns-in-Some-clause-written c =
    let is = embedded_is c.args.self.now c.args.ipv4 _ (Some c.in-Some.mapping) refl
    (sym c.mapping_of_ipv4.ensures ∙ c.in-Some.is) in
    c.write_mapped.ensures ∙ sym is

pub returns-in-None-clause-written : goal.returns-in-None-clause-written
returns-in-None-clause-written c =
    let is = embedded_is c.args.self.now c.args.ipv4 _ None refl
    (sym c.mapping_of_ipv4.ensures ∙ c.in-None.is) in
    subst (λ expected. IfOk c.write_ipv6.result (λ _. c.write_ipv6.new.address ≡ expected)) (sym is) c.write_ipv6.ensures.written
