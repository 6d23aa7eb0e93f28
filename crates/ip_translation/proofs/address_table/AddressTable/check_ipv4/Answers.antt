use Rattle.std.proofs.Common.{None, Some, refl, subst, sym, ◌∙◌}
use Rattle.net_base.specs.Refusals.{RefusesExactly}
use Rattle.ip_translation.proofs.AddressTableLemmas.{to_ipv6_refusal_is}
use Rattle.ip_translation.proofs.address_table.AddressTable.check_ipv4.Goals as goal

pub returns-in-Some : goal.returns-in-Some
returns-in-Some c =
    to_ipv6_refusal_is c.args.self.now c.args.ipv4 _ (Some c.in-Some.field-0) refl (sym c.mapping_of_ipv4.ensures ∙ c.in-Some.is)

pub returns-in-None : goal.returns-in-None
returns-in-None c =
    let is = to_ipv6_refusal_is c.args.self.now c.args.ipv4 _ None refl (sym c.mapping_of_ipv4.ensures ∙ c.in-None.is) in
    subst (RefusesExactly c.check_ipv4.result) (sym is) c.check_ipv4.ensures.refused
