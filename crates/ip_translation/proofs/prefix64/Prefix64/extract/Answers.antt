use Rattle.std.proofs.Common.{ap, sym, ◌∙◌}
use Rattle.ip_translation.specs.Prefixes as specs
use Rattle.ip_translation.proofs.EmbeddedLemmas.{begins_with, embedded_again}
use Rattle.ip_translation.proofs.prefix64.Prefix64.extract.Goals as goal

pub returns-then-is_prefix-clause-embedded : goal.returns-then-is_prefix-clause-embedded
returns-then-is_prefix-clause-embedded c =
    ap (specs.embedded c.args.self.now) c.ipv4_after.ensures
    ∙ embedded_again c.args.self.now c.args.address.now c.told-address
    (begins_with _ _ (sym c.is_front_of-is_prefix.ensures ∙ c.if-is_prefix.true))
