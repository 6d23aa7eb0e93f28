use Rattle.std.proofs.Common.{rules, ap, ◌∙◌}
use Rattle.ip_translation.specs.Prefixes as specs
use Rattle.ip_translation.proofs.EmbeddedLemmas.{embedded_is, extracted_back}
use Rattle.ip_translation.proofs.prefix64.Prefix64.embed.Goals as goal

pub returns-clause-is_embedded : goal.returns-clause-is_embedded
returns-clause-is_embedded c =
    ap (specs.is_embedded c.args.self.now) c.join.ensures.joined ∙ embedded_is c.args.self.now c.args.ipv4 c.join.ensures.len (search rules)

pub returns-clause-extracted : goal.returns-clause-extracted
returns-clause-extracted c =
    ap (specs.extracted c.args.self.now) c.join.ensures.joined
    ∙ extracted_back c.args.self.now c.args.ipv4 c.join.ensures.len (search rules)
