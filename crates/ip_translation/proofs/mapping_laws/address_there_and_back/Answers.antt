use Rattle.std.proofs.Common.{rules, ap, sym, ◌∙◌}
use Rattle.ip_translation.specs.Prefixes as prefixes
use Rattle.ip_translation.proofs.MappedBackLemmas.{mapped_back, unmapped_back}
use Rattle.ip_translation.proofs.mapping_laws.address_there_and_back.Goals as goal

pub returns-clause-mapped : goal.returns-clause-mapped
returns-clause-mapped c = λ mapping there back.
    mapped_back c.args.table.now c.args.ipv4 mapping (search rules) c.expect_octets.ensures there back

pub returns-clause-unmapped : goal.returns-clause-unmapped
returns-clause-unmapped c = λ there back.
    unmapped_back c.args.table.now c.args.ipv4
    (ap (prefixes.extracted c.args.table.now.prefix) (sym c.embed.ensures.embedded) ∙ c.embed.ensures.extracted) there back
