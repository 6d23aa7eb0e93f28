use Rattle.std.proofs.Common.{rules, ap, ap₂, sym, ◌∙◌}
use Rattle.ip_translation.specs.Prefixes as specs
use Rattle.ip_translation.specs.declared.prefix64.Prefix64.TheVariants.{Bits32, Bits40, Bits48, Bits56, Bits64}
use Rattle.ip_translation.proofs.ListedLemmas.{whole}
use Rattle.ip_translation.proofs.prefix64.Prefix64.join_any.Goals as goal

pub returns-in-Bits32-clause-joined : goal.returns-in-Bits32-clause-joined
returns-in-Bits32-clause-joined c =
    ap₂ (λ start ipv4. specs.embedded (Bits32 start) ipv4) (whole c.in-Bits32.start 4 (search rules)) (whole c.args.ipv4 4 (search rules))
    ∙ ap (λ prefix. specs.embedded prefix c.args.ipv4) (sym c.in-Bits32.is)

pub returns-in-Bits40-clause-joined : goal.returns-in-Bits40-clause-joined
returns-in-Bits40-clause-joined c =
    ap₂ (λ start ipv4. specs.embedded (Bits40 start) ipv4) (whole c.in-Bits40.start 5 (search rules)) (whole c.args.ipv4 4 (search rules))
    ∙ ap (λ prefix. specs.embedded prefix c.args.ipv4) (sym c.in-Bits40.is)

pub returns-in-Bits48-clause-joined : goal.returns-in-Bits48-clause-joined
returns-in-Bits48-clause-joined c =
    ap₂ (λ start ipv4. specs.embedded (Bits48 start) ipv4) (whole c.in-Bits48.start 6 (search rules)) (whole c.args.ipv4 4 (search rules))
    ∙ ap (λ prefix. specs.embedded prefix c.args.ipv4) (sym c.in-Bits48.is)

pub returns-in-Bits56-clause-joined : goal.returns-in-Bits56-clause-joined
returns-in-Bits56-clause-joined c =
    ap₂ (λ start ipv4. specs.embedded (Bits56 start) ipv4) (whole c.in-Bits56.start 7 (search rules)) (whole c.args.ipv4 4 (search rules))
    ∙ ap (λ prefix. specs.embedded prefix c.args.ipv4) (sym c.in-Bits56.is)

pub returns-in-Bits64-clause-joined : goal.returns-in-Bits64-clause-joined
returns-in-Bits64-clause-joined c =
    ap₂ (λ start ipv4. specs.embedded (Bits64 start) ipv4) (whole c.in-Bits64.start 8 (search rules)) (whole c.args.ipv4 4 (search rules))
    ∙ ap (λ prefix. specs.embedded prefix c.args.ipv4) (sym c.in-Bits64.is)
