use Rattle.std.proofs.Common.{[], ap, sym, ◌∙◌}
use Rattle.ip_translation.specs.Prefixes as specs
use Rattle.ip_translation.specs.declared.prefix64.Prefix64.TheVariants.{Bits32, Bits40, Bits48, Bits56, Bits64}
use Rattle.ip_translation.proofs.ListedLemmas.{whole}
use Rattle.ip_translation.proofs.prefix64.Prefix64.ipv4_after_any.Goals as goal

pub returns-in-Bits32 : goal.returns-in-Bits32
returns-in-Bits32 c =
    ap (λ address. specs.extracted (Bits32 []) address) (whole c.args.address.now 16 c.told-address)
    ∙ ap (λ prefix. specs.extracted prefix c.args.address.now) (sym c.in-Bits32.is)

pub returns-in-Bits40 : goal.returns-in-Bits40
returns-in-Bits40 c =
    ap (λ address. specs.extracted (Bits40 []) address) (whole c.args.address.now 16 c.told-address)
    ∙ ap (λ prefix. specs.extracted prefix c.args.address.now) (sym c.in-Bits40.is)

pub returns-in-Bits48 : goal.returns-in-Bits48
returns-in-Bits48 c =
    ap (λ address. specs.extracted (Bits48 []) address) (whole c.args.address.now 16 c.told-address)
    ∙ ap (λ prefix. specs.extracted prefix c.args.address.now) (sym c.in-Bits48.is)

pub returns-in-Bits56 : goal.returns-in-Bits56
returns-in-Bits56 c =
    ap (λ address. specs.extracted (Bits56 []) address) (whole c.args.address.now 16 c.told-address)
    ∙ ap (λ prefix. specs.extracted prefix c.args.address.now) (sym c.in-Bits56.is)

pub returns-in-Bits64 : goal.returns-in-Bits64
returns-in-Bits64 c =
    ap (λ address. specs.extracted (Bits64 []) address) (whole c.args.address.now 16 c.told-address)
    ∙ ap (λ prefix. specs.extracted prefix c.args.address.now) (sym c.in-Bits64.is)
