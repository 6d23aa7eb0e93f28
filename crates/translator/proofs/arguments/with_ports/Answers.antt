use Rattle.std.proofs.Common.{refl}
use Rattle.std.proofs.lemmas.Result.{IfOk-weaker}
use Rattle.translator.proofs.ArgumentLemmas.{adds_rule}
use Rattle.translator.proofs.arguments.with_ports.Goals as goal

-- the rules of the options, in their order
pub returns : goal.returns
returns c =
    let first = adds_rule _ _ _ _ _ c.in_ok-command.ensures c.replacement-source.ensures.local c.replacement-source.ensures.rule refl in
    IfOk-weaker _ _ _
    (λ more adds. adds_rule _ _ _ _ _ adds c.replacement-destination.ensures.local c.replacement-destination.ensures.rule first)
    c.arg-2.ensures
