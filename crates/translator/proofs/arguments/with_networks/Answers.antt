use Rattle.std.proofs.Common.{refl}
use Rattle.std.proofs.lemmas.Result.{IfOk-weaker}
use Rattle.translator.proofs.ArgumentLemmas.{adds_rule}
use Rattle.translator.proofs.arguments.with_networks.Goals as goal

-- the rules of the options, in their order
pub returns : goal.returns
returns c =
    let first = adds_rule _ _ _ _ _ c.in_ok-command.ensures c.replacement-both.ensures.local c.replacement-both.ensures.rule refl in
    let second = adds_rule _ _ _ _ _ c.in_ok-command-2.ensures c.replacement-source.ensures.local c.replacement-source.ensures.rule first in
    IfOk-weaker _ _ _
    (λ more adds. adds_rule _ _ _ _ _ adds c.replacement-destination.ensures.local c.replacement-destination.ensures.rule second)
    c.arg-3.ensures
