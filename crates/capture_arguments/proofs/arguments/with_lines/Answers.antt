use Rattle.std.proofs.Common.{refl}
use Rattle.std.proofs.lemmas.Result.{IfOk-weaker}
use Rattle.capture_arguments.proofs.CommandLemmas.{adds_rule}
use Rattle.capture_arguments.proofs.arguments.with_lines.Goals as goal

-- the rules of the options, in their order
pub returns-clause-rules : goal.returns-clause-rules
returns-clause-rules g c =
    let first = adds_rule _ _ _ _ _ c.in_ok-command.ensures.adds c.summary.ensures.local c.summary.ensures.rule refl in
    let second = adds_rule _ _ _ _ _ c.in_ok-command-2.ensures.adds c.packets.ensures.local c.packets.ensures.rule first in
    let third = adds_rule _ _ _ _ _ c.in_ok-command-3.ensures.adds c.wrong.ensures.local c.wrong.ensures.rule second in
    IfOk-weaker _ _ _ (λ more adds. adds_rule _ _ _ _ _ adds c.verbose.ensures.local c.verbose.ensures.rule third) c.with_arg-4.ensures.adds
