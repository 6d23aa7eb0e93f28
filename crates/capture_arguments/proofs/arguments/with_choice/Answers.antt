use Rattle.std.proofs.Common.{refl}
use Rattle.std.proofs.lemmas.Result.{IfOk-weaker}
use Rattle.capture_arguments.proofs.CommandLemmas.{adds_rule}
use Rattle.capture_arguments.proofs.arguments.with_choice.Goals as goal

-- the rules of the options, in their order
pub returns-clause-rules : goal.returns-clause-rules
returns-clause-rules g c =
    let first = adds_rule _ _ _ _ _ c.in_ok-command.ensures.adds c.port.ensures.local c.port.ensures.rule refl in
    let second = adds_rule _ _ _ _ _ c.in_ok-command-2.ensures.adds c.other_port.ensures.local c.other_port.ensures.rule first in
    IfOk-weaker _ _ _ (λ more adds. adds_rule _ _ _ _ _ adds c.protocol.ensures.local c.protocol.ensures.rule second) c.with_arg-3.ensures.adds
