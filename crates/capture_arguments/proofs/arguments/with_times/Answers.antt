use Rattle.std.proofs.Common.{refl}
use Rattle.std.proofs.lemmas.Result.{IfOk-weaker}
use Rattle.capture_arguments.proofs.CommandLemmas.{adds_rule}
use Rattle.capture_arguments.proofs.arguments.with_times.Goals as goal

-- the rules of the options, in their order
pub returns-clause-rules : goal.returns-clause-rules
returns-clause-rules g c =
    let first = adds_rule _ _ _ _ _ c.in_ok-command.ensures.adds c.from_time.ensures.local c.from_time.ensures.rule refl in
    let second = adds_rule _ _ _ _ _ c.in_ok-command-2.ensures.adds c.to_time.ensures.local c.to_time.ensures.rule first in
    IfOk-weaker _ _ _ (λ more adds. adds_rule _ _ _ _ _ adds c.count.ensures.local c.count.ensures.rule second) c.with_arg-3.ensures.adds
