use Rattle.std.proofs.Common.{refl}
use Rattle.std.proofs.lemmas.Result.{IfOk-weaker}
use Rattle.capture_arguments.proofs.CommandLemmas.{adds_rule}
use Rattle.capture_arguments.proofs.arguments.with_hosts.Goals as goal

-- one option after the other
pub returns-clause-rules : goal.returns-clause-rules
returns-clause-rules g c =
    let first = adds_rule _ _ _ _ _ c.in_ok-command.ensures.adds c.host.ensures.local c.host.ensures.rule refl in
    let second = adds_rule _ _ _ _ _ c.in_ok-command-2.ensures.adds c.source.ensures.local c.source.ensures.rule first in
    let third = adds_rule _ _ _ _ _ c.in_ok-command-3.ensures.adds c.destination.ensures.local c.destination.ensures.rule second in
    IfOk-weaker _ _ _ (λ more adds. adds_rule _ _ _ _ _ adds c.other_host.ensures.local c.other_host.ensures.rule third)
    c.with_arg-4.ensures.adds
