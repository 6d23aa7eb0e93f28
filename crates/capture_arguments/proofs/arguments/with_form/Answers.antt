use Rattle.std.proofs.Common.{refl}
use Rattle.std.proofs.lemmas.Result.{IfOk-weaker}
use Rattle.capture_arguments.proofs.CommandLemmas.{adds_rule}
use Rattle.capture_arguments.proofs.arguments.with_form.Goals as goal

-- the rules of the options, in their order
pub returns-clause-rules : goal.returns-clause-rules
returns-clause-rules g c =
    let first = adds_rule _ _ _ _ _ c.in_ok-command.ensures.adds c.absolute.ensures.local c.absolute.ensures.rule refl in
    let second = adds_rule _ _ _ _ _ c.in_ok-command-2.ensures.adds c.check.ensures.local c.check.ensures.rule first in
    let third = adds_rule _ _ _ _ _ c.in_ok-command-3.ensures.adds c.json.ensures.local c.json.ensures.rule second in
    let fourth = adds_rule _ _ _ _ _ c.in_ok-command-4.ensures.adds c.top.ensures.local c.top.ensures.rule third in
    let fifth = adds_rule _ _ _ _ _ c.in_ok-command-5.ensures.adds c.timeline.ensures.local c.timeline.ensures.rule fourth in
    let sixth = adds_rule _ _ _ _ _ c.in_ok-command-6.ensures.adds c.interval.ensures.local c.interval.ensures.rule fifth in
    IfOk-weaker _ _ _ (λ more adds. adds_rule _ _ _ _ _ adds c.tunnels.ensures.local c.tunnels.ensures.rule sixth)
    c.with_arg-7.ensures.adds
