use Rattle.std.proofs.Common.{refl}
use Rattle.std.proofs.lemmas.Result.{IfOk-weaker}
use Rattle.capture_arguments.proofs.CommandLemmas.{adds_rule}
use Rattle.capture_arguments.proofs.arguments.with_files.Goals as goal

-- the rules of the arguments, in their order
pub returns-clause-rules : goal.returns-clause-rules
returns-clause-rules g c =
    let first = adds_rule _ _ _ _ _ c.in_ok-command.ensures.adds c.write.ensures.local c.write.ensures.rule refl in
    let second = adds_rule _ _ _ _ _ c.in_ok-command-2.ensures.adds c.line_buffered.ensures.local c.line_buffered.ensures.rule first in
    let third = adds_rule _ _ _ _ _ c.in_ok-command-3.ensures.adds c.numeric.ensures.local c.numeric.ensures.rule second in
    let fourth = adds_rule _ _ _ _ _ c.in_ok-command-4.ensures.adds c.read.ensures.local c.read.ensures.rule third in
    IfOk-weaker _ _ _ (λ more adds. adds_rule _ _ _ _ _ adds c.file.ensures.local c.file.ensures.rule fourth) c.with_arg-5.ensures.adds
