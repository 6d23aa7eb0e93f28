use Rattle.std.proofs.Common.{refl}
use Rattle.std.proofs.lemmas.Result.{IfOk-weaker}
use Rattle.translator.proofs.ArgumentLemmas.{adds_rule}
use Rattle.translator.proofs.arguments.with_files.Goals as goal

-- the rules of the arguments, in their order
pub returns : goal.returns
returns c =
    let first = adds_rule _ _ _ _ _ c.in_ok-command.ensures c.read.ensures.local c.read.ensures.rule refl in
    let second = adds_rule _ _ _ _ _ c.in_ok-command-2.ensures c.write.ensures.local c.write.ensures.rule first in
    IfOk-weaker _ _ _ (λ more adds. adds_rule _ _ _ _ _ adds c.file.ensures.local c.file.ensures.rule second) c.arg-3.ensures
