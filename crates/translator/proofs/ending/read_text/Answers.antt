use Rattle.std.proofs.Common.{string_bytes}
use Rattle.std.proofs.lemmas.Result.{IfOk-weaker}
use Rattle.translator.proofs.ending.read_text.Goals as goal

-- the text contains the text of the operating system
pub returns : goal.returns
returns c = IfOk-weaker c.format-2.result _ _ (λ text is. (string_bytes c.in_ok-cause.cause, is)) c.format-2.ensures.ok
