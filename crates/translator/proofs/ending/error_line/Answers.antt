use Rattle.std.proofs.Common.{◌∙◌, append_assoc, string_bytes}
use Rattle.std.proofs.lemmas.Result.{IfOk-weaker}
use Rattle.translator.proofs.ending.error_line.Goals as goal

-- the text follows both names
pub returns-in-Some : goal.returns-in-Some
returns-in-Some c =
    rw c.in-Some.is (
    IfOk-weaker c.format.result _ _ (λ line is. (string_bytes c.in_ok-text.text, c.in_ok-text.ensures, is ∙ (simp append_assoc)))
    c.format.ensures.ok)
