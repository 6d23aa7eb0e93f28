use Rattle.std.proofs.Common.{◌∙◌, append_assoc, string_bytes}
use Rattle.std.proofs.lemmas.Result.{IfOk-weaker}
use Rattle.capture_request.proofs.capture_error.error_line.Goals as goal

-- the text follows the name of the program and the name of the capture
pub returns-in-Some : goal.returns-in-Some
returns-in-Some c =
    rw c.in-Some.is (
    IfOk-weaker c.format.result _ _
    (λ line is. (string_bytes c.in_ok-text.text, c.in_ok-text.ensures, rw c.without_mark.ensures at is ∙ (simp append_assoc)))
    c.format.ensures.ok)
