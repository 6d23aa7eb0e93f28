use Rattle.std.proofs.Common.{◌∙◌, ◌++◌, append_assoc, refl, string_bytes}
use Rattle.std.proofs.lemmas.Result.{IfOk-weaker}
use Rattle.capture_request.specs.ErrorLines.{hint_of}
use Rattle.capture_request.proofs.capture_error.open_error_line.Goals as goal

-- the text of the error, and then the hint
pub returns : goal.returns
returns c =
    let cause = string_bytes c.in_ok-text.text in
    let text = cause ++ hint_of c.args.name.now in
    IfOk-weaker c.format-2.result _ _
    (λ line is. (text, (cause, refl), rw (c.hint_of-hint.ensures, c.without_mark.ensures) at is ∙ (simp append_assoc)))
    c.format-2.ensures.ok
