use Rattle.std.proofs.Common.{◌∙◌, append_assoc}
use Rattle.std.proofs.lemmas.Result.{IfOk-weaker}
use Rattle.capture_arguments.proofs.conflicts.conflict_text.Goals as goal

-- the text of the error is the names of the values after its beginning
pub returns-clause-text : goal.returns-clause-text
returns-clause-text g c =
    IfOk-weaker c.text.result _ _ (λ text is. rw (c.shown_value-value.ensures, c.shown_value-other.ensures) at is ∙ (simp append_assoc))
    c.text.ensures.text
