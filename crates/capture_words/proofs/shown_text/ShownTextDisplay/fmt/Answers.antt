use Rattle.std.proofs.Common.{◌++◌, ◌∙◌, List, ℕ, ap, append-nil, append_assoc, rules, sym}
use Rattle.std.proofs.Output.{has_written_append, has_written_of_eq}
use Rattle.std.proofs.lemmas.Str.{IsUtf8-past_char}
use Rattle.capture_words.specs.ShownText.{shown_char}
use Rattle.capture_words.proofs.ShownLemmas.{shown_empty, shown_step}
use Rattle.capture_words.proofs.shown_text.ShownTextDisplay.fmt.Goals as goal

-- the invariant holds after another character
pub loop-character-preserved : goal.loop-character-preserved
loop-character-preserved g c =
    let (utf8, written) = c.loop-character.invariant in
    let parts = c.in-Some.ensures.steps.0 in (
      IsUtf8-past_char _ _ c.in-Some.character utf8 parts,
      λ plain.
          let (done, wrote, text) = written plain in (
            done ++ shown_char c.in-Some.character,
            has_written_append _ _ _ _ _ _ wrote (search rules),
            append_assoc done _ _ ∙ ap (λ (t : List ℕ). done ++ t) (sym (shown_step _ _ c.in-Some.character utf8 parts)) ∙ text,
          ),
    )

-- all characters were written
pub returns-clause-writes : goal.returns-clause-writes
returns-clause-writes g c = λ plain _.
    let (done, wrote, text) = c.loop-character.invariant.1 plain in
    has_written_of_eq _ _ _ _ _ (rw (shown_empty _ c.in-None.ensures.steps.0.0, append-nil) at text) wrote
