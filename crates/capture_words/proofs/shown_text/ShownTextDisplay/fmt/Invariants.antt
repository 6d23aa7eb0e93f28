use Rattle.std.proofs.Common.{◌≡◌, ◌++◌, IsUtf8, List, ℕ}
use Rattle.std.specs.Fmt.{HasWritten, IsPlainFormatter}
use Rattle.std.specs.Str.Iter.{chars_rest}
use Rattle.capture_words.specs.ShownText.{shown_text}
use Rattle.capture_words.proofs.shown_text.ShownTextDisplay.fmt.Given as goal

-- the characters so far were written
abbrev pub invariant-loop-character : goal.invariant-loop-character
invariant-loop-character g l =
    IsUtf8 (chars_rest l.character-iterator)
    × (IsPlainFormatter l.initial.f → (done : List ℕ) × HasWritten g.W.Write.write_str_gives l.initial.f done l.f
    × (done ++ shown_text (chars_rest l.character-iterator) ≡ shown_text l.fn.self.0.now))
