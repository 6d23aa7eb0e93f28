-- How a report shows the name of a capture.
use Rattle.std.specs.Prelude.{ℕ, ◌==◌, if◌then◌else◌, List, [], ◌∷◌}
use Rattle.capture_words.specs.ShownText.{shown_text}

-- A name without its mark, which is a byte 0. A file name that is not UTF-8 begins with this mark.
abbrev pub without_mark : List ℕ → List ℕ
without_mark [] = []
without_mark (byte ∷ name) = if byte == 0 then name else byte ∷ name

-- a name as it appears in headings and in the lines of errors
abbrev pub shown_name : List ℕ → List ℕ
shown_name name = shown_text (without_mark name)
