-- Texts of a limited length.
use Rattle.std.specs.Prelude.{◌≡◌, ℕ, ◌-◌, ◌==◌, if◌then◌else◌, List, [], ◌∷◌, ◌++◌, length, take}
use Rattle.etherparse_transport_c.specs.Errors.{at_front}

-- the greatest length of a text, in bytes
abbrev pub max_text_len : ℕ
max_text_len = 256

-- `text` is `whole`, or the first `max_text_len` bytes of `whole` if it is longer
abbrev pub IsCut : List ℕ → List ℕ → Type 0
IsCut text whole = text ≡ take max_text_len whole

-- A buffer of C after a text was written to it: the text, a zero byte, and the unchanged rest of the buffer. If the text is too long, only
-- its beginning is written. An empty buffer stays empty.
abbrev pub with_string : List ℕ → List ℕ → List ℕ
with_string text buffer = if length buffer == 0 then buffer else at_front (take (length buffer - 1) text ++ (0 ∷ [])) buffer
