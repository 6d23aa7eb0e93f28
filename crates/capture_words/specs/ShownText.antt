-- Texts of a capture, as summaries show them.
use Rattle.std.specs.Prelude.{ℕ, ◌==◌, ◌&&◌, not, Bool, true, false, if◌then◌else◌, List, [], ◌∷◌, ◌++◌, codes}
use Rattle.std.specs.Char.{encode_utf8, is_control}
use Rattle.std.specs.Int.{is_in_range}
use Rattle.std.specs.List.{flat_map}
use Rattle.std.specs.Str.{chars, is_utf8}
use Rattle.capture_words.specs.Numbers.{hex_padded}
use Rattle.capture_file.specs.declared.kept_text.KeptText.{KeptText}

-- The form in which a character is shown. A control character is shown by its number, so that no text can end a line or control a terminal.
abbrev pub shown_char : ℕ → List ℕ
shown_char char = if is_control char then codes "\\x" ++ hex_padded 2 char else encode_utf8 char

-- a text, character by character
abbrev pub shown_text : List ℕ → List ℕ
shown_text text = flat_map shown_char (chars text)

-- a byte that the escaped form of a text contains unchanged: a printable character of ASCII other than a backslash (92)
abbrev pub is_plain : ℕ → Bool
is_plain byte = is_in_range 32 126 byte && not (byte == 92)

-- the form in which a byte of a text that is not UTF-8 is shown; a byte that is not plain is shown by its number
abbrev pub escaped_byte : ℕ → List ℕ
escaped_byte byte = if is_plain byte then byte ∷ [] else codes "\\x" ++ hex_padded 2 byte

-- the form in which the bytes of a text are shown, whether the text is UTF-8 or not
abbrev pub shown_bytes : List ℕ → List ℕ
shown_bytes bytes = if is_utf8 bytes then shown_text bytes else flat_map escaped_byte bytes

-- the mark after a text that was cut; nothing follows a whole text
abbrev pub end_text : Bool → List ℕ
end_text true = codes "..."
end_text false = []

-- the form in which a `KeptText` is shown, with a mark if the text was cut
abbrev pub shown_kept : KeptText → List ℕ
shown_kept text = shown_bytes text.bytes.items ++ end_text text.is_cut
