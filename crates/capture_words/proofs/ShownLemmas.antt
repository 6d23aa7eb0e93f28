-- Laws of texts that are shown character by character.
use Rattle.std.proofs.Common.{◌≡◌, ◌++◌, ◌∙◌, [], Bool, IsUtf8, List, ℕ, ap, false, if◌then◌else◌, length, refl, true}
use Rattle.std.proofs.lemmas.List.{nil_from_length}
use Rattle.std.proofs.lemmas.Str.{IsUtf8-from_is_utf8, chars-nil, chars_past_char, is_utf8-from_IsUtf8}
use Rattle.std.specs.Char.{encode_utf8}
use Rattle.std.specs.List.{flat_map}
use Rattle.std.specs.Str.{is_utf8}
use Rattle.capture_words.specs.ShownText.{escaped_byte, shown_bytes, shown_char, shown_text}

-- the shown text of a character and of the characters after it
pub shown_step : (text rest : List ℕ) (char : ℕ) → IsUtf8 text → text ≡ encode_utf8 char ++ rest
    → shown_text text ≡ shown_char char ++ shown_text rest
shown_step text rest char utf8 parts = rw (chars_past_char text rest char utf8 parts) refl

-- the shown text of a text without characters
pub shown_empty : (text : List ℕ) → length text ≡ 0 → shown_text text ≡ []
shown_empty text none = rw (nil_from_length text none, chars-nil) refl

shown_by : (bytes : List ℕ) (test : Bool) → test ≡ true
    → shown_text bytes ≡ (if test then shown_text bytes else flat_map escaped_byte bytes)
shown_by bytes true is = refl
shown_by bytes false is = absurd (cc is)

-- bytes that are UTF-8 are shown as a text
pub shown_utf8 : (bytes text : List ℕ) → text ≡ bytes → IsUtf8 bytes → shown_text text ≡ shown_bytes bytes
shown_utf8 bytes text same utf8 = ap shown_text same ∙ shown_by bytes (is_utf8 bytes) (is_utf8-from_IsUtf8 bytes utf8)

other_by : (bytes : List ℕ) (test : Bool) → is_utf8 bytes ≡ test → (IsUtf8 bytes → ⊥)
    → flat_map escaped_byte bytes ≡ (if test then shown_text bytes else flat_map escaped_byte bytes)
other_by bytes true is other = absurd (other (IsUtf8-from_is_utf8 bytes is))
other_by bytes false is other = refl

-- bytes that are not UTF-8 are shown as escaped bytes
pub shown_other : (bytes : List ℕ) → (IsUtf8 bytes → ⊥) → flat_map escaped_byte bytes ≡ shown_bytes bytes
shown_other bytes other = other_by bytes (is_utf8 bytes) refl other
