-- Texts in a buffer that the page lends.
use Rattle.std.specs.Prelude.{◌≡◌, ◌⊎◌, ℕ, if◌then◌else◌, nat_le, List, ◌++◌, drop, length}

-- the buffer after a text was copied to its front, or the unchanged buffer if the text is longer
abbrev pub with_text : List ℕ → List ℕ → List ℕ
with_text text buffer = if nat_le (length text) (length buffer) then text ++ drop (length text) buffer else buffer

-- A call returned the length of a text for which `IsText` holds, and wrote the text to the front of a buffer if it fits. Or there was no
-- text: the call returned 0 and wrote nothing.
abbrev pub WritesText : (List ℕ → Type 0) → List ℕ → List ℕ → ℕ → Type 0
WritesText IsText before after len =
    ((text : List ℕ) × IsText text × (len ≡ length text) × (after ≡ with_text text before)) ⊎ ((len ≡ 0) × (after ≡ before))
