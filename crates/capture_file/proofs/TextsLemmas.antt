-- The start of a character.
use Rattle.std.proofs.Common.{◌≡◌, ◌∙◌, ℕ, zero, suc, true, false, List, slice_index, ap, cond, refl, sym}
use Rattle.capture_file.specs.Texts.{char_start, is_continuation}

back_one : (text : List ℕ) (before : ℕ) → is_continuation (slice_index text (suc before)) ≡ true
    → char_start text (suc before) ≡ char_start text before
unfolding char_start
back_one text before is = ap (λ b. cond b (char_start text before) (suc before)) is

-- a byte that is not the first of its character has the same start as the byte before it
pub one_back : (text : List ℕ) (place before : ℕ) → place ≡ suc before → is_continuation (slice_index text place) ≡ true
    → char_start text place ≡ char_start text before
one_back text place before same is =
    ap (char_start text) same ∙ back_one text before (ap (λ p. is_continuation (slice_index text p)) (sym same) ∙ is)

-- the first byte of a character is its start
pub at_start : (text : List ℕ) (place : ℕ) → is_continuation (slice_index text place) ≡ false → char_start text place ≡ place
unfolding char_start
at_start text zero is = refl
at_start text (suc place) is = ap (λ b. cond b (char_start text place) (suc place)) is

-- the first byte of a text is a start
pub at_first : (text : List ℕ) (place : ℕ) → place ≡ 0 → char_start text place ≡ place
unfolding char_start
at_first text zero is = refl
at_first text (suc place) is = absurd (cc is)
