-- Laws of pieces that do not overlap: they contain all bytes of a payload exactly if the sum of their lengths is the length of the payload.
use Rattle.std.proofs.Common.{◌≡◌, ℕ, zero, suc, ◌+◌, ◌-◌, ◌<◌, ◌≤◌, min, nat_lt, Bool, true, false, ◌||◌, if◌then◌else◌, List, [], ◌∷◌, length, length-take, take, drop, slice_index, Some, is_some, refl, sym, ◌∙◌, ap, arith}
use Rattle.std.proofs.lemmas.Bool.Decides.{nat_tests}
use Rattle.std.proofs.lemmas.List.{get_or-drop, get_or-take}
use Rattle.std.proofs.lemmas.List.Elements.{All-head, All-tail}
use Rattle.std.specs.List.{All, list_any}
use Rattle.reassembly.proofs.PartLemmas.{piece_len}
use Rattle.reassembly.specs.Parts.{AreApart, EndsWithin, Fits, piece_in, pieces_in}
use Rattle.reassembly.specs.Pieces.{Piece, byte_at, covers, end_of, overlaps, total_len}
use Rattle.reassembly.specs.declared.part.Part.{Part}

-- the byte at this place is known
abbrev pub is_known : List Piece → ℕ → Bool
is_known pieces place = is_some (byte_at pieces place)

abbrev one_if : Bool → ℕ
one_if true = 1
one_if false = 0

-- the number of places below this place whose bytes are known
abbrev pub count : List Piece → ℕ → ℕ
count pieces zero = 0
count pieces (suc n) = count pieces n + one_if (is_known pieces n)

or_false : (a b : Bool) → (a || b) ≡ false → (a ≡ false) × (b ≡ false)
or_false true b is = absurd (cc is)
or_false false b is = (refl, is)

-- a byte of a piece is not in a piece that does not overlap it
not_both : (place : ℕ) (piece other : Piece) → overlaps piece other ≡ false → covers place piece ≡ true → covers place other ≡ false
not_both place piece other apart there = grind (arith, nat_tests, apart, there)

covered_first : (piece : Piece) (pieces : List Piece) (place : ℕ) → covers place piece ≡ true → is_known (piece ∷ pieces) place ≡ true
covered_first piece pieces place there =
    ap (λ b. is_some (if b then Some (slice_index piece.bytes (place - piece.offset)) else byte_at pieces place)) there

covered_later : (piece : Piece) (pieces : List Piece) (place : ℕ) → covers place piece ≡ false
    → is_known (piece ∷ pieces) place ≡ is_known pieces place
covered_later piece pieces place other =
    ap (λ b. is_some (if b then Some (slice_index piece.bytes (place - piece.offset)) else byte_at pieces place)) other

not_later : (place : ℕ) (piece : Piece) (pieces : List Piece) → list_any (overlaps piece) pieces ≡ false → covers place piece ≡ true
    → is_known pieces place ≡ false
not_later place piece [] apart there = refl
not_later place piece (other ∷ pieces) apart there =
    let none = or_false (overlaps piece other) (list_any (overlaps piece) pieces) apart in
    covered_later other pieces place (not_both place piece other none.0 there) ∙ not_later place piece pieces none.1 there

-- the number of places of a piece below the next place
within_piece : (n : ℕ) (piece : Piece) (is : Bool) → covers n piece ≡ is
    → min (suc n) (end_of piece) - min (suc n) piece.offset ≡ (min n (end_of piece) - min n piece.offset) + one_if is
within_piece n piece true is = grind (arith, nat_tests, is)
within_piece n piece false is = grind (arith, nat_tests, is)

count_first : (piece : Piece) (pieces : List Piece) (n : ℕ) → list_any (overlaps piece) pieces ≡ false
    → count (piece ∷ pieces) n ≡ count pieces n + (min n (end_of piece) - min n piece.offset)
count_first piece pieces zero apart = omega arith
count_first piece pieces (suc n) apart = step (covers n piece) refl (count_first piece pieces n apart)
  where
    step : (is : Bool) → covers n piece ≡ is
        → count (piece ∷ pieces) n ≡ count pieces n + (min n (end_of piece) - min n piece.offset)
        → count (piece ∷ pieces) n + one_if (is_known (piece ∷ pieces) n)
        ≡ (count pieces n + one_if (is_known pieces n)) + (min (suc n) (end_of piece) - min (suc n) piece.offset)
    step true is before =
        omega (
          arith,
          before,
          ap one_if (covered_first piece pieces n is),
          ap one_if (not_later n piece pieces apart is),
          within_piece n piece true is,
        )
    step false is before =
        omega (arith, before, ap one_if (covered_later piece pieces n is), within_piece n piece false is)

pub count_none : (n : ℕ) → count [] n ≡ 0
count_none zero = refl
count_none (suc n) = omega (arith, count_none n)

pub count_total : (buffer : List ℕ) (parts : List Part) (n : ℕ) → All (Fits buffer) parts → AreApart (pieces_in buffer parts)
    → All (EndsWithin n) parts → count (pieces_in buffer parts) n ≡ total_len (pieces_in buffer parts)
count_total buffer [] n fit apart within = count_none n
count_total buffer (part ∷ parts) n fit apart within =
    let len = piece_len buffer part (All-head (Fits buffer) part parts fit) in
    let ends : part.offset + part.len ≤ n = All-head (EndsWithin n) part parts within in
    omega (
      arith,
      count_first (piece_in buffer part) (pieces_in buffer parts) n apart.0,
      count_total buffer parts n (All-tail (Fits buffer) part parts fit) apart.1 (All-tail (EndsWithin n) part parts within),
      len,
      ends,
    )

one_at_most : (is : Bool) → one_if is ≤ 1
one_at_most true = omega arith
one_at_most false = omega arith

pub count_most : (pieces : List Piece) (n : ℕ) → count pieces n ≤ n
count_most pieces zero = omega arith
count_most pieces (suc n) = omega (arith, count_most pieces n, one_at_most (is_known pieces n))

-- pieces that end at or before a place have at most as many bytes as there are before the place
pub total_most : (buffer : List ℕ) (parts : List Part) (n : ℕ) → All (Fits buffer) parts → AreApart (pieces_in buffer parts)
    → All (EndsWithin n) parts → total_len (pieces_in buffer parts) ≤ n
total_most buffer parts n fit apart within =
    omega (arith, count_total buffer parts n fit apart within, count_most (pieces_in buffer parts) n)

known_if : (is : Bool) → 1 ≤ one_if is → is ≡ true
known_if true most = refl
known_if false most = absurd (omega (arith, most))

-- if all places below a place are counted, the byte at each is known
pub known_by_count : (pieces : List Piece) (n place : ℕ) → count pieces n ≡ n → place < n → is_known pieces place ≡ true
known_by_count pieces zero place all below = absurd (omega (arith, below))
known_by_count pieces (suc n) place all below = step (nat_lt place n) refl (known_by_count pieces n place)
  where
    last : 1 ≤ one_if (is_known pieces n)
    last = omega (arith, all, count_most pieces n)

    before : count pieces n ≡ n
    before = omega (arith, all, count_most pieces n, one_at_most (is_known pieces n))

    step : (is : Bool) → nat_lt place n ≡ is → (count pieces n ≡ n → place < n → is_known pieces place ≡ true)
        → is_known pieces place ≡ true
    step true is earlier = earlier before (grind (arith, nat_tests, is))
    step false is earlier =
        let same : place ≡ n = grind (arith, nat_tests, is, below) in
        ap (is_known pieces) same ∙ known_if (is_known pieces n) last

-- if every byte below a place is known, the number of known bytes is the place
pub count_by_known : (pieces : List Piece) (n : ℕ) → ((place : ℕ) → place < n → is_known pieces place ≡ true) → count pieces n ≡ n
count_by_known pieces zero known = refl
count_by_known pieces (suc n) known =
    omega (
      arith,
      count_by_known pieces n (λ place below. known place (omega (arith, below))),
      ap one_if (known n (omega arith)),
    )

-- ---- the bytes that are known

-- each known byte is the byte of the buffer at this place
pub byte_in_buffer : (buffer : List ℕ) (parts : List Part) (place : ℕ) → is_known (pieces_in buffer parts) place ≡ true
    → byte_at (pieces_in buffer parts) place ≡ Some (slice_index buffer place)
byte_in_buffer buffer [] place known = absurd (cc known)
byte_in_buffer buffer (part ∷ parts) place known = step (covers place (piece_in buffer part)) refl (byte_in_buffer buffer parts place)
  where
    step : (is : Bool) → covers place (piece_in buffer part) ≡ is
        → (is_known (pieces_in buffer parts) place ≡ true → byte_at (pieces_in buffer parts) place ≡ Some (slice_index buffer place))
        → byte_at (pieces_in buffer (part ∷ parts)) place ≡ Some (slice_index buffer place)
    step true is later =
        let start : part.offset ≤ place = grind (arith, nat_tests, is) in
        let below : place < part.offset + length (take part.len (drop part.offset buffer)) = grind (arith, nat_tests, is) in
        let inside : place - part.offset < part.len = omega (arith, start, below, length-take part.len (drop part.offset buffer)) in
        let there : part.offset + (place - part.offset) ≡ place = omega (arith, start) in
        ap (λ b. if b then Some (slice_index (take part.len (drop part.offset buffer)) (place - part.offset))
        else byte_at (pieces_in buffer parts) place) is
        ∙ ap Some (get_or-take part.len (drop part.offset buffer) (place - part.offset) 0 inside
        ∙ get_or-drop part.offset buffer (place - part.offset) 0 ∙ ap (slice_index buffer) there)
    step false is later =
        ap (λ b. if b then Some (slice_index (take part.len (drop part.offset buffer)) (place - part.offset))
        else byte_at (pieces_in buffer parts) place) is
        ∙ later (sym (covered_later (piece_in buffer part) (pieces_in buffer parts) place is) ∙ known)
