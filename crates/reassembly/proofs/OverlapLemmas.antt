-- Laws of a piece that overlaps other pieces, or that repeats one of them.
use Rattle.std.proofs.Common.{◌≡◌, ◌<◌, nat_lt, Bool, true, false, not, ◌&&◌, ◌||◌, List, [], ◌∷◌, length, refl, sym, ◌∙◌, ap, arith}
use Rattle.std.proofs.lemmas.Bool.Decides.{nat_tests}
use Rattle.std.specs.List.{list_any}
use Rattle.reassembly.proofs.CutLemmas.{any_among, piece_is}
use Rattle.reassembly.proofs.PartLemmas.{false_or, or_false, overlaps_comm}
use Rattle.reassembly.specs.Parts.{AreApart}
use Rattle.reassembly.specs.Pieces.{Piece, end_of, is_among, is_same, overlaps}
use Rattle.reassembly.specs.Reassembly.{conflicts}

never : (b : Bool) → (b && false) ≡ false
never true = refl
never false = refl

and_true : (b : Bool) → (b && true) ≡ b
and_true true = refl
and_true false = refl

-- a test that fails for all pieces fails for each of them
none_among : (test : Piece → Bool) (pieces : List Piece) (piece : Piece) → is_among pieces piece ≡ true → list_any test pieces ≡ false
    → test piece ≡ false
none_among test pieces piece among none = by (test piece) refl
  where
    by : (is : Bool) → test piece ≡ is → is ≡ false
    by true is = sym (any_among test piece pieces among is) ∙ none
    by false is = refl

overlaps_own : (piece : Piece) → 0 < length piece.bytes → overlaps piece piece ≡ true
overlaps_own piece some =
    let one : nat_lt piece.offset (end_of piece) ≡ true = grind (arith, nat_tests, some) in
    ap (λ b. b && b) one

no_conflict : (pieces : List Piece) (piece : Piece) → list_any (overlaps piece) pieces ≡ false → list_any (conflicts piece) pieces ≡ false
no_conflict [] piece none = refl
no_conflict (first ∷ pieces) piece none =
    let parts = or_false (overlaps piece first) (list_any (overlaps piece) pieces) none in
    false_or (conflicts piece first) (list_any (conflicts piece) pieces) (ap (λ b. b && not (is_same piece first)) parts.0)
    (no_conflict pieces piece parts.1)

-- a piece that is not empty and overlaps no other piece is new
pub is_new : (pieces : List Piece) (piece : Piece) → 0 < length piece.bytes → list_any (overlaps piece) pieces ≡ false
    → is_among pieces piece ≡ false
is_new pieces piece some none = by (is_among pieces piece) refl
  where
    by : (is : Bool) → is_among pieces piece ≡ is → is ≡ false
    by true is = sym (any_among (overlaps piece) piece pieces is (overlaps_own piece some)) ∙ none
    by false is = refl

-- a new piece conflicts with the pieces that it overlaps
pub new_conflicts : (pieces : List Piece) (piece : Piece) → is_among pieces piece ≡ false
    → list_any (conflicts piece) pieces ≡ list_any (overlaps piece) pieces
new_conflicts [] piece new = refl
new_conflicts (first ∷ pieces) piece new =
    let parts = or_false (is_same piece first) (is_among pieces piece) new in
    ap (λ same. (overlaps piece first && not same) || list_any (conflicts piece) pieces) parts.0
    ∙ ap (λ b. b || list_any (conflicts piece) pieces) (and_true (overlaps piece first))
    ∙ ap (λ b. overlaps piece first || b) (new_conflicts pieces piece parts.1)

-- a piece that repeats another piece overlaps no third piece
pub repeats_alone : (pieces : List Piece) (piece : Piece) → AreApart pieces → is_among pieces piece ≡ true
    → list_any (conflicts piece) pieces ≡ false
repeats_alone [] piece apart among = refl
repeats_alone (first ∷ pieces) piece apart among =
    step (is_same piece first) refl among (λ among. repeats_alone pieces piece apart.1 among)
  where
    step : (is : Bool) → is_same piece first ≡ is → (is || is_among pieces piece) ≡ true
        → (is_among pieces piece ≡ true → list_any (conflicts piece) pieces ≡ false)
        → (conflicts piece first || list_any (conflicts piece) pieces) ≡ false
    step true is among later =
        let others : list_any (overlaps piece) pieces ≡ false =
        ap (λ p. list_any (overlaps p) pieces) (piece_is piece first is) ∙ apart.0 in
        false_or (conflicts piece first) (list_any (conflicts piece) pieces)
        (ap (λ same. overlaps piece first && not same) is ∙ never (overlaps piece first)) (no_conflict pieces piece others)
    step false is among later =
        let other : overlaps piece first ≡ false =
        overlaps_comm piece first ∙ none_among (overlaps first) pieces piece among apart.0 in
        false_or (conflicts piece first) (list_any (conflicts piece) pieces) (ap (λ b. b && not (is_same piece first)) other) (later among)
