-- Laws of the lines that follow the packets that are written.
use Rattle.std.proofs.Common.{◌≡◌, ◌∙◌, ℕ, List, [], ◌∷◌, ◌++◌, Err, IsErr, IsOk, Ok, Option, Result, ap, arith, refl, subst}
use Rattle.std.proofs.KnownBytes.{Appends-nil}
use Rattle.capture_request.proofs.LineLemmas.{writes-more, writes-weaker}
use Rattle.capture_request.specs.ErrorLines.{IsOneLine, WritesLines, WritesSome}

-- a result is not both an error and a success
pub not_both : {T E : Type 0} (result : Result T E) → IsErr result → IsOk result → ⊥
not_both (Ok done) fails ok = absurd (grind (arith, fails))
not_both (Err error) fails ok = absurd (grind (arith, ok))

-- the lines are whole if a stronger statement holds
pub writes_weaker : (a b : Option (List ℕ)) (AreWhole Stronger : Type 0) (AreLines : List (List ℕ) → Type 0) → (Stronger → AreWhole)
    → WritesSome a b AreWhole AreLines → WritesSome a b Stronger AreLines
writes_weaker a b AreWhole Stronger AreLines weaker (lines, are, writes) =
    (lines, are, writes-weaker a b AreWhole Stronger lines weaker writes)

-- lines for which `AreLines` holds, followed by this line
abbrev AreFollowedBy : List ℕ → (List (List ℕ) → Type 0) → List (List ℕ) → Type 0
AreFollowedBy line AreLines all = (lines : List (List ℕ)) × AreLines lines × (all ≡ lines ++ line ∷ [])

-- the lines after another line was written
one_more : (a b c : Option (List ℕ)) (First Second Both : Type 0) (AreLines : List (List ℕ) → Type 0) (line : List ℕ) → (Both → First)
    → (Both → Second) → WritesSome a b First AreLines → WritesLines b c Second (line ∷ [])
    → WritesSome a c Both (AreFollowedBy line AreLines)
one_more a b c First Second Both AreLines line to_first to_second (lines, are, first) second =
    (lines ++ line ∷ [], (lines, are, refl), writes-more a b c First Second Both lines (line ∷ []) to_first to_second first second)

-- the lines after another line was written, which is equal to this line
pub writes_more : (a b c : Option (List ℕ)) (First Second Both : Type 0) (AreLines : List (List ℕ) → Type 0) (line : List ℕ)
    → (Both → First)
    → (Both → Second) → WritesSome a b First AreLines → WritesSome b c Second (IsOneLine (λ one. one ≡ line))
    → WritesSome a c Both (AreFollowedBy line AreLines)
writes_more a b c First Second Both AreLines line to_first to_second first (more, (one, is, single), second) =
    one_more a b c First Second Both AreLines line to_first to_second first
    (subst (λ lines. WritesLines b c Second lines) (single ∙ ap (λ text. text ∷ []) is) second)

-- the lines after another line was not written
pub lacks_more : (a b : Option (List ℕ)) (First Both : Type 0) (AreLines : List (List ℕ) → Type 0) (line : List ℕ) → (Both → ⊥)
    → WritesSome a b First AreLines → WritesSome a b Both (AreFollowedBy line AreLines)
lacks_more a b First Both AreLines line never first =
    one_more a b b First Both Both AreLines line (λ both. absurd (never both)) (λ both. both) first (record {
      written = [];
      appends = Appends-nil b;
      begun = ([], line, [], refl, refl, refl);
      whole = λ both. absurd (never both);
    })

-- no part of a line was written
pub loses_line : (a : Option (List ℕ)) (AreWhole : Type 0) (IsLine : List ℕ → Type 0) (line : List ℕ) → (AreWhole → ⊥) → IsLine line
    → WritesSome a a AreWhole (IsOneLine IsLine)
loses_line a AreWhole IsLine line lost is = (
  line ∷ [],
  (line, is, refl),
  record {
    written = [];
    appends = Appends-nil a;
    begun = ([], line, [], refl, refl, refl);
    whole = λ ok. absurd (lost ok);
  },
)
