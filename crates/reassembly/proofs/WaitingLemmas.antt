-- Laws of packets that are put together at the same time.
use Rattle.std.proofs.Common.{◌≡◌, ◌⊎◌, inl, inr, ℕ, ◌==◌, ◌≤◌, ◌<◌, Bool, true, false, nat_le, ◌||◌, List, [], ◌∷◌, min, refl, ◌∙◌, ap, arith}
use Rattle.std.proofs.lemmas.Bool.Decides.{nat_tests}
use Rattle.std.specs.List.{fold, list_any}
use Rattle.reassembly.specs.Waiting.{begun_at, earlier, earliest}
use Rattle.reassembly.specs.declared.waiting.Waiting.{Waiting}

same_number : (n : ℕ) → (n == n) ≡ true
same_number n = grind (arith, nat_tests)

or_true : (b : Bool) → (b || true) ≡ true
or_true true = refl
or_true false = refl

min_is : (a b : ℕ) → (min a b ≡ a) ⊎ (min a b ≡ b)
min_is a b = by (nat_le a b) refl
  where
    by : (is : Bool) → nat_le a b ≡ is → (min a b ≡ a) ⊎ (min a b ≡ b)
    by true is = let below : a ≤ b = grind (arith, nat_tests, is) in inl (omega (arith, below))
    by false is = let below : b < a = grind (arith, nat_tests, is) in inr (omega (arith, below))

-- the least time is the first, or one of the others
attained : (others : List Waiting) (time : ℕ)
    → (fold earlier time others ≡ time) ⊎ (list_any (begun_at (fold earlier time others)) others ≡ true)
attained [] time = inl refl
attained (first ∷ others) time = by (attained others (min time first.since)) (min_is time first.since)
  where
    least : ℕ
    least = fold earlier (min time first.since) others

    by : (least ≡ min time first.since) ⊎ (list_any (begun_at least) others ≡ true)
        → (min time first.since ≡ time) ⊎ (min time first.since ≡ first.since)
        → (least ≡ time) ⊎ ((begun_at least first || list_any (begun_at least) others) ≡ true)
    by (inl is) (inl before) = inl (is ∙ before)
    by (inl is) (inr after) =
        let here : begun_at least first ≡ true = ap (λ n. first.since == n) (is ∙ after) ∙ same_number first.since in
        inr (ap (λ b. b || list_any (begun_at least) others) here)
    by (inr later) min_by = inr (ap (λ b. begun_at least first || b) later ∙ or_true (begun_at least first))

-- one of the packets is the oldest
pub some_oldest : (first : Waiting) (others : List Waiting) → list_any (begun_at (earliest (first ∷ others))) (first ∷ others) ≡ false → ⊥
some_oldest first others none = by (attained others first.since)
  where
    least : ℕ
    least = fold earlier first.since others

    both : (a b : Bool) → (a || b) ≡ false → a ≡ true → ⊥
    both true b none is = cc none
    both false b none is = cc is

    or_of : (a b : Bool) → (a || b) ≡ false → b ≡ true → ⊥
    or_of true b none is = cc none
    or_of false b none is = cc (none, is)

    by : (least ≡ first.since) ⊎ (list_any (begun_at least) others ≡ true) → ⊥
    by (inl is) = both (begun_at least first) (list_any (begun_at least) others) none
        (ap (λ n. first.since == n) is ∙ same_number first.since)
    by (inr later) = or_of (begun_at least first) (list_any (begun_at least) others) none later
