-- Laws of the order of bytes: how it relates to the comparison of lists, and that padding gives the least whole words.
use Rattle.std.proofs.Common.{◌≡◌, ℕ, zero, suc, ◌-◌, ◌%◌, ◌<◌, ◌≤◌, ◌⊎◌, inl, inr, List, [], ◌∷◌, ◌++◌, length, take, replicate, length-append, refl, sym, ap, ◌∙◌, subst, arith}
use Rattle.std.proofs.lemmas.Bool.Decides.{nat_tests}
use Rattle.std.proofs.lemmas.Cmp.{by_ranked, ranked}
use Rattle.std.specs.Cmp.Lexicographic.{slice_cmp}
use Rattle.std.specs.declared.cmp.Ordering.TheVariants.{Equal, Greater, Less}
use Rattle.std.specs.Ordering.{nat_cmp, ordering_then}
use Rattle.tcp_part.specs.TcpOptions.{IsBefore, pad}

-- two lists keep their order if the same byte is put in front of both
IsBefore-cons : (byte : ℕ) (a b : List ℕ) → IsBefore a b → IsBefore (byte ∷ a) (byte ∷ b)
IsBefore-cons byte a b (place, same, inl (in_a, in_b, less)) =
    (suc place, ap (λ front. byte ∷ front) same, inl (omega arith, omega arith, less))
IsBefore-cons byte a b (place, same, inr (whole, more)) =
    (suc place, ap (λ front. byte ∷ front) same, inr (ap suc whole, omega arith))

-- two lists keep their order if the same bytes are put in front of both
pub IsBefore-append : (front a b : List ℕ) → IsBefore a b → IsBefore (front ++ a) (front ++ b)
IsBefore-append [] a b before = before
IsBefore-append (byte ∷ front) a b before = IsBefore-cons byte (front ++ a) (front ++ b) (IsBefore-append front a b before)

-- the comparison of lists states which list comes before the other
cmp_less : (x y : ℕ) → x < y → nat_cmp x y ≡ Less
cmp_less x y less = grind (arith, nat_tests)

cmp_equal : (x y : ℕ) → x ≡ y → nat_cmp x y ≡ Equal
cmp_equal x y same = grind (arith, nat_tests)

pub before_from_less : (a b : List ℕ) → slice_cmp nat_cmp a b ≡ Less → IsBefore a b
before_from_less [] [] less = cc
before_from_less [] (y ∷ b) less = (0, refl, inr (refl, omega arith))
before_from_less (x ∷ a) [] less = cc
before_from_less (x ∷ a) (y ∷ b) less =
    by_ranked (x < y) (x ≡ y) (y < x) (nat_cmp x y) (ranked x y (nat_cmp x y) refl)
    (λ is smaller. (0, refl, inl (omega arith, omega arith, smaller)))
    (λ is same.
    let rest : slice_cmp nat_cmp a b ≡ Less = ap (λ o. ordering_then o (slice_cmp nat_cmp a b)) (sym is) ∙ less in
    subst (λ z. IsBefore (x ∷ a) (z ∷ b)) same (IsBefore-cons x a b (before_from_less a b rest)))
    (λ is greater.
    let wrong : Greater ≡ Less = ap (λ o. ordering_then o (slice_cmp nat_cmp a b)) (sym is) ∙ less in
    cc)

pub less_from_before : (a b : List ℕ) → IsBefore a b → slice_cmp nat_cmp a b ≡ Less
less_from_before [] [] (place, same, inl (in_a, in_b, less)) = absurd (omega arith)
less_from_before [] [] (place, same, inr (whole, more)) = absurd (omega arith)
less_from_before [] (y ∷ b) before = refl
less_from_before (x ∷ a) [] (place, same, inl (in_a, in_b, less)) = absurd (omega arith)
less_from_before (x ∷ a) [] (place, same, inr (whole, more)) = absurd (omega arith)
less_from_before (x ∷ a) (y ∷ b) (zero, same, inl (in_a, in_b, less)) =
    ap (λ o. ordering_then o (slice_cmp nat_cmp a b)) (cmp_less x y less)
less_from_before (x ∷ a) (y ∷ b) (zero, same, inr (whole, more)) = absurd (omega arith)
less_from_before (x ∷ a) (y ∷ b) (suc place, same, inl (in_a, in_b, less)) =
    let first : x ≡ y = cc in
    let front : take place a ≡ take place b = cc in
    ap (λ o. ordering_then o (slice_cmp nat_cmp a b)) (cmp_equal x y first)
    ∙ less_from_before a b (place, front, inl (omega arith, omega arith, less))
less_from_before (x ∷ a) (y ∷ b) (suc place, same, inr (whole, more)) =
    let first : x ≡ y = cc in
    let front : take place a ≡ take place b = cc in
    ap (λ o. ordering_then o (slice_cmp nat_cmp a b)) (cmp_equal x y first)
    ∙ less_from_before a b (place, front, inr (omega arith, omega arith))

-- bytes come after zeros, or are these zeros
pub zeros_least : (count : ℕ) (bytes : List ℕ) → count ≤ length bytes → (bytes ≡ replicate count 0) ⊎ IsBefore (replicate count 0) bytes
zeros_least zero [] there = inl refl
zeros_least zero (byte ∷ bytes) there = inr (0, refl, inr (refl, omega arith))
zeros_least (suc count) [] there = absurd (omega arith)
zeros_least (suc count) (zero ∷ bytes) there =
    elim (zeros_least count bytes (omega arith)) [
      | inl same ↦ inl (ap (λ b. 0 ∷ b) same)
      | inr before ↦ inr (IsBefore-cons 0 _ _ before)
    ]
zeros_least (suc count) (suc byte ∷ bytes) there = inr (0, refl, inl (omega arith, omega arith, omega arith))

-- whole words that begin with some bytes are equal to these bytes after padding, or come after them
pub pad_least : (bytes rest : List ℕ) → length (bytes ++ rest) % 4 ≡ 0 → (bytes ++ rest ≡ pad bytes) ⊎ IsBefore (pad bytes) (bytes ++ rest)
pad_least bytes rest words =
    let count = (4 - length bytes % 4) % 4 in
    let there : count ≤ length rest = omega (arith, length-append bytes rest) in
    elim (zeros_least count rest there) [
      | inl same ↦ inl (ap (λ b. bytes ++ b) same)
      | inr before ↦ inr (IsBefore-append bytes _ _ before)
    ]
