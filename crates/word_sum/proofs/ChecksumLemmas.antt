-- The laws of the Internet checksum.
use Rattle.std.proofs.Common.{◌≡◌, ◌≢◌, ◌⊎◌, ℕ, zero, suc, ◌+◌, ◌-◌, ◌*◌, ◌%◌, ◌<◌, List, [], ◌∷◌, ◌++◌, length, slice_index, inl, inr, refl, sym, ap, ◌∙◌, arith}
use Rattle.std.specs.Prelude.{◌↔◌}
use Rattle.std.proofs.lemmas.Bool.Decides.{nat_tests}
use Rattle.std.proofs.lemmas.List.{append-nil}
use Rattle.std.specs.List.{concat}
use Rattle.word_sum.specs.Checksum.{AcceptsChecksum, AllEvenButLast, IsAllOnes, checksum_of, folded, sum_of_pieces, total, udp_checksum_of}

-- the two equations of a folded sum, one for 0 and one for any other number
pub folded-none : (n : ℕ) → n ≡ 0 → folded n ≡ 0
unfolding folded
folded-none zero none = refl
folded-none (suc n) none = absurd (omega arith)

pub folded-some : (n : ℕ) → 0 < n → folded n ≡ 1 + (n - 1) % 65535
unfolding folded
folded-some zero some = absurd (omega arith)
folded-some (suc n) some = omega arith

-- a folded sum is a number of 16 bits
pub folded-lt : (n : ℕ) → folded n < 65536
folded-lt n = grind (arith, folded-none, folded-some)

-- numbers that differ by a multiple of 65535 have the same folded sum, unless exactly one of them is 0
pub folded_congruent : (m n k : ℕ) → m ≡ n + k * 65535 → (n ≡ 0 → m ≡ 0) → folded m ≡ folded n
folded_congruent m n k e z = grind (arith, folded-none, folded-some)

-- numbers have the same folded sum exactly if they have the same remainder modulo 65535, and are both 0 or both not 0
pub folded_equal_iff : (m n : ℕ) → (folded m ≡ folded n) ↔ ((m % 65535 ≡ n % 65535) × ((m ≡ 0) ↔ (n ≡ 0)))
folded_equal_iff m n = (
  λ same. (
    grind (arith, folded-none, folded-some),
    (λ z. grind (arith, folded-none, folded-some), λ z. grind (arith, folded-none, folded-some)),
  ),
  λ both. let remainder = both.0 in let zeros = both.1.0 in let zeros_too = both.1.1 in grind (arith, folded-none, folded-some),
)

-- folding a part of a sum first does not change the folded sum
pub folded-add : (a b : ℕ) → folded (folded a + b) ≡ folded (a + b)
folded-add a b = grind (arith, folded-none, folded-some)

-- folding twice has the same result as folding once
pub folded-folded : (n : ℕ) → folded (folded n) ≡ folded n
folded-folded n = grind (arith, folded-none, folded-some)

-- folding a number of 16 bits does not change it
pub folded-small : (n : ℕ) → n < 65536 → folded n ≡ n
folded-small n small = grind (arith, folded-none, folded-some)

-- a total and its checksum are all ones after folding
pub checksum_verifies : (n checksum : ℕ) → checksum ≡ checksum_of n → folded (n + checksum) ≡ 65535
checksum_verifies n checksum e = grind (arith, folded-none, folded-some)

pub udp_checksum_verifies : (n checksum : ℕ) → checksum ≡ udp_checksum_of n → folded (n + checksum) ≡ 65535
udp_checksum_verifies n checksum e = grind (arith, nat_tests, folded-none, folded-some)

-- a stored checksum that differs from the computed checksum by a multiple of 65535 is the computed one or its other zero
same_zero : (computed stored : ℕ) → computed < 65535 → stored < 65536 → stored % 65535 ≡ computed
    → (stored ≡ computed) ⊎ ((computed ≡ 0) × (stored ≡ 65535))
same_zero zero zero small small_too same = inl refl
same_zero zero (suc stored) small small_too same = inr (refl, omega (arith, same, small_too))
same_zero (suc computed) stored small small_too same = inl (omega (arith, same, small, small_too))

accepted_ones : (n stored : ℕ) → 0 < n → folded n ≡ 1 + (n - 1) % 65535 → folded (n + stored) ≡ 1 + (n + stored - 1) % 65535
    → AcceptsChecksum n stored → IsAllOnes (n + stored)
accepted_ones n stored some one both (inl computed) = omega (arith, some, one, both, computed)
accepted_ones n stored some one both (inr zeros) = omega (arith, some, one, both, zeros.0, zeros.1)

accepted_some : (n stored : ℕ) → 0 < n → stored < 65536 → IsAllOnes (n + stored) ↔ AcceptsChecksum n stored
accepted_some n stored some small = let one = folded-some n some in let both = folded-some (n + stored) (omega (arith, some)) in (
  λ ones. same_zero (checksum_of n) stored (omega (arith, one)) small (omega (arith, one, both, ones)),
  λ accepts. accepted_ones n stored some (omega (arith, one)) (omega (arith, both)) accepts,
)

-- if the total is 0, a receiver accepts only all ones
accepted_of_nothing : (stored : ℕ) → folded 0 ≡ 0 → AcceptsChecksum 0 stored → stored ≡ 65535
accepted_of_nothing stored none (inl computed) = omega (arith, none, computed)
accepted_of_nothing stored none (inr zeros) = zeros.1

-- the sum of n and a stored checksum is all ones exactly if a receiver accepts that checksum, also if n is 0
pub accepted_checksum : (n stored : ℕ) → stored < 65536 → IsAllOnes (n + stored) ↔ AcceptsChecksum n stored
accepted_checksum zero stored small =
    let none = folded-none 0 refl in
    let alone : folded (0 + stored) ≡ stored = ap folded (omega arith) ∙ folded-small stored small in (
      λ ones. inl (omega (arith, alone, none, ones)),
      λ accepts. alone ∙ accepted_of_nothing stored none accepts,
    )
accepted_checksum (suc n) stored small = accepted_some (suc n) stored (omega arith) small

-- the sum of n and a stored UDP checksum, which is never 0, is all ones exactly if the checksum is the computed one
pub accepted_udp_checksum : (n stored : ℕ) → stored < 65536 → stored ≢ 0 → IsAllOnes (n + stored) ↔ (stored ≡ udp_checksum_of n)
accepted_udp_checksum n stored small stores = (
  λ ones. grind (arith, nat_tests, folded-none, folded-some),
  λ is. udp_checksum_verifies n stored is,
)

-- the total of two bytes, of three bytes, and of four bytes
pub total_two : (bytes : List ℕ) → length bytes ≡ 2 → total bytes ≡ slice_index bytes 0 * 256 + slice_index bytes 1
total_two (high ∷ (low ∷ [])) two = omega arith
total_two [] two = absurd (omega arith)
total_two (high ∷ []) two = absurd (omega arith)
total_two (high ∷ (low ∷ (next ∷ rest))) two = absurd (omega arith)

pub total_three : (bytes : List ℕ) → length bytes ≡ 3
    → total bytes ≡ slice_index bytes 0 * 256 + slice_index bytes 1 + slice_index bytes 2 * 256
total_three (high ∷ (low ∷ (odd ∷ []))) three = omega arith
total_three [] three = absurd (omega arith)
total_three (high ∷ []) three = absurd (omega arith)
total_three (high ∷ (low ∷ [])) three = absurd (omega arith)
total_three (high ∷ (low ∷ (odd ∷ (next ∷ rest)))) three = absurd (omega arith)

pub total_four : (bytes : List ℕ) → length bytes ≡ 4
    → total bytes ≡ (slice_index bytes 0 * 256 + slice_index bytes 1) + (slice_index bytes 2 * 256 + slice_index bytes 3)
total_four (high ∷ (low ∷ rest)) four = omega (arith, total_two rest (omega arith))
total_four [] four = absurd (omega arith)
total_four (high ∷ []) four = absurd (omega arith)

-- the total of a front of an even length and a back is the sum of their totals
pub total-append : (front back : List ℕ) → length front % 2 ≡ 0 → total (front ++ back) ≡ total front + total back
total-append [] back even = omega arith
total-append (odd ∷ []) back even = absurd (omega arith)
total-append (high ∷ (low ∷ front)) back even = omega (arith, total-append front back (omega arith))

-- the total of three parts is the sum of their totals if the first two have an even length, for example the addresses of a pseudo header
pub total-append_twice : (first second back : List ℕ) → length first % 2 ≡ 0 → length second % 2 ≡ 0
    → total (first ++ (second ++ back)) ≡ total first + (total second + total back)
total-append_twice first second back even even_too =
    omega (arith, total-append first (second ++ back) even, total-append second back even_too)

-- without bytes, nothing is added
pub folded-add_nothing : (n : ℕ) (rest : List ℕ) → length rest < 1 → folded n ≡ folded (folded n + total rest)
folded-add_nothing n [] none = sym (folded-add n 0 ∙ ap folded (omega arith))
folded-add_nothing n (byte ∷ rest) none = absurd (omega arith)

-- two additions with folding are one addition
pub folded_twice : (value first second : ℕ) → folded (folded (value + first) + second) ≡ folded (value + (first + second))
folded_twice value first second = folded-add (value + first) second ∙ ap folded (omega arith)

-- the law of cuts: bytes can be added in two pieces, the first of even length (RFC 1071, section 2 (A))
pub folded_cut : (value : ℕ) (bytes front back : List ℕ) → bytes ≡ front ++ back → length front % 2 ≡ 0
    → folded (value + total bytes) ≡ folded (folded (value + total front) + total back)
folded_cut value bytes front back cut even =
    ap (λ b. folded (value + total b)) cut
    ∙ ap (λ n. folded (value + n)) (total-append front back even)
    ∙ sym (folded_twice value (total front) (total back))

-- bytes can be added in any number of pieces
sum_of_pieces-concat : (n : ℕ) (pieces : List (List ℕ)) → AllEvenButLast pieces
    → folded (folded n + total (concat pieces)) ≡ sum_of_pieces (folded n) pieces
sum_of_pieces-concat n [] even = sym (folded-add_nothing n [] (omega arith))
sum_of_pieces-concat n (last ∷ []) even = ap (λ b. folded (folded n + total b)) (append-nil last)
sum_of_pieces-concat n (piece ∷ (next ∷ pieces)) even =
    folded_cut (folded n) (piece ++ concat (next ∷ pieces)) piece (concat (next ∷ pieces)) refl even.0
    ∙ sum_of_pieces-concat (folded n + total piece) (next ∷ pieces) even.1

pub folded_pieces : (n : ℕ) (bytes : List ℕ) (pieces : List (List ℕ)) → bytes ≡ concat pieces → AllEvenButLast pieces
    → folded (folded n + total bytes) ≡ sum_of_pieces (folded n) pieces
folded_pieces n bytes pieces cut even = ap (λ b. folded (folded n + total b)) cut ∙ sum_of_pieces-concat n pieces even
