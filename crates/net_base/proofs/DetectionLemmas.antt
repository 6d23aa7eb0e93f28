-- Laws of the test of a received packet's checksum.
use Rattle.std.proofs.Common.{◌≡◌, ◌≢◌, ◌⊎◌, ℕ, zero, suc, ◌+◌, ◌*◌, ◌%◌, ◌<◌, List, length, inl, inr, refl, ap, subst, arith}
use Rattle.std.proofs.lemmas.Bool.Decides.{nat_tests}
use Rattle.std.specs.Prelude.{◌↔◌, ◌==◌, IsTrue, slice_index}
use Rattle.net_base.specs.Bytes.{IsBytes, be_number}
use Rattle.net_base.specs.Detection.{AreTheTwoZeros, Detects, DetectsOtherByte, DetectsOtherWord, MissesExchangedWords, PassesByRemainder}
use Rattle.net_base.proofs.SumChangeLemmas.{total_byte_changed, total_exchanged, total_word_changed, weight, weight-either}
use Rattle.word_sum.specs.Checksum.{Verifies, complement, folded, total}
use Rattle.word_sum.proofs.ChecksumLemmas.{folded-lt, folded-some}

-- a number that is not 0 folds to all ones exactly if 65535 divides it
all_ones : (n : ℕ) → 0 < n → folded n ≡ 65535 → n % 65535 ≡ 0
all_ones n some ones = let f = folded-some n some in omega (arith, ones, f)

all_ones_of : (n : ℕ) → 0 < n → n % 65535 ≡ 0 → folded n ≡ 65535
all_ones_of n some divides = let f = folded-some n some in omega (arith, divides, f)

-- if the sum of pseudo header and bytes is all ones, the sum with other bytes of the same length is so exactly if their
-- total has the same remainder; the sum of a pseudo header with a protocol is never 0
pub passes_by_remainder : (pseudo_header bytes : List ℕ) (Passes : List ℕ → Type 0) → 0 < total pseudo_header → Verifies pseudo_header bytes
    → ((other : List ℕ) → length other ≡ length bytes → (Passes other ↔ Verifies pseudo_header other)) → PassesByRemainder Passes bytes
passes_by_remainder pseudo_header bytes Passes some verifies passes other same_len =
    let pseudo = total pseudo_header in
    let divides : (pseudo + total bytes) % 65535 ≡ 0 = all_ones (pseudo + total bytes) (omega (arith, some)) verifies in (
      λ other_passes.
          let other_divides : (pseudo + total other) % 65535 ≡ 0 =
          all_ones (pseudo + total other) (omega (arith, some)) ((passes other same_len).0 other_passes) in
          omega (arith, divides, other_divides),
      λ same_remainder.
          (passes other same_len).1 (all_ones_of (pseudo + total other) (omega (arith, some)) (omega (arith, divides, same_remainder))),
    )

-- if two numbers of 16 bits differ by a multiple of 65535, one is 0 and the other is 65535
two_zeros : (here there total_here total_there : ℕ) → here < 65536 → there < 65536 → there ≢ here
    → total_there + here ≡ total_here + there → total_there % 65535 ≡ total_here % 65535
    → AreTheTwoZeros here there
two_zeros zero there total_here total_there small small_too differ changed same = inl (refl, omega arith)
two_zeros (suc here) there total_here total_there small small_too differ changed same = inr (omega arith, omega arith)

two_zeros_same : (here there total_here total_there : ℕ) → total_there + here ≡ total_here + there
    → AreTheTwoZeros here there → total_there % 65535 ≡ total_here % 65535
two_zeros_same here there total_here total_there changed (inl ones) = omega (arith, ones.0, ones.1)
two_zeros_same here there total_here total_there changed (inr none) = omega (arith, none.0, none.1)

word_small : (bytes : List ℕ) (place : ℕ) → IsBytes bytes → be_number bytes place 2 < 65536
word_small bytes place fits = omega (arith, fits (place + 0), fits (place + 1))

pub detects_other_word : (bytes : List ℕ) (Passes : List ℕ → Type 0) → IsBytes bytes → PassesByRemainder Passes bytes
    → DetectsOtherWord Passes bytes
detects_other_word bytes Passes fits law other place other_fits same_len word =
    let changed = total_word_changed bytes other place same_len word.aligned word.within word.elsewhere in (
      λ passes.
          two_zeros (be_number bytes place 2) (be_number other place 2) (total bytes) (total other)
          (word_small bytes place fits) (word_small other place other_fits) word.differ changed ((law other same_len).0 passes),
      λ zeros. (law other same_len).1 (two_zeros_same (be_number bytes place 2) (be_number other place 2) (total bytes)
          (total other) changed zeros),
    )

-- a change of less than 65535 changes the remainder
small_change : (here there counts total_here total_there : ℕ) → here < 256 → there < 256 → there ≢ here → (counts ≡ 256) ⊎ (counts ≡ 1)
    → total_there + here * counts ≡ total_here + there * counts → total_there % 65535 ≡ total_here % 65535 → ⊥
small_change here there counts total_here total_there small small_too differ (inl high) changed same =
    let P : ℕ → Type 0 = λ n. total_there + here * n ≡ total_here + there * n in
    omega (arith, small, small_too, differ, subst P high changed, same)
small_change here there counts total_here total_there small small_too differ (inr low) changed same =
    let P : ℕ → Type 0 = λ n. total_there + here * n ≡ total_here + there * n in
    omega (arith, small, small_too, differ, subst P low changed, same)

pub detects_other_byte : (bytes : List ℕ) (Passes : List ℕ → Type 0) → IsBytes bytes → PassesByRemainder Passes bytes
    → DetectsOtherByte Passes bytes
detects_other_byte bytes Passes fits law other place other_fits same_len byte passes =
    small_change (slice_index bytes place) (slice_index other place) (weight place) (total bytes) (total other)
    (fits place) (other_fits place) byte.differ (weight-either place)
    (total_byte_changed bytes other place same_len byte.within byte.elsewhere)
    ((law other same_len).0 passes)

misses_exchanged_words : (bytes : List ℕ) (Passes : List ℕ → Type 0) → PassesByRemainder Passes bytes → MissesExchangedWords Passes bytes
misses_exchanged_words bytes Passes law other first second same_len words =
    (law other same_len).1 (ap (λ n. n % 65535)
    (total_exchanged bytes other first second same_len words.first_aligned words.second_aligned words.first_within words.second_within
    words.first_is_second words.second_is_first words.elsewhere))

-- the changes that are detected, given that the remainder decides
pub detects : (bytes : List ℕ) (Passes : List ℕ → Type 0) → IsBytes bytes → PassesByRemainder Passes bytes → Detects Passes bytes
detects bytes Passes fits law = record {
  passes_by_remainder = law;
  detects_other_word = detects_other_word bytes Passes fits law;
  detects_other_byte = detects_other_byte bytes Passes fits law;
  misses_exchanged_words = misses_exchanged_words bytes Passes law;
}

-- the complement of a sum is 0 exactly if the sum is all ones
pub complement_tested : (n result : ℕ) → result ≡ complement (folded n) → IsTrue (result == 0) ↔ (folded n ≡ 65535)
complement_tested n result is = (
  λ zero. let small = folded-lt n in grind (arith, nat_tests),
  λ ones. grind (arith, nat_tests),
)
