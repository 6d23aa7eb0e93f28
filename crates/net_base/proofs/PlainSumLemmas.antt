-- Laws of bytes whose sum is all ones without a pseudo header: the changes that a receiver's test detects.
use Rattle.std.proofs.Common.{◌≡◌, ℕ, zero, suc, ◌+◌, ◌%◌, List, [], ◌∷◌, inl, inr, refl, ap, ◌∙◌, arith}
use Rattle.net_base.specs.Bytes.{IsBytes}
use Rattle.net_base.specs.Detection.{DetectsOtherByte, DetectsWithoutPseudoHeader, IsAllZeros, MissesExchangedWords, PassesByRemainder, SumsUpToZero}
use Rattle.net_base.proofs.DetectionLemmas as detection
use Rattle.net_base.proofs.SumChangeLemmas.{total_exchanged}
use Rattle.word_sum.specs.Checksum.{Verifies, folded, total}
use Rattle.word_sum.proofs.ChecksumLemmas.{folded-none, folded-some}

-- the total is 0 exactly if each byte is 0
zeros_total : (bytes : List ℕ) → IsAllZeros bytes → total bytes ≡ 0
zeros_total [] zeros = refl
zeros_total (high ∷ []) zeros = omega (arith, zeros 0)
zeros_total (high ∷ (low ∷ rest)) zeros = omega (arith, zeros 0, zeros 1, zeros_total rest (λ place. zeros (suc (suc place))))

total_zeros : (bytes : List ℕ) → total bytes ≡ 0 → IsAllZeros bytes
total_zeros [] none place = refl
total_zeros (high ∷ []) none zero = omega (arith, none)
total_zeros (high ∷ []) none (suc place) = refl
total_zeros (high ∷ (low ∷ rest)) none zero = omega (arith, none)
total_zeros (high ∷ (low ∷ rest)) none (suc zero) = omega (arith, none)
total_zeros (high ∷ (low ∷ rest)) none (suc (suc place)) = total_zeros rest (omega (arith, none)) place

-- the sum of bytes is one of the two zeros exactly if 65535 divides their total
zero_divides : (bytes : List ℕ) → SumsUpToZero bytes → total bytes % 65535 ≡ 0
zero_divides bytes (inl valid) = grind (arith, folded-none, folded-some)
zero_divides bytes (inr zeros) = omega (arith, zeros_total bytes zeros)

divides_zero : (bytes : List ℕ) (n : ℕ) → total bytes ≡ n → n % 65535 ≡ 0 → SumsUpToZero bytes
divides_zero bytes zero none divides = inr (total_zeros bytes none)
divides_zero bytes (suc n) some divides = inl (omega (arith, some, divides, folded-some (0 + total bytes) (omega (arith, some))))

-- if bytes pass the test, the sum of other bytes with this length is zero exactly if their total leaves the same remainder
passes_by_remainder : (bytes : List ℕ) → Verifies [] bytes → PassesByRemainder SumsUpToZero bytes
passes_by_remainder bytes valid other same_len =
    let divides = zero_divides bytes (inl valid) in (
      λ zero. omega (arith, divides, zero_divides other zero),
      λ same. divides_zero other (total other) refl (omega (arith, divides, same)),
    )

detects_other_byte : (bytes : List ℕ) → IsBytes bytes → Verifies [] bytes → DetectsOtherByte (Verifies []) bytes
detects_other_byte bytes fits valid other place other_fits same_len byte passes =
    detection.detects_other_byte bytes SumsUpToZero fits (passes_by_remainder bytes valid) other place other_fits same_len byte (inl passes)

misses_exchanged_words : (bytes : List ℕ) → Verifies [] bytes → MissesExchangedWords (Verifies []) bytes
misses_exchanged_words bytes valid other first second same_len words =
    ap (λ n. folded (0 + n)) (total_exchanged bytes other first second same_len words.first_aligned words.second_aligned words.first_within
    words.second_within
    words.first_is_second words.second_is_first words.elsewhere)
    ∙ valid

-- the changes that the test detects in bytes that pass it
pub detects : (bytes : List ℕ) → IsBytes bytes → Verifies [] bytes → DetectsWithoutPseudoHeader bytes
detects bytes fits valid = record {
  passes_by_remainder = passes_by_remainder bytes valid;
  detects_other_word = detection.detects_other_word bytes SumsUpToZero fits (passes_by_remainder bytes valid);
  detects_other_byte = detects_other_byte bytes fits valid;
  misses_exchanged_words = misses_exchanged_words bytes valid;
}
