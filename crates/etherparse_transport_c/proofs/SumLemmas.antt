-- Laws of a running sum of parts of any lengths (RFC 1071, section 2 (B)).
use Rattle.std.proofs.Common.{◌≡◌, ◌≢◌, ℕ, ◌+◌, ◌*◌, ◌/◌, ◌%◌, ◌∙◌, ◌<◌, ◌≤◌, List, [], ◌∷◌, ◌++◌, length, refl, sym, ap, arith}
use Rattle.std.proofs.lemmas.Bool.Decides.{nat_tests}
use Rattle.std.specs.Int.{to_le_bytes, w16}
use Rattle.word_sum.specs.Checksum.{folded, total}
use Rattle.word_sum.proofs.ChecksumLemmas.{folded-add, folded-lt, folded-none, folded-some, folded_congruent, total-append}
use Rattle.etherparse_transport_c.specs.Sums.{total_at}

-- the sum of the high bytes of all words
abbrev first_bytes : List ℕ → ℕ
first_bytes [] = 0
first_bytes (high ∷ []) = high
first_bytes (high ∷ (low ∷ rest)) = high + first_bytes rest

-- the sum of a byte and of bytes after it: the byte is the high half of a word, and the bytes after it are at odd places
pub total_after_byte : (byte : ℕ) (bytes : List ℕ) → total (byte ∷ bytes) ≡ byte * 256 + total (0 ∷ bytes)
total_after_byte byte [] = omega arith
total_after_byte byte (low ∷ rest) = omega arith

-- if bytes move by one place, their new sum is 256 times their old sum, modulo 65535
total_moved : (bytes : List ℕ) → total bytes * 256 ≡ total (0 ∷ bytes) + first_bytes bytes * 65535
total_moved [] = omega arith
total_moved (high ∷ []) = omega arith
total_moved (high ∷ (low ∷ rest)) = omega (arith, total_moved rest, total_after_byte low rest)

first_bytes_within : (bytes : List ℕ) → first_bytes bytes ≤ total (0 ∷ bytes)
first_bytes_within [] = omega arith
first_bytes_within (high ∷ []) = omega arith
first_bytes_within (high ∷ (low ∷ rest)) = omega (arith, first_bytes_within rest, total_after_byte low rest)

-- 256 times a folded sum folds like 256 times the sum
folded_times_in_sum : (value n : ℕ) → folded (value + folded n * 256) ≡ folded (value + n * 256)
folded_times_in_sum value n = grind (arith, folded-none, folded-some)

-- a sum with its two bytes swapped folds like 256 times the sum
swapped_in_sum : (value n : ℕ) → folded (value + (n % 256 * 256 + n / 256)) ≡ folded (value + n * 256)
swapped_in_sum value n = sym (folded_congruent (value + n * 256) (value + (n % 256 * 256 + n / 256)) (n / 256) (omega arith)
    (λ z. omega arith))

-- if the two bytes of a part's sum are swapped, the result is the sum of the part at an odd place
pub swapped_sum : (value sum : ℕ) (bytes : List ℕ) → sum ≡ folded (0 + total bytes)
    → folded (value + total (to_le_bytes w16 sum)) ≡ folded (value + total (0 ∷ bytes))
swapped_sum value sum bytes is =
    let moved = total_moved bytes in
    let within = first_bytes_within bytes in
    let small : sum < 65536 = omega (arith, is, folded-lt (0 + total bytes)) in
    let part : sum ≡ folded (total bytes) = is ∙ ap folded (omega arith) in
    ap folded (omega arith) ∙ swapped_in_sum value sum ∙ ap (λ n. folded (value + n * 256)) part ∙ folded_times_in_sum value (total bytes)
    ∙ folded_congruent (value + total bytes * 256) (value + total (0 ∷ bytes)) (first_bytes bytes) (omega arith) (λ z. omega arith)

pub at_even_place : (offset : ℕ) (bytes : List ℕ) → offset % 2 ≡ 0 → total bytes ≡ total_at offset bytes
at_even_place offset bytes even = rw even refl

pub at_odd_place : (offset : ℕ) (bytes : List ℕ) → offset % 2 ≢ 0 → total (0 ∷ bytes) ≡ total_at offset bytes
at_odd_place offset bytes odd = let one : offset % 2 ≡ 1 = omega (arith, odd) in rw one refl

total-append_odd : (front back : List ℕ) → length front % 2 ≡ 1 → total (front ++ back) ≡ total front + total (0 ∷ back)
total-append_odd [] back odd = absurd (omega arith)
total-append_odd (byte ∷ []) back odd = omega (arith, total_after_byte byte back)
total-append_odd (high ∷ (low ∷ front)) back odd = omega (arith, total-append_odd front back (omega arith))

-- the sums of two parts, one after the other, give the sum of all their bytes
total_joined : (offset : ℕ) (front back : List ℕ) → length front % 2 ≡ offset % 2
    → total (front ++ back) ≡ total front + total_at offset back
total_joined offset front back parity = grind (arith, nat_tests, total-append front back, total-append_odd front back)

pub joins : (offset value result : ℕ) (before bytes : List ℕ) → result ≡ folded (value + total_at offset bytes)
    → length before % 2 ≡ offset % 2
    → value ≡ folded (total before) → result ≡ folded (total (before ++ bytes))
joins offset value result before bytes is parity sums =
    is ∙ ap (λ n. folded (n + total_at offset bytes)) sums ∙ folded-add (total before) (total_at offset bytes)
    ∙ ap folded (sym (total_joined offset before bytes parity))
