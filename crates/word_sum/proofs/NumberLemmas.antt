-- Numbers of several words in a one's complement sum. 2 ^ 16, 2 ^ 32 and 2 ^ 64 are 1 modulo 65535, so a number is
-- equivalent to the sum of its words and to the sum of its halves, and a carry is added at the low end.
use Rattle.std.proofs.Common.{◌≡◌, ℕ, zero, suc, Bool, true, false, ◌+◌, ◌-◌, ◌*◌, ◌/◌, ◌%◌, ◌^◌, ◌<◌, ◌≤◌, List, [], ◌∷◌, ◌++◌, length, take, drop, slice_index, nat_lt, refl, sym, ap, ◌∙◌, arith}
use Rattle.std.proofs.lemmas.List.{drop-drop, length-take-le, take-append-drop}
use Rattle.std.proofs.Math.Logic.{⊎_elim}
use Rattle.std.proofs.Math.Nat.{mod-eq_of_lt, mod-eq-sub-mod}
use Rattle.std.proofs.lemmas.Bool.{cases_lt}
use Rattle.std.proofs.lemmas.Bool.Decides.{nat_tests}
use Rattle.std.specs.Int.{from_bool, from_le_bytes, swap_bytes, to_le_bytes, w16, w32, w64}
use Rattle.word_sum.specs.Checksum.{folded, total}
use Rattle.word_sum.proofs.ChecksumLemmas.{folded-none, folded-small, folded-some, folded_congruent, folded_twice, total-append, total_four, total_two}

-- if numbers are equal after folding, so are their sums
pub folded-add_alike : (a b m n : ℕ) → folded a ≡ folded b → folded m ≡ folded n → folded (a + m) ≡ folded (b + n)
folded-add_alike a b m n e f = grind (arith, folded-none, folded-some)

-- if numbers are equal after folding, so are 256 times the numbers
pub folded_times_256 : (m n : ℕ) → folded m ≡ folded n → folded (m * 256) ≡ folded (n * 256)
folded_times_256 m n e = grind (arith, folded-none, folded-some)

-- a 16 bit number with its two bytes swapped folds like 256 times the number (RFC 1071, section 2 (B))
pub swap_bytes-folded : (n : ℕ) → n < 65536 → swap_bytes w16 n ≡ folded (n * 256)
swap_bytes-folded n small =
    sym (folded_congruent (n * 256) (swap_bytes w16 n) (n / 256) (omega arith) (λ z. omega arith)
    ∙ folded-small (swap_bytes w16 n) (omega arith))

-- end-around carry: if the sum of two numbers below the limit wraps, it is below each number, and the carry is added at
-- the low end
no_carry : (limit a b : ℕ) → a + b < limit → (a + b) % limit + from_bool (nat_lt ((a + b) % limit) b) ≡ a + b
no_carry limit a b fits = rw (mod-eq_of_lt fits) (grind (arith, nat_tests))

one_carry : (limit a b : ℕ) → a < limit → b < limit → limit ≤ a + b
    → (a + b) % limit + from_bool (nat_lt ((a + b) % limit) b) ≡ a + b - limit + 1
one_carry limit a b below below_too wraps =
    let left : (a + b - limit) % limit ≡ a + b - limit = mod-eq_of_lt (omega arith) in
    rw (mod-eq-sub-mod wraps, left) (grind (arith, nat_tests))

pub folded_carry : (limit quotient a b : ℕ) → limit ≡ 1 + quotient * 65535 → a < limit → b < limit
    → folded ((a + b) % limit + from_bool (nat_lt ((a + b) % limit) b)) ≡ folded (a + b)
folded_carry limit quotient a b one below below_too =
    ⊎_elim
    (λ (fits : a + b < limit). ap folded (no_carry limit a b fits))
    (λ (wraps : limit ≤ a + b). ap folded (one_carry limit a b below below_too wraps)
    ∙ sym (folded_congruent (a + b) (a + b - limit + 1) quotient (omega arith) (λ z. omega arith)))
    (cases_lt (a + b) limit)

-- the sum of the halves of a number folds like the number
pub folded_halves_64 : (number : ℕ) → folded (number / 2 ^ 32 + number % 2 ^ 32) ≡ folded number
folded_halves_64 number = sym (folded_congruent _ _ (number / 2 ^ 32 * 65537) (omega arith) (λ z. omega arith))

pub folded_halves_32 : (number : ℕ) → folded (number / 2 ^ 16 + number % 2 ^ 16) ≡ folded number
folded_halves_32 number = sym (folded_congruent _ _ (number / 2 ^ 16) (omega arith) (λ z. omega arith))

-- a carry is added to the next number, and can be added to the sum
pub folded_carried : (word number low : ℕ) (carry carried : Bool) → low + from_bool carried * 2 ^ 64 ≡ word + number + from_bool carry
    → folded (low + from_bool carried) ≡ folded (word + from_bool carry + number)
folded_carried word number low carry carried sum =
    sym (folded_congruent (word + from_bool carry + number) (low + from_bool carried) (from_bool carried * 281479271743489) (omega arith)
    (λ z. omega arith))

pub carried-fits : (word number low : ℕ) (carry carried : Bool) → word + from_bool carry < 2 ^ 64 → number < 2 ^ 64 → low < 2 ^ 64
    → low + from_bool carried * 2 ^ 64 ≡ word + number + from_bool carry → low + from_bool carried < 2 ^ 64
carried-fits word number low carry true fits fits_too fits_three sum = omega arith
carried-fits word number low carry false fits fits_too fits_three sum = omega arith

-- the total of eight bytes is the sum of their four words
pub total_eight : (bytes : List ℕ) → length bytes ≡ 8
    → total bytes ≡ slice_index bytes 0 * 256 + slice_index bytes 1 + (slice_index bytes 2 * 256 + slice_index bytes 3)
    + (slice_index bytes 4 * 256 + slice_index bytes 5 + (slice_index bytes 6 * 256 + slice_index bytes 7))
total_eight (b0 ∷ (b1 ∷ (b2 ∷ (b3 ∷ rest)))) eight = omega (arith, total_four rest (omega arith))
total_eight [] eight = absurd (omega arith)
total_eight (b0 ∷ []) eight = absurd (omega arith)
total_eight (b0 ∷ (b1 ∷ [])) eight = absurd (omega arith)
total_eight (b0 ∷ (b1 ∷ (b2 ∷ []))) eight = absurd (omega arith)

-- the total of sixteen bytes is the sum of their eight words
pub total_sixteen : (bytes : List ℕ) → length bytes ≡ 16
    → total bytes ≡ (slice_index bytes 0 * 256 + slice_index bytes 1
    + (slice_index bytes 2 * 256 + slice_index bytes 3
    + (slice_index bytes 4 * 256 + slice_index bytes 5 + (slice_index bytes 6 * 256 + slice_index bytes 7 + 0))))
    + (slice_index bytes 8 * 256 + slice_index bytes 9
    + (slice_index bytes 10 * 256 + slice_index bytes 11
    + (slice_index bytes 12 * 256 + slice_index bytes 13 + (slice_index bytes 14 * 256 + slice_index bytes 15 + 0))))
total_sixteen (b0 ∷ (b1 ∷ (b2 ∷ (b3 ∷ (b4 ∷ (b5 ∷ (b6 ∷ (b7 ∷ rest)))))))) sixteen = omega (arith, total_eight rest (omega arith))
total_sixteen [] sixteen = absurd (omega arith)
total_sixteen (b0 ∷ []) sixteen = absurd (omega arith)
total_sixteen (b0 ∷ (b1 ∷ [])) sixteen = absurd (omega arith)
total_sixteen (b0 ∷ (b1 ∷ (b2 ∷ []))) sixteen = absurd (omega arith)
total_sixteen (b0 ∷ (b1 ∷ (b2 ∷ (b3 ∷ [])))) sixteen = absurd (omega arith)
total_sixteen (b0 ∷ (b1 ∷ (b2 ∷ (b3 ∷ (b4 ∷ []))))) sixteen = absurd (omega arith)
total_sixteen (b0 ∷ (b1 ∷ (b2 ∷ (b3 ∷ (b4 ∷ (b5 ∷ [])))))) sixteen = absurd (omega arith)
total_sixteen (b0 ∷ (b1 ∷ (b2 ∷ (b3 ∷ (b4 ∷ (b5 ∷ (b6 ∷ []))))))) sixteen = absurd (omega arith)

-- two, four and eight bytes as one little-endian number, in which the bytes of each word are swapped: 256 times the
-- number folds like the sum of the words
pub folded_le_2 : (bytes : List ℕ) → length bytes ≡ 2 → folded (from_le_bytes w16 bytes * 256) ≡ folded (total bytes)
folded_le_2 bytes two =
    let words = total_two bytes two in
    folded_congruent _ _ (slice_index bytes 1) (omega arith) (λ z. omega arith)

pub folded_le_4 : (bytes : List ℕ) → length bytes ≡ 4 → folded (from_le_bytes w32 bytes * 256) ≡ folded (total bytes)
folded_le_4 bytes four =
    let words = total_four bytes four in
    folded_congruent _ _ (slice_index bytes 1 + slice_index bytes 2 * 256 + slice_index bytes 3 * 65537) (omega arith) (λ z. omega arith)

pub folded_le_8 : (bytes : List ℕ) → length bytes ≡ 8 → folded (from_le_bytes w64 bytes * 256) ≡ folded (total bytes)
folded_le_8 bytes eight =
    let words = total_eight bytes eight in
    folded_congruent _ _
    (slice_index bytes 1 + slice_index bytes 2 * 256 + (slice_index bytes 3 + slice_index bytes 4 * 256) * 65537
    + (slice_index bytes 5 + slice_index bytes 6 * 256) * 4295032833 + slice_index bytes 7 * 281479271743489)
    (omega arith) (λ z. omega arith)

-- a sum of words, shifted by eight bits and written as four little-endian bytes, adds the words
pub total_shifted : (words others : ℕ) → words < 2 ^ 24
    → folded (others + total (to_le_bytes w32 (words * 2 ^ 8 % 2 ^ 32))) ≡ folded (others + words)
total_shifted words others fits =
    sym (folded_congruent (others + words) (others + total (to_le_bytes w32 (words * 2 ^ 8 % 2 ^ 32))) (words / 65536) (omega arith)
    (λ z. omega arith))

-- the total of bytes is the total of a front with an even length plus the total of the rest
pub total-front : (i : ℕ) (front back bytes : List ℕ) → i % 2 ≡ 0 → front ≡ take i bytes → back ≡ drop i bytes → i ≤ length bytes
    → total front + total back ≡ total bytes
total-front i front back bytes even is_front is_back long =
    let even_front : length front % 2 ≡ 0 = rw (is_front, length-take-le i bytes long) even in
    let whole : front ++ back ≡ bytes = rw (is_front, is_back) (take-append-drop i bytes) in
    sym (total-append front back even_front) ∙ ap total whole

pub folded_front : (i value : ℕ) (front back bytes : List ℕ) → i % 2 ≡ 0 → front ≡ take i bytes → back ≡ drop i bytes → i ≤ length bytes
    → folded (folded (value + total front) + total back) ≡ folded (value + total bytes)
folded_front i value front back bytes even is_front is_back long =
    folded_twice value (total front) (total back)
    ∙ ap (λ n. folded (value + n)) (total-front i front back bytes even is_front is_back long)

-- adding the sum of a block adds the bytes of the block
pub folded_block : (i value word : ℕ) (front back bytes : List ℕ) → i % 2 ≡ 0 → front ≡ take i bytes → back ≡ drop i bytes
    → i ≤ length bytes
    → folded (word * 256) ≡ folded (total front) → folded (folded (value + word * 256) + total back) ≡ folded (value + total bytes)
folded_block i value word front back bytes even is_front is_back long same =
    folded_twice value (word * 256) (total back)
    ∙ ap folded (omega arith)
    ∙ folded-add_alike (word * 256) (total front) (value + total back) (value + total back) same refl
    ∙ ap folded (omega arith)
    ∙ ap (λ n. folded (value + n)) (total-front i front back bytes even is_front is_back long)

-- adding first the bytes before the last few bytes of a slice, and then these from the last eight bytes, adds the whole slice
pub folded_back : (rest value : ℕ) (front last bytes : List ℕ) → rest < 8 → 8 ≤ length bytes → (length bytes - rest) % 2 ≡ 0
    → last ≡ drop (length bytes - 8) bytes → front ≡ take (length bytes - rest) bytes
    → folded (folded (value + total (drop (8 - rest) last)) + total front) ≡ folded (value + total bytes)
folded_back rest value front last bytes few long even is_last is_front =
    let there : length bytes - 8 + (8 - rest) ≡ length bytes - rest = omega arith in
    let back : drop (8 - rest) last ≡ drop (length bytes - rest) bytes =
    ap (drop (8 - rest)) is_last ∙ drop-drop (8 - rest) (length bytes - 8) bytes ∙ ap (λ n. drop n bytes) there in
    let whole = total-front (length bytes - rest) front (drop (8 - rest) last) bytes even is_front back (omega arith) in
    folded_twice value (total (drop (8 - rest) last)) (total front)
    ∙ ap (λ n. folded (value + n)) (omega arith)

-- eight bytes as a little-endian number, shifted down by the bytes before the last bytes
end_of_eight : (b0 b1 b2 b3 b4 b5 b6 b7 count : ℕ) → b0 < 256 → b1 < 256 → b2 < 256 → b3 < 256 → b4 < 256 → b5 < 256 → b6 < 256 → b7 < 256
    → count < 8
    → folded (from_le_bytes w64 (b0 ∷ (b1 ∷ (b2 ∷ (b3 ∷ (b4 ∷ (b5 ∷ (b6 ∷ (b7 ∷ [])))))))) / 2 ^ 8 / 2 ^ (56 - 8 * count) * 256)
    ≡ folded (total (drop (8 - count) (b0 ∷ (b1 ∷ (b2 ∷ (b3 ∷ (b4 ∷ (b5 ∷ (b6 ∷ (b7 ∷ []))))))))))
end_of_eight b0 b1 b2 b3 b4 b5 b6 b7 zero f0 f1 f2 f3 f4 f5 f6 f7 few =
    folded_congruent _ _ 0 (omega arith) (λ z. omega arith)
end_of_eight b0 b1 b2 b3 b4 b5 b6 b7 (suc zero) f0 f1 f2 f3 f4 f5 f6 f7 few =
    folded_congruent _ _ 0 (omega arith) (λ z. omega arith)
end_of_eight b0 b1 b2 b3 b4 b5 b6 b7 (suc (suc zero)) f0 f1 f2 f3 f4 f5 f6 f7 few =
    folded_congruent _ _ b7 (omega arith) (λ z. omega arith)
end_of_eight b0 b1 b2 b3 b4 b5 b6 b7 (suc (suc (suc zero))) f0 f1 f2 f3 f4 f5 f6 f7 few =
    folded_congruent _ _ (b6 + b7 * 256) (omega arith) (λ z. omega arith)
end_of_eight b0 b1 b2 b3 b4 b5 b6 b7 (suc (suc (suc (suc zero)))) f0 f1 f2 f3 f4 f5 f6 f7 few =
    folded_congruent _ _ (b5 + b6 * 256 + b7 * 65537) (omega arith) (λ z. omega arith)
end_of_eight b0 b1 b2 b3 b4 b5 b6 b7 (suc (suc (suc (suc (suc zero))))) f0 f1 f2 f3 f4 f5 f6 f7 few =
    folded_congruent _ _ (b4 + b5 * 256 + b6 * 65537 + b7 * 16777472) (omega arith) (λ z. omega arith)
end_of_eight b0 b1 b2 b3 b4 b5 b6 b7 (suc (suc (suc (suc (suc (suc zero)))))) f0 f1 f2 f3 f4 f5 f6 f7 few =
    folded_congruent _ _ (b3 + b4 * 256 + b5 * 65537 + b6 * 16777472 + b7 * 4295032833) (omega arith) (λ z. omega arith)
end_of_eight b0 b1 b2 b3 b4 b5 b6 b7 (suc (suc (suc (suc (suc (suc (suc zero))))))) f0 f1 f2 f3 f4 f5 f6 f7 few =
    folded_congruent _ _ (b2 + b3 * 256 + b4 * 65537 + b5 * 16777472 + b6 * 4295032833 + b7 * 1099528405248) (omega arith)
    (λ z. omega arith)
end_of_eight b0 b1 b2 b3 b4 b5 b6 b7 (suc (suc (suc (suc (suc (suc (suc (suc count)))))))) f0 f1 f2 f3 f4 f5 f6 f7 few =
    absurd (omega arith)

-- the last bytes of eight bytes, as the number of all eight bytes, shifted down
pub folded_end : (bytes : List ℕ) (count : ℕ) → length bytes ≡ 8 → count < 8 → ((place : ℕ) → slice_index bytes place < 256)
    → folded (from_le_bytes w64 bytes / 2 ^ 8 / 2 ^ (56 - 8 * count) * 256) ≡ folded (total (drop (8 - count) bytes))
folded_end (b0 ∷ (b1 ∷ (b2 ∷ (b3 ∷ (b4 ∷ (b5 ∷ (b6 ∷ (b7 ∷ [])))))))) count eight few fits =
    end_of_eight b0 b1 b2 b3 b4 b5 b6 b7 count (fits 0) (fits 1) (fits 2) (fits 3) (fits 4) (fits 5) (fits 6) (fits 7) few
folded_end [] count eight few fits = absurd (omega arith)
folded_end (b0 ∷ []) count eight few fits = absurd (omega arith)
folded_end (b0 ∷ (b1 ∷ [])) count eight few fits = absurd (omega arith)
folded_end (b0 ∷ (b1 ∷ (b2 ∷ []))) count eight few fits = absurd (omega arith)
folded_end (b0 ∷ (b1 ∷ (b2 ∷ (b3 ∷ [])))) count eight few fits = absurd (omega arith)
folded_end (b0 ∷ (b1 ∷ (b2 ∷ (b3 ∷ (b4 ∷ []))))) count eight few fits = absurd (omega arith)
folded_end (b0 ∷ (b1 ∷ (b2 ∷ (b3 ∷ (b4 ∷ (b5 ∷ [])))))) count eight few fits = absurd (omega arith)
folded_end (b0 ∷ (b1 ∷ (b2 ∷ (b3 ∷ (b4 ∷ (b5 ∷ (b6 ∷ []))))))) count eight few fits = absurd (omega arith)
folded_end (b0 ∷ (b1 ∷ (b2 ∷ (b3 ∷ (b4 ∷ (b5 ∷ (b6 ∷ (b7 ∷ (b8 ∷ rest))))))))) count eight few fits = absurd (omega arith)
