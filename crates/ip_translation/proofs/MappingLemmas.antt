-- Numbers that consist of a prefix and a suffix.
use Rattle.std.proofs.Common.{ℕ, ◌≡◌, ◌≤◌, ◌<◌, ◌+◌, ◌-◌, ◌*◌, ◌/◌, ◌^◌, subst, arith}
use Rattle.std.proofs.Math.Nat.{pow-le-pow_right, div-eq_of_lt}
use Rattle.std.proofs.lemmas.Nat.{mul-add-lt, pow-add, shl_below, shr_below}

-- a number of at most `w` bits has no bits before its last `len` bits, if `len` is at least `w`
pub no_high_bits : (number w len : ℕ) → number < 2 ^ w → w ≤ len → number / 2 ^ len ≡ 0
no_high_bits number w len fits long =
    div-eq_of_lt (omega (arith, pow-le-pow_right {n = 2} (omega arith) long))

-- a number of `j` bits with `k` more bits at its end fits in `w` bits
pub joined_fits : (a j k low w : ℕ) → a < 2 ^ j → low < 2 ^ k → j + k ≤ w → a * 2 ^ k + low < 2 ^ w
joined_fits a j k low w high below fits =
    let wide : 2 ^ (k + j) ≤ 2 ^ w = pow-le-pow_right (omega arith) (omega arith) in
    omega (arith, mul-add-lt a (2 ^ k) low (2 ^ j) high below, pow-add 2 k j, wide)

pub shifted_fits : (a j k w : ℕ) → a < 2 ^ j → j + k ≤ w → a * 2 ^ k < 2 ^ w
shifted_fits a j k w high fits = omega (arith, shl_below a j k high, pow-le-pow_right {n = 2} (omega arith) fits)

-- the first `len` bits of a number of `w` bits
pub high_below : (n len w : ℕ) → n < 2 ^ w → len ≤ w → n / 2 ^ (w - len) < 2 ^ len
high_below n len w fits short = shr_below n len (w - len) (subst (λ k. n < 2 ^ k) (omega arith) fits)
