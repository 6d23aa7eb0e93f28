-- Laws of networks.
use Rattle.std.proofs.Common.{◌≡◌, ◌<◌, ◌≤◌, ◌/◌, ◌%◌, ◌^◌, ℕ, arith}
use Rattle.std.proofs.Math.Nat.{div-eq_of_lt, mod-eq_of_lt, pow-le-pow_right}

-- a number of 128 bits has no bit before its last 128 bits
pub no_start : (number host_bits : ℕ) → number < 2 ^ 128 → 128 ≤ host_bits → number / 2 ^ host_bits ≡ 0
no_start number host_bits small large =
    let above : 2 ^ 128 ≤ 2 ^ host_bits = pow-le-pow_right (omega arith) large in
    div-eq_of_lt (omega arith)

-- a number below a power of 2 is its own remainder
pub own_end : (number count : ℕ) → number < 2 ^ 128 → ¬ (count < 2 ^ 128) → number % count ≡ number
own_end number count small large = mod-eq_of_lt (omega arith)
