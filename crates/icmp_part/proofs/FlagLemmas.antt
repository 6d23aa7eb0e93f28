-- Laws of flags: each flag is a bit of a byte, and flags are written as the sum of the set bits.
use Rattle.std.proofs.Common.{◌≡◌, ℕ, zero, suc, ◌+◌, ◌*◌, ◌/◌, ◌%◌, ◌^◌, ◌<◌, Bool, true, false, List, get_or, bit_and, refl, sym, ap, ◌∙◌, lit≤, arith}
use Rattle.std.proofs.lemmas.Bool.Decides.{nat_tests}
use Rattle.std.proofs.lemmas.Nat.Bits.{and_high_mask, and_pow}
use Rattle.std.specs.Prelude.{not, ◌==◌}
use Rattle.std.specs.Int.{from_bool}
use Rattle.net_base.specs.Bytes.{IsBytes, flag, masked}
use Rattle.net_base.proofs.MaskedLemmas.{flag-masked}

-- ---- reading

-- testing a bit times 0 or 1 gives 0 or 1
tested_bit : (kept bit times : ℕ) → 0 < bit → times < 2 → kept ≡ times * bit → from_bool (not (kept == 0)) * bit ≡ times * bit
tested_bit kept bit zero some below e = let none : kept ≡ 0 = omega arith in rw none refl
tested_bit kept zero (suc times) some below e = absurd (omega arith)
tested_bit zero (suc bit) (suc zero) some below e = absurd (omega arith)
tested_bit (suc kept) (suc bit) (suc zero) some below e =
    let some_kept : (suc kept == 0) ≡ false = grind (arith, nat_tests) in
    rw some_kept (omega arith)
tested_bit kept (suc bit) (suc (suc times)) some below e = absurd (omega arith)

-- a flag, times its bit, is that bit of the byte
pub flag_bit : (byte k : ℕ) → 0 < 2 ^ k → from_bool (not (bit_and byte (2 ^ k) == 0)) * 2 ^ k ≡ byte / 2 ^ k % 2 * 2 ^ k
flag_bit byte k some = tested_bit (bit_and byte (2 ^ k)) (2 ^ k) (byte / 2 ^ k % 2) some (omega arith) (and_pow byte k)

-- the flags of the three highest bits, each times its bit, are the byte under the mask of the three
pub three_flags : (byte : ℕ) → byte < 256
    → from_bool (not (bit_and byte 0x80 == 0)) * 0x80 + from_bool (not (bit_and byte 0x40 == 0)) * 0x40
    + from_bool (not (bit_and byte 0x20 == 0)) * 0x20
    ≡ bit_and byte 0xe0
three_flags byte small =
    let mask : bit_and byte 0xe0 ≡ byte / 32 * 32 = and_high_mask 8 5 (omega arith) byte small in
    omega (arith, flag_bit byte 7 (lit≤ tt), flag_bit byte 6 (lit≤ tt), flag_bit byte 5 (lit≤ tt))

-- the flags of the two highest bits, each times its bit, are the byte under the mask of the two
pub two_flags : (byte : ℕ) → byte < 256
    → from_bool (not (bit_and byte 0x80 == 0)) * 0x80 + from_bool (not (bit_and byte 0x40 == 0)) * 0x40 ≡ bit_and byte 0xc0
two_flags byte small =
    let mask : bit_and byte 0xc0 ≡ byte / 64 * 64 = and_high_mask 8 6 (omega arith) byte small in
    omega (arith, flag_bit byte 7 (lit≤ tt), flag_bit byte 6 (lit≤ tt))

-- a flag is the same in bytes that are the same under masks that keep its bit
pub flag_alike : (masks bytes other : List ℕ) (place bit : ℕ) → IsBytes bytes → IsBytes other → bit_and (get_or masks place 255) bit ≡ bit
    → masked masks bytes ≡ masked masks other → flag bytes place bit ≡ flag other place bit
flag_alike masks bytes other place bit fits other_fits kept same =
    sym (flag-masked masks bytes place bit fits kept) ∙ ap (λ b. flag b place bit) same ∙ flag-masked masks other place bit other_fits kept

-- ---- written and read back

-- a flag, times its bit, is not 0 exactly if the flag is set
tested_flag : (kept bit : ℕ) (set : Bool) → 0 < bit → kept ≡ from_bool set * bit → set ≡ not (kept == 0)
tested_flag kept bit false some e = let none : kept ≡ 0 = omega arith in rw none refl
tested_flag kept bit true some e =
    let some_kept : (kept == 0) ≡ false = grind (arith, nat_tests) in
    rw some_kept refl

-- a flag that is written as one bit of a number is read from the number
pub flag_read : (number k : ℕ) (set : Bool) → 0 < 2 ^ k → number / 2 ^ k % 2 ≡ from_bool set → set ≡ not (bit_and number (2 ^ k) == 0)
flag_read number k set some e = tested_flag (bit_and number (2 ^ k)) (2 ^ k) set some (and_pow number k ∙ ap (λ n. n * 2 ^ k) e)
