use Rattle.std.proofs.Common.{◌≡◌, ℕ, zero, suc, ◌+◌, ◌*◌, ◌/◌, ◌%◌, ◌<◌, ◌==◌, not, ◌||◌, bit_and, ◌∙◌, arith}
use Rattle.std.proofs.lemmas.Nat.{and_mask}
use Rattle.std.proofs.lemmas.Nat.Bits.{and_pow}
use Rattle.net_base.proofs.ipv4_header_slice.is_fragment.Goals as goal

-- a bit above an offset, and the offset, are 0 together
bit_above : (bit offset : ℕ) → bit < 2 → not (8192 * bit + offset == 0) ≡ (not (bit * 32 == 0) || not (offset == 0))
bit_above zero offset small = grind arith
bit_above (suc zero) offset small = grind arith
bit_above (suc (suc bit)) offset small = absurd (omega arith)

-- the low 14 bits of two bytes are one bit above 13 bits
low_bits : (high low : ℕ) → low < 256 → (high * 256 + low) % 16384 ≡ 8192 * (high / 32 % 2) + (high * 256 + low) % 8192
low_bits high low small = omega arith

-- one mask tests the bit and the offset
masked_bits : (high low : ℕ) → low < 256
    → not (bit_and (high * 256 + low) 16383 == 0) ≡ (not (bit_and high 32 == 0) || not ((high * 256 + low) % 8192 == 0))
masked_bits high low small =
    rw (and_mask (high * 256 + low) 14 ∙ low_bits high low small, and_pow high 5)
    (bit_above (high / 32 % 2) ((high * 256 + low) % 8192) (omega arith))

pub returns : goal.returns
returns c = rw (c.from_be_bytes.ensures) (masked_bits (c.args.high) (c.args.low) ((c.ranges.low).fits))
