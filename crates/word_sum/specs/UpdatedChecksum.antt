-- The incremental update of a checksum (RFC 1624), as plain arithmetic.
use Rattle.std.specs.Prelude.{◌≡◌, ℕ, ◌+◌, ◌%◌, ◌==◌, if◌then◌else◌, List, ◌++◌, length}
use Rattle.word_sum.specs.Checksum.{checksum_of, complement, folded, zero_as_all_ones}

-- the new checksum after some bytes were replaced; it is computed from the old checksum, and from the one's complement sums of the removed
-- bytes and of the added bytes: ~(~HC + ~m + m') (RFC 1624, section 3, equation 3)
abbrev pub updated_checksum_of : ℕ → ℕ → ℕ → ℕ
updated_checksum_of checksum removed added = checksum_of (complement checksum + complement removed + added)

-- the new checksum of UDP: a stored zero means that there is no checksum, and stays; a computed zero is stored as all ones (RFC 768)
abbrev pub updated_udp_checksum_of : ℕ → ℕ → ℕ → ℕ
updated_udp_checksum_of checksum removed added =
    if checksum == 0 then 0 else zero_as_all_ones (updated_checksum_of checksum removed added)

-- A change with these sums of removed and added bytes can turn a packet with the first total into a packet with the second total. The
-- packet plus the added bytes has the same sum as the changed packet plus the removed bytes.
abbrev pub TurnsIntoBy : ℕ → ℕ → ℕ → ℕ → Type 0
TurnsIntoBy removed added packet changed = folded (packet + added) ≡ folded (changed + removed)

-- The changed bytes contain the new part instead of the old part, at an even place. The lengths of both parts are even, or both are odd. So
-- every other byte stays in its half of a word.
pub record PartReplaced (old new bytes changed : List ℕ) : Type 0 where
  pub before : List ℕ
  pub after : List ℕ
  pub was : bytes ≡ before ++ (old ++ after)
  pub is : changed ≡ before ++ (new ++ after)
  pub at_even_place : length before % 2 ≡ 0
  pub alike : length old % 2 ≡ length new % 2
