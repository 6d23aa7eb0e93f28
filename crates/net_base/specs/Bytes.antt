-- Packets as lists of bytes, the numbers and flags in them, and the meaningful bits of a header.
use Rattle.std.specs.Prelude.{ℕ, Bool, not, ◌==◌, ◌+◌, ◌*◌, ◌<◌, bit_and, List, [], ◌∷◌, slice_index, zero, suc}

-- every element is a byte
abbrev pub IsBytes : List ℕ → Type 0
IsBytes bytes = (place : ℕ) → slice_index bytes place < 256

-- the big-endian number in the `count` bytes that begin at the place `from` (RFC 791, appendix B)
abbrev pub be_number : List ℕ → ℕ → ℕ → ℕ
be_number bytes from zero = 0
be_number bytes from (suc count) = be_number bytes from count * 256 + slice_index bytes (from + count)

-- the bit of this value is set in the byte at this place
abbrev pub flag : List ℕ → ℕ → ℕ → Bool
flag bytes place bit = not (bit_and (slice_index bytes place) bit == 0)

-- the layout of a kind of header: its length in bytes, and a mask of the meaningful bits for each byte
pub record HeaderLayout : Type 0 where
  pub header_len : ℕ
  pub masks : List ℕ

-- each byte with only the bits of its mask; the bytes after the last mask are unchanged
abbrev pub masked : List ℕ → List ℕ → List ℕ
masked [] bytes = bytes
masked (mask ∷ masks) [] = []
masked (mask ∷ masks) (byte ∷ bytes) = bit_and byte mask ∷ masked masks bytes
