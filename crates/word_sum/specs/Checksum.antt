-- The Internet checksum (RFC 1071, section 1), as plain arithmetic without a bound.
use Rattle.std.specs.Prelude.{◌≡◌, ◌⊎◌, ⊤, ℕ, zero, suc, ◌+◌, ◌-◌, ◌*◌, ◌%◌, ◌==◌, if◌then◌else◌, List, [], ◌∷◌, length}

-- The sum of the 16 bit words of the bytes. The first byte of each word is its high half. If the number of bytes is odd, a zero byte is
-- added at the end (RFC 1071, section 1, the sums [1] and [2]).
abbrev pub total : List ℕ → ℕ
total [] = 0
total (high ∷ []) = high * 256
total (high ∷ (low ∷ rest)) = high * 256 + low + total rest

-- The one's complement sum of a total: each carry out of the 16 bits is added back at the low end. This changes the total by a multiple of
-- 65535. The result is 1 to 65535, or 0 if the total is 0 (RFC 1071, section 1).
unfoldable pub folded : ℕ → ℕ
folded zero = 0
folded (suc n) = 1 + n % 65535

-- sixteen ones, the other zero of the one's complement
abbrev pub all_ones : ℕ
all_ones = 65535

-- the one's complement of a 16 bit number
abbrev pub complement : ℕ → ℕ
complement n = all_ones - n

-- the checksum of data whose words have the total n: the complement of the one's complement sum (RFC 1071, section 1)
abbrev pub checksum_of : ℕ → ℕ
checksum_of n = complement (folded n)

-- A computed zero is sent as all ones, since a zero means that there is no checksum (RFC 768). Over IPv6 a zero is allowed only in tunnels
-- that enable it (RFC 8200, section 8.1; RFC 6935).
abbrev pub zero_as_all_ones : ℕ → ℕ
zero_as_all_ones n = if n == 0 then all_ones else n

-- the checksum that UDP stores for data whose words have the total n (RFC 768)
abbrev pub udp_checksum_of : ℕ → ℕ
udp_checksum_of n = zero_as_all_ones (checksum_of n)

-- the one's complement sum of n is all ones; a receiver checks this for a packet with its checksum (RFC 1071, section 1)
abbrev pub IsAllOnes : ℕ → Type 0
IsAllOnes n = folded n ≡ all_ones

-- the sum of the pseudo header and the packet, checksum included, is all ones; a protocol without a pseudo header has an empty one
abbrev pub Verifies : List ℕ → List ℕ → Type 0
Verifies pseudo_header packet = IsAllOnes (total pseudo_header + total packet)

-- a receiver accepts this stored checksum for data with the total n: it is the checksum of n, or all ones if the checksum of n is 0
abbrev pub AcceptsChecksum : ℕ → ℕ → Type 0
AcceptsChecksum n stored = (stored ≡ checksum_of n) ⊎ ((checksum_of n ≡ 0) × (stored ≡ all_ones))

-- the value of a running sum after these pieces are added to it, one after the other; the sum has this value before
abbrev pub sum_of_pieces : ℕ → List (List ℕ) → ℕ
sum_of_pieces value [] = value
sum_of_pieces value (piece ∷ pieces) = sum_of_pieces (folded (value + total piece)) pieces

-- every piece except the last has an even length, so that no word is cut in two
abbrev pub AllEvenButLast : List (List ℕ) → Type 0
AllEvenButLast [] = ⊤
AllEvenButLast (last ∷ []) = ⊤
AllEvenButLast (piece ∷ (next ∷ pieces)) = (length piece % 2 ≡ 0) × AllEvenButLast (next ∷ pieces)
