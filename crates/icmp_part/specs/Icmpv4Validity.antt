-- A receiver's check of an ICMPv4 packet's checksum (RFC 792; RFC 1071, section 1).
use Rattle.std.specs.Prelude.{ℕ, List, []}
use Rattle.word_sum.specs.Checksum.{Verifies}

-- the one's complement sum of the packet, checksum included, is all ones; there is no pseudo header
abbrev pub IsValidIcmpv4 : List ℕ → Type 0
IsValidIcmpv4 bytes = Verifies [] bytes
