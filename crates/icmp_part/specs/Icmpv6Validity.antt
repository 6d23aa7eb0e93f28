-- A receiver's check of an ICMPv6 packet's checksum (RFC 4443, section 2.3; RFC 1071, section 1).
use Rattle.std.specs.Prelude.{ℕ, List}
use Rattle.net_base.specs.IpNumbers.{icmpv6_number}
use Rattle.net_base.specs.PseudoHeader.{VerifiesOverIpv6}

-- the one's complement sum of pseudo header and packet, checksum included, is all ones
abbrev pub IsValidIcmpv6 : List ℕ → List ℕ → List ℕ → Type 0
IsValidIcmpv6 source destination bytes = VerifiesOverIpv6 source destination icmpv6_number bytes
