-- A receiver's check of a TCP segment's checksum (RFC 9293, section 3.1). The segment consists of the header and the
-- payload. A segment that is longer than the pseudo header can count is never valid.
use Rattle.std.specs.Prelude.{ℕ, List}
use Rattle.net_base.specs.IpNumbers.{tcp_number}
use Rattle.net_base.specs.PseudoHeader.{VerifiesOverIpv4, VerifiesOverIpv6}

-- the one's complement sum of the pseudo header over IPv4 and the segment is all ones
abbrev pub IsValidTcpIpv4 : List ℕ → List ℕ → List ℕ → Type 0
IsValidTcpIpv4 source destination segment = VerifiesOverIpv4 source destination tcp_number segment

-- the one's complement sum of the pseudo header over IPv6 and the segment is all ones (RFC 8200, section 8.1)
abbrev pub IsValidTcpIpv6 : List ℕ → List ℕ → List ℕ → Type 0
IsValidTcpIpv6 source destination segment = VerifiesOverIpv6 source destination tcp_number segment
