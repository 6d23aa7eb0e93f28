-- A receiver's check of a UDP packet's checksum (RFC 768; RFC 8200, section 8.1; RFC 1071, section 1).
use Rattle.std.specs.Prelude.{◌≡◌, ◌≢◌, ◌⊎◌, ℕ, List}
use Rattle.net_base.specs.Bytes.{be_number}
use Rattle.net_base.specs.IpNumbers.{udp_number}
use Rattle.net_base.specs.PseudoHeader.{VerifiesOverIpv4, VerifiesOverIpv6}
use Rattle.net_base.specs.StoredChecksum.{udp_checksum_place}

-- the stored checksum
abbrev pub checksum_field : List ℕ → ℕ
checksum_field bytes = be_number bytes udp_checksum_place 2

-- the one's complement sum of the pseudo header over IPv4 and the packet is all ones; the pseudo header contains the number of bytes of the
-- packet, not its length field
abbrev pub SumsUpOverIpv4 : List ℕ → List ℕ → List ℕ → Type 0
SumsUpOverIpv4 source destination bytes = VerifiesOverIpv4 source destination udp_number bytes

-- the one's complement sum of the pseudo header over IPv6 and the packet is all ones; the pseudo header contains the number of bytes of the
-- packet, not its length field
abbrev pub SumsUpOverIpv6 : List ℕ → List ℕ → List ℕ → Type 0
SumsUpOverIpv6 source destination bytes = VerifiesOverIpv6 source destination udp_number bytes

-- a packet over IPv4 is valid; a checksum of 0 means that there is none (RFC 768)
abbrev pub IsValidUdpIpv4 : List ℕ → List ℕ → List ℕ → Type 0
IsValidUdpIpv4 source destination bytes = (checksum_field bytes ≡ 0) ⊎ SumsUpOverIpv4 source destination bytes

-- a packet over IPv6 is valid; a packet with a checksum of 0 is discarded (RFC 8200, section 8.1)
abbrev pub IsValidUdpIpv6 : List ℕ → List ℕ → List ℕ → Type 0
IsValidUdpIpv6 source destination bytes = (checksum_field bytes ≢ 0) × SumsUpOverIpv6 source destination bytes
