-- The checksum in the bytes of a packet.
use Rattle.std.specs.Prelude.{ℕ, ◌+◌, List, ◌++◌, drop, take}
use Rattle.std.specs.Int.{to_be_bytes, w16}

-- the place of the checksum in a UDP header, in bytes from its start (RFC 768)
abbrev pub udp_checksum_place : ℕ
udp_checksum_place = 6

-- the place of the checksum in a TCP header, in bytes from its start (RFC 9293, section 3.1)
abbrev pub tcp_checksum_place : ℕ
tcp_checksum_place = 16

-- the place of the checksum in an ICMPv4 or ICMPv6 header, in bytes from its start (RFC 792; RFC 4443, section 2.1)
abbrev pub icmp_checksum_place : ℕ
icmp_checksum_place = 2

-- the bytes with this checksum in the two bytes at this place
abbrev pub with_checksum : ℕ → List ℕ → ℕ → List ℕ
with_checksum place bytes checksum = take place bytes ++ (to_be_bytes w16 checksum ++ drop (place + 2) bytes)
