-- The IP headers (RFC 791, section 3.1; RFC 8200, section 3): when bytes begin with a header, and the fields of the header.
use Rattle.std.specs.Prelude.{◌≡◌, ℕ, ◌*◌, ◌/◌, ◌%◌, ◌^◌, ◌==◌, ◌≤◌, Bool, not, ◌||◌, List, length, slice_index, slice_range}
use Rattle.net_base.specs.Bytes.{be_number, flag}
use Rattle.net_base.specs.declared.ipv4_header.Ipv4Header.{Ipv4Header}
use Rattle.net_base.specs.declared.ipv6_header.Ipv6Header.{Ipv6Header}

-- the version of an IP header: the high four bits of byte 0 (RFC 791, section 3.1; RFC 8200, section 3)
abbrev pub version : List ℕ → ℕ
version bytes = slice_index bytes 0 / 16

-- the length of an IPv4 header, in bytes: the low four bits of byte 0 count words of four bytes (RFC 791, section 3.1)
abbrev pub ipv4_header_len : List ℕ → ℕ
ipv4_header_len bytes = slice_index bytes 0 % 16 * 4

-- these bytes begin with a whole IPv4 header, which consists of at least five words (RFC 791, section 3.1)
pub record BeginsWithIpv4Header (bytes : List ℕ) : Type 0 where
  pub shortest : 20 ≤ length bytes
  pub is_version_4 : version bytes ≡ 4
  pub five_words : 20 ≤ ipv4_header_len bytes
  pub whole : ipv4_header_len bytes ≤ length bytes

-- these bytes begin with a whole IPv6 header, which consists of 40 bytes (RFC 8200, section 3)
pub record BeginsWithIpv6Header (bytes : List ℕ) : Type 0 where
  pub whole : 40 ≤ length bytes
  pub is_version_6 : version bytes ≡ 6

-- the addresses of an IPv4 header (RFC 791, section 3.1)
abbrev pub ipv4_header_of : List ℕ → Ipv4Header
ipv4_header_of bytes = record { source = slice_range bytes 12 16; destination = slice_range bytes 16 20 }

-- the addresses of an IPv6 header (RFC 8200, section 3)
abbrev pub ipv6_header_of : List ℕ → Ipv6Header
ipv6_header_of bytes = record { source = slice_range bytes 8 24; destination = slice_range bytes 24 40 }

-- the offset of a fragment in its packet, in units of 8 bytes: the low 13 bits of bytes 6 and 7 (RFC 791, section 3.1)
abbrev pub ipv4_fragment_offset : List ℕ → ℕ
ipv4_fragment_offset bytes = be_number bytes 6 2 % 2 ^ 13

-- The packet is one of several fragments: more fragments follow (the bit 0x20 of byte 6), or its offset is above 0 (RFC 791, section 3.2).
abbrev pub ipv4_is_fragment : List ℕ → Bool
ipv4_is_fragment bytes = flag bytes 6 0x20 || not (ipv4_fragment_offset bytes == 0)
