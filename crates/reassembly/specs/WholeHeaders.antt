-- The IP headers of a packet that was put together from its fragments, as if it was never fragmented (RFC 791, section 3.2; RFC 8200,
-- section 4.5).
use Rattle.std.specs.Prelude.{◌≡◌, ◌≤◌, ◌⊎◌, ℕ, ◌+◌, ◌-◌, ◌/◌, ◌%◌, ◌==◌, if◌then◌else◌, bit_and, List, [], ◌∷◌, ◌++◌, take, drop, slice_index, slice_set, Option, Some, None}
use Rattle.std.specs.Int.{to_be_bytes, w16}
use Rattle.net_base.specs.IpHeaders.{BeginsWithIpv4Header, BeginsWithIpv6Header, ipv4_header_len, version}
use Rattle.ip_part.specs.Ip.{ipv4_header}
use Rattle.word_sum.specs.Checksum.{checksum_of, total}
use Rattle.reassembly.specs.Fragments.{fragment_header_in}
use Rattle.reassembly.specs.declared.fragment_header.FragmentPlace.{FragmentPlace}

-- The first ten bytes of an IPv4 header of a whole packet. `header` is the header of the first fragment. The reserved flag and "don't
-- fragment" (0xC0) are unchanged, and more fragments and the fragment offset are 0. The other fields are unchanged too, except the total
-- length.
abbrev pub ipv4_front : List ℕ → ℕ → List ℕ
ipv4_front header total_len =
    slice_index header 0 ∷ slice_index header 1 ∷ (to_be_bytes w16 total_len ++ (
    slice_index header 4 ∷ slice_index header 5 ∷ bit_and (slice_index header 6) 0xC0 ∷ 0
    ∷ slice_index header 8 ∷ slice_index header 9 ∷ []))

-- the header of a whole packet with this total length and checksum; the addresses and the options are those of the first fragment
abbrev pub ipv4_with_checksum : List ℕ → ℕ → ℕ → List ℕ
ipv4_with_checksum header total_len checksum = ipv4_front header total_len ++ (to_be_bytes w16 checksum ++ drop 12 header)

-- the header of a whole packet with this total length, and with its checksum (RFC 791, section 3.1)
abbrev pub whole_ipv4_header : List ℕ → ℕ → List ℕ
whole_ipv4_header header total_len =
    ipv4_with_checksum header total_len (checksum_of (total (ipv4_with_checksum header total_len 0)))

-- the length of the longest IPv4 packet: the maximum of the total length field (RFC 791, section 3.1)
abbrev pub max_total_len : ℕ
max_total_len = 65535

-- ---- IPv6

-- The headers of a whole IPv6 packet with this payload length (RFC 8200, section 4.5). They are the headers before the fragment header,
-- whose place is `found`. The last of them contains the number of the header that follows the fragment header.
abbrev pub whole_ipv6_header : List ℕ → FragmentPlace → ℕ → List ℕ
whole_ipv6_header headers found payload_len =
    slice_set (slice_set (slice_set (take found.place headers) 4 (payload_len / 256 % 256)) 5 (payload_len % 256))
    found.number_at (slice_index headers found.place)

-- The headers of a whole IPv6 packet, given the headers of its first fragment and the length of its payload. The payload length in the IPv6
-- header counts the extension headers too. Empty if there is no fragment header.
abbrev pub ipv6_header_by : List ℕ → Option FragmentPlace → ℕ → List ℕ
ipv6_header_by headers None payload_len = []
ipv6_header_by headers (Some found) payload_len = whole_ipv6_header headers found (found.place - 40 + payload_len)

-- The greatest length of the headers of an IPv6 packet that is put together, in bytes. This limit is not from an RFC.
abbrev pub max_ipv6_header_len : ℕ
max_ipv6_header_len = 256

-- the greatest value of the payload length field (RFC 8200, section 3)
abbrev pub max_ipv6_payload_len : ℕ
max_ipv6_payload_len = 65535

-- These bytes begin with an IPv6 header and contain a fragment header. The headers before the fragment header have at most
-- `max_ipv6_header_len` bytes, and a whole packet has room for them and for a payload of this length.
pub record HasIpv6Header (headers : List ℕ) (payload_len : ℕ) : Type 0 where
  pub begins : BeginsWithIpv6Header headers
  pub found : FragmentPlace
  pub is_found : fragment_header_in headers ≡ Some found
  pub short : found.place ≤ max_ipv6_header_len
  pub fits : found.place - 40 + payload_len ≤ max_ipv6_payload_len

-- ---- the headers of a packet of either version

-- these bytes begin with an IPv4 header, and a whole packet has room for this header and for a payload of this length
pub record HasIpv4Header (header : List ℕ) (payload_len : ℕ) : Type 0 where
  pub begins : BeginsWithIpv4Header header
  pub fits : ipv4_header_len header + payload_len ≤ max_total_len

-- These bytes begin with the headers of a packet of either version. A whole packet has room for these headers and for a payload of this
-- length.
abbrev pub HasWholeHeader : List ℕ → ℕ → Type 0
HasWholeHeader header payload_len = HasIpv4Header header payload_len ⊎ HasIpv6Header header payload_len

-- the headers of the whole packet, given the headers of its first fragment and the length of its payload
abbrev pub whole_header : List ℕ → ℕ → List ℕ
whole_header header payload_len =
    if version header == 4 then whole_ipv4_header (ipv4_header header) (ipv4_header_len header + payload_len)
    else ipv6_header_by header (fragment_header_in header) payload_len
