-- Ways to cut a packet into fragments (RFC 791, section 3.2; RFC 8200, section 4.5), and packets to which fragments are added one after
-- another.
use Rattle.std.specs.Prelude.{◌≡◌, ◌≤◌, ℕ, ◌+◌, ◌-◌, ◌/◌, ◌%◌, bit_and, List, [], ◌∷◌, ◌++◌, length, take, drop, slice_index, slice_set, Some, None, ⊤}
use Rattle.net_base.specs.IpHeaders.{BeginsWithIpv4Header, BeginsWithIpv6Header, ipv4_header_len}
use Rattle.reassembly.specs.Cuts.{IsCut}
use Rattle.reassembly.specs.Fragments.{FragmentValue, fragment_header_in}
use Rattle.reassembly.specs.Packets.{PacketState, header_room, with_fragment}
use Rattle.reassembly.specs.Reassembly.{refusal}
use Rattle.reassembly.specs.WholeHeaders.{max_ipv6_payload_len, max_total_len, whole_ipv4_header}
use Rattle.reassembly.specs.declared.fragment_header.FragmentPlace.{FragmentPlace}
use Rattle.reassembly.specs.declared.fragment_key.FragmentKey.{FragmentKey}

-- ---- adds one after another

-- none of the arrivals is refused
abbrev pub AreAdded : PacketState → List FragmentValue → Type 0
AreAdded state [] = ⊤
AreAdded state (first ∷ others) = (refusal state.payload first ≡ None) × AreAdded (with_fragment state first) others

-- the state after these arrivals
abbrev pub after_arrivals : PacketState → List FragmentValue → PacketState
after_arrivals state [] = state
after_arrivals state (first ∷ others) = after_arrivals (with_fragment state first) others

-- ---- cuts of an IPv4 packet

-- `fragment_header` can be the IPv4 header of the first fragment of a packet with this header. Four fields may differ: the total length,
-- more fragments, the fragment offset, and the checksum. All other fields and the options are equal.
pub record IsFirstHeader (header fragment_header : List ℕ) : Type 0 where
  pub begins : BeginsWithIpv4Header fragment_header
  pub is_all : length fragment_header ≡ ipv4_header_len fragment_header
  pub version_and_len : slice_index fragment_header 0 ≡ slice_index header 0
  pub type_of_service : slice_index fragment_header 1 ≡ slice_index header 1
  pub identification : slice_index fragment_header 4 ≡ slice_index header 4
  pub identification_low : slice_index fragment_header 5 ≡ slice_index header 5
  pub flags : bit_and (slice_index fragment_header 6) 0xC0 ≡ bit_and (slice_index header 6) 0xC0
  pub time_to_live : slice_index fragment_header 8 ≡ slice_index header 8
  pub protocol : slice_index fragment_header 9 ≡ slice_index header 9
  pub addresses_and_options : drop 12 fragment_header ≡ drop 12 header

-- the header of the first of these fragments can be the header of the first fragment of a packet with this IPv4 header
abbrev pub BeginWithHeader : List ℕ → List FragmentValue → Type 0
BeginWithHeader header [] = ⊥
BeginWithHeader header (first ∷ others) = IsFirstHeader header first.header

-- The fragments are a way to cut this packet, which was never fragmented. Its total length and its checksum are right, and more fragments
-- and the fragment offset are 0.
pub record IsIpv4Cut (key : FragmentKey) (packet : List ℕ) (fragments : List FragmentValue) : Type 0 where
  pub header : List ℕ
  pub payload : List ℕ
  pub packet_is : packet ≡ header ++ payload
  pub is_all : length header ≡ ipv4_header_len header
  pub is_whole : header ≡ whole_ipv4_header header (length packet)
  pub short : length packet ≤ max_total_len
  pub cut : IsCut key payload fragments
  pub first : BeginWithHeader header fragments

-- ---- cuts of an IPv6 packet

-- `fragment_header` can be the headers of the first fragment of a packet with the headers `header` (RFC 8200, section 4.5). A fragment
-- header comes after these headers. It contains the number that the last of these headers contains in the packet. In the fragment, this
-- last header contains the number 44 instead. The payload length, bytes 4 and 5, may differ. All other bytes are equal.
pub record IsFirstIpv6Header (header fragment_header : List ℕ) : Type 0 where
  pub begins : BeginsWithIpv6Header fragment_header
  pub found : FragmentPlace
  pub is_found : fragment_header_in fragment_header ≡ Some found
  pub is_all : length fragment_header ≡ found.place + 8
  pub same_len : length header ≡ found.place
  pub number : slice_index fragment_header found.place ≡ slice_index header found.number_at
  pub same : slice_set (slice_set (slice_set (take found.place fragment_header) 4 (slice_index header 4)) 5 (slice_index header 5))
      found.number_at (slice_index header found.number_at) ≡ header

-- the headers of the first of these fragments can be the headers of the first fragment of a packet with these IPv6 headers
abbrev pub BeginWithIpv6Header : List ℕ → List FragmentValue → Type 0
BeginWithIpv6Header header [] = ⊥
BeginWithIpv6Header header (first ∷ others) = IsFirstIpv6Header header first.header

-- The fragments are a way to cut this packet. Its payload length is the number of bytes after the IPv6 header. The room for headers has 256
-- bytes, as for every IPv6 packet, and holds the headers and a fragment header.
pub record IsIpv6Cut (key : FragmentKey) (packet : List ℕ) (fragments : List FragmentValue) : Type 0 where
  pub header : List ℕ
  pub payload : List ℕ
  pub packet_is : packet ≡ header ++ payload
  pub whole : 40 ≤ length header
  pub room : header_room key ≡ 256
  pub headers_short : length header + 8 ≤ 256
  pub len_high : slice_index header 4 ≡ (length packet - 40) / 256 % 256
  pub len_low : slice_index header 5 ≡ (length packet - 40) % 256
  pub short : length packet - 40 ≤ max_ipv6_payload_len
  pub cut : IsCut key payload fragments
  pub first : BeginWithIpv6Header header fragments
