-- Worked examples of the definitions, so that a wrong definition fails before any code does.
use Rattle.std.proofs.Common.{◌≡◌, ℕ, ◌+◌, ◌*◌, ◌/◌, ◌%◌, List, [], ◌∷◌, ◌++◌, length, replicate, Some, None, inl, inr, refl, lit≤, arith}
use Rattle.net_base.specs.declared.err.layer.Layer.TheVariants as layers
use Rattle.net_base.specs.declared.err.len_source.LenSource.TheVariants.{Slice, UdpHeaderLen}
use Rattle.word_sum.specs.Checksum.{folded, udp_checksum_of}
use Rattle.udp_part.specs.UdpFormat.{DecodesAs, canonical, checksummed_ipv4, checksummed_ipv6, layout, max_payload_len, max_payload_len_of_32_bits, refusal, wire}
use Rattle.udp_part.specs.UdpSlice.{cut, len_source_of, strict_refusal}
use Rattle.udp_part.specs.UdpValidity.{IsValidUdpIpv4, IsValidUdpIpv6, SumsUpOverIpv4, SumsUpOverIpv6}
use Rattle.udp_part.specs.declared.udp_header.UdpHeader.{UdpHeader}

-- ---- the header

a_mask_for_each_byte : length layout.masks ≡ layout.header_len
a_mask_for_each_byte = refl

datagram : List ℕ
datagram = 0 ∷ 53 ∷ 4 ∷ 210 ∷ 0 ∷ 8 ∷ 0 ∷ 0 ∷ 170 ∷ []

header : UdpHeader
header = record { source_port = 53; destination_port = 1234; length = 8; checksum = 0 }

datagram_accepted : refusal datagram ≡ None
unfolding datagram
datagram_accepted = refl

datagram_read : DecodesAs datagram header (170 ∷ [])
unfolding datagram header
datagram_read = record { accepted = refl; fields = refl; after_header = refl }

datagram_written : wire header ++ (170 ∷ []) ≡ datagram
unfolding datagram header
datagram_written = refl

datagram_canonical : canonical datagram ≡ datagram
unfolding datagram
datagram_canonical = refl

seven_bytes : refusal (replicate 7 0)
    ≡ Some (record { required_len = 8; len = 7; len_source = Slice; layer = layers.UdpHeader; layer_start_offset = 0 })
seven_bytes = refl

eight_bytes : refusal (replicate 8 0) ≡ None
eight_bytes = refl

-- ---- the checksum of a header

limit : max_payload_len ≡ 65527
limit = refl

limit_of_32_bits : max_payload_len_of_32_bits ≡ 4294967287
limit_of_32_bits = refl

nowhere : List ℕ
nowhere = replicate 4 0

-- the sum over a header in which only the length field is set; the pseudo header contains the length too, and protocol 17
covered : ℕ → List ℕ → ℕ
covered port payload =
    checksummed_ipv4 nowhere nowhere (record { source_port = port; destination_port = 0; length = 8; checksum = 99 }) payload

empty_covered : covered 0 [] ≡ 17 + 8 + 8
unfolding covered nowhere
empty_covered = refl

empty_checksum : udp_checksum_of 33 ≡ 0xFFDE
unfolding folded
empty_checksum = refl

port_ffde : folded (covered 0xFFDE []) ≡ 65535
unfolding folded covered nowhere
port_ffde = refl

port_ffde_checksum : udp_checksum_of (covered 0xFFDE []) ≡ 0xFFFF
unfolding folded covered nowhere
port_ffde_checksum = refl

one_byte_covered : covered 0 (1 ∷ []) ≡ 0x0121
unfolding covered nowhere
one_byte_covered = refl

one_byte_checksum : udp_checksum_of 0x0121 ≡ 0xFEDE
unfolding folded
one_byte_checksum = refl

-- the sum over a packet from 192.168.1.1, port 21, to 192.168.1.2, port 1234, with the bytes 1 to 8
eight_bytes_covered : checksummed_ipv4 (192 ∷ 168 ∷ 1 ∷ 1 ∷ []) (192 ∷ 168 ∷ 1 ∷ 2 ∷ [])
    (record { source_port = 21; destination_port = 1234; length = 16; checksum = 0 }) (1 ∷ 2 ∷ 3 ∷ 4 ∷ 5 ∷ 6 ∷ 7 ∷ 8 ∷ []) ≡ 0x1987F
eight_bytes_covered = refl

eight_bytes_folded : folded 0x1987F ≡ 0x9880
unfolding folded
eight_bytes_folded = refl

empty_covered_ipv6 : checksummed_ipv6 (replicate 16 0) (replicate 16 0)
    (record { source_port = 0; destination_port = 0; length = 8; checksum = 0 }) [] ≡ 33
empty_covered_ipv6 = refl

-- the sum of eight words 0101, eight words 0202, the length twice, the protocol, the ports, and the payload
covered_ipv6 : checksummed_ipv6 (replicate 16 1) (replicate 16 2)
    (record { source_port = 21; destination_port = 1234; length = 9; checksum = 7 }) (5 ∷ [])
    ≡ 8 * 0x0101 + 8 * 0x0202 + 9 + 17 + 21 + 1234 + 9 + 0x0500
covered_ipv6 = refl

-- the addresses of a packet from 2001:db8:1:2:3:4:5:6, port 5353, to 2001:db8:a:b:c:d:e:f, port 53, with the bytes `abc`
source : List ℕ
source = 0x20 ∷ 0x01 ∷ 0x0D ∷ 0xB8 ∷ 0 ∷ 1 ∷ 0 ∷ 2 ∷ 0 ∷ 3 ∷ 0 ∷ 4 ∷ 0 ∷ 5 ∷ 0 ∷ 6 ∷ []

destination : List ℕ
destination = 0x20 ∷ 0x01 ∷ 0x0D ∷ 0xB8 ∷ 0 ∷ 10 ∷ 0 ∷ 11 ∷ 0 ∷ 12 ∷ 0 ∷ 13 ∷ 0 ∷ 14 ∷ 0 ∷ 15 ∷ []

-- the sum of source, destination, the length twice, the protocol, the ports, and the payload
abc_covered_ipv6 : checksummed_ipv6 source destination (record { source_port = 5353; destination_port = 53; length = 11; checksum = 7 })
    (0x61 ∷ 0x62 ∷ 0x63 ∷ [])
    ≡ 0x2DCE + 0x2E04 + 2 * 11 + 17 + 5353 + 53 + 0xC462
unfolding source destination
abc_covered_ipv6 = refl

abc_checksum_ipv6 : udp_checksum_of (0x2DCE + 0x2E04 + 2 * 11 + 17 + 5353 + 53 + 0xC462) ≡ 0xCA85
unfolding folded
abc_checksum_ipv6 = refl

-- ---- slices

-- a header with this length field, and this number of zero bytes after it
packet : ℕ → ℕ → List ℕ
packet field payload_len = 0 ∷ 0 ∷ 0 ∷ 0 ∷ field / 256 ∷ field % 256 ∷ 0 ∷ 0 ∷ replicate payload_len 0

field_7_strict : strict_refusal (packet 7 0)
    ≡ Some (record { required_len = 8; len = 7; len_source = UdpHeaderLen; layer = layers.UdpHeader; layer_start_offset = 0 })
unfolding packet
field_7_strict = refl

field_9_strict : strict_refusal (packet 9 0)
    ≡ Some (record { required_len = 9; len = 8; len_source = Slice; layer = layers.UdpPayload; layer_start_offset = 0 })
unfolding packet
field_9_strict = refl

-- a missing header is refused before a length field above the slice
seven_bytes_strict : strict_refusal (0 ∷ 0 ∷ 0 ∷ 0 ∷ 0 ∷ 9 ∷ 0 ∷ [])
    ≡ Some (record { required_len = 8; len = 7; len_source = Slice; layer = layers.UdpHeader; layer_start_offset = 0 })
seven_bytes_strict = refl

field_8_strict : strict_refusal (packet 8 0) ≡ None
unfolding packet
field_8_strict = refl

field_65535_strict : strict_refusal (packet 65535 0)
    ≡ Some (record { required_len = 65535; len = 8; len_source = Slice; layer = layers.UdpPayload; layer_start_offset = 0 })
unfolding packet
field_65535_strict = refl

field_0_strict : strict_refusal (packet 0 2) ≡ None
unfolding packet
field_0_strict = refl

field_0_kept : cut (packet 0 2) ≡ packet 0 2
unfolding packet
field_0_kept = refl

field_9_cut : cut (packet 9 2) ≡ packet 9 1
unfolding packet
field_9_cut = refl

field_9_too_long_kept : cut (packet 9 0) ≡ packet 9 0
unfolding packet
field_9_too_long_kept = refl

field_7_kept : cut (packet 7 2) ≡ packet 7 2
unfolding packet
field_7_kept = refl

source_of_field : len_source_of (packet 9 1) ≡ UdpHeaderLen
unfolding packet
source_of_field = refl

source_of_field_0 : len_source_of (packet 0 0) ≡ Slice
unfolding packet
source_of_field_0 = refl

source_of_slice : len_source_of (packet 9 0) ≡ Slice
unfolding packet
source_of_slice = refl

-- ---- received checksums

from : List ℕ
from = 192 ∷ 168 ∷ 1 ∷ 1 ∷ []

to : List ℕ
to = 192 ∷ 168 ∷ 1 ∷ 2 ∷ []

-- a packet from port 21 to port 1234 with the bytes `abc`, and so with an odd length
received : ℕ → ℕ → ℕ → List ℕ
received field high low = 0x00 ∷ 0x15 ∷ 0x04 ∷ 0xD2 ∷ 0x00 ∷ field ∷ high ∷ low ∷ 0x61 ∷ 0x62 ∷ 0x63 ∷ []

right_over_ipv4 : IsValidUdpIpv4 from to (received 11 0xB3 0x3A)
unfolding folded from to received
right_over_ipv4 = inr (lit≤ tt, refl)

wrong_over_ipv4 : SumsUpOverIpv4 from to (received 11 0xB3 0x3B) → ⊥
unfolding folded from to received
wrong_over_ipv4 sums_up = omega (arith, sums_up.1)

none_over_ipv4 : IsValidUdpIpv4 from to (received 11 0 0)
unfolding received
none_over_ipv4 = inl refl

right_over_ipv6 : IsValidUdpIpv6 source destination (received 11 0xDA 0xBC)
unfolding folded source destination received
right_over_ipv6 = (λ none. omega (arith, none), (lit≤ tt, refl))

none_over_ipv6 : IsValidUdpIpv6 source destination (received 11 0 0) → ⊥
unfolding received
none_over_ipv6 valid = valid.0 refl

-- a length field of 0 states no length, as in a jumbogram; the bytes are counted
field_0_over_ipv4 : SumsUpOverIpv4 from to (received 0 0xB3 0x45)
unfolding folded from to received
field_0_over_ipv4 = (lit≤ tt, refl)

field_0_over_ipv6 : SumsUpOverIpv6 source destination (received 0 0xDA 0xC7)
unfolding folded source destination received
field_0_over_ipv6 = (lit≤ tt, refl)

-- no pseudo header over IPv4 can count this packet
too_long_over_ipv4 : (bytes : List ℕ) → length bytes ≡ 65536 → SumsUpOverIpv4 from to bytes → ⊥
too_long_over_ipv4 bytes long sums_up = omega (arith, long, sums_up.0)
