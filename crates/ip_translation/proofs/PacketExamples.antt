-- Worked examples of packets. Their checksums were computed by a program in another language.
use Rattle.std.proofs.Common.{◌≡◌, List, ℕ, [], ◌∷◌, ◌++◌, Some, None, refl}
use Rattle.ip_part.specs.Options.{options_within}
use Rattle.word_sum.specs.Checksum.{folded}
use Rattle.ip_translation.specs.FragmentsToIpv6.{packet_refusal, translated_packet}
use Rattle.ip_translation.specs.declared.packet_translation_error.PacketTranslationError.TheVariants.{CutOff, NoIpv4Header, Space, TransportHeader, UdpLength}
use Rattle.ip_translation.specs.AddressTables.{embedded, extracted, to_ipv4_refusal, to_ipv6_refusal}
use Rattle.ip_translation.specs.declared.prefix64.Prefix64.TheVariants.{Bits32, Bits96}
use Rattle.ip_translation.specs.declared.prefixes.Prefixes.{Prefixes}
use Rattle.ip_translation.proofs.AddressTableLemmas.{without_mappings}

-- 2001:db8::/32 for the source, and 2001:db8:122:344::/96 for the destination
prefixes : Prefixes
prefixes = record {
  source = without_mappings (Bits32 (0x20 ∷ 0x01 ∷ 0x0d ∷ 0xb8 ∷ []));
  destination = without_mappings (Bits96 (0x20 ∷ 0x01 ∷ 0x0d ∷ 0xb8 ∷ 0x01 ∷ 0x22 ∷ 0x03 ∷ 0x44 ∷ 0 ∷ 0 ∷ 0 ∷ []));
}

-- from port 21 of 192.0.2.33 to port 1234 of 198.51.100.7: "abc" over UDP, with a type of service
udp_packet : List ℕ
udp_packet =
    0x45 ∷ 0xb9 ∷ 0 ∷ 0x1f ∷ 0x12 ∷ 0x34 ∷ 0x40 ∷ 0 ∷ 0x40 ∷ 0x11 ∷ 0x3b ∷ 0x85 ∷ 0xc0 ∷ 0 ∷ 2 ∷ 0x21
    ∷ 0xc6 ∷ 0x33 ∷ 0x64 ∷ 7 ∷ 0 ∷ 0x15 ∷ 4 ∷ 0xd2 ∷ 0 ∷ 0x0b ∷ 0x4a ∷ 0x32 ∷ 0x61 ∷ 0x62 ∷ 0x63 ∷ []

-- the same packet over IPv6
udp_packet_ipv6 : List ℕ
udp_packet_ipv6 =
    0x6b ∷ 0x90 ∷ 0 ∷ 0 ∷ 0 ∷ 0x0b ∷ 0x11 ∷ 0x3f ∷ 0x20 ∷ 1 ∷ 0x0d ∷ 0xb8 ∷ 0xc0 ∷ 0 ∷ 2 ∷ 0x21
    ∷ 0 ∷ 0 ∷ 0 ∷ 0 ∷ 0 ∷ 0 ∷ 0 ∷ 0 ∷ 0x20 ∷ 1 ∷ 0x0d ∷ 0xb8 ∷ 1 ∷ 0x22 ∷ 3 ∷ 0x44
    ∷ 0 ∷ 0 ∷ 0 ∷ 0 ∷ 0xc6 ∷ 0x33 ∷ 0x64 ∷ 7 ∷ 0 ∷ 0x15 ∷ 4 ∷ 0xd2 ∷ 0 ∷ 0x0b ∷ 0xea ∷ 0x59
    ∷ 0x61 ∷ 0x62 ∷ 0x63 ∷ []

-- the same packet without a checksum
udp_packet_without_checksum : List ℕ
udp_packet_without_checksum =
    0x45 ∷ 0xb9 ∷ 0 ∷ 0x1f ∷ 0x12 ∷ 0x34 ∷ 0x40 ∷ 0 ∷ 0x40 ∷ 0x11 ∷ 0x3b ∷ 0x85 ∷ 0xc0 ∷ 0 ∷ 2 ∷ 0x21
    ∷ 0xc6 ∷ 0x33 ∷ 0x64 ∷ 7 ∷ 0 ∷ 0x15 ∷ 4 ∷ 0xd2 ∷ 0 ∷ 0x0b ∷ 0 ∷ 0 ∷ 0x61 ∷ 0x62 ∷ 0x63 ∷ []

-- "abc" over TCP
tcp_segment : List ℕ
tcp_segment =
    0x45 ∷ 0xb9 ∷ 0 ∷ 0x2b ∷ 0x12 ∷ 0x34 ∷ 0x40 ∷ 0 ∷ 0x40 ∷ 6 ∷ 0x3b ∷ 0x84 ∷ 0xc0 ∷ 0 ∷ 2 ∷ 0x21
    ∷ 0xc6 ∷ 0x33 ∷ 0x64 ∷ 7 ∷ 0 ∷ 0x15 ∷ 4 ∷ 0xd2 ∷ 1 ∷ 2 ∷ 3 ∷ 4 ∷ 5 ∷ 6 ∷ 7 ∷ 8
    ∷ 0x50 ∷ 0x18 ∷ 0x20 ∷ 0 ∷ 0xca ∷ 0x0f ∷ 0 ∷ 0 ∷ 0x61 ∷ 0x62 ∷ 0x63 ∷ []

-- over IPv6
tcp_segment_ipv6 : List ℕ
tcp_segment_ipv6 =
    0x6b ∷ 0x90 ∷ 0 ∷ 0 ∷ 0 ∷ 0x17 ∷ 6 ∷ 0x3f ∷ 0x20 ∷ 1 ∷ 0x0d ∷ 0xb8 ∷ 0xc0 ∷ 0 ∷ 2 ∷ 0x21
    ∷ 0 ∷ 0 ∷ 0 ∷ 0 ∷ 0 ∷ 0 ∷ 0 ∷ 0 ∷ 0x20 ∷ 1 ∷ 0x0d ∷ 0xb8 ∷ 1 ∷ 0x22 ∷ 3 ∷ 0x44
    ∷ 0 ∷ 0 ∷ 0 ∷ 0 ∷ 0xc6 ∷ 0x33 ∷ 0x64 ∷ 7 ∷ 0 ∷ 0x15 ∷ 4 ∷ 0xd2 ∷ 1 ∷ 2 ∷ 3 ∷ 4
    ∷ 5 ∷ 6 ∷ 7 ∷ 8 ∷ 0x50 ∷ 0x18 ∷ 0x20 ∷ 0 ∷ 0x6a ∷ 0x37 ∷ 0 ∷ 0 ∷ 0x61 ∷ 0x62 ∷ 0x63 ∷ []

udp_accepted : packet_refusal prefixes udp_packet 51 ≡ None
unfolding embedded extracted to_ipv4_refusal to_ipv6_refusal folded options_within prefixes udp_packet
udp_accepted = refl

udp_translated : translated_packet prefixes udp_packet ≡ udp_packet_ipv6
unfolding embedded extracted to_ipv4_refusal to_ipv6_refusal folded prefixes udp_packet udp_packet_ipv6
udp_translated = refl

-- the computed checksum is the same, and two bytes of padding are ignored
udp_completed : translated_packet prefixes (udp_packet_without_checksum ++ (1 ∷ 2 ∷ [])) ≡ udp_packet_ipv6
unfolding embedded extracted to_ipv4_refusal to_ipv6_refusal folded prefixes udp_packet_without_checksum udp_packet_ipv6
udp_completed = refl

tcp_translated : translated_packet prefixes tcp_segment ≡ tcp_segment_ipv6
unfolding embedded extracted to_ipv4_refusal to_ipv6_refusal folded prefixes tcp_segment tcp_segment_ipv6
tcp_translated = refl

-- an echo request
echo_request : List ℕ
echo_request =
    0x45 ∷ 0xb9 ∷ 0 ∷ 0x20 ∷ 0x12 ∷ 0x34 ∷ 0x40 ∷ 0 ∷ 0x40 ∷ 1 ∷ 0x3b ∷ 0x94 ∷ 0xc0 ∷ 0 ∷ 2 ∷ 0x21
    ∷ 0xc6 ∷ 0x33 ∷ 0x64 ∷ 7 ∷ 8 ∷ 0 ∷ 6 ∷ 0xf4 ∷ 0x12 ∷ 0x34 ∷ 0 ∷ 7 ∷ 0x70 ∷ 0x69 ∷ 0x6e ∷ 0x67 ∷ []

-- over IPv6
echo_request_ipv6 : List ℕ
echo_request_ipv6 =
    0x6b ∷ 0x90 ∷ 0 ∷ 0 ∷ 0 ∷ 0x0c ∷ 0x3a ∷ 0x3f ∷ 0x20 ∷ 1 ∷ 0x0d ∷ 0xb8 ∷ 0xc0 ∷ 0 ∷ 2 ∷ 0x21
    ∷ 0 ∷ 0 ∷ 0 ∷ 0 ∷ 0 ∷ 0 ∷ 0 ∷ 0 ∷ 0x20 ∷ 1 ∷ 0x0d ∷ 0xb8 ∷ 1 ∷ 0x22 ∷ 3 ∷ 0x44
    ∷ 0 ∷ 0 ∷ 0 ∷ 0 ∷ 0xc6 ∷ 0x33 ∷ 0x64 ∷ 7 ∷ 0x80 ∷ 0 ∷ 0x42 ∷ 0x78 ∷ 0x12 ∷ 0x34 ∷ 0 ∷ 7
    ∷ 0x70 ∷ 0x69 ∷ 0x6e ∷ 0x67 ∷ []

echo_translated : translated_packet prefixes echo_request ≡ echo_request_ipv6
unfolding embedded extracted to_ipv4_refusal to_ipv6_refusal folded prefixes echo_request echo_request_ipv6
echo_translated = refl

no_space : packet_refusal prefixes udp_packet 50 ≡ Some (Space 51 50)
unfolding embedded extracted to_ipv4_refusal to_ipv6_refusal folded options_within prefixes udp_packet
no_space = refl

no_header : packet_refusal prefixes (0x60 ∷ udp_packet) 100 ≡ Some NoIpv4Header
unfolding embedded extracted to_ipv4_refusal to_ipv6_refusal folded options_within prefixes udp_packet
no_header = refl

-- a total length of 31, and 24 bytes
cut_off : packet_refusal prefixes (0x45 ∷ 0xb9 ∷ 0 ∷ 0x1f ∷ 0x12 ∷ 0x34 ∷ 0x40 ∷ 0 ∷ 0x40 ∷ 0x11 ∷ 0x3b ∷ 0x85 ∷ 0xc0 ∷ 0 ∷ 2 ∷ 0x21 ∷ 0xc6
    ∷ 0x33 ∷ 0x64 ∷ 7 ∷ 0 ∷ 0x15 ∷ 4 ∷ 0xd2 ∷ []) 100 ≡ Some (CutOff 31 24)
unfolding embedded extracted to_ipv4_refusal to_ipv6_refusal folded options_within prefixes
cut_off = refl

-- a UDP packet of seven bytes
no_udp_header : packet_refusal prefixes (0x45 ∷ 0xb9 ∷ 0 ∷ 0x1b ∷ 0x12 ∷ 0x34 ∷ 0x40 ∷ 0 ∷ 0x40 ∷ 0x11 ∷ 0x3b ∷ 0x89 ∷ 0xc0 ∷ 0 ∷ 2 ∷ 0x21
    ∷ 0xc6 ∷ 0x33 ∷ 0x64 ∷ 7 ∷ 0 ∷ 0x15 ∷ 4 ∷ 0xd2 ∷ 0 ∷ 0x0b ∷ 0x4a ∷ []) 100 ≡ Some (TransportHeader 8 7)
unfolding embedded extracted to_ipv4_refusal to_ipv6_refusal folded options_within prefixes
no_udp_header = refl

-- a UDP packet without a checksum, whose length field is 12 instead of 11
wrong_length : packet_refusal prefixes (0x45 ∷ 0xb9 ∷ 0 ∷ 0x1f ∷ 0x12 ∷ 0x34 ∷ 0x40 ∷ 0 ∷ 0x40 ∷ 0x11 ∷ 0x3b ∷ 0x85 ∷ 0xc0 ∷ 0 ∷ 2 ∷ 0x21
    ∷ 0xc6 ∷ 0x33 ∷ 0x64 ∷ 7 ∷ 0 ∷ 0x15 ∷ 4 ∷ 0xd2 ∷ 0 ∷ 0x0c ∷ 0 ∷ 0 ∷ 0x61 ∷ 0x62 ∷ 0x63 ∷ []) 100 ≡ Some (UdpLength 12 11)
unfolding embedded extracted to_ipv4_refusal to_ipv6_refusal folded options_within prefixes
wrong_length = refl

-- "port unreachable" from 192.0.2.33, about a UDP packet that 198.51.100.7 sent
port_unreachable : List ℕ
port_unreachable =
    0x45 ∷ 0 ∷ 0 ∷ 0x3b ∷ 0x12 ∷ 0x34 ∷ 0x40 ∷ 0 ∷ 0x40 ∷ 1 ∷ 0x3c ∷ 0x32 ∷ 0xc0 ∷ 0 ∷ 2 ∷ 0x21
    ∷ 0xc6 ∷ 0x33 ∷ 0x64 ∷ 7 ∷ 3 ∷ 3 ∷ 0xe9 ∷ 0x75 ∷ 0 ∷ 0 ∷ 0 ∷ 0 ∷ 0x45 ∷ 0 ∷ 0 ∷ 0x1f
    ∷ 0xab ∷ 0xcd ∷ 0x40 ∷ 0 ∷ 1 ∷ 0x11 ∷ 0xe1 ∷ 0xa4 ∷ 0xc6 ∷ 0x33 ∷ 0x64 ∷ 7 ∷ 0xc0 ∷ 0 ∷ 2 ∷ 0x21
    ∷ 4 ∷ 0xd2 ∷ 0 ∷ 0x15 ∷ 0 ∷ 0x0b ∷ 0x4a ∷ 0x32 ∷ 0x61 ∷ 0x62 ∷ 0x63 ∷ []

-- over IPv6
port_unreachable_ipv6 : List ℕ
port_unreachable_ipv6 =
    0x60 ∷ 0 ∷ 0 ∷ 0 ∷ 0 ∷ 0x3b ∷ 0x3a ∷ 0x3f ∷ 0x20 ∷ 1 ∷ 0x0d ∷ 0xb8 ∷ 0xc0 ∷ 0 ∷ 2 ∷ 0x21
    ∷ 0 ∷ 0 ∷ 0 ∷ 0 ∷ 0 ∷ 0 ∷ 0 ∷ 0 ∷ 0x20 ∷ 1 ∷ 0x0d ∷ 0xb8 ∷ 1 ∷ 0x22 ∷ 3 ∷ 0x44
    ∷ 0 ∷ 0 ∷ 0 ∷ 0 ∷ 0xc6 ∷ 0x33 ∷ 0x64 ∷ 7 ∷ 1 ∷ 4 ∷ 0x41 ∷ 0x61 ∷ 0 ∷ 0 ∷ 0 ∷ 0
    ∷ 0x60 ∷ 0 ∷ 0 ∷ 0 ∷ 0 ∷ 0x0b ∷ 0x11 ∷ 1 ∷ 0x20 ∷ 1 ∷ 0x0d ∷ 0xb8 ∷ 1 ∷ 0x22 ∷ 3 ∷ 0x44
    ∷ 0 ∷ 0 ∷ 0 ∷ 0 ∷ 0xc6 ∷ 0x33 ∷ 0x64 ∷ 7 ∷ 0x20 ∷ 1 ∷ 0x0d ∷ 0xb8 ∷ 0xc0 ∷ 0 ∷ 2 ∷ 0x21
    ∷ 0 ∷ 0 ∷ 0 ∷ 0 ∷ 0 ∷ 0 ∷ 0 ∷ 0 ∷ 4 ∷ 0xd2 ∷ 0 ∷ 0x15 ∷ 0 ∷ 0x0b ∷ 0xea ∷ 0x59
    ∷ 0x61 ∷ 0x62 ∷ 0x63 ∷ []

error_accepted : packet_refusal prefixes port_unreachable 99 ≡ None
unfolding embedded extracted to_ipv4_refusal to_ipv6_refusal folded options_within prefixes port_unreachable
error_accepted = refl

error_translated : translated_packet prefixes port_unreachable ≡ port_unreachable_ipv6
unfolding embedded extracted to_ipv4_refusal to_ipv6_refusal folded prefixes port_unreachable port_unreachable_ipv6
error_translated = refl

-- the first fragment of a UDP packet, with its first eight bytes of data
first_fragment : List ℕ
first_fragment =
    0x45 ∷ 0xb9 ∷ 0 ∷ 0x24 ∷ 0x12 ∷ 0x34 ∷ 0x20 ∷ 0 ∷ 0x40 ∷ 0x11 ∷ 0x5b ∷ 0x80 ∷ 0xc0 ∷ 0 ∷ 2 ∷ 0x21
    ∷ 0xc6 ∷ 0x33 ∷ 0x64 ∷ 7 ∷ 0 ∷ 0x15 ∷ 4 ∷ 0xd2 ∷ 0 ∷ 0x18 ∷ 0xcb ∷ 0x2f ∷ 0x61 ∷ 0x62 ∷ 0x63 ∷ 0x64
    ∷ 0x65 ∷ 0x66 ∷ 0x67 ∷ 0x68 ∷ []

-- over IPv6
first_fragment_ipv6 : List ℕ
first_fragment_ipv6 =
    0x6b ∷ 0x90 ∷ 0 ∷ 0 ∷ 0 ∷ 0x18 ∷ 0x2c ∷ 0x3f ∷ 0x20 ∷ 1 ∷ 0x0d ∷ 0xb8 ∷ 0xc0 ∷ 0 ∷ 2 ∷ 0x21
    ∷ 0 ∷ 0 ∷ 0 ∷ 0 ∷ 0 ∷ 0 ∷ 0 ∷ 0 ∷ 0x20 ∷ 1 ∷ 0x0d ∷ 0xb8 ∷ 1 ∷ 0x22 ∷ 3 ∷ 0x44
    ∷ 0 ∷ 0 ∷ 0 ∷ 0 ∷ 0xc6 ∷ 0x33 ∷ 0x64 ∷ 7 ∷ 0x11 ∷ 0 ∷ 0 ∷ 1 ∷ 0 ∷ 0 ∷ 0x12 ∷ 0x34
    ∷ 0 ∷ 0x15 ∷ 4 ∷ 0xd2 ∷ 0 ∷ 0x18 ∷ 0x6b ∷ 0x57 ∷ 0x61 ∷ 0x62 ∷ 0x63 ∷ 0x64 ∷ 0x65 ∷ 0x66 ∷ 0x67 ∷ 0x68 ∷ []

first_fragment_accepted : packet_refusal prefixes first_fragment 64 ≡ None
unfolding embedded extracted to_ipv4_refusal to_ipv6_refusal folded options_within prefixes first_fragment
first_fragment_accepted = refl

first_fragment_translated : translated_packet prefixes first_fragment ≡ first_fragment_ipv6
unfolding embedded extracted to_ipv4_refusal to_ipv6_refusal folded prefixes first_fragment first_fragment_ipv6
first_fragment_translated = refl

-- the last fragment of this packet
later_fragment : List ℕ
later_fragment =
    0x45 ∷ 0xb9 ∷ 0 ∷ 0x1c ∷ 0x12 ∷ 0x34 ∷ 0 ∷ 2 ∷ 0x40 ∷ 0x11 ∷ 0x7b ∷ 0x86 ∷ 0xc0 ∷ 0 ∷ 2 ∷ 0x21
    ∷ 0xc6 ∷ 0x33 ∷ 0x64 ∷ 7 ∷ 0x69 ∷ 0x6a ∷ 0x6b ∷ 0x6c ∷ 0x6d ∷ 0x6e ∷ 0x6f ∷ 0x70 ∷ []

-- over IPv6 its data is unchanged
later_fragment_ipv6 : List ℕ
later_fragment_ipv6 =
    0x6b ∷ 0x90 ∷ 0 ∷ 0 ∷ 0 ∷ 0x10 ∷ 0x2c ∷ 0x3f ∷ 0x20 ∷ 1 ∷ 0x0d ∷ 0xb8 ∷ 0xc0 ∷ 0 ∷ 2 ∷ 0x21
    ∷ 0 ∷ 0 ∷ 0 ∷ 0 ∷ 0 ∷ 0 ∷ 0 ∷ 0 ∷ 0x20 ∷ 1 ∷ 0x0d ∷ 0xb8 ∷ 1 ∷ 0x22 ∷ 3 ∷ 0x44
    ∷ 0 ∷ 0 ∷ 0 ∷ 0 ∷ 0xc6 ∷ 0x33 ∷ 0x64 ∷ 7 ∷ 0x11 ∷ 0 ∷ 0 ∷ 0x10 ∷ 0 ∷ 0 ∷ 0x12 ∷ 0x34
    ∷ 0x69 ∷ 0x6a ∷ 0x6b ∷ 0x6c ∷ 0x6d ∷ 0x6e ∷ 0x6f ∷ 0x70 ∷ []

later_fragment_translated : translated_packet prefixes later_fragment ≡ later_fragment_ipv6
unfolding embedded extracted to_ipv4_refusal to_ipv6_refusal folded prefixes later_fragment later_fragment_ipv6
later_fragment_translated = refl

-- "time exceeded" about the last fragment of a UDP packet; four bytes of its payload are quoted
quoted_fragment : List ℕ
quoted_fragment =
    0x45 ∷ 0 ∷ 0 ∷ 0x34 ∷ 0x12 ∷ 0x34 ∷ 0x40 ∷ 0 ∷ 0x40 ∷ 1 ∷ 0x3c ∷ 0x39 ∷ 0xc0 ∷ 0 ∷ 2 ∷ 0x21
    ∷ 0xc6 ∷ 0x33 ∷ 0x64 ∷ 7 ∷ 0x0b ∷ 0 ∷ 0x20 ∷ 0x29 ∷ 0 ∷ 0 ∷ 0 ∷ 0 ∷ 0x45 ∷ 0 ∷ 0 ∷ 0x1c
    ∷ 0xab ∷ 0xcd ∷ 0 ∷ 2 ∷ 1 ∷ 0x11 ∷ 0x21 ∷ 0xa6 ∷ 0xc6 ∷ 0x33 ∷ 0x64 ∷ 7 ∷ 0xc0 ∷ 0 ∷ 2 ∷ 0x21
    ∷ 0x69 ∷ 0x6a ∷ 0x6b ∷ 0x6c ∷ []

-- over IPv6 the quoted packet has a fragment header, and its payload length counts all bytes
quoted_fragment_ipv6 : List ℕ
quoted_fragment_ipv6 =
    0x60 ∷ 0 ∷ 0 ∷ 0 ∷ 0 ∷ 0x3c ∷ 0x3a ∷ 0x3f ∷ 0x20 ∷ 1 ∷ 0x0d ∷ 0xb8 ∷ 0xc0 ∷ 0 ∷ 2 ∷ 0x21
    ∷ 0 ∷ 0 ∷ 0 ∷ 0 ∷ 0 ∷ 0 ∷ 0 ∷ 0 ∷ 0x20 ∷ 1 ∷ 0x0d ∷ 0xb8 ∷ 1 ∷ 0x22 ∷ 3 ∷ 0x44
    ∷ 0 ∷ 0 ∷ 0 ∷ 0 ∷ 0xc6 ∷ 0x33 ∷ 0x64 ∷ 7 ∷ 3 ∷ 0 ∷ 0x46 ∷ 0x59 ∷ 0 ∷ 0 ∷ 0 ∷ 0
    ∷ 0x60 ∷ 0 ∷ 0 ∷ 0 ∷ 0 ∷ 0x10 ∷ 0x2c ∷ 1 ∷ 0x20 ∷ 1 ∷ 0x0d ∷ 0xb8 ∷ 1 ∷ 0x22 ∷ 3 ∷ 0x44
    ∷ 0 ∷ 0 ∷ 0 ∷ 0 ∷ 0xc6 ∷ 0x33 ∷ 0x64 ∷ 7 ∷ 0x20 ∷ 1 ∷ 0x0d ∷ 0xb8 ∷ 0xc0 ∷ 0 ∷ 2 ∷ 0x21
    ∷ 0 ∷ 0 ∷ 0 ∷ 0 ∷ 0 ∷ 0 ∷ 0 ∷ 0 ∷ 0x11 ∷ 0 ∷ 0 ∷ 0x10 ∷ 0 ∷ 0 ∷ 0xab ∷ 0xcd
    ∷ 0x69 ∷ 0x6a ∷ 0x6b ∷ 0x6c ∷ []

quoted_fragment_accepted : packet_refusal prefixes quoted_fragment 100 ≡ None
unfolding embedded extracted to_ipv4_refusal to_ipv6_refusal folded options_within prefixes quoted_fragment
quoted_fragment_accepted = refl

quoted_fragment_translated : translated_packet prefixes quoted_fragment ≡ quoted_fragment_ipv6
unfolding embedded extracted to_ipv4_refusal to_ipv6_refusal folded prefixes quoted_fragment quoted_fragment_ipv6
quoted_fragment_translated = refl
