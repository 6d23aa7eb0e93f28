-- Worked examples of packets over IPv6. Their checksums were computed by a program in another language.
use Rattle.std.proofs.Common.{◌≡◌, List, ℕ, [], ◌∷◌, ◌++◌, Some, None, refl}
use Rattle.word_sum.specs.Checksum.{folded}
use Rattle.ip_translation.specs.PacketsToIpv4.{packet_refusal, translated_packet}
use Rattle.ip_translation.specs.SkippedHeaders.{skipped_from}
use Rattle.ip_translation.specs.declared.packet_translation_error.PacketTranslationError.TheVariants.{ExtensionHeaderCutOff, Header, NoUdpChecksum, SegmentsLeft, Space}
use Rattle.ip_translation.specs.AddressTables.{embedded, extracted, to_ipv4_refusal, to_ipv6_refusal}
use Rattle.ip_translation.specs.declared.prefix64.Prefix64.TheVariants.{Bits32, Bits96}
use Rattle.ip_translation.specs.declared.prefixes.Prefixes.{Prefixes}
use Rattle.ip_translation.specs.declared.translation_error.TranslationError.TheVariants.{ExtensionHeader}
use Rattle.ip_translation.proofs.AddressTableLemmas.{without_mappings}

-- 2001:db8::/32 for the source, and 2001:db8:122:344::/96 for the destination
prefixes : Prefixes
prefixes = record {
  source = without_mappings (Bits32 (0x20 ∷ 0x01 ∷ 0x0d ∷ 0xb8 ∷ []));
  destination = without_mappings (Bits96 (0x20 ∷ 0x01 ∷ 0x0d ∷ 0xb8 ∷ 0x01 ∷ 0x22 ∷ 0x03 ∷ 0x44 ∷ 0 ∷ 0 ∷ 0 ∷ []));
}

-- from port 21 to port 1234: "abc" over UDP, with a traffic class
udp_packet : List ℕ
udp_packet =
    0x6b ∷ 0x90 ∷ 0 ∷ 0 ∷ 0 ∷ 0x0b ∷ 0x11 ∷ 0x3f ∷ 0x20 ∷ 1 ∷ 0x0d ∷ 0xb8 ∷ 0xc0 ∷ 0 ∷ 2 ∷ 0x21
    ∷ 0 ∷ 0 ∷ 0 ∷ 0 ∷ 0 ∷ 0 ∷ 0 ∷ 0 ∷ 0x20 ∷ 1 ∷ 0x0d ∷ 0xb8 ∷ 1 ∷ 0x22 ∷ 3 ∷ 0x44
    ∷ 0 ∷ 0 ∷ 0 ∷ 0 ∷ 0xc6 ∷ 0x33 ∷ 0x64 ∷ 7 ∷ 0 ∷ 0x15 ∷ 4 ∷ 0xd2 ∷ 0 ∷ 0x0b ∷ 0xea ∷ 0x59
    ∷ 0x61 ∷ 0x62 ∷ 0x63 ∷ []

-- the same packet over IPv4, with the identification BEEF
udp_packet_ipv4 : List ℕ
udp_packet_ipv4 =
    0x45 ∷ 0xb9 ∷ 0 ∷ 0x1f ∷ 0xbe ∷ 0xef ∷ 0 ∷ 0 ∷ 0x3e ∷ 0x11 ∷ 0xd0 ∷ 0xc9 ∷ 0xc0 ∷ 0 ∷ 2 ∷ 0x21
    ∷ 0xc6 ∷ 0x33 ∷ 0x64 ∷ 7 ∷ 0 ∷ 0x15 ∷ 4 ∷ 0xd2 ∷ 0 ∷ 0x0b ∷ 0x4a ∷ 0x32 ∷ 0x61 ∷ 0x62 ∷ 0x63 ∷ []

-- "abc" over TCP
tcp_segment : List ℕ
tcp_segment =
    0x6b ∷ 0x90 ∷ 0 ∷ 0 ∷ 0 ∷ 0x17 ∷ 6 ∷ 0x3f ∷ 0x20 ∷ 1 ∷ 0x0d ∷ 0xb8 ∷ 0xc0 ∷ 0 ∷ 2 ∷ 0x21
    ∷ 0 ∷ 0 ∷ 0 ∷ 0 ∷ 0 ∷ 0 ∷ 0 ∷ 0 ∷ 0x20 ∷ 1 ∷ 0x0d ∷ 0xb8 ∷ 1 ∷ 0x22 ∷ 3 ∷ 0x44
    ∷ 0 ∷ 0 ∷ 0 ∷ 0 ∷ 0xc6 ∷ 0x33 ∷ 0x64 ∷ 7 ∷ 0 ∷ 0x15 ∷ 4 ∷ 0xd2 ∷ 1 ∷ 2 ∷ 3 ∷ 4
    ∷ 5 ∷ 6 ∷ 7 ∷ 8 ∷ 0x50 ∷ 0x18 ∷ 0x20 ∷ 0 ∷ 0x6a ∷ 0x37 ∷ 0 ∷ 0 ∷ 0x61 ∷ 0x62 ∷ 0x63 ∷ []

-- over IPv4
tcp_segment_ipv4 : List ℕ
tcp_segment_ipv4 =
    0x45 ∷ 0xb9 ∷ 0 ∷ 0x2b ∷ 0xbe ∷ 0xef ∷ 0 ∷ 0 ∷ 0x3e ∷ 6 ∷ 0xd0 ∷ 0xc8 ∷ 0xc0 ∷ 0 ∷ 2 ∷ 0x21
    ∷ 0xc6 ∷ 0x33 ∷ 0x64 ∷ 7 ∷ 0 ∷ 0x15 ∷ 4 ∷ 0xd2 ∷ 1 ∷ 2 ∷ 3 ∷ 4 ∷ 5 ∷ 6 ∷ 7 ∷ 8
    ∷ 0x50 ∷ 0x18 ∷ 0x20 ∷ 0 ∷ 0xca ∷ 0x0f ∷ 0 ∷ 0 ∷ 0x61 ∷ 0x62 ∷ 0x63 ∷ []

udp_accepted : packet_refusal prefixes udp_packet 31 ≡ None
unfolding embedded extracted to_ipv4_refusal to_ipv6_refusal skipped_from prefixes udp_packet
udp_accepted = refl

-- two bytes of padding are ignored
udp_translated : translated_packet prefixes 0xbeef (udp_packet ++ (1 ∷ 2 ∷ [])) ≡ udp_packet_ipv4
unfolding embedded extracted to_ipv4_refusal to_ipv6_refusal skipped_from folded prefixes udp_packet udp_packet_ipv4
udp_translated = refl

tcp_translated : translated_packet prefixes 0xbeef tcp_segment ≡ tcp_segment_ipv4
unfolding embedded extracted to_ipv4_refusal to_ipv6_refusal skipped_from folded prefixes tcp_segment tcp_segment_ipv4
tcp_translated = refl

-- an echo reply of zeros
echo_reply : List ℕ
echo_reply =
    0x6b ∷ 0x90 ∷ 0 ∷ 0 ∷ 0 ∷ 9 ∷ 0x3a ∷ 0x3f ∷ 0x20 ∷ 1 ∷ 0x0d ∷ 0xb8 ∷ 0xc0 ∷ 0 ∷ 2 ∷ 0x21
    ∷ 0 ∷ 0 ∷ 0 ∷ 0 ∷ 0 ∷ 0 ∷ 0 ∷ 0 ∷ 0x20 ∷ 1 ∷ 0x0d ∷ 0xb8 ∷ 1 ∷ 0x22 ∷ 3 ∷ 0x44
    ∷ 0 ∷ 0 ∷ 0 ∷ 0 ∷ 0xc6 ∷ 0x33 ∷ 0x64 ∷ 7 ∷ 0x81 ∷ 0 ∷ 0x32 ∷ 0x87 ∷ 0 ∷ 0 ∷ 0 ∷ 0
    ∷ 0 ∷ []

-- over IPv4 its checksum is FFFF
echo_reply_ipv4 : List ℕ
echo_reply_ipv4 =
    0x45 ∷ 0xb9 ∷ 0 ∷ 0x1d ∷ 0xbe ∷ 0xef ∷ 0 ∷ 0 ∷ 0x3e ∷ 1 ∷ 0xd0 ∷ 0xdb ∷ 0xc0 ∷ 0 ∷ 2 ∷ 0x21
    ∷ 0xc6 ∷ 0x33 ∷ 0x64 ∷ 7 ∷ 0 ∷ 0 ∷ 0xff ∷ 0xff ∷ 0 ∷ 0 ∷ 0 ∷ 0 ∷ 0 ∷ []

echo_translated : translated_packet prefixes 0xbeef echo_reply ≡ echo_reply_ipv4
unfolding embedded extracted to_ipv4_refusal to_ipv6_refusal skipped_from folded prefixes echo_reply echo_reply_ipv4
echo_translated = refl

no_space : packet_refusal prefixes udp_packet 30 ≡ Some (Space 31 30)
unfolding embedded extracted to_ipv4_refusal to_ipv6_refusal skipped_from prefixes udp_packet
no_space = refl

-- the UDP packet without a checksum
no_checksum : packet_refusal prefixes (0x6b ∷ 0x90 ∷ 0 ∷ 0 ∷ 0 ∷ 0x0b ∷ 0x11 ∷ 0x3f ∷ 0x20 ∷ 1 ∷ 0x0d ∷ 0xb8 ∷ 0xc0 ∷ 0 ∷ 2 ∷ 0x21 ∷ 0 ∷ 0
    ∷ 0 ∷ 0 ∷ 0 ∷ 0 ∷ 0 ∷ 0 ∷ 0x20 ∷ 1 ∷ 0x0d ∷ 0xb8 ∷ 1 ∷ 0x22 ∷ 3 ∷ 0x44 ∷ 0 ∷ 0 ∷ 0 ∷ 0 ∷ 0xc6 ∷ 0x33 ∷ 0x64 ∷ 7 ∷ 0 ∷ 0x15 ∷ 4 ∷ 0xd2
    ∷ 0 ∷ 0x0b ∷ 0 ∷ 0 ∷ 0x61 ∷ 0x62 ∷ 0x63 ∷ []) 100 ≡ Some NoUdpChecksum
unfolding embedded extracted to_ipv4_refusal to_ipv6_refusal skipped_from prefixes
no_checksum = refl

-- the UDP packet after hop-by-hop options of 8 bytes, a routing header of 24 bytes with this number of segments left, and destination
-- options
-- of 8 bytes
extended_packet : ℕ → List ℕ
extended_packet segments_left =
    0x6b ∷ 0x90 ∷ 0 ∷ 0 ∷ 0 ∷ 0x33 ∷ 0 ∷ 0x3f ∷ 0x20 ∷ 1 ∷ 0x0d ∷ 0xb8 ∷ 0xc0 ∷ 0 ∷ 2 ∷ 0x21
    ∷ 0 ∷ 0 ∷ 0 ∷ 0 ∷ 0 ∷ 0 ∷ 0 ∷ 0 ∷ 0x20 ∷ 1 ∷ 0x0d ∷ 0xb8 ∷ 1 ∷ 0x22 ∷ 3 ∷ 0x44
    ∷ 0 ∷ 0 ∷ 0 ∷ 0 ∷ 0xc6 ∷ 0x33 ∷ 0x64 ∷ 7 ∷ 43 ∷ 0 ∷ 1 ∷ 4 ∷ 0 ∷ 0 ∷ 0 ∷ 0
    ∷ 60 ∷ 2 ∷ 0 ∷ segments_left ∷ 0 ∷ 0 ∷ 0 ∷ 0 ∷ 0xfe ∷ 0x80 ∷ 0 ∷ 0 ∷ 0 ∷ 0 ∷ 0 ∷ 0
    ∷ 0 ∷ 0 ∷ 0 ∷ 0 ∷ 0 ∷ 0 ∷ 0 ∷ 1 ∷ 0x11 ∷ 0 ∷ 1 ∷ 4 ∷ 0 ∷ 0 ∷ 0 ∷ 0
    ∷ 0 ∷ 0x15 ∷ 4 ∷ 0xd2 ∷ 0 ∷ 0x0b ∷ 0xea ∷ 0x59 ∷ 0x61 ∷ 0x62 ∷ 0x63 ∷ []

extensions_accepted : packet_refusal prefixes (extended_packet 0) 31 ≡ None
unfolding embedded extracted to_ipv4_refusal to_ipv6_refusal skipped_from prefixes extended_packet
extensions_accepted = refl

-- the three extension headers are skipped
extensions_skipped : translated_packet prefixes 0xbeef (extended_packet 0) ≡ udp_packet_ipv4
unfolding embedded extracted to_ipv4_refusal to_ipv6_refusal skipped_from folded prefixes extended_packet udp_packet_ipv4
extensions_skipped = refl

-- "segments left" is byte 3 of the routing header, which begins at byte 48
segments_left : packet_refusal prefixes (extended_packet 1) 31 ≡ Some (SegmentsLeft 51)
unfolding embedded extracted to_ipv4_refusal to_ipv6_refusal skipped_from prefixes extended_packet
segments_left = refl

-- the UDP packet, as if it were destination options
cut_off_options : packet_refusal prefixes
    (0x6b ∷ 0x90 ∷ 0 ∷ 0 ∷ 0 ∷ 0x0b ∷ 60 ∷ 0x3f ∷ 0x20 ∷ 1 ∷ 0x0d ∷ 0xb8 ∷ 0xc0 ∷ 0 ∷ 2 ∷ 0x21 ∷ 0 ∷ 0 ∷ 0 ∷ 0 ∷ 0 ∷ 0 ∷ 0 ∷ 0 ∷ 0x20 ∷ 1
    ∷ 0x0d ∷ 0xb8 ∷ 1 ∷ 0x22 ∷ 3 ∷ 0x44 ∷ 0 ∷ 0 ∷ 0 ∷ 0 ∷ 0xc6 ∷ 0x33 ∷ 0x64 ∷ 7 ∷ 0 ∷ 0x15 ∷ 4 ∷ 0xd2 ∷ 0 ∷ 0x0b ∷ 0xea ∷ 0x59 ∷ 0x61
    ∷ 0x62 ∷ 0x63 ∷ []) 100 ≡ Some (ExtensionHeaderCutOff 60 176 11)
unfolding embedded extracted to_ipv4_refusal to_ipv6_refusal skipped_from prefixes
cut_off_options = refl

-- the last fragment of a UDP packet, with the identification ABCD1234
later_fragment : List ℕ
later_fragment =
    0x6b ∷ 0x90 ∷ 0 ∷ 0 ∷ 0 ∷ 0x10 ∷ 0x2c ∷ 0x3f ∷ 0x20 ∷ 1 ∷ 0x0d ∷ 0xb8 ∷ 0xc0 ∷ 0 ∷ 2 ∷ 0x21
    ∷ 0 ∷ 0 ∷ 0 ∷ 0 ∷ 0 ∷ 0 ∷ 0 ∷ 0 ∷ 0x20 ∷ 1 ∷ 0x0d ∷ 0xb8 ∷ 1 ∷ 0x22 ∷ 3 ∷ 0x44
    ∷ 0 ∷ 0 ∷ 0 ∷ 0 ∷ 0xc6 ∷ 0x33 ∷ 0x64 ∷ 7 ∷ 0x11 ∷ 0 ∷ 0 ∷ 0x10 ∷ 0xab ∷ 0xcd ∷ 0x12 ∷ 0x34
    ∷ 0x69 ∷ 0x6a ∷ 0x6b ∷ 0x6c ∷ 0x6d ∷ 0x6e ∷ 0x6f ∷ 0x70 ∷ []

-- over IPv4 its data is unchanged, and its identification is 1234
later_fragment_ipv4 : List ℕ
later_fragment_ipv4 =
    0x45 ∷ 0xb9 ∷ 0 ∷ 0x1c ∷ 0x12 ∷ 0x34 ∷ 0 ∷ 2 ∷ 0x3e ∷ 0x11 ∷ 0x7d ∷ 0x86 ∷ 0xc0 ∷ 0 ∷ 2 ∷ 0x21
    ∷ 0xc6 ∷ 0x33 ∷ 0x64 ∷ 7 ∷ 0x69 ∷ 0x6a ∷ 0x6b ∷ 0x6c ∷ 0x6d ∷ 0x6e ∷ 0x6f ∷ 0x70 ∷ []

later_fragment_accepted : packet_refusal prefixes later_fragment 28 ≡ None
unfolding embedded extracted to_ipv4_refusal to_ipv6_refusal skipped_from prefixes later_fragment
later_fragment_accepted = refl

later_fragment_translated : translated_packet prefixes 0xbeef later_fragment ≡ later_fragment_ipv4
unfolding embedded extracted to_ipv4_refusal to_ipv6_refusal skipped_from folded prefixes later_fragment later_fragment_ipv4
later_fragment_translated = refl

-- the same fragment, but with an authentication header after its fragment header
extended_fragment : List ℕ
extended_fragment =
    0x6b ∷ 0x90 ∷ 0 ∷ 0 ∷ 0 ∷ 0x10 ∷ 0x2c ∷ 0x3f ∷ 0x20 ∷ 1 ∷ 0x0d ∷ 0xb8 ∷ 0xc0 ∷ 0 ∷ 2 ∷ 0x21
    ∷ 0 ∷ 0 ∷ 0 ∷ 0 ∷ 0 ∷ 0 ∷ 0 ∷ 0 ∷ 0x20 ∷ 1 ∷ 0x0d ∷ 0xb8 ∷ 1 ∷ 0x22 ∷ 3 ∷ 0x44
    ∷ 0 ∷ 0 ∷ 0 ∷ 0 ∷ 0xc6 ∷ 0x33 ∷ 0x64 ∷ 7 ∷ 0x33 ∷ 0 ∷ 0 ∷ 0x10 ∷ 0xab ∷ 0xcd ∷ 0x12 ∷ 0x34
    ∷ 0x69 ∷ 0x6a ∷ 0x6b ∷ 0x6c ∷ 0x6d ∷ 0x6e ∷ 0x6f ∷ 0x70 ∷ []

extended_fragment_refused : packet_refusal prefixes extended_fragment 100 ≡ Some (Header (ExtensionHeader 51))
unfolding embedded extracted to_ipv4_refusal to_ipv6_refusal skipped_from prefixes extended_fragment
extended_fragment_refused = refl

-- an echo request in an atomic fragment
atomic_fragment : List ℕ
atomic_fragment =
    0x6b ∷ 0x90 ∷ 0 ∷ 0 ∷ 0 ∷ 0x14 ∷ 0x2c ∷ 0x3f ∷ 0x20 ∷ 1 ∷ 0x0d ∷ 0xb8 ∷ 0xc0 ∷ 0 ∷ 2 ∷ 0x21
    ∷ 0 ∷ 0 ∷ 0 ∷ 0 ∷ 0 ∷ 0 ∷ 0 ∷ 0 ∷ 0x20 ∷ 1 ∷ 0x0d ∷ 0xb8 ∷ 1 ∷ 0x22 ∷ 3 ∷ 0x44
    ∷ 0 ∷ 0 ∷ 0 ∷ 0 ∷ 0xc6 ∷ 0x33 ∷ 0x64 ∷ 7 ∷ 0x3a ∷ 0 ∷ 0 ∷ 0 ∷ 0 ∷ 0 ∷ 0 ∷ 0x77
    ∷ 0x80 ∷ 0 ∷ 0x42 ∷ 0x78 ∷ 0x12 ∷ 0x34 ∷ 0 ∷ 7 ∷ 0x70 ∷ 0x69 ∷ 0x6e ∷ 0x67 ∷ []

-- over IPv4 it is a whole packet with the identification of its fragment header
atomic_fragment_ipv4 : List ℕ
atomic_fragment_ipv4 =
    0x45 ∷ 0xb9 ∷ 0 ∷ 0x20 ∷ 0 ∷ 0x77 ∷ 0 ∷ 0 ∷ 0x3e ∷ 1 ∷ 0x8f ∷ 0x51 ∷ 0xc0 ∷ 0 ∷ 2 ∷ 0x21
    ∷ 0xc6 ∷ 0x33 ∷ 0x64 ∷ 7 ∷ 8 ∷ 0 ∷ 6 ∷ 0xf4 ∷ 0x12 ∷ 0x34 ∷ 0 ∷ 7 ∷ 0x70 ∷ 0x69 ∷ 0x6e ∷ 0x67 ∷ []

atomic_fragment_translated : translated_packet prefixes 0xbeef atomic_fragment ≡ atomic_fragment_ipv4
unfolding embedded extracted to_ipv4_refusal to_ipv6_refusal skipped_from folded prefixes atomic_fragment atomic_fragment_ipv4
atomic_fragment_translated = refl

-- "packet too big" with an MTU of 1420 bytes, about a TCP segment
packet_too_big : List ℕ
packet_too_big =
    0x60 ∷ 0 ∷ 0 ∷ 0 ∷ 0 ∷ 0x47 ∷ 0x3a ∷ 0x3f ∷ 0x20 ∷ 1 ∷ 0x0d ∷ 0xb8 ∷ 0xc0 ∷ 0 ∷ 2 ∷ 0x21
    ∷ 0 ∷ 0 ∷ 0 ∷ 0 ∷ 0 ∷ 0 ∷ 0 ∷ 0 ∷ 0x20 ∷ 1 ∷ 0x0d ∷ 0xb8 ∷ 1 ∷ 0x22 ∷ 3 ∷ 0x44
    ∷ 0 ∷ 0 ∷ 0 ∷ 0 ∷ 0xc6 ∷ 0x33 ∷ 0x64 ∷ 7 ∷ 2 ∷ 0 ∷ 0x45 ∷ 0xc2 ∷ 0 ∷ 0 ∷ 5 ∷ 0x8c
    ∷ 0x60 ∷ 0 ∷ 0 ∷ 0 ∷ 0 ∷ 0x17 ∷ 6 ∷ 1 ∷ 0x20 ∷ 1 ∷ 0x0d ∷ 0xb8 ∷ 1 ∷ 0x22 ∷ 3 ∷ 0x44
    ∷ 0 ∷ 0 ∷ 0 ∷ 0 ∷ 0xc6 ∷ 0x33 ∷ 0x64 ∷ 7 ∷ 0x20 ∷ 1 ∷ 0x0d ∷ 0xb8 ∷ 0xc0 ∷ 0 ∷ 2 ∷ 0x21
    ∷ 0 ∷ 0 ∷ 0 ∷ 0 ∷ 0 ∷ 0 ∷ 0 ∷ 0 ∷ 4 ∷ 0xd2 ∷ 0 ∷ 0x15 ∷ 1 ∷ 2 ∷ 3 ∷ 4
    ∷ 5 ∷ 6 ∷ 7 ∷ 8 ∷ 0x50 ∷ 0x18 ∷ 0x20 ∷ 0 ∷ 0x6a ∷ 0x37 ∷ 0 ∷ 0 ∷ 0x61 ∷ 0x62 ∷ 0x63 ∷ []

-- over IPv4: fragmentation is needed, with an MTU of 1400 bytes
packet_too_big_ipv4 : List ℕ
packet_too_big_ipv4 =
    0x45 ∷ 0 ∷ 0 ∷ 0x47 ∷ 0xbe ∷ 0xef ∷ 0 ∷ 0 ∷ 0x3e ∷ 1 ∷ 0xd1 ∷ 0x6a ∷ 0xc0 ∷ 0 ∷ 2 ∷ 0x21
    ∷ 0xc6 ∷ 0x33 ∷ 0x64 ∷ 7 ∷ 3 ∷ 4 ∷ 0xe3 ∷ 0xfd ∷ 0 ∷ 0 ∷ 5 ∷ 0x78 ∷ 0x45 ∷ 0 ∷ 0 ∷ 0x2b
    ∷ 0 ∷ 0 ∷ 0 ∷ 0 ∷ 1 ∷ 6 ∷ 0xcd ∷ 0x71 ∷ 0xc6 ∷ 0x33 ∷ 0x64 ∷ 7 ∷ 0xc0 ∷ 0 ∷ 2 ∷ 0x21
    ∷ 4 ∷ 0xd2 ∷ 0 ∷ 0x15 ∷ 1 ∷ 2 ∷ 3 ∷ 4 ∷ 5 ∷ 6 ∷ 7 ∷ 8 ∷ 0x50 ∷ 0x18 ∷ 0x20 ∷ 0
    ∷ 0xca ∷ 0x0f ∷ 0 ∷ 0 ∷ 0x61 ∷ 0x62 ∷ 0x63 ∷ []

error_accepted : packet_refusal prefixes packet_too_big 71 ≡ None
unfolding embedded extracted to_ipv4_refusal to_ipv6_refusal skipped_from folded prefixes packet_too_big
error_accepted = refl

error_translated : translated_packet prefixes 0xbeef packet_too_big ≡ packet_too_big_ipv4
unfolding embedded extracted to_ipv4_refusal to_ipv6_refusal skipped_from folded prefixes packet_too_big packet_too_big_ipv4
error_translated = refl

-- "time exceeded" about a fragment after hop-by-hop options and a routing header without segments left; four bytes of its eight are quoted
quoted_fragment : List ℕ
quoted_fragment =
    0x60 ∷ 0 ∷ 0 ∷ 0 ∷ 0 ∷ 0x4c ∷ 0x3a ∷ 0x3f ∷ 0x20 ∷ 1 ∷ 0x0d ∷ 0xb8 ∷ 0xc0 ∷ 0 ∷ 2 ∷ 0x21
    ∷ 0 ∷ 0 ∷ 0 ∷ 0 ∷ 0 ∷ 0 ∷ 0 ∷ 0 ∷ 0x20 ∷ 1 ∷ 0x0d ∷ 0xb8 ∷ 1 ∷ 0x22 ∷ 3 ∷ 0x44
    ∷ 0 ∷ 0 ∷ 0 ∷ 0 ∷ 0xc6 ∷ 0x33 ∷ 0x64 ∷ 7 ∷ 3 ∷ 0 ∷ 8 ∷ 0 ∷ 0 ∷ 0 ∷ 0 ∷ 0
    ∷ 0x60 ∷ 0 ∷ 0 ∷ 0 ∷ 0 ∷ 0x20 ∷ 0 ∷ 1 ∷ 0x20 ∷ 1 ∷ 0x0d ∷ 0xb8 ∷ 1 ∷ 0x22 ∷ 3 ∷ 0x44
    ∷ 0 ∷ 0 ∷ 0 ∷ 0 ∷ 0xc6 ∷ 0x33 ∷ 0x64 ∷ 7 ∷ 0x20 ∷ 1 ∷ 0x0d ∷ 0xb8 ∷ 0xc0 ∷ 0 ∷ 2 ∷ 0x21
    ∷ 0 ∷ 0 ∷ 0 ∷ 0 ∷ 0 ∷ 0 ∷ 0 ∷ 0 ∷ 0x2b ∷ 0 ∷ 1 ∷ 4 ∷ 0 ∷ 0 ∷ 0 ∷ 0
    ∷ 0x2c ∷ 0 ∷ 0 ∷ 0 ∷ 0 ∷ 0 ∷ 0 ∷ 0 ∷ 0x11 ∷ 0 ∷ 0 ∷ 0x11 ∷ 0xab ∷ 0xcd ∷ 0x12 ∷ 0x34
    ∷ 0x69 ∷ 0x6a ∷ 0x6b ∷ 0x6c ∷ []

-- over IPv4 the quoted packet has no extension headers, and its total length counts all bytes
quoted_fragment_ipv4 : List ℕ
quoted_fragment_ipv4 =
    0x45 ∷ 0 ∷ 0 ∷ 0x34 ∷ 0xbe ∷ 0xef ∷ 0 ∷ 0 ∷ 0x3e ∷ 1 ∷ 0xd1 ∷ 0x7d ∷ 0xc0 ∷ 0 ∷ 2 ∷ 0x21
    ∷ 0xc6 ∷ 0x33 ∷ 0x64 ∷ 7 ∷ 0x0b ∷ 0 ∷ 0x20 ∷ 0x29 ∷ 0 ∷ 0 ∷ 0 ∷ 0 ∷ 0x45 ∷ 0 ∷ 0 ∷ 0x1c
    ∷ 0x12 ∷ 0x34 ∷ 0x20 ∷ 2 ∷ 1 ∷ 0x11 ∷ 0x9b ∷ 0x3f ∷ 0xc6 ∷ 0x33 ∷ 0x64 ∷ 7 ∷ 0xc0 ∷ 0 ∷ 2 ∷ 0x21
    ∷ 0x69 ∷ 0x6a ∷ 0x6b ∷ 0x6c ∷ []

quoted_fragment_accepted : packet_refusal prefixes quoted_fragment 52 ≡ None
unfolding embedded extracted to_ipv4_refusal to_ipv6_refusal skipped_from folded prefixes quoted_fragment
quoted_fragment_accepted = refl

quoted_fragment_translated : translated_packet prefixes 0xbeef quoted_fragment ≡ quoted_fragment_ipv4
unfolding embedded extracted to_ipv4_refusal to_ipv6_refusal skipped_from folded prefixes quoted_fragment quoted_fragment_ipv4
quoted_fragment_translated = refl
