-- Worked examples of UDP, TCP, ICMPv4 and ICMPv6: each protocol follows its own definitions.
use Rattle.std.proofs.Common.{◌≡◌, ◌/◌, ◌%◌, slice_range, ℕ, List, [], ◌∷◌, ◌++◌, replicate, Some, None, refl}
use Rattle.icmp_part.specs.Icmpv4Format as icmpv4
use Rattle.icmp_part.specs.Icmpv6Format as icmpv6
use Rattle.ip_part.specs.declared.proto.Proto.TheVariants.{Udp, Tcp, Icmpv4, Icmpv6}
use Rattle.ip_part.specs.Ip.{headers_to_transport}
use Rattle.ip_part.specs.Options.{options_within}
use Rattle.net_base.specs.declared.err.layer.Layer.TheVariants as layers
use Rattle.net_base.specs.declared.err.len_source.LenSource.TheVariants.{Slice}
use Rattle.net_base.specs.declared.err.tcp.header_error.HeaderError.TheVariants.{DataOffsetTooSmall}
use Rattle.net_base.specs.declared.err.tcp.header_slice_error.HeaderSliceError.TheVariants.{Len, Content}
use Rattle.word_sum.specs.Checksum.{folded}
use Rattle.etherparse_transport.specs.EchoReplies.{answer_refusal, reply}
use Rattle.etherparse_transport.specs.HopLimits.{lower_refusal, lowered}
use Rattle.etherparse_transport.specs.Ipv4Translations.{ipv4_refusal, ipv4_translated}
use Rattle.etherparse_transport.specs.Ipv6Translations.{ipv6_refusal, ipv6_translated}
use Rattle.etherparse_transport.specs.SkippedHeaders.{skip}
use Rattle.etherparse_transport.specs.WaysBack.{ipv4_way_back}
use Rattle.etherparse_transport.specs.declared.err.packet.answer_echo_error.AnswerEchoError.TheVariants.{Options}
use Rattle.etherparse_transport.specs.declared.err.packet.translate_error.TranslateError.TheVariants.{Protocol}
use Rattle.etherparse_transport.specs.declared.ip.ipv4_translation.Ipv4Translation.{Ipv4Translation}
use Rattle.etherparse_transport.specs.declared.ip.ipv6_translation.Ipv6Translation.{Ipv6Translation}
use Rattle.etherparse_transport.specs.Formats.{canonical, refusal}
use Rattle.etherparse_transport.specs.declared.err.packet.lower_hop_limit_error.LowerHopLimitError.TheVariants.{Expired}
use Rattle.transport_part.specs.Layouts.{layout_of}

udp_of_seven_bytes : refusal Udp (replicate 7 0)
    ≡ Some (Len (record { required_len = 8; len = 7; len_source = Slice; layer = layers.UdpHeader; layer_start_offset = 0 }))
udp_of_seven_bytes = refl

tcp_of_nineteen_bytes : refusal Tcp (replicate 12 0 ++ (0x40 ∷ replicate 6 0))
    ≡ Some (Len (record { required_len = 20; len = 19; len_source = Slice; layer = layers.TcpHeader; layer_start_offset = 0 }))
tcp_of_nineteen_bytes = refl

tcp_of_four_words : refusal Tcp (replicate 12 0 ++ (0x40 ∷ replicate 7 0)) ≡ Some (Content (DataOffsetTooSmall 4))
tcp_of_four_words = refl

icmpv4_of_two_bytes : refusal Icmpv4 (13 ∷ 0 ∷ [])
    ≡ Some (Len (record { required_len = 8; len = 2; len_source = Slice; layer = layers.Icmpv4; layer_start_offset = 0 }))
icmpv4_of_two_bytes = refl

icmpv6_of_two_bytes : refusal Icmpv6 (13 ∷ 0 ∷ [])
    ≡ Some (Len (record { required_len = 8; len = 2; len_source = Slice; layer = layers.Icmpv6; layer_start_offset = 0 }))
icmpv6_of_two_bytes = refl

-- the same bytes are a timestamp of ICMPv4, a UDP packet, and an unknown message of ICMPv6
twenty_one_bytes : refusal Icmpv4 (13 ∷ replicate 20 0)
    ≡ Some (Len (record { required_len = 20; len = 21; len_source = Slice; layer = layers.Icmpv4Timestamp; layer_start_offset = 0 }))
twenty_one_bytes = refl

twenty_one_bytes_udp : refusal Udp (13 ∷ replicate 20 0) ≡ None
twenty_one_bytes_udp = refl

twenty_one_bytes_icmpv6 : refusal Icmpv6 (13 ∷ replicate 20 0) ≡ None
twenty_one_bytes_icmpv6 = refl

reserved_bits_cleared : canonical Tcp (replicate 12 0 ++ (0x5F ∷ replicate 7 0)) ≡ replicate 12 0 ++ (0x51 ∷ replicate 7 0)
reserved_bits_cleared = refl

unused_of_fragmentation_needed : canonical Icmpv4 (3 ∷ 4 ∷ 0 ∷ 0 ∷ 1 ∷ 2 ∷ 5 ∷ 0xDC ∷ []) ≡ 3 ∷ 4 ∷ 0 ∷ 0 ∷ 0 ∷ 0 ∷ 5 ∷ 0xDC ∷ []
unfolding icmpv4.format_of
unused_of_fragmentation_needed = refl

flags_of_neighbor_advertisement : canonical Icmpv6 (0x88 ∷ 0 ∷ 0 ∷ 0 ∷ 0xFF ∷ 0xFF ∷ 0xFF ∷ 0xFF ∷ []) ≡ 0x88 ∷ 0 ∷ 0 ∷ 0 ∷ 0xE0 ∷ 0 ∷ 0 ∷ 0
    ∷ []
unfolding icmpv6.format_of
flags_of_neighbor_advertisement = refl

length_of_a_timestamp : (layout_of Icmpv4 (14 ∷ replicate 19 0)).header_len ≡ 20
unfolding icmpv4.format_of
length_of_a_timestamp = refl

-- ---- the reply to an echo request, computed apart from these definitions

echo_request : List ℕ
echo_request =
    0x45 ∷ 0x10 ∷ 0 ∷ 0x20 ∷ 0x12 ∷ 0x34 ∷ 0x40 ∷ 0 ∷ 0x37 ∷ 1 ∷ 0xAD ∷ 0x95 ∷ 0xC0 ∷ 0 ∷ 2 ∷ 1 ∷ 0xC0 ∷ 0 ∷ 2 ∷ 2 ∷ 8 ∷ 0 ∷
    0x6D ∷ 0x5A ∷ 0xAB ∷ 0xCD ∷ 0 ∷ 7 ∷ 0x70 ∷ 0x69 ∷ 0x6E ∷ 0x67 ∷ []

echo_request_accepted : answer_refusal echo_request ≡ None
unfolding echo_request folded headers_to_transport options_within
echo_request_accepted = refl

echo_request_answered : reply 64 echo_request
    ≡ 0x45 ∷ 0x10 ∷ 0 ∷ 0x20 ∷ 0x12 ∷ 0x34 ∷ 0x40 ∷ 0 ∷ 0x40 ∷ 1 ∷ 0xA4 ∷ 0x95 ∷ 0xC0 ∷ 0 ∷ 2 ∷ 2 ∷ 0xC0 ∷ 0 ∷ 2 ∷ 1 ∷ 0 ∷ 0 ∷
    0x75 ∷ 0x5A ∷ 0xAB ∷ 0xCD ∷ 0 ∷ 7 ∷ 0x70 ∷ 0x69 ∷ 0x6E ∷ 0x67 ∷ []
unfolding echo_request folded
echo_request_answered = refl

-- a request with the reserved flag, and with the time to live 0
echo_request_with_flag : List ℕ
echo_request_with_flag =
    0x45 ∷ 0x10 ∷ 0 ∷ 0x20 ∷ 0x12 ∷ 0x34 ∷ 0x80 ∷ 0 ∷ 0 ∷ 1 ∷ 0xA4 ∷ 0x95 ∷ 0xC0 ∷ 0 ∷ 2 ∷ 1 ∷ 0xC0 ∷ 0 ∷ 2 ∷ 2 ∷ 8 ∷ 0 ∷
    0x6D ∷ 0x5A ∷ 0xAB ∷ 0xCD ∷ 0 ∷ 7 ∷ 0x70 ∷ 0x69 ∷ 0x6E ∷ 0x67 ∷ []

echo_request_with_flag_accepted : answer_refusal echo_request_with_flag ≡ None
unfolding echo_request_with_flag folded headers_to_transport options_within
echo_request_with_flag_accepted = refl

echo_request_with_flag_answered : reply 64 echo_request_with_flag
    ≡ 0x45 ∷ 0x10 ∷ 0 ∷ 0x20 ∷ 0x12 ∷ 0x34 ∷ 0x40 ∷ 0 ∷ 0x40 ∷ 1 ∷ 0xA4 ∷ 0x95 ∷ 0xC0 ∷ 0 ∷ 2 ∷ 2 ∷ 0xC0 ∷ 0 ∷ 2 ∷ 1 ∷ 0 ∷ 0 ∷
    0x75 ∷ 0x5A ∷ 0xAB ∷ 0xCD ∷ 0 ∷ 7 ∷ 0x70 ∷ 0x69 ∷ 0x6E ∷ 0x67 ∷ []
unfolding echo_request_with_flag folded
echo_request_with_flag_answered = refl

-- a request with the options "no operation" and "end of option list"
echo_request_with_padding : List ℕ
echo_request_with_padding =
    0x46 ∷ 0x10 ∷ 0 ∷ 0x24 ∷ 0x12 ∷ 0x34 ∷ 0x40 ∷ 0 ∷ 0x37 ∷ 1 ∷ 0xAA ∷ 0x90 ∷ 0xC0 ∷ 0 ∷ 2 ∷ 1 ∷ 0xC0 ∷ 0 ∷ 2 ∷ 2 ∷ 1 ∷ 1 ∷ 1 ∷ 0 ∷
    8 ∷ 0 ∷ 0x6D ∷ 0x5A ∷ 0xAB ∷ 0xCD ∷ 0 ∷ 7 ∷ 0x70 ∷ 0x69 ∷ 0x6E ∷ 0x67 ∷ []

echo_request_with_padding_accepted : answer_refusal echo_request_with_padding ≡ None
unfolding echo_request_with_padding folded headers_to_transport options_within
echo_request_with_padding_accepted = refl

-- the last four bytes are those of the request, after the reply
echo_request_with_padding_answered : reply 64 echo_request_with_padding
    ≡ 0x45 ∷ 0x10 ∷ 0 ∷ 0x20 ∷ 0x12 ∷ 0x34 ∷ 0x40 ∷ 0 ∷ 0x40 ∷ 1 ∷ 0xA4 ∷ 0x95 ∷ 0xC0 ∷ 0 ∷ 2 ∷ 2 ∷ 0xC0 ∷ 0 ∷ 2 ∷ 1 ∷ 0 ∷ 0 ∷
    0x75 ∷ 0x5A ∷ 0xAB ∷ 0xCD ∷ 0 ∷ 7 ∷ 0x70 ∷ 0x69 ∷ 0x6E ∷ 0x67 ∷ 0x70 ∷ 0x69 ∷ 0x6E ∷ 0x67 ∷ []
unfolding echo_request_with_padding folded
echo_request_with_padding_answered = refl

-- a request with a record route, option 7, has no reply
echo_request_with_route_refused : answer_refusal (
    0x46 ∷ 0x10 ∷ 0 ∷ 0x24 ∷ 0x12 ∷ 0x34 ∷ 0x40 ∷ 0 ∷ 0x37 ∷ 1 ∷ 0xA1 ∷ 0x8E ∷ 0xC0 ∷ 0 ∷ 2 ∷ 1 ∷ 0xC0 ∷ 0 ∷ 2 ∷ 2 ∷ 7 ∷ 3 ∷ 4 ∷ 0 ∷
    8 ∷ 0 ∷ 0x6D ∷ 0x5A ∷ 0xAB ∷ 0xCD ∷ 0 ∷ 7 ∷ 0x70 ∷ 0x69 ∷ 0x6E ∷ 0x67 ∷ []) ≡ Some Options
unfolding folded headers_to_transport options_within
echo_request_with_route_refused = refl

echo_request_over_ipv6 : List ℕ
echo_request_over_ipv6 =
    0x60 ∷ 0x12 ∷ 0x34 ∷ 0x56 ∷ 0 ∷ 0x0C ∷ 0x3A ∷ 0x37 ∷ 0x20 ∷ 1 ∷ 0x0D ∷ 0xB8 ∷ 0 ∷ 0 ∷ 0 ∷ 0 ∷ 0 ∷ 0 ∷ 0 ∷ 0 ∷ 0 ∷ 0 ∷ 0 ∷ 1 ∷
    0x20 ∷ 1 ∷ 0x0D ∷ 0xB8 ∷ 0 ∷ 0 ∷ 0 ∷ 0 ∷ 0 ∷ 0 ∷ 0 ∷ 0 ∷ 0 ∷ 0 ∷ 0 ∷ 2 ∷ 0x80 ∷ 0 ∷ 0x99 ∷ 0x9E ∷ 0xAB ∷ 0xCD ∷ 0 ∷ 7 ∷
    0x70 ∷ 0x69 ∷ 0x6E ∷ 0x67 ∷ []

echo_request_over_ipv6_accepted : answer_refusal echo_request_over_ipv6 ≡ None
unfolding echo_request_over_ipv6 folded headers_to_transport
echo_request_over_ipv6_accepted = refl

echo_request_over_ipv6_answered : reply 64 echo_request_over_ipv6
    ≡ 0x60 ∷ 0x12 ∷ 0x34 ∷ 0x56 ∷ 0 ∷ 0x0C ∷ 0x3A ∷ 0x40 ∷ 0x20 ∷ 1 ∷ 0x0D ∷ 0xB8 ∷ 0 ∷ 0 ∷ 0 ∷ 0 ∷ 0 ∷ 0 ∷ 0 ∷ 0 ∷ 0 ∷ 0 ∷ 0 ∷ 2 ∷
    0x20 ∷ 1 ∷ 0x0D ∷ 0xB8 ∷ 0 ∷ 0 ∷ 0 ∷ 0 ∷ 0 ∷ 0 ∷ 0 ∷ 0 ∷ 0 ∷ 0 ∷ 0 ∷ 1 ∷ 0x81 ∷ 0 ∷ 0x98 ∷ 0x9E ∷ 0xAB ∷ 0xCD ∷ 0 ∷ 7 ∷
    0x70 ∷ 0x69 ∷ 0x6E ∷ 0x67 ∷ []
unfolding echo_request_over_ipv6 folded
echo_request_over_ipv6_answered = refl

-- ---- packets that are translated there and back

-- A UDP packet over IPv4, from port 5000 of 192.168.1.2 to port 53 of 198.51.100.7, with this header checksum and this UDP checksum.
abbrev udp_packet : ℕ → ℕ → List ℕ
udp_packet header udp = 0x45 ∷ 0 ∷ 0 ∷ 28 ∷ 0 ∷ 0 ∷ 0 ∷ 0 ∷ 64 ∷ 17 ∷ header / 256 ∷ header % 256 ∷ 192 ∷ 168 ∷ 1 ∷ 2 ∷ 198 ∷ 51 ∷ 100 ∷ 7
    ∷ 0x13 ∷ 0x88 ∷ 0 ∷ 53 ∷ 0 ∷ 8 ∷ udp / 256 ∷ udp % 256 ∷ []

-- an echo reply from 192.168.1.2 to 198.51.100.7, with this checksum
abbrev echo_reply : ℕ → List ℕ
echo_reply checksum = 0x45 ∷ 0 ∷ 0 ∷ 28 ∷ 0 ∷ 0 ∷ 0 ∷ 0 ∷ 64 ∷ 1 ∷ 0 ∷ 1 ∷ 192 ∷ 168 ∷ 1 ∷ 2 ∷ 198 ∷ 51 ∷ 100 ∷ 7
    ∷ 0 ∷ 0 ∷ checksum / 256 ∷ checksum % 256 ∷ 0 ∷ 7 ∷ 0 ∷ 1 ∷ []

-- a translation to another source and source port, and to another destination port or identifier
abbrev other_source : Ipv4Translation
other_source = record {
  source =
      Some (203 ∷ 0 ∷ 113 ∷ 7 ∷ []);
  destination = None;
  source_port = Some 40000;
  destination_port = Some 50000;
}

there_and_back : List ℕ → List ℕ
there_and_back packet = ipv4_translated (ipv4_way_back other_source packet) (ipv4_translated other_source packet)

restored : there_and_back (udp_packet 0x8EEC 0x003C) ≡ udp_packet 0x8EEC 0x003C
unfolding there_and_back folded
restored = refl

-- a header checksum of all ones comes back as 0, and a UDP checksum of all ones comes back
header_lost : there_and_back (udp_packet 0xFFFF 0xFFFF) ≡ udp_packet 0 0xFFFF
unfolding there_and_back folded
header_lost = refl

-- a checksum of all ones in an echo reply comes back as 0, and 0 comes back
reply_lost : there_and_back (echo_reply 0xFFFF) ≡ echo_reply 0
unfolding there_and_back folded
reply_lost = refl

reply_restored : there_and_back (echo_reply 0) ≡ echo_reply 0
unfolding there_and_back folded
reply_restored = refl

-- a time exceeded message from this host in 192.168.1.0/24, which quotes a UDP packet to 192.168.1.2
abbrev time_exceeded : ℕ → List ℕ
time_exceeded host = 0x45 ∷ 0 ∷ 0 ∷ 56 ∷ 0 ∷ 0 ∷ 0 ∷ 0 ∷ 64 ∷ 1 ∷ 0 ∷ 1 ∷ 192 ∷ 168 ∷ 1 ∷ host ∷ 198 ∷ 51 ∷ 100 ∷ 7 ∷ 11 ∷ 0 ∷ 0 ∷ 1 ∷ 0 ∷ 0
    ∷ 0 ∷ 0
    ∷ 0x45 ∷ 0 ∷ 0 ∷ 28 ∷ 0 ∷ 0 ∷ 0 ∷ 0 ∷ 64 ∷ 17 ∷ 0 ∷ 1 ∷ 198 ∷ 51 ∷ 100 ∷ 7 ∷ 192 ∷ 168 ∷ 1 ∷ 2 ∷ 0 ∷ 53 ∷ 0x13 ∷ 0x88 ∷ 0 ∷ 8 ∷ 0 ∷ 0
    ∷ []

-- an error from the host 192.168.1.2 comes back, and an error from a router in front of the host comes back as an error from the host
error_restored : there_and_back (time_exceeded 2) ≡ time_exceeded 2
unfolding there_and_back folded
error_restored = refl

router_lost : slice_range (there_and_back (time_exceeded 1)) 12 16 ≡ 192 ∷ 168 ∷ 1 ∷ 2 ∷ []
unfolding there_and_back folded
router_lost = refl

-- ---- a quoted packet whose total length leaves out the header

-- A port unreachable message of 192.168.1.2, as a host that follows BSD sends it. The packet that it quotes went from port 53 of
-- 198.51.100.7 to port 5000. The total length of this packet is 8, which is below the length of its header.
abbrev quoted_by_bsd : List ℕ
quoted_by_bsd =
    0x45 ∷ 0 ∷ 0 ∷ 0x38 ∷ 0x12 ∷ 0x34 ∷ 0 ∷ 0 ∷ 0x40 ∷ 1 ∷ 0x7C ∷ 0xAC ∷ 0xC0 ∷ 0xA8 ∷ 1 ∷ 2 ∷ 0xC6 ∷ 0x33 ∷ 0x64 ∷ 7 ∷ 3 ∷ 3 ∷ 0xE8 ∷
    0xFB ∷ 0 ∷ 0 ∷ 0 ∷ 0 ∷ 0x45 ∷ 0 ∷ 0 ∷ 8 ∷ 0x12 ∷ 0x34 ∷ 0 ∷ 0 ∷ 1 ∷ 0x11 ∷ 0xBB ∷ 0xCC ∷ 0xC6 ∷ 0x33 ∷ 0x64 ∷ 7 ∷ 0xC0 ∷ 0xA8 ∷ 1 ∷
    2 ∷ 0 ∷ 0x35 ∷ 0x13 ∷ 0x88 ∷ 0 ∷ 8 ∷ 0 ∷ 0x3C ∷ []

quoted_by_bsd_accepted : ipv4_refusal other_source quoted_by_bsd ≡ None
unfolding headers_to_transport options_within
quoted_by_bsd_accepted = refl

-- the quoted packet now went to port 40000 of 203.0.113.7, and its checksums are right
quoted_by_bsd_translated : ipv4_translated other_source quoted_by_bsd ≡
    0x45 ∷ 0 ∷ 0 ∷ 0x38 ∷ 0x12 ∷ 0x34 ∷ 0 ∷ 0 ∷ 0x40 ∷ 1 ∷ 2 ∷ 0x4F ∷ 0xCB ∷ 0 ∷ 0x71 ∷ 7 ∷ 0xC6 ∷ 0x33 ∷ 0x64 ∷ 7 ∷ 3 ∷ 3 ∷ 0x63 ∷
    0x59 ∷ 0 ∷ 0 ∷ 0 ∷ 0 ∷ 0x45 ∷ 0 ∷ 0 ∷ 8 ∷ 0x12 ∷ 0x34 ∷ 0 ∷ 0 ∷ 1 ∷ 0x11 ∷ 0x41 ∷ 0x6F ∷ 0xC6 ∷ 0x33 ∷ 0x64 ∷ 7 ∷ 0xCB ∷ 0 ∷ 0x71 ∷
    7 ∷ 0xC3 ∷ 0x50 ∷ 0x9C ∷ 0x40 ∷ 0 ∷ 8 ∷ 0x3A ∷ 0x0A ∷ []
unfolding folded
quoted_by_bsd_translated = refl

-- ---- extension headers of IPv6

-- to another source and port
abbrev other_ipv6_source : Ipv6Translation
other_ipv6_source = record {
  source = Some (0x20 ∷ 1 ∷ 0x0D ∷ 0xB8 ∷ 0 ∷ 1 ∷ 0 ∷ 0 ∷ 0 ∷ 0 ∷ 0 ∷ 0 ∷ 0 ∷ 0 ∷ 0 ∷ 7 ∷ []);
  destination = None;
  source_port = Some 40000;
  destination_port = None;
}

-- UDP behind hop-by-hop options and destination options
abbrev behind_options : List ℕ
behind_options =
    0x60 ∷ 1 ∷ 0x23 ∷ 0x45 ∷ 0 ∷ 0x18 ∷ 0 ∷ 0x40 ∷ 0xFD ∷ 0 ∷ 0 ∷ 0 ∷ 0 ∷ 0 ∷ 0 ∷ 0 ∷ 0 ∷ 0 ∷ 0 ∷ 0 ∷ 0 ∷ 0 ∷ 0 ∷ 2 ∷ 0x20 ∷ 1 ∷ 0x0D ∷
    0xB8 ∷ 0 ∷ 2 ∷ 0 ∷ 0 ∷ 0 ∷ 0 ∷ 0 ∷ 0 ∷ 0 ∷ 0 ∷ 0 ∷ 9 ∷ 0x3C ∷ 0 ∷ 1 ∷ 4 ∷ 0 ∷ 0 ∷ 0 ∷ 0 ∷ 0x11 ∷ 0 ∷ 1 ∷ 4 ∷ 0 ∷ 0 ∷ 0 ∷ 0 ∷ 0x13 ∷
    0x88 ∷ 0 ∷ 0x35 ∷ 0 ∷ 8 ∷ 0xC1 ∷ 0x5A ∷ []

behind_options_accepted : ipv6_refusal other_ipv6_source behind_options ≡ None
unfolding headers_to_transport options_within skip
behind_options_accepted = refl

behind_options_translated : ipv6_translated other_ipv6_source behind_options ≡
    0x60 ∷ 1 ∷ 0x23 ∷ 0x45 ∷ 0 ∷ 0x18 ∷ 0 ∷ 0x40 ∷ 0x20 ∷ 1 ∷ 0x0D ∷ 0xB8 ∷ 0 ∷ 1 ∷ 0 ∷ 0 ∷ 0 ∷ 0 ∷ 0 ∷ 0 ∷ 0 ∷ 0 ∷ 0 ∷ 7 ∷ 0x20 ∷ 1 ∷
    0x0D ∷ 0xB8 ∷ 0 ∷ 2 ∷ 0 ∷ 0 ∷ 0 ∷ 0 ∷ 0 ∷ 0 ∷ 0 ∷ 0 ∷ 0 ∷ 9 ∷ 0x3C ∷ 0 ∷ 1 ∷ 4 ∷ 0 ∷ 0 ∷ 0 ∷ 0 ∷ 0x11 ∷ 0 ∷ 1 ∷ 4 ∷ 0 ∷ 0 ∷ 0 ∷ 0 ∷
    0x9C ∷ 0x40 ∷ 0 ∷ 0x35 ∷ 0 ∷ 8 ∷ 7 ∷ 0xE4 ∷ []
unfolding folded options_within skip
behind_options_translated = refl

-- UDP behind destination options with a home address, option 0xC9
abbrev behind_home_address : List ℕ
behind_home_address =
    0x60 ∷ 1 ∷ 0x23 ∷ 0x45 ∷ 0 ∷ 0x20 ∷ 0x3C ∷ 0x40 ∷ 0xFD ∷ 0 ∷ 0 ∷ 0 ∷ 0 ∷ 0 ∷ 0 ∷ 0 ∷ 0 ∷ 0 ∷ 0 ∷ 0 ∷ 0 ∷ 0 ∷ 0 ∷ 2 ∷ 0x20 ∷ 1 ∷
    0x0D ∷ 0xB8 ∷ 0 ∷ 2 ∷ 0 ∷ 0 ∷ 0 ∷ 0 ∷ 0 ∷ 0 ∷ 0 ∷ 0 ∷ 0 ∷ 9 ∷ 0x11 ∷ 2 ∷ 1 ∷ 2 ∷ 0 ∷ 0 ∷ 0xC9 ∷ 0x10 ∷ 0x20 ∷ 1 ∷ 0x0D ∷ 0xB8 ∷ 0 ∷
    4 ∷ 0 ∷ 0 ∷ 0 ∷ 0 ∷ 0 ∷ 0 ∷ 0 ∷ 0 ∷ 0 ∷ 4 ∷ 0x13 ∷ 0x88 ∷ 0 ∷ 0x35 ∷ 0 ∷ 8 ∷ 0xC1 ∷ 0x5A ∷ []

home_address_refused : ipv6_refusal other_ipv6_source behind_home_address ≡ Some (Protocol (record { 0 = 60 }))
unfolding headers_to_transport options_within skip
home_address_refused = refl

-- a router lowers the time to live from 64 to 63, and the checksum of the header changes from F77D to F87D
lowered_time_to_live : lowered (0x45 ∷ 0 ∷ 0 ∷ 28 ∷ 0 ∷ 0 ∷ 0 ∷ 0 ∷ 64 ∷ 17 ∷ 0xF7 ∷ 0x7D ∷ 192 ∷ 168 ∷ 1 ∷ 1 ∷ 192 ∷ 168 ∷ 1 ∷ 2 ∷ [])
    ≡ 0x45 ∷ 0 ∷ 0 ∷ 28 ∷ 0 ∷ 0 ∷ 0 ∷ 0 ∷ 63 ∷ 17 ∷ 0xF8 ∷ 0x7D ∷ 192 ∷ 168 ∷ 1 ∷ 1 ∷ 192 ∷ 168 ∷ 1 ∷ 2 ∷ []
unfolding folded
lowered_time_to_live = refl

expired_time_to_live : lower_refusal (0x45 ∷ 0 ∷ 0 ∷ 20 ∷ 0 ∷ 0 ∷ 0 ∷ 0 ∷ 1 ∷ replicate 11 0) ≡ Some (Expired 1)
expired_time_to_live = refl
