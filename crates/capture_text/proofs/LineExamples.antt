-- Worked examples of lines and of a summary. A wrong definition fails here before its code is written.
use Rattle.std.proofs.Common.{◌≡◌, ◌++◌, ℕ, false, true, List, [], ◌∷◌, None, Some, codes, refl, replicate}
use Rattle.std.specs.Char.{encode_utf8}
use Rattle.std.specs.Fmt.{char_count, digits, padded, padded_integral, take_chars}
use Rattle.ip_part.specs.declared.proto.Proto.TheVariants.{Tcp, Udp}
use Rattle.transport_part.specs.declared.checksum_verdict.ChecksumVerdict.TheVariants.{Right}
use Rattle.transport_part.specs.declared.checksum_verdict.Untested.TheVariants.{Fragment, OtherProtocol}
use Rattle.transport_part.specs.declared.transport_slice.TransportSlice.TheVariants as slices
use Rattle.capture_file.specs.PacketTexts.{no_packet_texts}
use Rattle.capture_packet.specs.declared.network_protocol.NetworkProtocol.TheVariants.{EtherType}
use Rattle.capture_packet.proofs.PacketExamples.{addresses, packet, reference_to}
use Rattle.capture_packet.specs.Packets.{in_no_tunnel}
use Rattle.capture_packet.specs.Verdicts.{untested}
use Rattle.capture_packet.specs.declared.arp.Arp.TheVariants.{Addresses, Operation}
use Rattle.capture_packet.specs.declared.content.Content.TheVariants.{Ip, NotIp}
use Rattle.capture_packet.specs.declared.fragment_fields.Identification.TheVariants.{Ipv4 as OverIpv4}
use Rattle.capture_packet.specs.declared.transport.Transport.TheVariants.{Ports, Read}
use Rattle.capture_packet.specs.declared.verdict.Verdict.TheVariants.{Checksum}
use Rattle.capture_summary.proofs.SummaryExamples.{count, request}
use Rattle.capture_summary.specs.SummaryTables.{SummaryTables}
use Rattle.capture_text.specs.FilesText.{files_head, others_row}
use Rattle.capture_summary.specs.Tables.{no_packets}
use Rattle.capture_summary.specs.declared.capture_info.FrameLen.{FrameLen}
use Rattle.capture_words.proofs.TimeExamples.{time}
use Rattle.capture_words.proofs.WordsExamples.{header_text, is_header_text, segment}
use Rattle.capture_words.specs.declared.times.Times.TheVariants.{SinceFirst}
use Rattle.capture_text.specs.PacketLine.{IsLine}
use Rattle.capture_text.specs.SummaryText.{summary_text, times_cells}
use Rattle.capture_words.specs.AbsoluteTime.{absolute_text}
use Rattle.timeline.specs.Counts.{none}
use Rattle.timeline.specs.Timelines.{empty_timeline}

-- ---- lines

-- a frame of this length, which was captured as a whole
whole : ℕ → FrameLen
whole len = record { original = len; captured = len }

-- the UDP packet from 192.0.2.1, port 7, to 192.0.2.2, port 9, with its time to live
udp_line : IsLine SinceFirst true 1 no_packet_texts None (Some (time 5 7)) (Some (whole 29)) packet
    (codes "1 00:00:00.000000 length 29: 192.0.2.1:7 > 192.0.2.2:9 UDP length 9, payload 1, time to live 64; checksum right\n")
unfolding char_count digits encode_utf8 padded_integral whole
udp_line = (codes "192.0.2.1:7 > 192.0.2.2:9 UDP length 9, payload 1", (codes "192.0.2.1:7 > 192.0.2.2:9 UDP length 9", refl, refl), refl)

-- packet 8 of the stored run of `capture_report`
tcp_line : IsLine SinceFirst false 8 no_packet_texts (Some (time 1600000000 0)) (Some (time 1600000000 700)) (Some (whole 90))
    (in_no_tunnel (Ip addresses (record { 0 = 6 }) (Some Tcp) (Read (slices.Tcp segment)) 32) (Checksum Right))
    (codes "8 00:00:00.000700 length 90: 192.0.2.1:49153 > 192.0.2.2:80 TCP " ++ (header_text ++ codes ", payload 32; checksum right\n"))
unfolding char_count digits encode_utf8 padded_integral whole
tcp_line =
    let transport = codes "192.0.2.1:49153 > 192.0.2.2:80 TCP " ++ header_text in
    (transport ++ codes ", payload 32", (transport, (header_text, is_header_text, refl), refl), refl)

-- packet 65 of the stored run of `capture_report`
arp_line : IsLine SinceFirst false 65 no_packet_texts (Some (time 1600000000 0)) (Some (time 1600000000 6400)) (Some (whole 42))
    (record (in_no_tunnel (NotIp (EtherType 0x0806)) (untested OtherProtocol)) { arp = Some (Operation 0 false) })
    (codes "65 00:00:00.006400 length 42: ARP, operation 0\n")
unfolding char_count digits encode_utf8 padded_integral whole
arp_line = (codes "ARP", refl, refl)

-- an ARP reply in a frame without a known length
reply_line : IsLine SinceFirst false 1 no_packet_texts None None None
    (record (in_no_tunnel (NotIp (EtherType 0x0806)) (untested OtherProtocol)) {
      arp = Some (Addresses 2 (record {
        sender_hardware = 2 ∷ 0 ∷ 0 ∷ 0 ∷ 0 ∷ 0xAB ∷ [];
        sender = 192 ∷ 0 ∷ 2 ∷ 1 ∷ [];
        target_hardware = replicate 6 0;
        target = 192 ∷ 0 ∷ 2 ∷ 2 ∷ [];
      }));
    })
    (codes "1 - length unknown: ARP, 192.0.2.1 is at 02:00:00:00:00:ab\n")
unfolding char_count digits encode_utf8 padded_integral
reply_line = (codes "ARP", refl, refl)

-- packet 33 of the stored run of `capture_report`
fragment_line : IsLine SinceFirst false 33 no_packet_texts (Some (time 1600000000 0)) (Some (time 1600000000 3200)) (Some (whole 74))
    (record (in_no_tunnel (Ip addresses (record { 0 = 17 }) (Some Udp) (Ports 49152 53 (reference_to (replicate 40 0))) 40)
    (untested Fragment))
    { fragment = Some (record { identification = OverIpv4 1; offset = 0; more_fragments = true }) })
    (codes "33 00:00:00.003200 length 74: 192.0.2.1:49152 > 192.0.2.2:53 UDP, payload 40, fragment, identification 0001, offset 0, more"
    ++ codes "; checksum not looked at: a fragment\n")
unfolding char_count digits encode_utf8 padded_integral whole
fragment_line =
    let transport = codes "192.0.2.1:49152 > 192.0.2.2:53 UDP" in
    (transport ++ codes ", payload 40", (transport, refl, refl), refl)

-- ---- a summary

-- Ethernet frames without a time: two packets of a UDP conversation, an ICMPv6 message with a wrong checksum, and two IP packets that are
-- refused for their version
abbrev five_packets : SummaryTables
five_packets = record {
  packets = 5;
  bytes = 1312;
  span = None;
  protocols = count 2 1044 ∷ no_packets ∷ no_packets ∷ count 1 200 ∷ (replicate 47 no_packets ++ count 2 68 ∷ []);
  verdicts = 2 ∷ 1 ∷ (replicate 8 0 ++ 2 ∷ []);
  links = 0 ∷ 5 ∷ replicate 21 0;
  refusals = 0 ∷ 0 ∷ 2 ∷ replicate 9 0;
  flows = record {
    rows = record { flow = request; forward = count 1 1000; reverse = count 1 44; span = None } ∷ [];
    without_ports = count 3 268;
    without_room = no_packets;
  };
  timeline = record (empty_timeline None) {
    untimed = record {
      udp = record { packets = 2; bytes = 1044 };
      tcp = none;
      icmp = record { packets = 1; bytes = 200 };
      other = record { packets = 2; bytes = 68 };
      wrong = record { packets = 1; bytes = 200 };
      refused = record { packets = 2; bytes = 68 };
    };
  };
  file = record { all = count 2 268; wrong = 1; refused = 1 };
}

-- the text of a test of `capture_text`, without the lines about times
summary_of_five : summary_text 10 five_packets
    ≡ codes "packets 5, bytes 1312, bytes a packet 262\nconversations 1\n"
    ++ codes "\nlink type                     packets\nEthernet                            5\n"
    ++ codes "\nprotocol                      packets             bytes\nUDP                                 2              1044\n"
    ++ codes "unknown                             2                68\nICMPv6                              1               200\n"
    ++ codes "\nchecksum                      packets\nright                               2\nwrong                               1\n"
    ++ codes "refused                             2\n\nrefused                       packets\nIP version                          2\n"
    ++ codes "\nbusiest conversations                 packets         bytes   packets >       bytes >   packets <       bytes <"
    ++ codes " first packet                duration         bits a second\n"
    ++ codes "UDP 192.0.2.1:49152 <> 192.0.2.2:53         2          1044           1          1000           1            44\n"
    ++ codes "packets without ports                       3           268\n"
    ++ codes "\nbusiest endpoints           packets         bytes\n192.0.2.1                         2          1044\n"
    ++ codes "192.0.2.2                         2          1044\npackets without ports             3           268\n"
unfolding char_count digits encode_utf8 padded padded_integral take_chars
summary_of_five = refl

-- 1,044 bytes in 6,900 microseconds: 8 * 1044 / 0.0069 = 1210434.8
times_of_row : times_cells (count 2 1044) (Some (record { earliest = time 1600000000 0; latest = time 1600000000 6900 }))
    ≡ codes " " ++ (absolute_text (time 1600000000 0) ++ codes " 00:00:00.006900        1210434")
unfolding char_count digits encode_utf8 padded padded_integral take_chars
times_of_row = refl

-- one packet has a duration of 0, and no rate
times_of_one : times_cells (count 1 60) (Some (record { earliest = time 1600000000 5; latest = time 1600000000 5 }))
    ≡ codes " " ++ (absolute_text (time 1600000000 5) ++ codes " 00:00:00.000000")
unfolding char_count digits encode_utf8 padded padded_integral take_chars
times_of_one = refl

-- the head of the table of files, and the row of three captures that have no row of their own
head_of_files : files_head ≡ codes "\n    packets             bytes       wrong     refused files\n"
unfolding char_count digits encode_utf8 padded padded_integral take_chars
head_of_files = refl

row_of_others : others_row 3 (record { all = count 4 120; wrong = 2; refused = 1 })
    ≡ codes "          4               120           2           1 other captures: 3\n"
unfolding char_count digits encode_utf8 padded padded_integral take_chars
row_of_others = refl
