-- Worked examples of JSON objects. A wrong definition fails here before its code is written. The texts also occur in tests of
-- `capture_report` and `capture_json`.
use Rattle.std.proofs.Common.{◌≡◌, ◌++◌, [], ◌∷◌, None, Some, arith, codes, inr, refl, replicate, true}
use Rattle.std.specs.Char.{encode_utf8}
use Rattle.std.specs.Fmt.{char_count, digits, padded_integral}
use Rattle.json.specs.Print.{escape_byte}
use Rattle.serde_json.specs.Written.{compact_text}
use Rattle.tcp_part.specs.declared.tcp_raw_option_error.TcpRawOptionError.TheVariants.{LengthBeyondEnd}
use Rattle.tcp_part.specs.declared.tcp_option_element.TcpOptionElement.TheVariants.{Noop}
use Rattle.capture_file.specs.PacketTexts.{no_packet_texts}
use Rattle.capture_packet.proofs.PacketExamples.{datagram, packet}
use Rattle.capture_packet.specs.declared.arp.Arp.TheVariants.{Addresses}
use Rattle.capture_packet.specs.declared.fragment_fields.Identification.TheVariants.{Ipv4}
use Rattle.capture_summary.proofs.SummaryExamples.{count, request}
use Rattle.capture_summary.specs.Tables.{no_packets}
use Rattle.capture_words.proofs.TimeExamples.{time}
use Rattle.capture_words.specs.declared.times.Times.TheVariants.{SinceFirst}
use Rattle.capture_json.specs.JsonOptions.{AreOptionMembers, kind_object}
use Rattle.capture_json.specs.JsonArp.{arp_members}
use Rattle.capture_json.specs.JsonPacket.{IsJsonLine, fragment_members, udp_members}
use Rattle.capture_json.specs.JsonSummary.{conversation_data, uncounted_members}
use Rattle.capture_json.specs.Members.{array_of, object_of}
use Rattle.serde_json.specs.Data.{string}

-- ---- a packet

-- the UDP packet from 192.0.2.1, port 7, to 192.0.2.2, port 9, captured 5.000007 seconds after the beginning of 1970
udp_object : IsJsonLine SinceFirst 1 no_packet_texts None (Some (time 5 7)) (Some (record { original = 29; captured = 29 })) packet (
    codes "{\"type\":\"packet\",\"number\":1,\"time\":\"00:00:00.000000\",\"seconds\":5,\"nanoseconds\":7000,\"length\":29,\"captured_length\":29,"
    ++ codes "\"source\":\"192.0.2.1\",\"destination\":\"192.0.2.2\",\"protocol\":17,\"protocol_name\":\"UDP\",\"source_port\":7,\"destination_port\":9,"
    ++ codes "\"udp\":{\"length\":9},\"payload_length\":1,\"time_to_live\":64,\"checksum\":\"right\"}\n"
    )
unfolding char_count digits encode_utf8 escape_byte padded_integral
udp_object = (_, (_, (udp_members datagram, refl, refl), refl), refl)

-- ---- ARP packets and fragments

-- a request of 192.0.2.7 for 192.0.2.1
arp_object : compact_text (object_of (arp_members (Some (Addresses 1 (record {
  sender_hardware = 2 ∷ 0 ∷ 0 ∷ 0 ∷ 0 ∷ 0xAB ∷ [];
  sender = 192 ∷ 0 ∷ 2 ∷ 7 ∷ [];
  target_hardware = replicate 6 0;
  target = 192 ∷ 0 ∷ 2 ∷ 1 ∷ [];
})))))
    ≡ codes "{\"arp\":{\"operation\":1,\"sender_hardware_address\":\"02:00:00:00:00:ab\",\"sender_address\":\"192.0.2.7\","
    ++ codes "\"target_hardware_address\":\"00:00:00:00:00:00\",\"target_address\":\"192.0.2.1\"}}"
unfolding char_count digits escape_byte padded_integral
arp_object = refl

fragment_object : compact_text
    (object_of (fragment_members (Some (record { identification = Ipv4 0x1A2B; offset = 1480; more_fragments = true }))))
    ≡ codes "{\"fragment\":{\"identification\":6699,\"offset\":1480,\"more_fragments\":true}}"
unfolding digits escape_byte
fragment_object = refl

-- ---- TCP options

-- the options of packet 8 in the stored run of `capture_report`: a byte without an operation, and a window scale whose length byte is 254
option_members : AreOptionMembers (1 ∷ 3 ∷ 254 ∷ 0 ∷ [])
    ((codes "options", array_of (kind_object 1 ∷ []))
    ∷ (codes "options_fault", string (codes "option 3 with length 254 above the 3 bytes left")) ∷ [])
unfolding digits
option_members = (
  kind_object 1 ∷ [],
  Some (LengthBeyondEnd 3 254 3),
  inr (
    record { kind = 1; value = [] },
    3 ∷ 254 ∷ 0 ∷ [],
    record { spelled = refl; is_no_end = λ end. absurd (omega (arith, end)); noop_has_no_value = λ noop. refl },
    ([], (Noop, record { spelled = refl; read_back = refl; in_range = tt }, refl), refl),
    refl,
  ),
  refl,
)

-- ---- conversations

conversation : compact_text (conversation_data (record { flow = request; forward = count 1 40; reverse = no_packets; span = None }))
    ≡ codes "{\"protocol\":17,\"protocol_name\":\"UDP\",\"source\":\"192.0.2.1\",\"source_port\":49152,\"destination\":\"192.0.2.2\","
    ++ codes "\"destination_port\":53,\"packets\":1,\"bytes\":40,\"forward\":{\"packets\":1,\"bytes\":40},\"reverse\":{\"packets\":0,\"bytes\":0}}"
unfolding digits escape_byte
conversation = refl

uncounted : compact_text (object_of (uncounted_members (count 2 58) no_packets))
    ≡ codes "{\"packets_without_ports\":{\"packets\":2,\"bytes\":58},\"packets_of_other_flows\":{\"packets\":0,\"bytes\":0}}"
unfolding digits escape_byte
uncounted = refl
