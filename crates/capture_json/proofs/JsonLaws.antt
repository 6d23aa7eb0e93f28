-- A packet has one line of JSON.
use Rattle.std.specs.Prelude.{ℕ, List, Option}
use Rattle.std.proofs.Common.{◌≡◌, ◌∙◌, sym}
use Rattle.capture_json.specs.Members.{Member}
use Rattle.tcp_part.specs.TcpFormat.{options_of}
use Rattle.transport_part.specs.declared.transport_slice.TransportSlice.{TransportSlice}
use Rattle.transport_part.specs.declared.transport_slice.TransportSlice.TheVariants as slices
use Rattle.capture_packet.specs.declared.content.Content.{Content}
use Rattle.capture_packet.specs.declared.content.Content.TheVariants as contents
use Rattle.capture_packet.specs.declared.packet.Packet.{Packet}
use Rattle.capture_packet.specs.declared.transport.Transport.{Transport}
use Rattle.capture_packet.specs.declared.transport.Transport.TheVariants as transports
use Rattle.capture_file.specs.declared.packet_time.PacketTime.{PacketTime}
use Rattle.capture_file.specs.declared.reader.packet_texts.PacketTexts.{PacketTexts}
use Rattle.capture_summary.specs.declared.capture_info.FrameLen.{FrameLen}
use Rattle.capture_words.proofs.TcpTextLaws.{one_of}
use Rattle.capture_words.specs.declared.times.Times.{Times}
use Rattle.capture_json.proofs.OptionLaws.{one_options}
use Rattle.capture_json.specs.JsonPacket.{AreContentMembers, AreReadMembers, AreTcpHeaderMembers, AreTcpMembers, AreTransportMembers, HasOneJsonLine, json_line, tcp_header_members}

one_header : (header : List ℕ) (members others : List Member)
    → AreTcpHeaderMembers header members → AreTcpHeaderMembers header others → members ≡ others
one_header header = one_of _ (tcp_header_members header) (one_options (options_of header))

one_segment : (segment : List ℕ) (members others : List Member) → AreTcpMembers segment members → AreTcpMembers segment others
    → members ≡ others
one_segment segment members others are also = one_of _ _ (one_header segment) members others are also

one_read : (transport : TransportSlice) (members others : List Member)
    → AreReadMembers transport members → AreReadMembers transport others → members ≡ others
one_read (slices.Udp datagram) members others are also = are ∙ sym also
one_read (slices.Tcp segment) members others are also = one_segment segment members others are also
one_read (slices.Icmpv4 message) members others are also = are ∙ sym also
one_read (slices.Icmpv6 message) members others are also = are ∙ sym also

one_transport : (transport : Transport) (members others : List Member)
    → AreTransportMembers transport members → AreTransportMembers transport others → members ≡ others
one_transport (transports.Read transport) members others are also = one_read transport members others are also
one_transport (transports.Ports source destination payload) members others are also = are ∙ sym also
one_transport (transports.Unread payload) members others are also = are ∙ sym also

one_content : (content : Content) (members others : List Member)
    → AreContentMembers content members → AreContentMembers content others → members ≡ others
one_content contents.Unread members others are also = are ∙ sym also
one_content (contents.IpHeader addresses) members others are also = are ∙ sym also
one_content (contents.NotIp protocol) members others are also = are ∙ sym also
one_content (contents.Ip addresses protocol proto transport payload_len) members others are also =
    one_of _ _ (one_transport transport) members others are also

-- if two packets are equal, and their numbers, texts, times and lengths too, their lines are equal
pub one_json_line : (times : Times) (number : ℕ) (texts : PacketTexts) (first time : Option PacketTime)
    (len : Option FrameLen) (packet : Packet) → HasOneJsonLine times number texts first time len packet
one_json_line times number texts first time len packet line other is also =
    one_of _ json_line (λ members others. one_of _ _ (one_content packet.content) members others) line other is also
