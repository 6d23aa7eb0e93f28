-- A packet has exactly one line.
use Rattle.std.specs.Prelude.{ℕ, List, Option}
use Rattle.std.proofs.Common.{◌≡◌, Bool, ◌∙◌, sym}
use Rattle.transport_part.specs.declared.transport_slice.TransportSlice.TheVariants as slices
use Rattle.ip_part.specs.Addresses.{Addresses, by_value}
use Rattle.ip_part.specs.declared.proto.Proto.{Proto}
use Rattle.capture_packet.specs.declared.content.Content.{Content}
use Rattle.capture_packet.specs.declared.content.Content.TheVariants as contents
use Rattle.capture_packet.specs.declared.packet.Packet.{Packet}
use Rattle.capture_packet.specs.declared.transport.Transport.{Transport}
use Rattle.capture_packet.specs.declared.transport.Transport.TheVariants as transports
use Rattle.capture_file.specs.declared.packet_time.PacketTime.{PacketTime}
use Rattle.capture_file.specs.declared.reader.packet_texts.PacketTexts.{PacketTexts}
use Rattle.capture_summary.specs.declared.capture_info.FrameLen.{FrameLen}
use Rattle.capture_text.specs.PacketLine.{HasOneLine, IsContentText, IsTcpText, IsTransportText}
use Rattle.capture_words.specs.declared.times.Times.{Times}
use Rattle.capture_words.proofs.TcpTextLaws.{one_header_text, one_of}

one_tcp_text : (addresses : Addresses) (segment text other : List ℕ) → IsTcpText addresses segment text → IsTcpText addresses segment other
    → text ≡ other
one_tcp_text addresses segment text other is also = one_of _ _ (one_header_text segment) text other is also

one_transport_text : (addresses : Addresses) (number : ℕ) (proto : Option Proto) (transport : Transport) (text other : List ℕ)
    → IsTransportText addresses number proto transport text → IsTransportText addresses number proto transport other → text ≡ other
one_transport_text addresses number proto (transports.Read (slices.Udp datagram)) text other is also = is ∙ sym also
one_transport_text addresses number proto (transports.Read (slices.Tcp segment)) text other is also =
    one_tcp_text addresses segment text other is also
one_transport_text addresses number proto (transports.Read (slices.Icmpv4 message)) text other is also = is ∙ sym also
one_transport_text addresses number proto (transports.Read (slices.Icmpv6 message)) text other is also = is ∙ sym also
one_transport_text addresses number proto (transports.Ports source destination payload) text other is also = is ∙ sym also
one_transport_text addresses number proto (transports.Unread payload) text other is also = is ∙ sym also

one_content_text : (content : Content) (text other : List ℕ) → IsContentText content text → IsContentText content other → text ≡ other
one_content_text contents.Unread text other is also = is ∙ sym also
one_content_text (contents.IpHeader addresses) text other is also = is ∙ sym also
one_content_text (contents.NotIp protocol) text other is also = is ∙ sym also
one_content_text (contents.Ip addresses protocol proto transport payload_len) text other is also =
    one_of _ _ (one_transport_text (by_value addresses) protocol.0 proto transport) text other is also

-- if two packets are equal, and their numbers, texts, times and lengths too, their lines are equal
pub one_line : (times : Times) (verbose : Bool) (number : ℕ) (texts : PacketTexts) (first time : Option PacketTime)
    (len : Option FrameLen) (packet : Packet) → HasOneLine times verbose number texts first time len packet
one_line times verbose number texts first time len packet line other is also =
    one_of _ _ (one_content_text packet.content) line other is also
