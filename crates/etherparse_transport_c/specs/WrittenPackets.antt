-- An IP packet that is written, in the interface to C: its refusals and its bytes. The message is a transport header and its payload.
use Rattle.std.specs.Prelude.{ℕ, ◌==◌, if◌then◌else◌, List, [], drop, Option, Some, None}
use Rattle.std.specs.Option.{option_map}
use Rattle.icmp_part.specs.Icmpv4Format as icmpv4
use Rattle.icmp_part.specs.Icmpv6Format as icmpv6
use Rattle.ip_part.specs.declared.proto.Proto.{Proto}
use Rattle.ip_part.specs.declared.proto.Proto.TheVariants as protos
use Rattle.tcp_part.specs.TcpFormat as tcp
use Rattle.transport_part.specs.Layouts.{layout_of}
use Rattle.udp_part.specs.UdpFormat as udp
use Rattle.etherparse_transport.specs.Formats as formats
use Rattle.etherparse_transport.specs.Packets.{ipv4_packet, ipv4_write_refusal, ipv6_packet, ipv6_write_refusal}
use Rattle.etherparse_transport.specs.declared.transport_header.TransportHeader.{TransportHeader}
use Rattle.etherparse_transport.specs.declared.transport_header.TransportHeader.TheVariants.{Icmpv4, Icmpv6, Tcp, Udp}
use Rattle.etherparse_transport_c.specs.Errors.{first_refusal, of_build, of_header_slice, of_protocol}
use Rattle.etherparse_transport_c.specs.Numbers as numbers
use Rattle.etherparse_transport_c.specs.declared.error.EtherparseError.{EtherparseError}
use Rattle.etherparse_transport_c.specs.declared.write_packet.EtherparseIpv4Header.{EtherparseIpv4Header}
use Rattle.etherparse_transport_c.specs.declared.write_packet.EtherparseIpv6Header.{EtherparseIpv6Header}

-- ---- the message

-- the protocol with this number, or `None` if the call that writes an IPv4 packet does not accept it
abbrev pub proto_over_ipv4 : ℕ → Option Proto
proto_over_ipv4 number =
    if number == numbers.protocol_udp then Some protos.Udp
    else if number == numbers.protocol_tcp then Some protos.Tcp
    else if number == numbers.protocol_icmpv4 then Some protos.Icmpv4
    else None

-- the protocol with this number, or `None` if the call that writes an IPv6 packet does not accept it
abbrev pub proto_over_ipv6 : ℕ → Option Proto
proto_over_ipv6 number =
    if number == numbers.protocol_udp then Some protos.Udp
    else if number == numbers.protocol_tcp then Some protos.Tcp
    else if number == numbers.protocol_icmpv6 then Some protos.Icmpv6
    else None

-- the header at the front of a message of this protocol
abbrev pub header_of : Proto → List ℕ → TransportHeader
header_of protos.Udp message = Udp (udp.header_of message)
header_of protos.Tcp message = Tcp (tcp.header_of message)
header_of protos.Icmpv4 message = Icmpv4 (icmpv4.header_of message)
header_of protos.Icmpv6 message = Icmpv6 (icmpv6.header_of message)

-- the header at the front of a message; a message of an unknown protocol is refused, so its header has no meaning
abbrev pub header_at : Option Proto → List ℕ → TransportHeader
header_at (Some proto) message = header_of proto message
header_at None message = Udp (udp.header_of message)

-- the bytes after the header of a message; if the protocol is unknown, the list is empty
abbrev pub payload_at : Option Proto → List ℕ → List ℕ
payload_at (Some proto) message = drop (layout_of proto message).header_len message
payload_at None message = []

-- the refusal of a message: its protocol is unknown, or its header is refused
abbrev pub message_refusal : ℕ → Option Proto → List ℕ → Option EtherparseError
message_refusal number None message = Some (of_protocol number)
message_refusal number (Some proto) message = option_map of_header_slice (formats.refusal proto message)

-- ---- the packet

-- the bytes of the IPv4 packet: IP header, transport header and payload
abbrev pub ipv4_bytes : EtherparseIpv4Header → List ℕ → List ℕ
ipv4_bytes header message = ipv4_packet header.source header.destination header.time_to_live
    (header_at (proto_over_ipv4 header.protocol) message) (payload_at (proto_over_ipv4 header.protocol) message)

-- the bytes of the IPv6 packet: IP header, transport header and payload
abbrev pub ipv6_bytes : EtherparseIpv6Header → List ℕ → List ℕ
ipv6_bytes header message = ipv6_packet header.source header.destination header.hop_limit
    (header_at (proto_over_ipv6 header.next_header) message) (payload_at (proto_over_ipv6 header.next_header) message)

-- the first refusal that applies: the message is refused, or the IPv4 packet can't be written to a buffer of `room` bytes
abbrev pub ipv4_refusal : EtherparseIpv4Header → List ℕ → ℕ → Option EtherparseError
ipv4_refusal header message room = first_refusal (message_refusal header.protocol (proto_over_ipv4 header.protocol) message)
    (option_map of_build (ipv4_write_refusal (header_at (proto_over_ipv4 header.protocol) message)
    (payload_at (proto_over_ipv4 header.protocol) message) room))

-- the first refusal that applies: the message is refused, or the IPv6 packet can't be written to a buffer of `room` bytes
abbrev pub ipv6_refusal : EtherparseIpv6Header → List ℕ → ℕ → Option EtherparseError
ipv6_refusal header message room = first_refusal (message_refusal header.next_header (proto_over_ipv6 header.next_header) message)
    (option_map of_build (ipv6_write_refusal (header_at (proto_over_ipv6 header.next_header) message)
    (payload_at (proto_over_ipv6 header.next_header) message) room))
