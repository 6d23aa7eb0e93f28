-- The ends of a flow, as an IP packet names them: its addresses, its protocol, and its ports or the identifier of a query. If the packet is
-- an ICMP error, the packet that it quotes names the ends of a flow too.
use Rattle.std.specs.Prelude.{ℕ, ◌&&◌, Bool, not, nat_le, if◌then◌else◌, List, drop, length, slice_index, Option, Some, None, option_and_then, Result, Ok, Err}
use Rattle.std.specs.Option.{option_map}
use Rattle.ip_part.specs.Addresses as addresses
use Rattle.ip_part.specs.Addresses.{Addresses}
use Rattle.ip_part.specs.Headers.{Headers}
use Rattle.ip_part.specs.Ip.{counted, headers_of, is_cut_off, lacks_len, lax_refusal}
use Rattle.ip_part.specs.Protocols.{proto_over}
use Rattle.ip_part.specs.declared.ip_error.IpError.{IpError}
use Rattle.ip_part.specs.declared.proto.Proto.{Proto}
use Rattle.ip_part.specs.declared.proto.Proto.TheVariants as protos
use Rattle.ip_part.specs.declared.transport.TransportInIp.{TransportInIp}
use Rattle.net_base.specs.Bytes.{be_number}
use Rattle.net_base.specs.declared.err.tcp.header_slice_error.HeaderSliceError.{HeaderSliceError}
use Rattle.transport_part.specs.Transports as transports
use Rattle.transport_part.specs.Transports.{kept_by, refusal_by}
use Rattle.transport_part.specs.declared.transport_slice.TransportSlice.{TransportSlice}
use Rattle.etherparse_transport.specs.Translations.{destination_port_place, identifier_place, is_query, is_request, source_port_place}
use Rattle.etherparse_transport.specs.declared.ip.packet_flow.PacketFlow.{PacketFlow}
use Rattle.etherparse_transport.specs.declared.ip.flow_ends.FlowEnds.{FlowEnds}

-- ---- the ends

-- The ends of a flow as plain values, without references to the packet. A port is `None` if the packet does not contain it.
pub record Ends : Type 0 where
  pub addresses : Addresses
  pub protocol : ℕ
  pub is_fragment : Bool
  pub is_later_fragment : Bool
  pub source_port : Option ℕ
  pub destination_port : Option ℕ

-- the plain values of these ends
abbrev pub ends_by_value : FlowEnds → Ends
ends_by_value ends = record {
  addresses = addresses.by_value ends.addresses;
  protocol = ends.protocol.0;
  is_fragment = ends.is_fragment;
  is_later_fragment = ends.is_later_fragment;
  source_port = ends.source_port;
  destination_port = ends.destination_port;
}

-- the number in the two bytes at this place of a message, if the message contains it
abbrev pub number_if : Bool → ℕ → List ℕ → Option ℕ
number_if is_there place message = if is_there then Some (be_number message place 2) else None

-- the message contains both ports, which are the first four bytes of UDP and TCP (RFC 768; RFC 9293, section 3.1)
abbrev pub has_ports : List ℕ → Bool
has_ports message = nat_le 4 (length message)

-- The message is a request with any code, and contains its whole identifier. The identifier of a request belongs to the source (RFC 5508,
-- section 3.1).
abbrev pub is_request_with_identifier : Proto → List ℕ → Bool
is_request_with_identifier proto message = is_query proto message && is_request proto (slice_index message 0)

-- The message is a reply with any code, and contains its whole identifier. The identifier of a reply belongs to the destination (RFC 5508,
-- section 3.1).
abbrev pub is_reply_with_identifier : Proto → List ℕ → Bool
is_reply_with_identifier proto message = is_query proto message && not (is_request proto (slice_index message 0))

-- the port of the source in a message of this protocol, or the identifier of a request
abbrev pub source_port_of : Proto → List ℕ → Option ℕ
source_port_of protos.Udp message = number_if (has_ports message) source_port_place message
source_port_of protos.Tcp message = number_if (has_ports message) source_port_place message
source_port_of protos.Icmpv4 message = number_if (is_request_with_identifier protos.Icmpv4 message) identifier_place message
source_port_of protos.Icmpv6 message = number_if (is_request_with_identifier protos.Icmpv6 message) identifier_place message

-- the port of the destination, or the identifier of a reply
abbrev pub destination_port_of : Proto → List ℕ → Option ℕ
destination_port_of protos.Udp message = number_if (has_ports message) destination_port_place message
destination_port_of protos.Tcp message = number_if (has_ports message) destination_port_place message
destination_port_of protos.Icmpv4 message = number_if (is_reply_with_identifier protos.Icmpv4 message) identifier_place message
destination_port_of protos.Icmpv6 message = number_if (is_reply_with_identifier protos.Icmpv6 message) identifier_place message

-- the port that `port_of` finds in a message; `None` if the protocol is unknown, or in a later fragment, which begins in the middle of a
-- message
abbrev pub port_in : (Proto → List ℕ → Option ℕ) → Bool → Option Proto → List ℕ → Option ℕ
port_in port_of is_later_fragment None message = None
port_in port_of is_later_fragment (Some proto) message = if is_later_fragment then None else port_of proto message

-- the ends of a packet between these addresses, with these bytes after its headers
abbrev pub ends_with : Addresses → ℕ → Bool → Bool → List ℕ → Ends
ends_with between number is_fragment is_later_fragment bytes = record {
  addresses = between;
  protocol = number;
  is_fragment = is_fragment;
  is_later_fragment = is_later_fragment;
  source_port = port_in source_port_of is_later_fragment (proto_over between number) bytes;
  destination_port = port_in destination_port_of is_later_fragment (proto_over between number) bytes;
}

-- the ends of a packet with this transport
abbrev pub ends_by : TransportInIp → Ends
ends_by found =
    ends_with (addresses.by_value found.addresses) found.protocol.0 found.is_fragment found.is_later_fragment found.payload.now

-- the ends of a packet with these headers, by the bytes that its IP header counts
abbrev pub ends_after : Headers → List ℕ → Ends
ends_after headers bytes =
    ends_with headers.addresses headers.protocol.0 headers.is_fragment headers.is_later_fragment (drop headers.len bytes)

-- ---- the quoted packet

-- the transport, unless an error refuses it
abbrev pub unless_refused : Option HeaderSliceError → Option TransportSlice → Option TransportSlice
unless_refused None transport = transport
unless_refused (Some error) transport = None

-- the packet that a message of this protocol quotes, if it is an ICMP error that `transport_slice` accepts
abbrev pub quoted_bytes : Option Proto → Bool → List ℕ → Option (List ℕ)
quoted_bytes proto is_cut_off message =
    option_and_then transports.quoted_by (unless_refused (refusal_by proto is_cut_off message) (kept_by proto message))

-- The ends of a packet with these headers, by the bytes that its IP header counts. `None` if an error refuses the headers.
abbrev pub ends_unless : Option IpError → Result Headers IpError → List ℕ → Option Ends
ends_unless (Some error) headers bytes = None
ends_unless None (Err error) bytes = None
ends_unless None (Ok headers) bytes = Some (ends_after headers bytes)

-- The ends of the packet at the front of these bytes, as `transport_in_ip_lax` reads it. The packet may be cut off or state no length.
-- `None` if the call refuses the packet.
abbrev pub ends_at : List ℕ → Option Ends
ends_at packet = ends_unless (lax_refusal packet) (headers_of (lacks_len packet) packet) (counted (lacks_len packet) packet)

-- the ends of the packet that the transport of a packet quotes; a fragment quotes none, since it does not contain a whole message
abbrev pub quoted_ends_by : TransportInIp → Option Ends
quoted_ends_by found = option_and_then ends_at (quoted_bytes (transports.proto_in found) found.is_cut_off found.payload.now)

-- ---- the flow

-- the ends of a packet, and the ends of the packet that it quotes
pub record FlowValue : Type 0 where
  pub ends : Ends
  pub quoted : Option Ends

-- the plain values of a flow
abbrev pub by_value : PacketFlow → FlowValue
by_value flow = record { ends = ends_by_value flow.ends; quoted = option_map ends_by_value flow.quoted }

-- the protocol of the message after these headers; `None` for a fragment, which does not contain a whole message
abbrev pub message_proto : Headers → Option Proto
message_proto headers = if headers.is_fragment then None else proto_over headers.addresses headers.protocol.0

-- the flow of a packet with these headers, by the bytes that its IP header counts
abbrev pub flow_after : Headers → Bool → List ℕ → FlowValue
flow_after headers is_cut_off bytes = record {
  ends = ends_after headers bytes;
  quoted = option_and_then ends_at (quoted_bytes (message_proto headers) is_cut_off (drop headers.len bytes));
}

-- the flow of a packet with these headers; `None` if an error refuses the headers
abbrev pub flow_unless : Option IpError → Result Headers IpError → Bool → List ℕ → Option FlowValue
flow_unless (Some error) headers is_cut_off bytes = None
flow_unless None (Err error) is_cut_off bytes = None
flow_unless None (Ok headers) is_cut_off bytes = Some (flow_after headers is_cut_off bytes)

-- The flow of the packet at the front of these bytes. The packet may be cut off or state no length. `None` if its headers are refused.
abbrev pub flow_of : List ℕ → Option FlowValue
flow_of packet = flow_unless (lax_refusal packet) (headers_of (lacks_len packet) packet) (is_cut_off (lacks_len packet) packet)
    (counted (lacks_len packet) packet)
