-- The flow of a packet: its protocol, its addresses and its ports (RFC 768; RFC 9293, section 3.1).
use Rattle.std.specs.Prelude.{◌≡◌, ℕ, false, ◌&&◌, Option, Some, None, is_some}
use Rattle.std.specs.Net.Socket.{IsPlainSocket, socket_ip}
use Rattle.std.specs.Option.{option_map}
use Rattle.ip_part.specs.Addresses.{by_value}
use Rattle.ip_part.specs.declared.proto.Proto.{Proto}
use Rattle.ip_part.specs.declared.proto.Proto.TheVariants as protos
use Rattle.net_base.specs.Bytes.{be_number}
use Rattle.transport_part.specs.declared.transport_slice.TransportSlice.TheVariants as slices
use Rattle.capture_packet.specs.declared.content.Content.{Content}
use Rattle.capture_packet.specs.declared.content.Content.TheVariants as contents
use Rattle.capture_packet.specs.declared.transport.Transport.{Transport}
use Rattle.capture_packet.specs.declared.transport.Transport.TheVariants as transports
use Rattle.capture_packet.specs.Addresses.{IsDestination, IsSource, has_destination}
use Rattle.capture_summary.specs.declared.flow.Flow.{Flow}
use Rattle.capture_summary.specs.declared.flow.FlowProtocol.{FlowProtocol}
use Rattle.capture_summary.specs.declared.flow.FlowProtocol.TheVariants as flow_protocols

-- the protocol of a flow; only UDP and TCP have flows
abbrev pub flow_protocol : Option Proto → Option FlowProtocol
flow_protocol (Some protos.Udp) = Some flow_protocols.Udp
flow_protocol (Some protos.Tcp) = Some flow_protocols.Tcp
flow_protocol (Some protos.Icmpv4) = None
flow_protocol (Some protos.Icmpv6) = None
flow_protocol None = None

-- The protocol of a transport with ports, and its two ports. The source port is in bytes 0 and 1 of the header, and the destination port in
-- bytes 2 and 3. If the header is not read, the protocol is taken from the IP header.
abbrev pub ports_of : Option Proto → Transport → Option (FlowProtocol × ℕ × ℕ)
ports_of proto (transports.Read (slices.Udp packet)) = Some (flow_protocols.Udp, be_number packet 0 2, be_number packet 2 2)
ports_of proto (transports.Read (slices.Tcp segment)) = Some (flow_protocols.Tcp, be_number segment 0 2, be_number segment 2 2)
ports_of proto (transports.Read (slices.Icmpv4 message)) = None
ports_of proto (transports.Read (slices.Icmpv6 message)) = None
ports_of proto (transports.Ports source destination payload) =
    option_map (λ protocol. (protocol, source, destination)) (flow_protocol proto)
ports_of proto (transports.Unread payload) = None

-- the flow has this protocol and these ports
abbrev pub HasPorts : Option (FlowProtocol × ℕ × ℕ) → Flow → Type 0
HasPorts None flow = ⊥
HasPorts (Some ports) flow =
    (flow.protocol ≡ ports.0) × (IsPlainSocket flow.source ports.1 × IsPlainSocket flow.destination ports.2)

-- The flow of a packet. It is `None` if the packet has no ports, if its headers are refused, or if its final destination is unknown.
abbrev pub IsFlowOf : Content → Option Flow → Type 0
IsFlowOf contents.Unread flow = flow ≡ None
IsFlowOf (contents.IpHeader addresses) flow = flow ≡ None
IsFlowOf (contents.NotIp protocol) flow = flow ≡ None
IsFlowOf (contents.Ip addresses protocol proto transport payload_len) (Some flow) =
    IsSource (by_value addresses) (socket_ip flow.source) × IsDestination (by_value addresses) (Some (socket_ip flow.destination))
    × HasPorts (ports_of proto transport) flow
IsFlowOf (contents.Ip addresses protocol proto transport payload_len) None =
    (has_destination (by_value addresses) && is_some (ports_of proto transport)) ≡ false
