-- The transport of an IP packet as a typed slice: its protocol, its errors, and the bytes that the slice contains.
use Rattle.std.specs.Prelude.{ℕ, Bool, if◌then◌else◌, List, drop, Option, Some, None}
use Rattle.std.specs.Option.{option_map}
use Rattle.icmp_part.specs.Icmpv4Format as icmpv4
use Rattle.icmp_part.specs.Icmpv6Format as icmpv6
use Rattle.icmp_part.specs.QuotedPackets.{quoted_by_icmpv4, quoted_by_icmpv6}
use Rattle.ip_part.specs.Addresses.{by_value}
use Rattle.ip_part.specs.Protocols.{proto_over}
use Rattle.ip_part.specs.declared.proto.Proto.{Proto}
use Rattle.ip_part.specs.declared.proto.Proto.TheVariants as protos
use Rattle.ip_part.specs.declared.transport.TransportInIp.{TransportInIp}
use Rattle.net_base.specs.declared.err.tcp.header_slice_error.HeaderSliceError.{HeaderSliceError}
use Rattle.net_base.specs.declared.err.tcp.header_slice_error.HeaderSliceError.TheVariants.{Len}
use Rattle.tcp_part.specs.TcpFormat as tcp
use Rattle.udp_part.specs.UdpFormat as udp
use Rattle.udp_part.specs.UdpSlice.{cut, strict_refusal}
use Rattle.transport_part.specs.Layouts.{layout_of}
use Rattle.transport_part.specs.declared.transport_slice.TransportSlice.{TransportSlice}
use Rattle.transport_part.specs.declared.transport_slice.TransportSlice.TheVariants.{Icmpv4, Icmpv6, Tcp, Udp}

-- ---- the contents of a typed slice

-- the protocol of a typed slice
abbrev pub proto_of : TransportSlice → Proto
proto_of (Udp packet) = protos.Udp
proto_of (Tcp segment) = protos.Tcp
proto_of (Icmpv4 message) = protos.Icmpv4
proto_of (Icmpv6 message) = protos.Icmpv6

-- the bytes of header and payload
abbrev pub bytes_of : TransportSlice → List ℕ
bytes_of (Udp packet) = packet
bytes_of (Tcp segment) = segment
bytes_of (Icmpv4 message) = message
bytes_of (Icmpv6 message) = message

-- the bytes after the header
abbrev pub payload_of : TransportSlice → List ℕ
payload_of transport = drop ((layout_of (proto_of transport) (bytes_of transport)).header_len) (bytes_of transport)

-- the packet that an ICMP error quotes, as far as the error contains it
abbrev pub quoted_by : TransportSlice → Option (List ℕ)
quoted_by (Udp packet) = None
quoted_by (Tcp segment) = None
quoted_by (Icmpv4 message) = quoted_by_icmpv4 message
quoted_by (Icmpv6 message) = quoted_by_icmpv6 message

-- the length of the shortest header of this protocol, in bytes
abbrev pub min_len : TransportSlice → ℕ
min_len (Udp packet) = 8
min_len (Tcp segment) = 20
min_len (Icmpv4 message) = 8
min_len (Icmpv6 message) = 8

-- ---- the transport of an IP packet

-- the protocol of the header after the IP headers; `None` for a fragment, whose payload is only a part of the whole payload
abbrev pub proto_in : TransportInIp → Option Proto
proto_in found = if found.is_fragment then None else proto_over (by_value found.addresses) found.protocol.0

-- the error for a payload of this protocol; the length field of a UDP packet that is cut off is not checked
abbrev pub refusal_by : Option Proto → Bool → List ℕ → Option HeaderSliceError
refusal_by None is_cut_off payload = None
refusal_by (Some protos.Udp) is_cut_off payload =
    option_map Len (if is_cut_off then udp.refusal payload else strict_refusal payload)
refusal_by (Some protos.Tcp) is_cut_off payload = tcp.refusal payload
refusal_by (Some protos.Icmpv4) is_cut_off payload = option_map Len (icmpv4.refusal payload)
refusal_by (Some protos.Icmpv6) is_cut_off payload = option_map Len (icmpv6.refusal payload)

-- the error for the transport of an IP packet
abbrev pub refusal : TransportInIp → Option HeaderSliceError
refusal found = refusal_by (proto_in found) found.is_cut_off found.payload.now

-- The payload as a typed slice. If the length field of a UDP packet is valid, the slice contains the bytes that the field counts.
-- Otherwise, and for any other protocol, it contains all bytes.
abbrev pub kept_by : Option Proto → List ℕ → Option TransportSlice
kept_by None payload = None
kept_by (Some protos.Udp) payload = Some (Udp (cut payload))
kept_by (Some protos.Tcp) payload = Some (Tcp payload)
kept_by (Some protos.Icmpv4) payload = Some (Icmpv4 payload)
kept_by (Some protos.Icmpv6) payload = Some (Icmpv6 payload)

-- the transport of an IP packet as a typed slice
abbrev pub kept : TransportInIp → Option TransportSlice
kept found = kept_by (proto_in found) found.payload.now
