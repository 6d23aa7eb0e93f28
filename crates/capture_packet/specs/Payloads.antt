-- The payload of a packet, and its length.
use Rattle.std.specs.Prelude.{ℕ, ◌-◌, min, nat_lt, if◌then◌else◌, List}
use Rattle.ip_part.specs.Ip.{counted_len}
use Rattle.ip_part.specs.declared.transport.TransportInIp.{TransportInIp}
use Rattle.udp_part.specs.UdpSlice.{length_field}
use Rattle.transport_part.specs.Layouts.{layout_of}
use Rattle.transport_part.specs.Transports.{bytes_of, payload_of, proto_of}
use Rattle.transport_part.specs.declared.transport_slice.TransportSlice.{TransportSlice}
use Rattle.transport_part.specs.declared.transport_slice.TransportSlice.TheVariants.{Icmpv4, Icmpv6, Tcp, Udp}
use Rattle.capture_packet.specs.declared.transport.Transport.{Transport}
use Rattle.capture_packet.specs.declared.transport.Transport.TheVariants.{Ports, Read, Unread}

-- the bytes after the transport header, or after the IP headers if no transport header is read, as far as they are present
abbrev pub payload_in : Transport → List ℕ
payload_in (Read transport) = payload_of transport
payload_in (Ports source destination payload) = payload.now
payload_in (Unread payload) = payload.now

-- the number of bytes after the headers of an IP packet, according to the IP header; some of these bytes may be missing
abbrev pub counted_payload_len : List ℕ → TransportInIp → ℕ
counted_payload_len packet found = counted_len found.is_length_missing packet - found.payload_offset

-- The length of a UDP datagram (RFC 768). If the length field is at least 8 and at most `counted_len`, this field is the length. Otherwise
-- the length is `counted_len`, the number of bytes that the IP header counts after the IP headers.
abbrev pub datagram_len : ℕ → ℕ → ℕ
datagram_len counted_len length = if nat_lt length 8 then counted_len else min counted_len length

-- the length of a transport with its header; `counted_len` is the number of bytes that the IP header counts after the IP headers
abbrev pub transport_len : ℕ → TransportSlice → ℕ
transport_len counted_len (Udp packet) = datagram_len counted_len (length_field packet)
transport_len counted_len (Tcp segment) = counted_len
transport_len counted_len (Icmpv4 message) = counted_len
transport_len counted_len (Icmpv6 message) = counted_len

-- the length of the payload of a transport; some bytes of the payload may be missing
abbrev pub payload_len : ℕ → Transport → ℕ
payload_len counted_len (Read transport) =
    transport_len counted_len transport - (layout_of (proto_of transport) (bytes_of transport)).header_len
payload_len counted_len (Ports source destination payload) = counted_len
payload_len counted_len (Unread payload) = counted_len
