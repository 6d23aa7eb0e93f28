-- What the table replaces in a packet. The addresses and ports of the packet decide. For an ICMP error, the addresses and ports of the
-- quoted packet decide.
use Rattle.std.specs.Prelude.{ℕ, Bool, if◌then◌else◌, is_some, List, drop, Option, Some, None, Result, Ok, Err}
use Rattle.capture_packet.specs.Contents.{ports_at}
use Rattle.etherparse_transport.specs.declared.ip.ipv4_translation.Ipv4Translation.{Ipv4Translation}
use Rattle.etherparse_transport.specs.declared.ip.ipv6_translation.Ipv6Translation.{Ipv6Translation}
use Rattle.icmp_part.specs.Icmpv4Format as icmpv4
use Rattle.icmp_part.specs.Icmpv6Format as icmpv6
use Rattle.icmp_part.specs.QuotedPackets.{quoted_by_icmpv4, quoted_by_icmpv6}
use Rattle.ip_part.specs.Addresses.{by_value}
use Rattle.ip_part.specs.Headers.{Headers}
use Rattle.ip_part.specs.Ip.{counted, headers_of, lacks_len}
use Rattle.ip_part.specs.Protocols.{proto_over}
use Rattle.ip_part.specs.declared.ip_error.IpError.{IpError}
use Rattle.ip_part.specs.declared.proto.Proto.{Proto}
use Rattle.ip_part.specs.declared.proto.Proto.TheVariants as protos
use Rattle.ip_part.specs.declared.transport.TransportInIp.{TransportInIp}
use Rattle.net_base.specs.IpHeaders.{ipv4_header_of, ipv6_header_of}
use Rattle.net_base.specs.declared.ipv4_header.Ipv4Header.{Ipv4Header}
use Rattle.net_base.specs.declared.ipv6_header.Ipv6Header.{Ipv6Header}
use Rattle.translator.specs.Replacements.{exchanged, ipv4_translation, ipv6_translation}
use Rattle.translator.specs.declared.table.Table.{Table}

-- ---- the transport of a packet

-- the headers of an IP packet, as `transport_in_ip_lax` reads them
abbrev pub headers_in : List ℕ → Result Headers IpError
headers_in packet = headers_of (lacks_len packet) packet

-- the transport protocol after these headers, or `None` if the program does not read the protocol
abbrev pub proto_after : Headers → Option Proto
proto_after headers = proto_over headers.addresses headers.protocol.0

-- the bytes of a packet after its headers, up to the end that the length field of its IP header states
abbrev pub message_after : Headers → List ℕ → List ℕ
message_after headers packet = drop headers.len (counted (lacks_len packet) packet)

-- the ports of a packet with these headers; a packet whose headers are refused has no ports
abbrev pub ports_after : List ℕ → Result Headers IpError → Option (ℕ × ℕ)
ports_after packet (Ok headers) = ports_at headers.is_later_fragment (proto_after headers) (message_after headers packet)
ports_after packet (Err error) = None

-- the source port and the destination port of a packet, if it contains ports
abbrev pub ports_of : List ℕ → Option (ℕ × ℕ)
ports_of packet = ports_after packet (headers_in packet)

-- ---- ICMP errors

-- the packet that a message of this protocol quotes, if it is a whole ICMP error
abbrev pub quoted_over : Option Proto → List ℕ → Option (List ℕ)
quoted_over None message = None
quoted_over (Some protos.Udp) message = None
quoted_over (Some protos.Tcp) message = None
quoted_over (Some protos.Icmpv4) message = if is_some (icmpv4.refusal message) then None else quoted_by_icmpv4 message
quoted_over (Some protos.Icmpv6) message = if is_some (icmpv6.refusal message) then None else quoted_by_icmpv6 message

-- the packet that this message quotes; a later fragment quotes no packet, since it does not begin with an ICMP header
abbrev pub quoted_at : Bool → Option Proto → List ℕ → Option (List ℕ)
quoted_at is_later_fragment proto message = if is_later_fragment then None else quoted_over proto message

-- the packet that an IP packet quotes, if it is an ICMP error
abbrev pub quoted_in : TransportInIp → Option (List ℕ)
quoted_in found = quoted_at found.is_later_fragment (proto_over (by_value found.addresses) found.protocol.0) found.payload.now

-- the packet that an IP packet with these headers quotes, if the headers are accepted
abbrev pub quoted_after : List ℕ → Result Headers IpError → Option (List ℕ)
quoted_after packet (Ok headers) = quoted_at headers.is_later_fragment (proto_after headers) (message_after headers packet)
quoted_after packet (Err error) = None

-- the packet that this IP packet quotes, if this packet is an ICMP error, and its IP headers and its ICMP message are accepted
abbrev pub quoted_of : List ℕ → Option (List ℕ)
quoted_of packet = quoted_after packet (headers_in packet)

-- ---- IPv4

-- the header with its addresses exchanged
abbrev pub ipv4_opposite : Ipv4Header → Ipv4Header
ipv4_opposite header = record { source = header.destination; destination = header.source }

-- what the table gives for the addresses and ports of a packet
abbrev pub ipv4_by : Table → List ℕ → Ipv4Translation
ipv4_by table packet = ipv4_translation table (ipv4_header_of packet) (ports_of packet)

-- what the table gives for an ICMP error that quotes this packet; addresses and ports are exchanged, since the quoted packet went in the
-- other direction
abbrev pub ipv4_by_quoted : Table → List ℕ → Ipv4Translation
ipv4_by_quoted table quoted = ipv4_translation table (ipv4_opposite (ipv4_header_of quoted)) (exchanged (ports_of quoted))

-- What the table gives for a packet. If it quotes a packet, the addresses and ports of the quoted packet decide. Otherwise its own
-- addresses and ports decide.
abbrev pub ipv4_with : Table → List ℕ → Option (List ℕ) → Ipv4Translation
ipv4_with table packet None = ipv4_by table packet
ipv4_with table packet (Some quoted) = ipv4_by_quoted table quoted

-- What is replaced in an IPv4 packet. In an ICMP error, the addresses and ports of the quoted packet decide. In any other packet, its own
-- addresses and ports decide.
abbrev pub ipv4_given : Table → List ℕ → Ipv4Translation
ipv4_given table packet = ipv4_with table packet (quoted_of packet)

-- ---- IPv6

-- the header with its addresses exchanged
abbrev pub ipv6_opposite : Ipv6Header → Ipv6Header
ipv6_opposite header = record { source = header.destination; destination = header.source }

-- what the table gives for the addresses and ports of a packet
abbrev pub ipv6_by : Table → List ℕ → Ipv6Translation
ipv6_by table packet = ipv6_translation table (ipv6_header_of packet) (ports_of packet)

-- what the table gives for an ICMP error that quotes this packet; addresses and ports are exchanged, since the quoted packet went in the
-- other direction
abbrev pub ipv6_by_quoted : Table → List ℕ → Ipv6Translation
ipv6_by_quoted table quoted = ipv6_translation table (ipv6_opposite (ipv6_header_of quoted)) (exchanged (ports_of quoted))

-- What the table gives for a packet. If it quotes a packet, the addresses and ports of the quoted packet decide. Otherwise its own
-- addresses and ports decide.
abbrev pub ipv6_with : Table → List ℕ → Option (List ℕ) → Ipv6Translation
ipv6_with table packet None = ipv6_by table packet
ipv6_with table packet (Some quoted) = ipv6_by_quoted table quoted

-- What is replaced in an IPv6 packet. In an ICMP error, the addresses and ports of the quoted packet decide. In any other packet, its own
-- addresses and ports decide.
abbrev pub ipv6_given : Table → List ℕ → Ipv6Translation
ipv6_given table packet = ipv6_with table packet (quoted_of packet)
