-- The content of a packet.
use Rattle.std.specs.Prelude.{◌≡◌, ◌⊎◌, ℕ, Bool, true, false, not, ◌&&◌, nat_le, if◌then◌else◌, List, length, Option, Some, None}
use Rattle.std.specs.Option.{option_map}
use Rattle.ip_part.specs.Addresses.{Addresses, Ipv4, Ipv6, by_value}
use Rattle.ip_part.specs.FixedHeaders as fixed
use Rattle.ip_part.specs.FixedHeaders.{Fixed, fixed_header}
use Rattle.ip_part.specs.Protocols.{proto_over}
use Rattle.ip_part.specs.declared.proto.Proto.{Proto}
use Rattle.ip_part.specs.declared.proto.Proto.TheVariants as protos
use Rattle.ip_part.specs.declared.transport.TransportInIp.{TransportInIp}
use Rattle.net_base.specs.Bytes.{be_number}
use Rattle.net_base.specs.declared.err.tcp.header_slice_error.HeaderSliceError.{HeaderSliceError}
use Rattle.transport_part.specs.Transports.{kept, refusal}
use Rattle.transport_part.specs.declared.transport_slice.TransportSlice.{TransportSlice}
use Rattle.capture_packet.specs.Payloads.{counted_payload_len, payload_len}
use Rattle.capture_packet.specs.declared.content.Content.{Content}
use Rattle.capture_packet.specs.declared.content.Content.TheVariants.{Ip, IpHeader, NotIp, Unread}
use Rattle.capture_packet.specs.declared.transport.Transport.{Transport}
use Rattle.capture_packet.specs.declared.transport.Transport.TheVariants as transports
use Rattle.capture_packet.specs.Verdicts.{is_length_refused}
use Rattle.capture_packet.specs.declared.verdict.Verdict.{Verdict}

-- the transport, or `None` if an error refuses it
abbrev pub unless_refused : Option HeaderSliceError → Option TransportSlice → Option TransportSlice
unless_refused None transport = transport
unless_refused (Some error) transport = None

-- the transport of a packet, if its header is read
abbrev pub read_in : TransportInIp → Option TransportSlice
read_in found = unless_refused (refusal found) (kept found)

-- this protocol has ports
abbrev pub has_ports : Option Proto → Bool
has_ports (Some protos.Udp) = true
has_ports (Some protos.Tcp) = true
has_ports (Some protos.Icmpv4) = false
has_ports (Some protos.Icmpv6) = false
has_ports None = false

-- The bytes after the IP headers begin with ports. The protocol is UDP or TCP, there are at least four bytes, and they are not from a later
-- fragment.
abbrev pub begins_with_ports_by : Bool → Option Proto → List ℕ → Bool
begins_with_ports_by is_later_fragment proto bytes = not is_later_fragment && (has_ports proto && nat_le 4 (length bytes))

-- the bytes after the IP headers of a packet begin with ports
abbrev pub begins_with_ports : TransportInIp → Bool
begins_with_ports found =
    begins_with_ports_by found.is_later_fragment (proto_over (by_value found.addresses) found.protocol.0) found.payload.now

-- The source port (bytes 0 and 1) and the destination port (bytes 2 and 3), if `bytes` begin with ports. `proto` is the protocol of these
-- bytes.
abbrev pub ports_at : Bool → Option Proto → List ℕ → Option (ℕ × ℕ)
ports_at is_later_fragment proto bytes =
    if begins_with_ports_by is_later_fragment proto bytes then Some (be_number bytes 0 2, be_number bytes 2 2) else None

-- the ports at the front of a transport, if the transport begins with ports
abbrev pub ports_in : TransportInIp → Option (ℕ × ℕ)
ports_in found = ports_at found.is_later_fragment (proto_over (by_value found.addresses) found.protocol.0) found.payload.now

-- no transport header is read: the header is absent or refused, or the verdict refuses its length field
abbrev pub LacksHeader : TransportInIp → Verdict → Type 0
LacksHeader found verdict = (read_in found ≡ None) ⊎ (is_length_refused verdict ≡ true)

-- The transport of an IP packet with this verdict. If its header is read, this is the transport itself. Otherwise it is the bytes after the
-- IP headers, with the two ports if the bytes begin with ports. UDP and TCP have the source port in bytes 0 and 1, and the destination port
-- in bytes 2 and 3 (RFC 768; RFC 9293, section 3.1).
abbrev pub Holds : TransportInIp → Verdict → Transport → Type 0
Holds found verdict (transports.Read transport) = (read_in found ≡ Some transport) × (is_length_refused verdict ≡ false)
Holds found verdict (transports.Ports source destination payload) =
    LacksHeader found verdict × ((begins_with_ports found ≡ true) × ((source ≡ be_number found.payload.now 0 2)
    × ((destination ≡ be_number found.payload.now 2 2) × (payload.now ≡ found.payload.now))))
Holds found verdict (transports.Unread payload) =
    LacksHeader found verdict × ((begins_with_ports found ≡ false) × (payload.now ≡ found.payload.now))

-- this content is the content of an IP packet with these bytes, this transport and this verdict
abbrev pub Shows : List ℕ → TransportInIp → Verdict → Content → Type 0
Shows bytes found verdict Unread = ⊥
Shows bytes found verdict (IpHeader addresses) = ⊥
Shows bytes found verdict (NotIp protocol) = ⊥
Shows bytes found verdict (Ip addresses protocol proto transport len) =
    (addresses ≡ found.addresses) × ((protocol ≡ found.protocol)
    × ((proto ≡ proto_over (by_value found.addresses) found.protocol.0)
    × (Holds found verdict transport × (len ≡ payload_len (counted_payload_len bytes found) transport))))

-- the source and the destination in an IP header
abbrev pub addresses_in : Fixed → Addresses
addresses_in (fixed.Ipv4 source destination time_to_live protocol) = Ipv4 source destination
addresses_in (fixed.Ipv6 source destination hop_limit next_header) = Ipv6 source (Some destination)

-- the source and the destination in the IP header at the front of a packet, if its fixed part is complete
abbrev pub fixed_addresses : List ℕ → Option Addresses
fixed_addresses packet = option_map addresses_in (fixed_header packet)

-- the content of an IP packet whose headers are refused: the addresses in its IP header if the fixed part is complete, otherwise nothing
abbrev pub ShowsRefused : List ℕ → Content → Type 0
ShowsRefused packet Unread = fixed_addresses packet ≡ None
ShowsRefused packet (IpHeader addresses) = fixed_addresses packet ≡ Some (by_value addresses)
ShowsRefused packet (NotIp protocol) = ⊥
ShowsRefused packet (Ip addresses protocol proto transport len) = ⊥
