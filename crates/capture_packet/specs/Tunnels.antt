-- Tunnels: IP packets in IP packets (RFC 2003; RFC 4213, section 3; RFC 2473), with or without a GRE header between them (RFC 2784), and
-- frames in UDP datagrams with a VXLAN or Geneve header (RFC 7348; RFC 8926).
use Rattle.std.specs.Prelude.{ℕ, ◌==◌, Bool, not, ◌&&◌, ◌||◌, if◌then◌else◌, List, drop, Option, Some, None, Result, Ok, Err}
use Rattle.std.specs.Option.{option_map}
use Rattle.net_base.specs.IpNumbers.{udp_number}
use Rattle.ip_part.specs.Addresses as addresses
use Rattle.ip_part.specs.Addresses.{Addresses}
use Rattle.ip_part.specs.Headers.{Headers}
use Rattle.ip_part.specs.Ip.{counted, headers_of, is_cut_off, lacks_len, lax_refusal}
use Rattle.ip_part.specs.declared.ip_error.IpError.{IpError}
use Rattle.capture_numbers.specs.declared.link_type.LinkType.{LinkType}
use Rattle.capture_numbers.specs.declared.link_type.LinkType.TheVariants.{RawIp}
use Rattle.capture_packet.specs.Gre as gre
use Rattle.capture_packet.specs.InnerPackets.{packet_of_type, packet_of_version}
use Rattle.capture_packet.specs.UdpTunnels.{Inside, inside_udp}
use Rattle.capture_packet.specs.declared.tunnel.Tunnel.{Tunnel}
use Rattle.capture_packet.specs.declared.virtual_network.VirtualNetwork.{VirtualNetwork}

-- ---- the packet in a payload

-- the IP packet after the GRE header at the front of these bytes, if the header is read and an IP packet follows
abbrev pub packet_after_gre : List ℕ → Option (List ℕ)
packet_after_gre bytes =
    if gre.is_read bytes then packet_of_type (gre.protocol_type bytes) (drop (gre.header_len bytes) bytes) else None

-- The packet in a payload with this protocol number. 4 is IPv4 (RFC 2003, section 3.1), 41 is IPv6 (RFC 4213, section 3.5), and 47 is GRE
-- (RFC 2784, section 5).
abbrev pub packet_in : ℕ → List ℕ → Option (List ℕ)
packet_in number payload =
    if number == 4 then packet_of_version 4 payload
    else if number == 41 then packet_of_version 6 payload
    else if number == 47 then packet_after_gre payload
    else None

-- the inner packet in the payload of an outer packet; a fragment contains only a part of the payload, so it has no inner packet
abbrev pub payload_packet : Bool → ℕ → List ℕ → Option (List ℕ)
payload_packet is_fragment number payload = if is_fragment then None else packet_in number payload

-- What the payload of an outer packet contains: a frame in a UDP datagram, if tunnels in UDP are read, or a raw IP packet. `is_cut` states
-- whether the end of the outer packet is missing.
abbrev pub inside_payload : Bool → Bool → Bool → ℕ → List ℕ → Option Inside
inside_payload udp_tunnels is_fragment is_cut number payload =
    if udp_tunnels && (number == udp_number && not is_fragment) then inside_udp is_cut payload
    else option_map (λ packet. record { network = None; link_type = RawIp; bytes = packet }) (payload_packet is_fragment number payload)

-- ---- one tunnel

-- the outer packet of a tunnel: its addresses, which are the ends of the tunnel, its protocol number, and the virtual network to which the
-- tunnel belongs, if it states one
pub record Outer : Type 0 where
  pub addresses : Addresses
  pub protocol : ℕ
  pub network : Option VirtualNetwork

-- the value of an outer packet; where its addresses are stored does not matter
abbrev pub by_value : Tunnel → Outer
by_value tunnel = record { addresses = addresses.by_value tunnel.addresses; protocol = tunnel.protocol.0; network = tunnel.network }

-- a tunnel: its outer packet, the link type and the bytes of the frame in it, and whether the end of the outer packet is missing
pub record Opened : Type 0 where
  pub outer : Outer
  pub link_type : LinkType
  pub bytes : List ℕ
  pub is_cut : Bool

-- the tunnel in an outer packet with these addresses and this protocol number
abbrev pub tunnel_around : Addresses → ℕ → Bool → Inside → Opened
tunnel_around between number is_cut inside = record {
  outer = record { addresses = between; protocol = number; network = inside.network };
  link_type = inside.link_type;
  bytes = inside.bytes;
  is_cut = is_cut;
}

-- the tunnel in an outer packet with these addresses and this protocol number, if its payload contains a frame
abbrev pub opened_with : Bool → Addresses → ℕ → Bool → Bool → List ℕ → Option Opened
opened_with udp_tunnels between number is_fragment is_cut payload =
    option_map (tunnel_around between number is_cut) (inside_payload udp_tunnels is_fragment is_cut number payload)

-- The end of an IP packet is missing. Either its header states a length, and fewer bytes are present. Or its header states no length, and
-- `is_cut` is true, since the capture or an outer packet is cut off.
abbrev pub is_end_missing : Bool → List ℕ → Bool
is_end_missing is_cut packet = is_cut_off (lacks_len packet) packet || (is_cut && lacks_len packet)

-- the tunnel in an outer packet with these IP headers; if they are refused, the packet contains no tunnel
abbrev pub opened_after : Bool → Bool → List ℕ → Result Headers IpError → Option Opened
opened_after udp_tunnels is_cut packet (Err error) = None
opened_after udp_tunnels is_cut packet (Ok headers) =
    opened_with udp_tunnels headers.addresses headers.protocol.0 headers.is_fragment (is_end_missing is_cut packet)
    (drop headers.len (counted (lacks_len packet) packet))

-- the tunnel in an outer packet; if this error refuses the packet, it contains no tunnel
abbrev pub opened_unless : Option IpError → Bool → Bool → List ℕ → Option Opened
opened_unless (Some error) udp_tunnels is_cut packet = None
opened_unless None udp_tunnels is_cut packet = opened_after udp_tunnels is_cut packet (headers_of (lacks_len packet) packet)

-- The tunnel in an IP packet. `udp_tunnels` states whether tunnels in UDP are read. `None` if the packet contains no tunnel, if it is a
-- fragment, or if its IP headers are refused.
abbrev pub opened : Bool → Bool → List ℕ → Option Opened
opened udp_tunnels is_cut packet = opened_unless (lax_refusal packet) udp_tunnels is_cut packet

-- the maximum number of tunnels that are read
abbrev pub max_tunnels : ℕ
max_tunnels = 4
