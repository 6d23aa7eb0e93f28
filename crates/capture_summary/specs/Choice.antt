-- The packets that are chosen: by hosts, ports, protocols and times.
use Rattle.std.specs.Prelude.{◌≡◌, ◌⊎◌, ◌≤◌, ℕ, false, IfSome, IsSomeAnd, List, [], ◌∷◌, Option, Some, None}
use Rattle.ip_part.specs.Addresses.{Addresses, Ipv4, Ipv6, by_value}
use Rattle.capture_summary.specs.Protocols.{content_protocol, protocol_place}
use Rattle.capture_summary.specs.Networks.{IsIpv4In, IsIpv6In}
use Rattle.capture_packet.specs.declared.content.Content.{Content}
use Rattle.capture_packet.specs.declared.content.Content.TheVariants as contents
use Rattle.capture_packet.specs.Quotes.{Quoted, quoted_in}
use Rattle.capture_packet.specs.declared.packet.Packet.{Packet}
use Rattle.capture_packet.specs.declared.tunnel.Tunnel.{Tunnel}
use Rattle.capture_file.specs.declared.packet_time.PacketTime.{PacketTime}
use Rattle.capture_summary.specs.FlowOf.{ports_of}
use Rattle.capture_summary.specs.TimeRanges.{IsInTimes, every_time}
use Rattle.capture_summary.specs.declared.choice.Choice.{Choice}
use Rattle.capture_summary.specs.declared.choice.ChosenProtocol.{ChosenProtocol}
use Rattle.capture_summary.specs.declared.choice.ChosenProtocol.TheVariants as chosen
use Rattle.capture_summary.specs.declared.choice.PortRange.{PortRange}
use Rattle.capture_summary.specs.declared.choice.Side.{Side}
use Rattle.capture_summary.specs.declared.choice.Side.TheVariants.{Destination, Either, Source}
use Rattle.capture_summary.specs.declared.flow.FlowProtocol.{FlowProtocol}
use Rattle.capture_summary.specs.declared.network.Network.{Network}
use Rattle.capture_summary.specs.declared.protocol.Protocol.TheVariants.{Icmpv4, Icmpv6}

-- the choice of all packets, without tunnels in UDP
abbrev pub every_packet : Choice
every_packet = record {
  hosts = None;
  sources = None;
  destinations = None;
  other_hosts = None;
  ports = None;
  other_ports = None;
  protocols = None;
  udp_tunnels = false;
  time_range = every_time;
}

-- `Statement` holds for one of these values; empty places do not count
abbrev pub HasAny : {X : Type 0} → (X → Type 0) → List (Option X) → Type 0
HasAny Statement [] = ⊥
HasAny Statement (place ∷ places) = IsSomeAnd place Statement ⊎ HasAny Statement places

-- `Statement` holds for none of these values
abbrev pub HasNone : {X : Type 0} → (X → Type 0) → List (Option X) → Type 0
HasNone Statement places = HasAny Statement places → ⊥

-- the source is in the network
abbrev pub IsSource : Addresses → Network → Type 0
IsSource (Ipv4 source destination) host = IsIpv4In source host
IsSource (Ipv6 source destination) host = IsIpv6In source host

-- the final destination is known, and is in the network
abbrev pub IsDestination : Addresses → Network → Type 0
IsDestination (Ipv4 source destination) host = IsIpv4In destination host
IsDestination (Ipv6 source (Some destination)) host = IsIpv6In destination host
IsDestination (Ipv6 source None) host = ⊥

-- The source or the final destination is in the network. If the final destination is unknown, only the source is compared.
abbrev pub IsSourceOrDestination : Addresses → Network → Type 0
IsSourceOrDestination addresses host = IsSource addresses host ⊎ IsDestination addresses host

-- the port is in the range
abbrev pub IsInRange : ℕ → PortRange → Type 0
IsInRange port range = (range.first ≤ port) × (port ≤ range.last)

-- the packet has ports, and its source port or its destination port is in the range
abbrev pub IsPortOf : Option (FlowProtocol × ℕ × ℕ) → PortRange → Type 0
IsPortOf None range = ⊥
IsPortOf (Some ports) range = IsInRange ports.1 range ⊎ IsInRange ports.2 range

-- the packet that an ICMP error quotes is from or to this host
abbrev pub QuotesHost : Option Quoted → Network → Type 0
QuotesHost quoted host = IsSomeAnd quoted (λ packet. IsSourceOrDestination packet.addresses host)

-- the packet that an ICMP error quotes is from or to a port in this range
abbrev pub QuotesPort : Option Quoted → PortRange → Type 0
QuotesPort quoted range = IsSomeAnd quoted (λ packet. IsSomeAnd packet.ports (λ ports. IsInRange ports.0 range ⊎ IsInRange ports.1 range))

-- An IP packet is from or to this host, or it is an ICMP error that quotes a packet from or to the host. If the headers of the packet are
-- refused, the addresses in its fixed header are compared.
abbrev pub HasHost : Content → Network → Type 0
HasHost contents.Unread host = ⊥
HasHost (contents.IpHeader addresses) host = IsSourceOrDestination (by_value addresses) host
HasHost (contents.NotIp protocol) host = ⊥
HasHost (contents.Ip addresses protocol proto transport payload_len) host =
    IsSourceOrDestination (by_value addresses) host ⊎ QuotesHost (quoted_in transport) host

-- one of these tunnels has an end in the network; the ends of a tunnel are the source and the destination of its outer packet
abbrev pub HasTunnelEnd : List Tunnel → Network → Type 0
HasTunnelEnd [] host = ⊥
HasTunnelEnd (tunnel ∷ tunnels) host = IsSourceOrDestination (by_value tunnel.addresses) host ⊎ HasTunnelEnd tunnels host

-- The packet matches this host. It is from or to the host, or it quotes a packet from or to the host, or the host is an end of one of its
-- tunnels.
abbrev pub MatchesHost : Packet → Network → Type 0
MatchesHost packet host = HasHost packet.content host ⊎ HasTunnelEnd packet.tunnels.items host

-- an IP packet is from this host; if the headers of the packet are refused, the address in its fixed header is compared
abbrev pub IsFrom : Content → Network → Type 0
IsFrom contents.Unread host = ⊥
IsFrom (contents.IpHeader addresses) host = IsSource (by_value addresses) host
IsFrom (contents.NotIp protocol) host = ⊥
IsFrom (contents.Ip addresses protocol proto transport payload_len) host = IsSource (by_value addresses) host

-- an IP packet is to this host; if the headers of the packet are refused, the address in its fixed header is compared
abbrev pub IsTo : Content → Network → Type 0
IsTo contents.Unread host = ⊥
IsTo (contents.IpHeader addresses) host = IsDestination (by_value addresses) host
IsTo (contents.NotIp protocol) host = ⊥
IsTo (contents.Ip addresses protocol proto transport payload_len) host = IsDestination (by_value addresses) host

-- the packet matches this host; `Side` states which addresses are compared
abbrev pub MatchesOn : Side → Packet → Network → Type 0
MatchesOn Either packet host = MatchesHost packet host
MatchesOn Source packet host = IsFrom packet.content host
MatchesOn Destination packet host = IsTo packet.content host

-- the packet is from or to a port in this range, or it is an ICMP error that quotes a packet from or to a port in this range
abbrev pub HasPort : Content → PortRange → Type 0
HasPort contents.Unread range = ⊥
HasPort (contents.IpHeader addresses) range = ⊥
HasPort (contents.NotIp protocol) range = ⊥
HasPort (contents.Ip addresses protocol proto transport payload_len) range =
    IsPortOf (ports_of proto transport) range ⊎ QuotesPort (quoted_in transport) range

-- The packet is of the chosen protocol. A chosen row of the table of protocols is the row of the packet. If ICMP is chosen, the packet is
-- ICMPv4 or ICMPv6.
abbrev pub IsOfProtocol : Content → ChosenProtocol → Type 0
IsOfProtocol content (chosen.One one) = protocol_place (content_protocol content) ≡ protocol_place one
IsOfProtocol content chosen.Icmp = (content_protocol content ≡ Icmpv4) ⊎ (content_protocol content ≡ Icmpv6)

-- The packet matches the fields about addresses. If `hosts` is set, the packet matches one of these hosts. If `sources` is set, the packet
-- is from one of the sources. If `destinations` is set, the packet is to one of the destinations. If `other_hosts` is set, the packet
-- matches none of these hosts.
pub record HasChosenAddresses (choice : Choice) (packet : Packet) : Type 0 where
  pub hosts : IfSome choice.hosts (HasAny (MatchesHost packet))
  pub sources : IfSome choice.sources (HasAny (IsFrom packet.content))
  pub destinations : IfSome choice.destinations (HasAny (IsTo packet.content))
  pub other_hosts : IfSome choice.other_hosts (HasNone (MatchesHost packet))

-- The packet matches the fields about ports and protocols. If `ports` is set, the packet matches one of these ranges. If `other_ports` is
-- set, the packet matches none of these ranges. If `protocols` is set, the packet is of one of the protocols.
pub record HasChosenContent (choice : Choice) (content : Content) : Type 0 where
  pub ports : IfSome choice.ports (HasAny (HasPort content))
  pub other_ports : IfSome choice.other_ports (HasNone (HasPort content))
  pub protocols : IfSome choice.protocols (HasAny (IsOfProtocol content))

-- A packet is chosen: it matches each field of the choice that is set, and its time is in the range of the choice. `time` is the time of the
-- packet, or `None` if it is unknown.
pub record IsChosen (choice : Choice) (packet : Packet) (time : Option PacketTime) : Type 0 where
  pub times : IsInTimes choice.time_range time
  pub addresses : HasChosenAddresses choice packet
  pub content : HasChosenContent choice packet.content
