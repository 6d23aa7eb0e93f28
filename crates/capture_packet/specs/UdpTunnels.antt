-- Tunnels in UDP: VXLAN (RFC 7348) and Geneve (RFC 8926).
use Rattle.std.specs.Prelude.{ℕ, ◌==◌, Bool, ◌&&◌, ◌||◌, nat_le, nat_lt, if◌then◌else◌, List, length, drop, Option, Some, None}
use Rattle.std.specs.Option.{option_map}
use Rattle.net_base.specs.Bytes.{be_number}
use Rattle.udp_part.specs.UdpSlice.{cut, length_field}
use Rattle.capture_numbers.specs.declared.link_type.LinkType.{LinkType}
use Rattle.capture_numbers.specs.declared.link_type.LinkType.TheVariants.{Ethernet, RawIp}
use Rattle.capture_packet.specs.Geneve as geneve
use Rattle.capture_packet.specs.InnerPackets.{packet_of_type}
use Rattle.capture_packet.specs.Vxlan as vxlan
use Rattle.capture_packet.specs.declared.virtual_network.NetworkKind.TheVariants.{Geneve, Vxlan}
use Rattle.capture_packet.specs.declared.virtual_network.VirtualNetwork.{VirtualNetwork}

-- what a tunnel contains: a frame of this link type, and the virtual network to which the tunnel belongs, if it states one
pub record Inside : Type 0 where
  pub network : Option VirtualNetwork
  pub link_type : LinkType
  pub bytes : List ℕ

-- the ether type of an Ethernet frame in a tunnel (RFC 8926, section 3.4)
abbrev pub ethernet_type : ℕ
ethernet_type = 0x6558

-- the length of an Ethernet header: two addresses, and an ether type (IEEE 802.3, clause 3.2)
abbrev pub ethernet_len : ℕ
ethernet_len = 14

-- these bytes as an Ethernet frame of this network, if they begin with a whole Ethernet header
abbrev pub ethernet_in : VirtualNetwork → List ℕ → Option Inside
ethernet_in network bytes =
    if nat_le ethernet_len (length bytes) then Some (record { network = Some network; link_type = Ethernet; bytes = bytes }) else None

-- these bytes as a frame of this network: an Ethernet frame, or the IP packet with this ether type
abbrev pub frame_of_type : VirtualNetwork → ℕ → List ℕ → Option Inside
frame_of_type network ether_type bytes =
    if ether_type == ethernet_type then ethernet_in network bytes
    else option_map (λ packet. record { network = Some network; link_type = RawIp; bytes = packet }) (packet_of_type ether_type bytes)

-- the frame after the VXLAN header at the front of these bytes, if the header is read
abbrev pub inside_vxlan : List ℕ → Option Inside
inside_vxlan bytes =
    if vxlan.is_read bytes then ethernet_in (record { kind = Vxlan; id = vxlan.network_id bytes }) (drop vxlan.header_len bytes) else None

-- the frame after the Geneve header at the front of these bytes, if the header is read
abbrev pub inside_geneve : List ℕ → Option Inside
inside_geneve bytes =
    if geneve.is_read bytes
    then frame_of_type (record { kind = Geneve; id = geneve.network_id bytes }) (geneve.protocol_type bytes)
    (drop (geneve.header_len bytes) bytes)
    else None

-- the frame in the payload of a UDP datagram to this port
abbrev pub inside_port : ℕ → List ℕ → Option Inside
inside_port port payload =
    if port == vxlan.port then inside_vxlan payload
    else if port == geneve.port then inside_geneve payload
    else None

-- The length field of a UDP datagram is the number of its bytes. Or it counts more bytes, and the packet is cut off.
abbrev pub counts_datagram : Bool → List ℕ → Bool
counts_datagram is_cut datagram =
    length_field datagram == length datagram || (is_cut && nat_lt (length datagram) (length_field datagram))

-- the frame in a UDP datagram: its destination port is in bytes 2 and 3, and its payload follows the header of eight bytes (RFC 768)
abbrev pub inside_datagram : Bool → List ℕ → Option Inside
inside_datagram is_cut datagram =
    if counts_datagram is_cut datagram then inside_port (be_number datagram 2 2) (drop 8 datagram) else None

-- The frame in the payload of an IP packet with the protocol UDP. `is_cut` states whether the end of the IP packet is missing.
abbrev pub inside_udp : Bool → List ℕ → Option Inside
inside_udp is_cut payload = if nat_le 8 (length payload) then inside_datagram is_cut (cut payload) else None
