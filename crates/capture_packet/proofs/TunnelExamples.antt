-- Worked examples of tunnels, so that a wrong definition fails before any code does.
use Rattle.std.proofs.Common.{◌≡◌, ℕ, true, false, List, [], ◌∷◌, ◌++◌, None, Option, Some, refl}
use Rattle.ip_part.specs.Addresses.{Ipv4}
use Rattle.ip_part.specs.Ip.{headers_to_transport}
use Rattle.ip_part.specs.Options.{options_within}
use Rattle.capture_numbers.specs.declared.link_type.LinkType.{LinkType}
use Rattle.capture_numbers.specs.declared.link_type.LinkType.TheVariants.{Ethernet, RawIp}
use Rattle.capture_packet.specs.Tunnels.{Opened, opened}
use Rattle.capture_packet.specs.declared.virtual_network.NetworkKind.TheVariants.{Geneve, Vxlan}
use Rattle.capture_packet.specs.declared.virtual_network.VirtualNetwork.{VirtualNetwork}

-- an IPv4 packet of this total length, with this byte of flags and this protocol, from 10.0.0.3 to 10.0.0.4
ipv4_packet : ℕ → ℕ → ℕ → List ℕ → List ℕ
ipv4_packet total flags protocol after =
    0x45 ∷ 0 ∷ 0 ∷ total ∷ 0 ∷ 0 ∷ flags ∷ 0 ∷ 64 ∷ protocol ∷ 0 ∷ 0 ∷ 10 ∷ 0 ∷ 0 ∷ 3 ∷ 10 ∷ 0 ∷ 0 ∷ 4 ∷ after

-- a tunnel in an outer packet with this protocol and this network, which contains a frame of this link type
tunnel_of : ℕ → Option VirtualNetwork → LinkType → List ℕ → Opened
tunnel_of protocol network link_type frame = record {
  outer = record { addresses = Ipv4 (10 ∷ 0 ∷ 0 ∷ 3 ∷ []) (10 ∷ 0 ∷ 0 ∷ 4 ∷ []); protocol = protocol; network = network };
  link_type = link_type;
  bytes = frame;
  is_cut = false;
}

-- ---- IP in IP, and GRE

-- a packet that contains no other packet
inner : List ℕ
inner = ipv4_packet 21 0 17 (7 ∷ [])

-- a tunnel over IP, in an outer packet with this protocol, which contains `inner`
around_inner : ℕ → Opened
around_inner protocol = tunnel_of protocol None RawIp inner

no_tunnel : opened true false inner ≡ None
unfolding headers_to_transport options_within ipv4_packet inner
no_tunnel = refl

-- IPv4 in IPv4 (RFC 2003), with a byte of padding after the outer packet
ipv4_in_ipv4 : opened false false (ipv4_packet 41 0 4 (inner ++ 0 ∷ [])) ≡ Some (around_inner 4)
unfolding headers_to_transport options_within ipv4_packet inner tunnel_of around_inner
ipv4_in_ipv4 = refl

-- IPv4 in GRE without an optional field (RFC 2784)
in_gre : opened false false (ipv4_packet 45 0 47 (0 ∷ 0 ∷ 8 ∷ 0 ∷ inner)) ≡ Some (around_inner 47)
unfolding headers_to_transport options_within ipv4_packet inner tunnel_of around_inner
in_gre = refl

-- IPv4 in GRE with a key (RFC 2890)
in_gre_with_key : opened false false (ipv4_packet 49 0 47 (0x20 ∷ 0 ∷ 8 ∷ 0 ∷ 0 ∷ 0 ∷ 0 ∷ 42 ∷ inner)) ≡ Some (around_inner 47)
unfolding headers_to_transport options_within ipv4_packet inner tunnel_of around_inner
in_gre_with_key = refl

-- a first fragment, whose packet is not read
in_fragment : opened false false (ipv4_packet 41 0x20 4 inner) ≡ None
unfolding headers_to_transport options_within ipv4_packet inner
in_fragment = refl

-- GRE of version 1 (RFC 2637), whose packet is not read
in_gre_of_version_1 : opened false false (ipv4_packet 45 0 47 (0 ∷ 1 ∷ 8 ∷ 0 ∷ inner)) ≡ None
unfolding headers_to_transport options_within ipv4_packet inner
in_gre_of_version_1 = refl

-- the outer packet counts a byte that is not present: the inner packet is complete, but a missing length would be unknown
in_cut_packet : opened false false (ipv4_packet 42 0 4 inner) ≡ Some (record (around_inner 4) { is_cut = true })
unfolding headers_to_transport options_within ipv4_packet inner tunnel_of around_inner
in_cut_packet = refl

-- ---- tunnels in UDP

-- an Ethernet frame with an ARP ether type and nothing after it
arp_frame : List ℕ
arp_frame = 2 ∷ 0 ∷ 0 ∷ 0 ∷ 0 ∷ 2 ∷ 2 ∷ 0 ∷ 0 ∷ 0 ∷ 0 ∷ 1 ∷ 8 ∷ 6 ∷ []

-- a UDP datagram of this length from port 49152 to this port, given as two bytes, without a checksum
udp_datagram : ℕ → ℕ → ℕ → List ℕ → List ℕ
udp_datagram len high low payload = 0xC0 ∷ 0 ∷ high ∷ low ∷ 0 ∷ len ∷ 0 ∷ 0 ∷ payload

-- a VXLAN header with these flags, a network identifier of 0x01E240 (123456), and `arp_frame` after it (RFC 7348, section 5)
vxlan : ℕ → List ℕ
vxlan flags = flags ∷ 0 ∷ 0 ∷ 0 ∷ 1 ∷ 0xE2 ∷ 0x40 ∷ 0 ∷ arp_frame

-- a tunnel of this network
around_frame : VirtualNetwork → LinkType → List ℕ → Opened
around_frame network link_type frame = tunnel_of 17 (Some network) link_type frame

in_vxlan : opened true false (ipv4_packet 50 0 17 (udp_datagram 30 0x12 0xB5 (vxlan 8)))
    ≡ Some (around_frame (record { kind = Vxlan; id = 123456 }) Ethernet arp_frame)
unfolding headers_to_transport options_within ipv4_packet tunnel_of arp_frame udp_datagram vxlan around_frame
in_vxlan = refl

-- the reserved flags are ignored
in_vxlan_with_flags : opened true false (ipv4_packet 50 0 17 (udp_datagram 30 0x12 0xB5 (vxlan 0xFF)))
    ≡ Some (around_frame (record { kind = Vxlan; id = 123456 }) Ethernet arp_frame)
unfolding headers_to_transport options_within ipv4_packet tunnel_of arp_frame udp_datagram vxlan around_frame
in_vxlan_with_flags = refl

-- the flag I is not set
without_flag : opened true false (ipv4_packet 50 0 17 (udp_datagram 30 0x12 0xB5 (vxlan 0xF7))) ≡ None
unfolding headers_to_transport options_within ipv4_packet arp_frame udp_datagram vxlan
without_flag = refl

-- tunnels in UDP are not read
not_requested : opened false false (ipv4_packet 50 0 17 (udp_datagram 30 0x12 0xB5 (vxlan 8))) ≡ None
unfolding headers_to_transport options_within ipv4_packet arp_frame udp_datagram vxlan
not_requested = refl

-- the port is the source port only
to_another_port : opened true false (ipv4_packet 50 0 17 (0x12 ∷ 0xB5 ∷ 0xC0 ∷ 0 ∷ 0 ∷ 30 ∷ 0 ∷ 0 ∷ vxlan 8)) ≡ None
unfolding headers_to_transport options_within ipv4_packet arp_frame vxlan
to_another_port = refl

-- the length field of the datagram counts a byte that is not present: this is an error, unless the outer packet is cut off
too_long_datagram : opened true false (ipv4_packet 50 0 17 (udp_datagram 31 0x12 0xB5 (vxlan 8))) ≡ None
unfolding headers_to_transport options_within ipv4_packet arp_frame udp_datagram vxlan
too_long_datagram = refl

cut_datagram : opened true false (ipv4_packet 51 0 17 (udp_datagram 31 0x12 0xB5 (vxlan 8)))
    ≡ Some (record (around_frame (record { kind = Vxlan; id = 123456 }) Ethernet arp_frame) { is_cut = true })
unfolding headers_to_transport options_within ipv4_packet tunnel_of arp_frame udp_datagram vxlan around_frame
cut_datagram = refl

-- a Geneve header of this first byte and this protocol type, with a network identifier of 123456, and four bytes of options (RFC 8926,
-- section 3.4)
geneve : ℕ → ℕ → ℕ → List ℕ → List ℕ
geneve first high low after = first ∷ 0 ∷ high ∷ low ∷ 1 ∷ 0xE2 ∷ 0x40 ∷ 0 ∷ 1 ∷ 2 ∷ 3 ∷ 0 ∷ after

in_geneve : opened true false (ipv4_packet 54 0 17 (udp_datagram 34 0x17 0xC1 (geneve 1 0x65 0x58 arp_frame)))
    ≡ Some (around_frame (record { kind = Geneve; id = 123456 }) Ethernet arp_frame)
unfolding headers_to_transport options_within ipv4_packet tunnel_of arp_frame udp_datagram geneve around_frame
in_geneve = refl

ipv4_in_geneve : opened true false (ipv4_packet 61 0 17 (udp_datagram 41 0x17 0xC1 (geneve 1 8 0 inner)))
    ≡ Some (around_frame (record { kind = Geneve; id = 123456 }) RawIp inner)
unfolding headers_to_transport options_within ipv4_packet inner tunnel_of udp_datagram geneve around_frame
ipv4_in_geneve = refl

-- version 1 with four bytes of options
in_geneve_of_version_1 : opened true false (ipv4_packet 54 0 17 (udp_datagram 34 0x17 0xC1 (geneve 65 0x65 0x58 arp_frame))) ≡ None
unfolding headers_to_transport options_within ipv4_packet arp_frame udp_datagram geneve
in_geneve_of_version_1 = refl

-- the options are longer than the payload
too_many_options : opened true false (ipv4_packet 54 0 17 (udp_datagram 34 0x17 0xC1 (geneve 5 0x65 0x58 arp_frame))) ≡ None
unfolding headers_to_transport options_within ipv4_packet arp_frame udp_datagram geneve
too_many_options = refl

-- protocol type 6559
of_another_protocol : opened true false (ipv4_packet 54 0 17 (udp_datagram 34 0x17 0xC1 (geneve 1 0x65 0x59 arp_frame))) ≡ None
unfolding headers_to_transport options_within ipv4_packet arp_frame udp_datagram geneve
of_another_protocol = refl
