-- Worked examples of link headers: a frame of each link type, and stacks of MPLS labels. A wrong definition fails here before any code.
use Rattle.std.proofs.Common.{◌≡◌, ◌<◌, ◌≤◌, ℕ, zero, suc, false, List, [], ◌∷◌, ◌++◌, Option, Some, None, Ok, arith, inl, inr, length, refl, replicate}
use Rattle.std.specs.Prelude.{slice_range}
use Rattle.capture_numbers.specs.declared.byte_order.ByteOrder.TheVariants.{BigEndian, LittleEndian}
use Rattle.capture_numbers.specs.declared.link_type.LinkType.TheVariants.{Avs, BsdLoopback, CiscoHdlc, Ethernet, FrameRelay, Ieee80211, InfiniBand, Ipnet, LinuxCooked, LinuxCooked2, Nflog, OpenBsdLoopback, Pflog, Pktap, Ppi, Ppp, PppHdlc, PppOverEthernet, Prism, Radiotap, RawIp}
use Rattle.capture_packet.specs.Link.{HasEtherHeader, HasLinkHeader, NeedsLinkHeader, after_tags, ether_type_after, is_vlan_tag, tagged_len}
use Rattle.capture_packet.specs.LinkHeaders.{end_in}
use Rattle.capture_packet.specs.declared.network_protocol.NetworkProtocol.{NetworkProtocol}
use Rattle.capture_packet.specs.declared.network_protocol.NetworkProtocol.TheVariants.{AddressFamily, EtherType, Ieee80211 as OtherFrame, LinkType, Llc, Nlpid, PppProtocol}
use Rattle.capture_packet.specs.declared.link.header.EtherHeader.{EtherHeader}

-- the first bytes of an IPv4 packet
abbrev packet : List ℕ
packet = 0x45 ∷ 0 ∷ []

-- two addresses of Ethernet
abbrev addresses : List ℕ
addresses = replicate 6 2 ++ replicate 6 3

-- ---- headers with an ether type

-- the link header of a frame without tags
no_tag : (header : EtherHeader) (frame : List ℕ) (len : ℕ) (next : Option NetworkProtocol) (end : Option ℕ)
    → is_vlan_tag (ether_type_after header frame 0) ≡ false → tagged_len header 0 ≤ length frame
    → after_tags header frame (tagged_len header 0) (ether_type_after header frame 0) ≡ Ok (record { len = len; next = next; end = end })
    → HasEtherHeader header frame len next end
no_tag header frame len next end last there says = record {
  tags = 0;
  has = record { tagged = λ tag within. absurd (omega (arith, within)); last = last; there = there };
  says = says;
}

-- a statement about each of one tags is the statement about tag 0
of_first : (P : ℕ → Type 0) → P 0 → (tag : ℕ) → tag < 1 → P tag
of_first P first zero within = first
of_first P first (suc tag) within = absurd (omega (arith, within))

ethernet : HasLinkHeader Ethernet LittleEndian (addresses ++ 0x08 ∷ 0x00 ∷ packet) 14 None None
ethernet = no_tag _ _ 14 None _ refl (omega arith) refl

ethernet_with_tag : HasLinkHeader Ethernet LittleEndian (addresses ++ 0x81 ∷ 0x00 ∷ 0 ∷ 100 ∷ 0x86 ∷ 0xDD ∷ packet) 18 None None
ethernet_with_tag = record {
  tags = 1;
  has = record { tagged = of_first _ refl; last = refl; there = omega arith };
  says = refl;
}

-- an Ethernet frame with ARP
ethernet_without_ip : HasLinkHeader Ethernet LittleEndian (addresses ++ 0x08 ∷ 0x06 ∷ []) 14 (Some (EtherType 0x0806)) None
ethernet_without_ip = no_tag _ _ 14 _ _ refl (omega arith) refl

-- an Ethernet frame with a length of 38 bytes and the spanning tree protocol
ethernet_with_llc : HasLinkHeader Ethernet LittleEndian (addresses ++ 0 ∷ 38 ∷ 0x42 ∷ 0x42 ∷ 0x03 ∷ []) 17 (Some (Llc 0x42 0x42)) None
ethernet_with_llc = (refl, refl, refl)

ip_after_llc : HasLinkHeader Ethernet LittleEndian (addresses ++ 0 ∷ 5 ∷ 0x06 ∷ 0x06 ∷ 0x03 ∷ packet) 17 None None
ip_after_llc = (refl, refl, refl)

-- an Ethernet frame with the organization code of a bridge and the ether type of IPv4
ip_after_bridge : HasLinkHeader Ethernet LittleEndian
    (addresses ++ 0 ∷ 10 ∷ 0xAA ∷ 0xAA ∷ 0x03 ∷ 0x00 ∷ 0x00 ∷ 0xF8 ∷ 0x08 ∷ 0x00 ∷ packet) 22 None None
ip_after_bridge = no_tag _ _ 22 None _ refl (omega arith) refl

-- an Ethernet frame that ends within its tag, which would end at 18 bytes
ends_in_tag : NeedsLinkHeader Ethernet LittleEndian (addresses ++ 0x81 ∷ 0x00 ∷ 0 ∷ []) 18
ends_in_tag =
    inr (inl (record {
      tags = 0;
      in_tag = record { tagged = of_first _ refl; there = omega arith; ends = omega arith };
      is_required_len = refl;
    }))

linux_cooked : HasLinkHeader LinuxCooked LittleEndian (0 ∷ 0 ∷ 0 ∷ 1 ∷ 0 ∷ 6 ∷ (replicate 8 2 ++ 0x08 ∷ 0x00 ∷ packet)) 16 None None
linux_cooked = no_tag _ _ 16 None _ refl (omega arith) refl

linux_cooked_2 : HasLinkHeader LinuxCooked2 LittleEndian (0x86 ∷ 0xDD ∷ (replicate 18 0 ++ packet)) 20 None None
linux_cooked_2 = no_tag _ _ 20 None _ refl (omega arith) refl

-- a Linux cooked frame with the device type 824 of netlink, and the protocol 16, generic netlink
netlink : HasLinkHeader LinuxCooked LittleEndian (0 ∷ 4 ∷ 0x03 ∷ 0x38 ∷ (replicate 10 0 ++ 0 ∷ 16 ∷ [])) 16 (Some (LinkType 253)) None
netlink = (refl, refl, refl)

-- a Linux cooked frame with the device type 824 of netlink, and the protocol 4, which would be an LLC header on another device
netlink_2 : HasLinkHeader LinuxCooked2 LittleEndian (0 ∷ 4 ∷ (replicate 6 0 ++ 0x03 ∷ 0x38 ∷ replicate 10 0)) 20 (Some (LinkType 253)) None
netlink_2 = (refl, refl, refl)

cisco_hdlc : HasLinkHeader CiscoHdlc LittleEndian (0x0F ∷ 0x00 ∷ 0x08 ∷ 0x00 ∷ packet) 4 None None
cisco_hdlc = no_tag _ _ 4 None _ refl (omega arith) refl

-- Cisco HDLC with SLARP, which as an ether type would be RARP, and with CDP
cisco_hdlc_without_ether_type : HasLinkHeader CiscoHdlc LittleEndian (0x8F ∷ 0x00 ∷ 0x80 ∷ 0x35 ∷ []) 4 (Some (LinkType 104)) None
cisco_hdlc_without_ether_type = (refl, refl, refl)

cisco_discovery : HasLinkHeader PppHdlc LittleEndian (0x8F ∷ 0x00 ∷ 0x20 ∷ 0x00 ∷ []) 4 (Some (LinkType 104)) None
cisco_discovery = (refl, refl, refl)

-- IP over InfiniBand, with two reserved bytes that are not 0
infiniband : HasLinkHeader InfiniBand LittleEndian (0x60 ∷ (replicate 39 0 ++ 0x86 ∷ 0xDD ∷ 0 ∷ 1 ∷ packet)) 44 None None
infiniband = no_tag _ _ 44 None _ refl (omega arith) refl

-- ---- PPPoE

-- A frame of a PPPoE session whose payload has this length: 6 bytes, the Protocol field of PPP, and these bytes. The payload begins at 20
-- bytes.
abbrev session_frame : ℕ → List ℕ → List ℕ
session_frame len bytes = addresses ++ 0x88 ∷ 0x64 ∷ 0x11 ∷ 0x00 ∷ 0 ∷ 1 ∷ 0 ∷ len ∷ 0x00 ∷ 0x21 ∷ bytes

session : HasLinkHeader Ethernet LittleEndian (session_frame 4 packet) 22 None (Some 24)
session = no_tag _ _ 22 None _ refl (omega arith) refl

-- a PPPoE session frame in which three bytes of padding follow the payload
session_with_padding : HasLinkHeader Ethernet LittleEndian (session_frame 4 (packet ++ replicate 3 0)) 22 None (Some 24)
session_with_padding = no_tag _ _ 22 None _ refl (omega arith) refl

-- the bytes of padding do not belong to the packet
padding_is_left_out : slice_range (session_frame 4 (packet ++ replicate 3 0)) 22
    (end_in (session_frame 4 (packet ++ replicate 3 0)) (Some 24))
    ≡ packet
padding_is_left_out = refl

-- a PPPoE session frame that ends one byte before its payload
cut_session : HasLinkHeader Ethernet LittleEndian (session_frame 5 packet) 22 None None
cut_session = no_tag _ _ 22 None _ refl (omega arith) refl

-- a PPPoE session frame whose payload of one byte does not contain a Protocol field of two bytes
session_without_protocol : HasLinkHeader Ethernet LittleEndian (session_frame 1 packet) 20 (Some (EtherType 0x8864)) None
session_without_protocol = no_tag _ _ 20 _ _ refl (omega arith) refl

-- the first session frame, without its Ethernet header
ppp_over_ethernet : HasLinkHeader PppOverEthernet LittleEndian (0x11 ∷ 0x00 ∷ 0 ∷ 1 ∷ 0 ∷ 4 ∷ 0x00 ∷ 0x21 ∷ packet) 8 None (Some 10)
ppp_over_ethernet = (refl, refl, refl)

-- a PPPoE discovery packet (PADI)
pppoe_discovery : HasLinkHeader PppOverEthernet LittleEndian (0x11 ∷ 0x09 ∷ 0 ∷ 0 ∷ 0 ∷ 0 ∷ []) 6 (Some (EtherType 0x8863)) None
pppoe_discovery = (refl, refl, refl)

-- ---- stacks of MPLS labels

-- a stack of label 16, and label 17, which is the last; the time to live is 64
abbrev two_labels : List ℕ
two_labels = 0 ∷ 1 ∷ 0x00 ∷ 64 ∷ 0 ∷ 1 ∷ 0x11 ∷ 64 ∷ []

mpls : HasLinkHeader Ethernet LittleEndian (addresses ++ 0x88 ∷ 0x47 ∷ (two_labels ++ packet)) 22 None None
mpls = no_tag _ _ 22 None _ refl (omega arith) refl

-- a stack of labels, followed by the first byte of a pseudowire
mpls_with_pseudowire : HasLinkHeader Ethernet LittleEndian (addresses ++ 0x88 ∷ 0x47 ∷ (two_labels ++ 0 ∷ [])) 22
    (Some (EtherType 0x8847)) None
mpls_with_pseudowire = no_tag _ _ 22 _ _ refl (omega arith) refl

mpls_over_ppp : HasLinkHeader Ppp LittleEndian (0xFF ∷ 0x03 ∷ 0x02 ∷ 0x81 ∷ (two_labels ++ packet)) 12 None None
mpls_over_ppp = (refl, refl, refl)

-- a stack of labels in a frame that ends within the second label, which would end at 22 bytes
ends_in_label : NeedsLinkHeader Ethernet LittleEndian (addresses ++ 0x88 ∷ 0x47 ∷ 0 ∷ 1 ∷ 0x00 ∷ 64 ∷ 0 ∷ []) 22
ends_in_label =
    inr (inr (record {
      tags = 0;
      has = record { tagged = λ tag within. absurd (omega (arith, within)); last = refl; there = omega arith };
      error = record { required_len = 22; len = 19 };
      says = refl;
      is_required_len = refl;
    }))

-- ---- PPP and Frame Relay

ppp : HasLinkHeader Ppp LittleEndian (0xFF ∷ 0x03 ∷ 0x00 ∷ 0x21 ∷ packet) 4 None None
ppp = (refl, refl, refl)

-- a PPP frame without Address and Control fields, and with a Protocol field of one byte
short_ppp : HasLinkHeader Ppp LittleEndian (0x21 ∷ packet) 1 None None
short_ppp = (refl, refl, refl)

-- a PPP frame with the Link Control Protocol
ppp_without_ip : HasLinkHeader Ppp LittleEndian (0xFF ∷ 0x03 ∷ 0xC0 ∷ 0x21 ∷ []) 4 (Some (PppProtocol 0xC021)) None
ppp_without_ip = (refl, refl, refl)

ppp_hdlc : HasLinkHeader PppHdlc LittleEndian (0xFF ∷ 0x03 ∷ 0x00 ∷ 0x57 ∷ packet) 4 None None
ppp_hdlc = (refl, refl, refl)

cisco_hdlc_as_ppp : HasLinkHeader PppHdlc LittleEndian (0x8F ∷ 0x00 ∷ 0x08 ∷ 0x00 ∷ packet) 4 None None
cisco_hdlc_as_ppp = no_tag _ _ 4 None _ refl (omega arith) refl

frame_relay : HasLinkHeader FrameRelay LittleEndian (0x18 ∷ 0x41 ∷ 0x03 ∷ 0xCC ∷ packet) 4 None None
frame_relay = (refl, refl, refl)

-- a Frame Relay frame with a pad byte, and the network layer protocol ID of IS-IS
frame_relay_without_ip : HasLinkHeader FrameRelay LittleEndian (0x18 ∷ 0x41 ∷ 0x03 ∷ 0x00 ∷ 0x83 ∷ []) 5 (Some (Nlpid 0x83)) None
frame_relay_without_ip = (refl, refl, refl)

-- ---- headers with an address family, and no header

bsd_loopback : HasLinkHeader BsdLoopback LittleEndian (2 ∷ 0 ∷ 0 ∷ 0 ∷ packet) 4 None None
bsd_loopback = (refl, refl, refl)

-- a loopback frame that a machine with the other byte order wrote
other_order : HasLinkHeader BsdLoopback LittleEndian (0 ∷ 0 ∷ 0 ∷ 2 ∷ packet) 4 None None
other_order = (refl, refl, refl)

other_family : HasLinkHeader BsdLoopback LittleEndian (7 ∷ 0 ∷ 0 ∷ 0 ∷ []) 4 (Some (AddressFamily 7)) None
other_family = (refl, refl, refl)

open_bsd_loopback : HasLinkHeader OpenBsdLoopback LittleEndian (0 ∷ 0 ∷ 0 ∷ 24 ∷ packet) 4 None None
open_bsd_loopback = (refl, refl, refl)

raw_ip : HasLinkHeader RawIp LittleEndian packet 0 None None
raw_ip = (refl, refl, refl)

-- ---- IEEE 802.11

-- a data frame to an access point: 24 bytes, an LLC header, a SNAP header, and the ether type of IPv4
abbrev data_frame : List ℕ
data_frame = 0x08 ∷ 0x01 ∷ (replicate 22 0 ++ 0xAA ∷ 0xAA ∷ 0x03 ∷ 0 ∷ 0 ∷ 0 ∷ 0x08 ∷ 0x00 ∷ packet)

ieee80211 : HasLinkHeader Ieee80211 LittleEndian data_frame 32 None None
ieee80211 = no_tag _ _ 32 None _ refl (omega arith) refl

-- an IEEE 802.11 frame with a beacon
ieee80211_without_data : HasLinkHeader Ieee80211 LittleEndian (0x80 ∷ 0x00 ∷ replicate 22 0) 2 (Some (OtherFrame 0x8000)) None
ieee80211_without_data = (refl, refl, refl)

radiotap : HasLinkHeader Radiotap BigEndian (0 ∷ 0 ∷ 8 ∷ 0 ∷ (replicate 4 0 ++ data_frame)) 40 None None
radiotap = no_tag _ _ 40 None _ refl (omega arith) refl

avs : HasLinkHeader Avs LittleEndian (0x80 ∷ 0x21 ∷ 0x10 ∷ 0x01 ∷ 0 ∷ 0 ∷ 0 ∷ 12 ∷ (replicate 4 0 ++ data_frame)) 44 None None
avs = no_tag _ _ 44 None _ refl (omega arith) refl

-- an AVS header whose length does not count the first eight bytes
avs_without_length : HasLinkHeader Avs LittleEndian (0x80 ∷ 0x21 ∷ 0x10 ∷ 0x01 ∷ 0 ∷ 0 ∷ 0 ∷ 7 ∷ []) 8 (Some (LinkType 163)) None
avs_without_length = (refl, refl, refl)

-- a Prism header of 144 bytes, which begin with a message code of the Prism header
prism : HasLinkHeader Prism LittleEndian (0 ∷ 0 ∷ 0 ∷ 0x44 ∷ (replicate 140 0 ++ data_frame)) 176 None None
prism = no_tag _ _ 176 None _ refl (omega arith) refl

-- an AVS header in a frame of LINKTYPE_IEEE802_11_PRISM
avs_as_prism : HasLinkHeader Prism LittleEndian (0x80 ∷ 0x21 ∷ 0x10 ∷ 0x02 ∷ 0 ∷ 0 ∷ 0 ∷ 8 ∷ data_frame) 40 None None
avs_as_prism = no_tag _ _ 40 None _ refl (omega arith) refl

-- ---- a frame of a link type that the header states

-- a PPI header of 8 bytes, and a frame of IEEE 802.11, whose link type has the number 105
ppi : HasLinkHeader Ppi BigEndian (0 ∷ 0 ∷ 8 ∷ 0 ∷ 105 ∷ 0 ∷ 0 ∷ 0 ∷ data_frame) 40 None None
ppi = no_tag _ _ 40 None _ refl (omega arith) refl

-- a PKTAP header of 12 bytes, and a packet of raw IP, whose link type has the number 101
pktap : HasLinkHeader Pktap BigEndian (12 ∷ 0 ∷ 0 ∷ 0 ∷ 1 ∷ 0 ∷ 0 ∷ 0 ∷ 101 ∷ 0 ∷ 0 ∷ 0 ∷ packet) 12 None None
pktap = (refl, refl, refl)

-- a PKTAP header of a record that is not a packet
pktap_without_packet : HasLinkHeader Pktap BigEndian (12 ∷ 0 ∷ 0 ∷ 0 ∷ 2 ∷ 0 ∷ 0 ∷ 0 ∷ 101 ∷ 0 ∷ 0 ∷ 0 ∷ []) 12 (Some (LinkType 258)) None
pktap_without_packet = (refl, refl, refl)

-- ---- packets that were logged

-- a PFLOG header of 61 bytes and 3 bytes of padding, which its length does not count, and an IPv4 packet
pflog : HasLinkHeader Pflog LittleEndian (61 ∷ 2 ∷ (replicate 62 0 ++ packet)) 64 None None
pflog = (refl, refl, refl)

-- an IPv6 packet on Solaris
ipnet : HasLinkHeader Ipnet LittleEndian (1 ∷ 26 ∷ (replicate 22 0 ++ packet)) 24 None None
ipnet = (refl, refl, refl)

-- an NFLOG header with an attribute of four bytes, and the packet
nflog : HasLinkHeader Nflog BigEndian (2 ∷ 0 ∷ 0 ∷ 5 ∷ 8 ∷ 0 ∷ 1 ∷ 0 ∷ 8 ∷ 0 ∷ 3 ∷ 0 ∷ 6 ∷ 0 ∷ 9 ∷ 0 ∷ packet) 16 None (Some 18)
nflog = (refl, refl, refl)

-- an NFLOG frame in which two bytes of padding and another attribute follow the packet
nflog_with_padding : HasLinkHeader Nflog BigEndian (2 ∷ 0 ∷ 0 ∷ 5 ∷ 6 ∷ 0 ∷ 9 ∷ 0 ∷ (packet ++ 0 ∷ 0 ∷ 4 ∷ 0 ∷ 10 ∷ 0 ∷ [])) 8 None
    (Some 10)
nflog_with_padding = (refl, refl, refl)

-- an NFLOG frame that ends one byte before the end of the attribute with the packet
nflog_with_cut_packet : HasLinkHeader Nflog BigEndian (2 ∷ 0 ∷ 0 ∷ 5 ∷ 7 ∷ 0 ∷ 9 ∷ 0 ∷ packet) 8 None None
nflog_with_cut_packet = (refl, refl, refl)

-- an NFLOG attribute with padding, on a machine with the other byte order
nflog_other_order : HasLinkHeader Nflog BigEndian (10 ∷ 0 ∷ 0 ∷ 5 ∷ 0 ∷ 5 ∷ 0 ∷ 10 ∷ 0 ∷ 0 ∷ 0 ∷ 0 ∷ 0 ∷ 6 ∷ 0 ∷ 9 ∷ packet) 16 None
    (Some 18)
nflog_other_order = (refl, refl, refl)

-- an NFLOG frame with a bridged packet
nflog_without_ip : HasLinkHeader Nflog BigEndian (7 ∷ 0 ∷ 0 ∷ 5 ∷ 6 ∷ 0 ∷ 9 ∷ 0 ∷ packet) 8 (Some (AddressFamily 7)) (Some 10)
nflog_without_ip = (refl, refl, refl)

-- an NFLOG frame that ends within the first attribute, which would end at 12 bytes
nflog_cut_off : NeedsLinkHeader Nflog BigEndian (2 ∷ 0 ∷ 0 ∷ 5 ∷ 8 ∷ 0 ∷ 1 ∷ 0 ∷ 8 ∷ []) 12
nflog_cut_off = refl
