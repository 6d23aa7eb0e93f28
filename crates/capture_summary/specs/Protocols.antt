-- The protocol of a packet: the row in which it is counted, the name of the row, and its place.
use Rattle.std.specs.Prelude.{ℕ, ◌==◌, ◌&&◌, if◌then◌else◌, List, [], ◌∷◌, codes, unwrap_or, Option, Some, None}
use Rattle.std.specs.Map.{lookup}
use Rattle.std.specs.Option.{option_map}
use Rattle.ip_part.specs.declared.proto.Proto.{Proto}
use Rattle.ip_part.specs.declared.proto.Proto.TheVariants as protos
use Rattle.capture_packet.specs.declared.network_protocol.NetworkProtocol.{NetworkProtocol}
use Rattle.capture_packet.specs.declared.network_protocol.NetworkProtocol.TheVariants.{AddressFamily, EtherType, FrameRelay, Ieee80211, LinkType, Llc, Nlpid, PppProtocol, Radiotap, Snap}
use Rattle.capture_packet.specs.declared.content.Content.{Content}
use Rattle.capture_packet.specs.declared.content.Content.TheVariants as contents
use Rattle.capture_summary.specs.declared.protocol.Protocol.{Protocol}
use Rattle.capture_summary.specs.declared.protocol.Protocol.TheVariants.{Udp, Tcp, Icmpv4, Icmpv6, Igmp, Ipv4, Dccp, Ipv6, Rsvp, Gre, Esp, Ah, NoNextHeader, Eigrp, Ospf, EtherIp, Pim, IpComp, Vrrp, L2tp, Sctp, UdpLite, MplsInIp, OtherOverIp, Arp, Rarp, Ipx, SlowProtocol, Mpls, PppoeDiscovery, PppoeSession, Eapol, Lldp, MacSec, Mvrp, Ptp, Cfm, Loopback, Ipcp, Ipv6cp, Ccp, Lcp, Pap, Lqr, Chap, Eap, Clnp, EsIs, IsIs, Stp, OtherWithoutIp, Unknown}

-- ---- protocols by their numbers

-- protocols over IP (the registry "Protocol Numbers" of IANA)
abbrev pub ip_protocols : List (ℕ × Protocol)
ip_protocols =
    (2, Igmp) ∷ (4, Ipv4) ∷ (33, Dccp) ∷ (41, Ipv6) ∷ (46, Rsvp) ∷ (47, Gre) ∷ (50, Esp) ∷ (51, Ah) ∷ (59, NoNextHeader) ∷ (88, Eigrp) ∷
    (89, Ospf) ∷ (97, EtherIp) ∷ (103, Pim) ∷ (108, IpComp) ∷ (112, Vrrp) ∷ (115, L2tp) ∷ (132, Sctp) ∷ (136, UdpLite) ∷ (137, MplsInIp) ∷
    []

-- Protocols by their ether type (the registry "IEEE 802 Numbers" of IANA). The slow protocols (IEEE 802.3, annex 57A), PTP (IEEE 1588) and
-- CFM (IEEE 802.1Q, clause 21) are in the registry of IEEE.
abbrev pub ether_types : List (ℕ × Protocol)
ether_types =
    (0x0806, Arp) ∷ (0x8035, Rarp) ∷ (0x8137, Ipx) ∷ (0x8809, SlowProtocol) ∷ (0x8847, Mpls) ∷ (0x8848, Mpls) ∷ (0x8863, PppoeDiscovery) ∷
    (0x8864, PppoeSession) ∷ (0x888E, Eapol) ∷ (0x88CC, Lldp) ∷ (0x88E5, MacSec) ∷ (0x88F5, Mvrp) ∷ (0x88F7, Ptp) ∷ (0x8902, Cfm) ∷
    (0x9000, Loopback) ∷ []

-- protocols by their number in PPP (the registry "PPP Numbers" of IANA)
abbrev pub ppp_protocols : List (ℕ × Protocol)
ppp_protocols =
    (0x8021, Ipcp) ∷ (0x8057, Ipv6cp) ∷ (0x80FD, Ccp) ∷ (0xC021, Lcp) ∷ (0xC023, Pap) ∷ (0xC025, Lqr) ∷ (0xC223, Chap) ∷ (0xC227, Eap) ∷ []

-- protocols by their network layer protocol ID (ISO/IEC TR 9577)
abbrev pub nlpids : List (ℕ × Protocol)
nlpids = (0x81, Clnp) ∷ (0x82, EsIs) ∷ (0x83, IsIs) ∷ []

-- the protocol with this number, or `None` if the list does not contain it
abbrev pub protocol_in : List (ℕ × Protocol) → ℕ → Option Protocol
protocol_in protocols number = lookup (λ known. number == known) protocols

-- the row of a transport protocol
abbrev pub protocol_of : Proto → Protocol
protocol_of protos.Udp = Udp
protocol_of protos.Tcp = Tcp
protocol_of protos.Icmpv4 = Icmpv4
protocol_of protos.Icmpv6 = Icmpv6

-- the row of a protocol over IP: a transport protocol, or a protocol in `ip_protocols`; `None` if the protocol has no row of its own
abbrev pub ip_protocol : ℕ → Option Proto → Option Protocol
ip_protocol number (Some proto) = Some (protocol_of proto)
ip_protocol number None = protocol_in ip_protocols number

-- the spanning tree protocol if both service access points are 0x42 (IEEE 802.1D, clause 7.12.3), otherwise `None`
abbrev pub llc_protocol : ℕ → ℕ → Option Protocol
llc_protocol dsap ssap = if dsap == 0x42 && ssap == 0x42 then Some Stp else None

-- the entry in the table of protocols for a frame without an IP packet, or `None` if the table has no entry for its protocol
abbrev pub network_protocol : NetworkProtocol → Option Protocol
network_protocol (EtherType number) = protocol_in ether_types number
network_protocol (AddressFamily number) = None
network_protocol (LinkType number) = None
network_protocol (Ieee80211 frame_control) = None
network_protocol (Radiotap version len) = None
network_protocol (Llc dsap ssap) = llc_protocol dsap ssap
network_protocol (Snap organization_code protocol) = None
network_protocol (PppProtocol number) = protocol_in ppp_protocols number
network_protocol (FrameRelay header) = None
network_protocol (Nlpid number) = protocol_in nlpids number

-- the row of a packet with this content
abbrev pub content_protocol : Content → Protocol
content_protocol contents.Unread = Unknown
content_protocol (contents.IpHeader addresses) = Unknown
content_protocol (contents.NotIp protocol) = unwrap_or (network_protocol protocol) OtherWithoutIp
content_protocol (contents.Ip addresses protocol proto transport payload_len) = unwrap_or (ip_protocol protocol.0 proto) OtherOverIp

-- ---- rows

-- all rows, in their order
abbrev pub protocol_kinds : List Protocol
protocol_kinds =
    Udp ∷ Tcp ∷ Icmpv4 ∷ Icmpv6 ∷ Igmp ∷ Ipv4 ∷ Dccp ∷ Ipv6 ∷ Rsvp ∷ Gre ∷ Esp ∷ Ah ∷ NoNextHeader ∷ Eigrp ∷ Ospf ∷ EtherIp ∷ Pim ∷
    IpComp ∷ Vrrp ∷ L2tp ∷ Sctp ∷ UdpLite ∷ MplsInIp ∷ OtherOverIp ∷ Arp ∷ Rarp ∷ Ipx ∷ SlowProtocol ∷ Mpls ∷ PppoeDiscovery ∷
    PppoeSession ∷ Eapol ∷ Lldp ∷ MacSec ∷ Mvrp ∷ Ptp ∷ Cfm ∷ Loopback ∷ Ipcp ∷ Ipv6cp ∷ Ccp ∷ Lcp ∷ Pap ∷ Lqr ∷ Chap ∷ Eap ∷ Clnp ∷ EsIs ∷
    IsIs ∷ Stp ∷ OtherWithoutIp ∷ Unknown ∷ []

-- the place of a row
abbrev pub protocol_place : Protocol → ℕ
protocol_place Udp = 0
protocol_place Tcp = 1
protocol_place Icmpv4 = 2
protocol_place Icmpv6 = 3
protocol_place Igmp = 4
protocol_place Ipv4 = 5
protocol_place Dccp = 6
protocol_place Ipv6 = 7
protocol_place Rsvp = 8
protocol_place Gre = 9
protocol_place Esp = 10
protocol_place Ah = 11
protocol_place NoNextHeader = 12
protocol_place Eigrp = 13
protocol_place Ospf = 14
protocol_place EtherIp = 15
protocol_place Pim = 16
protocol_place IpComp = 17
protocol_place Vrrp = 18
protocol_place L2tp = 19
protocol_place Sctp = 20
protocol_place UdpLite = 21
protocol_place MplsInIp = 22
protocol_place OtherOverIp = 23
protocol_place Arp = 24
protocol_place Rarp = 25
protocol_place Ipx = 26
protocol_place SlowProtocol = 27
protocol_place Mpls = 28
protocol_place PppoeDiscovery = 29
protocol_place PppoeSession = 30
protocol_place Eapol = 31
protocol_place Lldp = 32
protocol_place MacSec = 33
protocol_place Mvrp = 34
protocol_place Ptp = 35
protocol_place Cfm = 36
protocol_place Loopback = 37
protocol_place Ipcp = 38
protocol_place Ipv6cp = 39
protocol_place Ccp = 40
protocol_place Lcp = 41
protocol_place Pap = 42
protocol_place Lqr = 43
protocol_place Chap = 44
protocol_place Eap = 45
protocol_place Clnp = 46
protocol_place EsIs = 47
protocol_place IsIs = 48
protocol_place Stp = 49
protocol_place OtherWithoutIp = 50
protocol_place Unknown = 51

-- the name of a row
abbrev pub protocol_word : Protocol → List ℕ
protocol_word Udp = codes "UDP"
protocol_word Tcp = codes "TCP"
protocol_word Icmpv4 = codes "ICMPv4"
protocol_word Icmpv6 = codes "ICMPv6"
protocol_word Igmp = codes "IGMP"
protocol_word Ipv4 = codes "IPv4"
protocol_word Dccp = codes "DCCP"
protocol_word Ipv6 = codes "IPv6"
protocol_word Rsvp = codes "RSVP"
protocol_word Gre = codes "GRE"
protocol_word Esp = codes "ESP"
protocol_word Ah = codes "AH"
protocol_word NoNextHeader = codes "no next header"
protocol_word Eigrp = codes "EIGRP"
protocol_word Ospf = codes "OSPF"
protocol_word EtherIp = codes "EtherIP"
protocol_word Pim = codes "PIM"
protocol_word IpComp = codes "IPComp"
protocol_word Vrrp = codes "VRRP"
protocol_word L2tp = codes "L2TP"
protocol_word Sctp = codes "SCTP"
protocol_word UdpLite = codes "UDP-Lite"
protocol_word MplsInIp = codes "MPLS-in-IP"
protocol_word OtherOverIp = codes "other over IP"
protocol_word Arp = codes "ARP"
protocol_word Rarp = codes "RARP"
protocol_word Ipx = codes "IPX"
protocol_word SlowProtocol = codes "slow protocol"
protocol_word Mpls = codes "MPLS"
protocol_word PppoeDiscovery = codes "PPPoE discovery"
protocol_word PppoeSession = codes "PPPoE session"
protocol_word Eapol = codes "EAPOL"
protocol_word Lldp = codes "LLDP"
protocol_word MacSec = codes "MACsec"
protocol_word Mvrp = codes "MVRP"
protocol_word Ptp = codes "PTP"
protocol_word Cfm = codes "CFM"
protocol_word Loopback = codes "loopback"
protocol_word Ipcp = codes "IPCP"
protocol_word Ipv6cp = codes "IPV6CP"
protocol_word Ccp = codes "CCP"
protocol_word Lcp = codes "LCP"
protocol_word Pap = codes "PAP"
protocol_word Lqr = codes "LQR"
protocol_word Chap = codes "CHAP"
protocol_word Eap = codes "EAP"
protocol_word Clnp = codes "CLNP"
protocol_word EsIs = codes "ES-IS"
protocol_word IsIs = codes "IS-IS"
protocol_word Stp = codes "STP"
protocol_word OtherWithoutIp = codes "other without IP"
protocol_word Unknown = codes "unknown"

-- ---- names

-- the name of a protocol over IP, or `None` if the protocol has no name
abbrev pub ip_protocol_name : ℕ → Option Proto → Option (List ℕ)
ip_protocol_name number proto = option_map protocol_word (ip_protocol number proto)

-- the name of the protocol of a frame without an IP packet, or `None` if the protocol has no name
abbrev pub network_protocol_name : NetworkProtocol → Option (List ℕ)
network_protocol_name protocol = option_map protocol_word (network_protocol protocol)
