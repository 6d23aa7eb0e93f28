-- Worked examples of the protocols of packets, so that a wrong definition fails before any code does.
use Rattle.std.proofs.Common.{◌≡◌, None, Some, codes, refl}
use Rattle.ip_part.specs.declared.proto.Proto.TheVariants as protos
use Rattle.capture_packet.specs.declared.network_protocol.NetworkProtocol.TheVariants.{EtherType, Llc, Nlpid, PppProtocol}
use Rattle.capture_packet.specs.declared.content.Content.TheVariants.{NotIp, Unread}
use Rattle.capture_summary.specs.Protocols.{content_protocol, ip_protocol_name, network_protocol_name}
use Rattle.capture_summary.specs.declared.protocol.Protocol.TheVariants.{Arp, OtherWithoutIp, Unknown}

-- ---- names, by the registries of IANA

ospf : ip_protocol_name 89 None ≡ Some (codes "OSPF")
ospf = refl

udp : ip_protocol_name 17 (Some protos.Udp) ≡ Some (codes "UDP")
udp = refl

-- ICMPv4 over IPv6 has no name
icmpv4_over_ipv6 : ip_protocol_name 1 None ≡ None
icmpv4_over_ipv6 = refl

-- protocol 200, which is not assigned, has no name
protocol_200 : ip_protocol_name 200 None ≡ None
protocol_200 = refl

lldp : network_protocol_name (EtherType 0x88CC) ≡ Some (codes "LLDP")
lldp = refl

-- Wake-on-LAN has no name
wake_on_lan : network_protocol_name (EtherType 0x0842) ≡ None
wake_on_lan = refl

spanning_tree : network_protocol_name (Llc 0x42 0x42) ≡ Some (codes "STP")
spanning_tree = refl

link_control : network_protocol_name (PppProtocol 0xC021) ≡ Some (codes "LCP")
link_control = refl

is_is : network_protocol_name (Nlpid 0x83) ≡ Some (codes "IS-IS")
is_is = refl

-- ---- rows

arp : content_protocol (NotIp (EtherType 0x0806)) ≡ Arp
arp = refl

without_name : content_protocol (NotIp (EtherType 0x0842)) ≡ OtherWithoutIp
without_name = refl

unread : content_protocol Unread ≡ Unknown
unread = refl
