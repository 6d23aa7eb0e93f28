-- The way back is the translation that restores the replaced values. An update determines a checksum only modulo 65535 (RFC 1624), so it
-- gives only one of 0 and 65535. The other value is lost, even if nothing is replaced. So some packets are not restored.
use Rattle.std.specs.Prelude.{◌≡◌, ◌≢◌, ⊤, true, false, ℕ, ◌<◌, ◌==◌, Bool, if◌then◌else◌, List, length, IfSome, Option, Some, None}
use Rattle.std.specs.Option.{option_map}
use Rattle.ip_part.specs.declared.proto.Proto.{Proto}
use Rattle.ip_part.specs.declared.proto.Proto.TheVariants as protos
use Rattle.net_base.specs.StoredChecksum.{icmp_checksum_place, tcp_checksum_place}
use Rattle.word_sum.specs.Checksum.{all_ones}
use Rattle.etherparse_transport.specs.Families.{Family, Translation, addresses_of, message_in, opposite, quoted_packet}
use Rattle.etherparse_transport.specs.Ipv4Translations.{ipv4, of_ipv4, to_ipv4}
use Rattle.etherparse_transport.specs.Ipv6Translations.{ipv6, of_ipv6, to_ipv6}
use Rattle.etherparse_transport.specs.Translations.{destination_port_place, identifier_place, is_query, number, rest_of_message, source_port_place}
use Rattle.etherparse_transport.specs.declared.ip.ipv4_translation.Ipv4Translation.{Ipv4Translation}
use Rattle.etherparse_transport.specs.declared.ip.ipv6_translation.Ipv6Translation.{Ipv6Translation}

-- ---- the message

-- the passed place of a port for UDP and TCP, or the place of the identifier for ICMP
abbrev pub place_in : Proto → ℕ → ℕ
place_in protos.Udp place = place
place_in protos.Tcp place = place
place_in protos.Icmpv4 place = identifier_place
place_in protos.Icmpv6 place = identifier_place

-- the port or the identifier in a message of this protocol; 0 if the protocol is unknown
abbrev pub port_in : Option Proto → ℕ → List ℕ → ℕ
port_in None place message = 0
port_in (Some proto) place message = number (place_in proto place) message

-- the old value if a new value is passed; no value if the translation keeps the old value
abbrev pub instead : {T : Type 0} → T → Option T → Option T
instead old new = option_map (λ _. old) new

-- the checksum that the way back of an ICMPv4 query does not restore: 0 in an echo reply whose other bytes are 0, and otherwise 65535
abbrev pub lost_checksum : List ℕ → ℕ
lost_checksum message = if rest_of_message message == 0 then 0 else all_ones

-- The checksum of a message is restored. A UDP checksum is always restored, since 0 means that there is none (RFC 768). ICMPv4 messages
-- other than queries keep their checksum.
abbrev pub IsChecksumRestored : Proto → List ℕ → Type 0
IsChecksumRestored protos.Udp message = ⊤
IsChecksumRestored protos.Tcp message = number tcp_checksum_place message ≢ all_ones
IsChecksumRestored protos.Icmpv4 message =
    is_query protos.Icmpv4 message ≡ true → number icmp_checksum_place message ≢ lost_checksum message
IsChecksumRestored protos.Icmpv6 message = number icmp_checksum_place message ≢ all_ones

-- the checksum of the message of a packet is restored; a later fragment contains no checksum
abbrev pub IsChecksumRestoredIn : Bool → Option Proto → List ℕ → Type 0
IsChecksumRestoredIn is_later_fragment None message = ⊤
IsChecksumRestoredIn is_later_fragment (Some proto) message = (is_later_fragment ≡ false) → IsChecksumRestored proto message

-- each port that is not `None` has 16 bits
pub record ArePorts (first second : Option ℕ) : Type 0 where
  pub source : IfSome first (λ port. port < 65536)
  pub destination : IfSome second (λ port. port < 65536)

-- ---- the way back of a packet

-- the addresses and ports of the translation have the lengths of their types
pub record IsTranslation (family : Family) (new : Translation) : Type 0 where
  pub source : IfSome new.source (λ address. length address ≡ family.address_len)
  pub destination : IfSome new.destination (λ address. length address ≡ family.address_len)
  pub ports : ArePorts new.source_port new.destination_port

-- the way back of a packet with this message; it does not depend on a packet that the message quotes
abbrev pub flow_back : Family → Translation → List ℕ → List ℕ → Translation
flow_back family new message packet = record {
  source = instead (addresses_of family packet).source new.source;
  destination = instead (addresses_of family packet).destination new.destination;
  source_port = instead (port_in (family.proto packet) source_port_place message) new.source_port;
  destination_port = instead (port_in (family.proto packet) destination_port_place message) new.destination_port;
}

-- The way back of a packet, given the packet that it quotes, if any. If it quotes a packet, its way back is the opposite of the way back of
-- the quoted packet.
abbrev pub back_by : Family → Option (List ℕ) → Translation → List ℕ → Translation
back_by family None new packet = flow_back family new (message_in family false packet) packet
back_by family (Some quoted) new packet = opposite (flow_back family (opposite new) (message_in family true quoted) quoted)

-- the way back of a packet
abbrev pub way_back : Family → Translation → List ℕ → Translation
way_back family new packet = back_by family (quoted_packet family packet) new packet

-- the way back of the quoted packet, which has its own translation; if no packet is quoted, that translation itself
abbrev pub quoted_back : Family → Option (List ℕ) → Translation → Translation
quoted_back family None of_quoted = of_quoted
quoted_back family (Some quoted) of_quoted = flow_back family of_quoted (message_in family true quoted) quoted

-- the checksum of the header, if it has one, is restored
abbrev pub IsHeaderRestored : Family → List ℕ → Type 0
IsHeaderRestored family packet = IfSome family.header_checksum (λ place. number place packet ≢ all_ones)

-- the checksums of the header and of this message are restored
abbrev pub IsFlowRestored : Family → List ℕ → List ℕ → Type 0
IsFlowRestored family message packet =
    IsHeaderRestored family packet × IsChecksumRestoredIn (family.is_later_fragment packet) (family.proto packet) message

-- The checksums of an ICMP error and of the quoted packet are restored. Addresses are always restored if each packet has its own
-- translation.
pub record AreChecksumsRestored (family : Family) (packet quoted : List ℕ) : Type 0 where
  pub header : IsHeaderRestored family packet
  pub message : number icmp_checksum_place (message_in family false packet) ≢ all_ones
  pub quoted_packet : IsFlowRestored family (message_in family true quoted) quoted

-- The checksums of the error and of the quoted packet are restored. If the source of the error is replaced, it equals the destination of
-- the quoted packet. If the destination of the error is replaced, it equals the source of the quoted packet. Otherwise the translation can
-- make two different addresses equal, for example if a router sent the error. Then the way back can't restore both.
pub record IsErrorRestored (family : Family) (new : Translation) (packet quoted : List ℕ) : Type 0 where
  pub checksums : AreChecksumsRestored family packet quoted
  pub source : IfSome new.source (λ _. (addresses_of family quoted).destination ≡ (addresses_of family packet).source)
  pub destination : IfSome new.destination (λ _. (addresses_of family quoted).source ≡ (addresses_of family packet).destination)

-- the way back restores a packet, given the packet that it quotes, if any
abbrev pub IsRestoredBy : Family → Option (List ℕ) → Translation → List ℕ → Type 0
IsRestoredBy family None new packet = IsFlowRestored family (message_in family false packet) packet
IsRestoredBy family (Some quoted) new packet = IsErrorRestored family new packet quoted

-- the ways back of both translations restore a packet, given the packet that it quotes, if any
abbrev pub IsRestoredWithBy : Family → Option (List ℕ) → List ℕ → Type 0
IsRestoredWithBy family None packet = IsFlowRestored family (message_in family false packet) packet
IsRestoredWithBy family (Some quoted) packet = AreChecksumsRestored family packet quoted

-- the way back restores the packet
abbrev pub IsRestored : Family → Translation → List ℕ → Type 0
IsRestored family new packet = IsRestoredBy family (quoted_packet family packet) new packet

-- the ways back of both translations restore the packet
abbrev pub IsRestoredWith : Family → List ℕ → Type 0
IsRestoredWith family packet = IsRestoredWithBy family (quoted_packet family packet) packet

-- ---- IPv4

-- the addresses and ports of the translation have the lengths of their types
abbrev pub IsIpv4Translation : Ipv4Translation → Type 0
IsIpv4Translation new = IsTranslation ipv4 (of_ipv4 new)

-- the way back of a packet with this message; it does not depend on a packet that the message quotes
abbrev pub ipv4_flow_back : Ipv4Translation → List ℕ → List ℕ → Ipv4Translation
ipv4_flow_back new message packet = to_ipv4 (flow_back ipv4 (of_ipv4 new) message packet)

-- the way back of a packet
abbrev pub ipv4_way_back : Ipv4Translation → List ℕ → Ipv4Translation
ipv4_way_back new packet = to_ipv4 (way_back ipv4 (of_ipv4 new) packet)

-- the way back of the quoted packet, which has its own translation; if no packet is quoted, that translation itself
abbrev pub ipv4_quoted_back : Option (List ℕ) → Ipv4Translation → Ipv4Translation
ipv4_quoted_back quoted of_quoted = to_ipv4 (quoted_back ipv4 quoted (of_ipv4 of_quoted))

-- the way back restores the packet
abbrev pub IsIpv4Restored : Ipv4Translation → List ℕ → Type 0
IsIpv4Restored new packet = IsRestored ipv4 (of_ipv4 new) packet

-- the ways back of both translations restore the packet
abbrev pub IsIpv4RestoredWith : List ℕ → Type 0
IsIpv4RestoredWith packet = IsRestoredWith ipv4 packet

-- ---- IPv4

-- the addresses and ports of the translation have the lengths of their types
abbrev pub IsIpv6Translation : Ipv6Translation → Type 0
IsIpv6Translation new = IsTranslation ipv6 (of_ipv6 new)

-- the way back of a packet; it does not depend on a packet that its message quotes
abbrev pub ipv6_flow_back : Ipv6Translation → List ℕ → Ipv6Translation
ipv6_flow_back new packet = to_ipv6 (flow_back ipv6 (of_ipv6 new) (message_in ipv6 false packet) packet)

-- the way back of a packet
abbrev pub ipv6_way_back : Ipv6Translation → List ℕ → Ipv6Translation
ipv6_way_back new packet = to_ipv6 (way_back ipv6 (of_ipv6 new) packet)

-- the way back of the quoted packet, which has its own translation; if no packet is quoted, that translation itself
abbrev pub ipv6_quoted_back : Option (List ℕ) → Ipv6Translation → Ipv6Translation
ipv6_quoted_back quoted of_quoted = to_ipv6 (quoted_back ipv6 quoted (of_ipv6 of_quoted))

-- the way back restores the packet
abbrev pub IsIpv6Restored : Ipv6Translation → List ℕ → Type 0
IsIpv6Restored new packet = IsRestored ipv6 (of_ipv6 new) packet

-- the ways back of both translations restore the packet
abbrev pub IsIpv6RestoredWith : List ℕ → Type 0
IsIpv6RestoredWith packet = IsRestoredWith ipv6 packet
