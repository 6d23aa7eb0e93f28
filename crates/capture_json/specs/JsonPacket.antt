-- A packet as a JSON object (RFC 8259), with the members of each part. It uses the same words as the text format.
use Rattle.std.specs.Prelude.{◌≡◌, ℕ, ◌==◌, if◌then◌else◌, List, [], ◌∷◌, ◌++◌, length, map, slice_index, codes, Option, Some, None}
use Rattle.std.specs.List.{flat_map}
use Rattle.std.specs.Net.Addr.{segments_of}
use Rattle.std.specs.Net.Text.{ipv4_text, ipv6_text}
use Rattle.icmp_part.specs.Icmpv4Format as icmpv4
use Rattle.icmp_part.specs.Icmpv6Format as icmpv6
use Rattle.ip_part.specs.Addresses.{Addresses, Ipv4, Ipv6, by_value}
use Rattle.ip_part.specs.declared.proto.Proto.{Proto}
use Rattle.capture_json.specs.Members.{Member, array_of, object_of, texts_data, whole_number}
use Rattle.net_base.specs.Bytes.{be_number}
use Rattle.serde_json.specs.Data.{Data, boolean, null, string}
use Rattle.serde_json.specs.Written.{compact_text}
use Rattle.tcp_part.specs.TcpFormat.{flag_of, options_of, urg_flag}
use Rattle.transport_part.specs.declared.checksum_verdict.ChecksumVerdict.{ChecksumVerdict}
use Rattle.transport_part.specs.declared.checksum_verdict.ChecksumVerdict.TheVariants as checksums
use Rattle.transport_part.specs.declared.checksum_verdict.Untested.{Untested}
use Rattle.transport_part.specs.declared.transport_slice.TransportSlice.{TransportSlice}
use Rattle.transport_part.specs.declared.transport_slice.TransportSlice.TheVariants as slices
use Rattle.capture_packet.specs.declared.content.Content.{Content}
use Rattle.capture_packet.specs.declared.content.Content.TheVariants as contents
use Rattle.capture_packet.specs.declared.network_protocol.NetworkProtocol.{NetworkProtocol}
use Rattle.capture_packet.specs.declared.network_protocol.NetworkProtocol.TheVariants.{AddressFamily, EtherType, FrameRelay, Ieee80211, LinkType, Llc, Nlpid, PppProtocol, Radiotap, Snap}
use Rattle.capture_packet.specs.declared.transport.Transport.{Transport}
use Rattle.capture_packet.specs.declared.transport.Transport.TheVariants as transports
use Rattle.capture_packet.specs.Payloads.{payload_in}
use Rattle.capture_packet.specs.Quotes.{Quoted, quoted_in}
use Rattle.capture_packet.specs.Verdicts.{refusal_if_untested}
use Rattle.capture_packet.specs.declared.fragment_fields.FragmentFields.{FragmentFields}
use Rattle.capture_packet.specs.declared.fragment_fields.Identification.{Identification}
use Rattle.capture_packet.specs.declared.fragment_fields.Identification.TheVariants as identifications
use Rattle.capture_packet.specs.declared.hop_limit.HopLimit.{HopLimit}
use Rattle.capture_packet.specs.declared.hop_limit.HopLimit.TheVariants as limits
use Rattle.capture_packet.specs.declared.packet.Packet.{Packet}
use Rattle.capture_packet.specs.declared.refusal.Refusal.{Refusal}
use Rattle.capture_packet.specs.NetworkKinds.{kind_name, proto_around}
use Rattle.capture_packet.specs.declared.tunnel.Tunnel.{Tunnel}
use Rattle.capture_packet.specs.declared.virtual_network.VirtualNetwork.{VirtualNetwork}
use Rattle.capture_packet.specs.declared.verdict.Verdict.{Verdict}
use Rattle.capture_packet.specs.declared.verdict.Verdict.TheVariants as verdicts
use Rattle.capture_file.specs.declared.packet_time.PacketTime.{PacketTime}
use Rattle.capture_file.specs.declared.reader.packet_texts.PacketTexts.{PacketTexts}
use Rattle.capture_packet.specs.Addresses.{source_text}
use Rattle.capture_summary.specs.Kinds.{untested_kind, verdict_word}
use Rattle.capture_summary.specs.declared.capture_info.FrameLen.{FrameLen}
use Rattle.capture_summary.specs.declared.verdict_kind.VerdictKind.{VerdictKind}
use Rattle.capture_summary.specs.declared.verdict_kind.VerdictKind.TheVariants as kinds
use Rattle.capture_json.specs.JsonArp.{arp_members}
use Rattle.capture_json.specs.JsonIcmp.{further_fields, icmpv4_fields, icmpv6_fields}
use Rattle.capture_json.specs.JsonComments.{comments_members}
use Rattle.capture_json.specs.JsonInterface.{packet_interface_members}
use Rattle.capture_json.specs.JsonOptions.{AreOptionMembers}
use Rattle.capture_json.specs.JsonTimes.{instant_members}
use Rattle.capture_json.specs.Words.{with_underscores}
use Rattle.capture_words.specs.Flags.{NamedFlag}
use Rattle.capture_words.specs.Icmpv4Text as icmpv4_text
use Rattle.capture_words.specs.Icmpv6Fields.{fields_of}
use Rattle.capture_words.specs.Icmpv6Text as icmpv6_text
use Rattle.capture_summary.specs.Protocols.{ip_protocol_name, network_protocol_name}
use Rattle.capture_words.specs.Refusals.{refusal_text}
use Rattle.capture_words.specs.TcpText.{tcp_flags}
use Rattle.capture_words.specs.TimeText.{time_text}
use Rattle.capture_words.specs.declared.times.Times.{Times}

-- The time as a text, as the text format shows it, and as seconds since 1970 and nanoseconds. If the time is unknown, the only member is
-- `time`, and its value is `null`.
abbrev pub time_members : Times → Option PacketTime → Option PacketTime → List Member
time_members times first None = (codes "time", null) ∷ []
time_members times first (Some time) =
    (codes "time", string (time_text times first (Some time))) ∷ instant_members (codes "seconds") (codes "nanoseconds") time

-- the length of a frame and its captured length, in bytes; no members if the capture does not state the length
abbrev pub frame_members : Option FrameLen → List Member
frame_members None = []
frame_members (Some len) = (codes "length", whole_number len.original) ∷ (codes "captured_length", whole_number len.captured) ∷ []

-- ---- addresses and ports

-- the final destination, or `null` if it is not known
abbrev pub destination_data : Addresses → Data
destination_data (Ipv4 source destination) = string (ipv4_text destination)
destination_data (Ipv6 source (Some destination)) = string (ipv6_text (segments_of destination))
destination_data (Ipv6 source None) = null

-- the source and the final destination
abbrev pub address_members : Addresses → List Member
address_members addresses = (codes "source", string (source_text addresses)) ∷ (codes "destination", destination_data addresses) ∷ []

-- the source port and the destination port
abbrev pub port_members : ℕ → ℕ → List Member
port_members source destination =
    (codes "source_port", whole_number source) ∷ (codes "destination_port", whole_number destination) ∷ []

-- the ports in a UDP or TCP header: the source port in bytes 0 and 1, the destination port in bytes 2 and 3
abbrev pub header_port_members : List ℕ → List Member
header_port_members header = port_members (be_number header 0 2) (be_number header 2 2)

-- the number of captured bytes of a payload; no member if all bytes were captured
abbrev pub captured_members : ℕ → ℕ → List Member
captured_members payload_len captured_len =
    if captured_len == payload_len then [] else (codes "payload_captured_length", whole_number captured_len) ∷ []

-- the length of a payload in bytes, and the number of captured bytes if not all were captured
abbrev pub payload_members : ℕ → List ℕ → List Member
payload_members payload_len payload =
    (codes "payload_length", whole_number payload_len) ∷ captured_members payload_len (length payload)

-- ---- transports

-- a UDP datagram: its ports and its length field (bytes 4 and 5)
abbrev pub udp_members : List ℕ → List Member
udp_members datagram =
    header_port_members datagram
    ++ ((codes "udp", object_of ((codes "length", whole_number (be_number datagram 4 2)) ∷ [])) ∷ [])

-- a list with the name of a flag; it is empty if the flag is not set
abbrev pub name_if_set : NamedFlag → List (List ℕ)
name_if_set flag = if flag.0 then flag.1 ∷ [] else []

-- the names of the flags that are set, in the order of the flags; `named` maps an item to its flag and the name of the flag
abbrev pub names_of_set : {X : Type 0} → (X → NamedFlag) → List X → List (List ℕ)
names_of_set named flags = flat_map (λ flag. name_if_set (named flag)) flags

-- the sequence number, the acknowledgment number and the window
abbrev pub tcp_number_members : List ℕ → List Member
tcp_number_members header =
    (codes "sequence", whole_number (be_number header 4 4)) ∷ (codes "acknowledgment", whole_number (be_number header 8 4))
    ∷ (codes "window", whole_number (be_number header 14 2)) ∷ []

-- the urgent pointer, if the flag URG is set
abbrev pub urgent_members : List ℕ → List Member
urgent_members header = if flag_of header urg_flag then (codes "urgent_pointer", whole_number (be_number header 18 2)) ∷ [] else []

-- the TCP flags, the sequence and acknowledgment numbers, the window, the urgent pointer if the flag URG is set, and the options
abbrev pub tcp_header_members : List ℕ → List Member → List Member
tcp_header_members header options =
    (codes "flags", texts_data (names_of_set (λ flag. flag) (tcp_flags header)))
    ∷ (tcp_number_members header ++ (urgent_members header ++ options))

-- these are the members of a TCP header, as `tcp_header_members` lists them
abbrev pub AreTcpHeaderMembers : List ℕ → List Member → Type 0
AreTcpHeaderMembers header members =
    (options : List Member) × AreOptionMembers (options_of header) options × (members ≡ tcp_header_members header options)

-- these members are a TCP segment: its ports and its header
abbrev pub AreTcpMembers : List ℕ → List Member → Type 0
AreTcpMembers segment members =
    (header : List Member) × AreTcpHeaderMembers segment header
    × (members ≡ header_port_members segment ++ ((codes "tcp", object_of header) ∷ []))

-- the type, the code and the text of an ICMP message
abbrev pub message_members : ℕ → ℕ → List ℕ → List Member
message_members type code text =
    (codes "type", whole_number type) ∷ (codes "code", whole_number code) ∷ (codes "message", string text) ∷ []

-- the members of an ICMPv4 message; type and code are bytes 0 and 1
abbrev pub icmpv4_content : List ℕ → List Member
icmpv4_content message =
    let fields = icmpv4.icmp_type_of message in
    message_members (slice_index message 0) (slice_index message 1) (icmpv4_text.message_text fields) ++ icmpv4_fields fields

-- an ICMPv4 message
abbrev pub icmpv4_members : List ℕ → List Member
icmpv4_members message = (codes "icmpv4", object_of (icmpv4_content message)) ∷ []

-- the members of an ICMPv6 message; type and code are bytes 0 and 1
abbrev pub icmpv6_content : List ℕ → List Member
icmpv6_content message =
    message_members (slice_index message 0) (slice_index message 1) (icmpv6_text.packet_text message)
    ++ (icmpv6_fields (icmpv6.icmp_type_of message) ++ further_fields (fields_of message))

-- an ICMPv6 message
abbrev pub icmpv6_members : List ℕ → List Member
icmpv6_members message = (codes "icmpv6", object_of (icmpv6_content message)) ∷ []

-- these are the members of a transport whose header was read
abbrev pub AreReadMembers : TransportSlice → List Member → Type 0
AreReadMembers (slices.Udp datagram) members = members ≡ udp_members datagram
AreReadMembers (slices.Tcp segment) members = AreTcpMembers segment members
AreReadMembers (slices.Icmpv4 message) members = members ≡ icmpv4_members message
AreReadMembers (slices.Icmpv6 message) members = members ≡ icmpv6_members message

-- these members are the transport of an IP packet
abbrev pub AreTransportMembers : Transport → List Member → Type 0
AreTransportMembers (transports.Read transport) members = AreReadMembers transport members
AreTransportMembers (transports.Ports source destination payload) members =
    members ≡ port_members source destination
AreTransportMembers (transports.Unread payload) members = members ≡ []

-- ---- the protocol of a packet

-- the name of a protocol, if it has a name
abbrev pub name_members : Option (List ℕ) → List Member
name_members None = []
name_members (Some name) = (codes "protocol_name", string name) ∷ []

-- a protocol over IP: its number, and its name if it has a name
abbrev pub ip_protocol_members : ℕ → Option Proto → List Member
ip_protocol_members number proto = (codes "protocol", whole_number number) ∷ name_members (ip_protocol_name number proto)

-- ---- the packet that an ICMP error quotes

-- the ports of a quoted packet, if the error quotes them
abbrev pub quoted_port_members : Option (ℕ × ℕ) → List Member
quoted_port_members None = []
quoted_port_members (Some ports) = port_members ports.0 ports.1

-- a quoted packet: its addresses, its protocol, and its ports if the error quotes them
abbrev pub quoted_fields : Quoted → List Member
quoted_fields quoted =
    address_members quoted.addresses ++ (ip_protocol_members quoted.protocol quoted.proto ++ quoted_port_members quoted.ports)

-- the packet that an ICMP error quotes, if the IP headers of that packet can be read
abbrev pub quoted_members : Option Quoted → List Member
quoted_members None = []
quoted_members (Some quoted) = (codes "quoted", object_of (quoted_fields quoted)) ∷ []

-- ---- tunnels

-- the virtual network of a tunnel, if it states one: the kind of the tunnel, and the network identifier
abbrev pub virtual_network_members : Option VirtualNetwork → List Member
virtual_network_members None = []
virtual_network_members (Some network) =
    (codes "encapsulation", string (kind_name network.kind)) ∷ (codes "vni", whole_number network.id) ∷ []

-- the outer packet of a tunnel: its addresses, its protocol, and its virtual network
abbrev pub tunnel_data : Tunnel → Data
tunnel_data tunnel =
    object_of (address_members (by_value tunnel.addresses)
    ++ (ip_protocol_members tunnel.protocol.0 (proto_around tunnel.network) ++ virtual_network_members tunnel.network))

-- the tunnels around a packet, from the outermost to the innermost, if there are any
abbrev pub tunnel_members : List Tunnel → List Member
tunnel_members [] = []
tunnel_members (tunnel ∷ tunnels) = (codes "tunnels", array_of (map tunnel_data (tunnel ∷ tunnels))) ∷ []

-- ---- the content of a packet

-- the numbers that identify the protocol of a frame that contains no IP packet; the name of each member is the kind of the number
abbrev pub network_number_members : NetworkProtocol → List Member
network_number_members (EtherType number) = (codes "ether_type", whole_number number) ∷ []
network_number_members (AddressFamily number) = (codes "address_family", whole_number number) ∷ []
network_number_members (LinkType number) = (codes "link_type", whole_number number) ∷ []
network_number_members (Ieee80211 frame_control) = (codes "frame_control", whole_number frame_control) ∷ []
network_number_members (Radiotap version len) =
    (codes "radiotap_version", whole_number version) ∷ (codes "radiotap_length", whole_number len) ∷ []
network_number_members (Llc dsap ssap) = (codes "llc_dsap", whole_number dsap) ∷ (codes "llc_ssap", whole_number ssap) ∷ []
network_number_members (Snap organization_code protocol) =
    (codes "snap_organization_code", whole_number organization_code) ∷ (codes "snap_protocol", whole_number protocol) ∷ []
network_number_members (PppProtocol number) = (codes "ppp_protocol", whole_number number) ∷ []
network_number_members (FrameRelay header) = (codes "frame_relay_header", whole_number header) ∷ []
network_number_members (Nlpid number) = (codes "nlpid", whole_number number) ∷ []

-- the protocol of a frame that contains no IP packet: its numbers, and its name if it has a name
abbrev pub network_members : NetworkProtocol → List Member
network_members protocol = network_number_members protocol ++ name_members (network_protocol_name protocol)

-- These are the members of the content of a packet. If the packet was not read, there are no members. If the IP headers of a packet are
-- refused, the members are only its addresses.
abbrev pub AreContentMembers : Content → List Member → Type 0
AreContentMembers contents.Unread members = members ≡ []
AreContentMembers (contents.IpHeader addresses) members = members ≡ address_members (by_value addresses)
AreContentMembers (contents.NotIp protocol) members = members ≡ network_members protocol
AreContentMembers (contents.Ip addresses protocol proto transport payload_len) members =
    (inner : List Member) × AreTransportMembers transport inner
    × (members ≡ address_members (by_value addresses)
    ++ (ip_protocol_members protocol.0 proto ++ (quoted_members (quoted_in transport)
    ++ (inner ++ payload_members payload_len (payload_in transport)))))

-- the number of an identification
abbrev pub identification_number : Identification → ℕ
identification_number (identifications.Ipv4 number) = number
identification_number (identifications.Ipv6 number) = number

-- the identification and the offset of a fragment, in bytes, and whether more fragments follow
abbrev pub fragment_content : FragmentFields → List Member
fragment_content fragment =
    (codes "identification", whole_number (identification_number fragment.identification))
    ∷ (codes "offset", whole_number fragment.offset) ∷ (codes "more_fragments", boolean fragment.more_fragments) ∷ []

-- the fields of a fragment, if there is one
abbrev pub fragment_members : Option FragmentFields → List Member
fragment_members None = []
fragment_members (Some fragment) = (codes "fragment", object_of (fragment_content fragment)) ∷ []

-- the hop limit of a packet, or its time to live, if its IP header was captured
abbrev pub hop_limit_members : Option HopLimit → List Member
hop_limit_members None = []
hop_limit_members (Some (limits.Ipv4 limit)) = (codes "time_to_live", whole_number limit) ∷ []
hop_limit_members (Some (limits.Ipv6 limit)) = (codes "hop_limit", whole_number limit) ∷ []

-- ---- the verdict

-- a member with this name and the word for a kind of verdict
abbrev pub word_member : List ℕ → VerdictKind → Member
word_member name kind = (name, string (with_underscores (verdict_word kind)))

-- the reason why a packet is refused
abbrev pub refused_member : Refusal → Member
refused_member refusal = (codes "refused", string (refusal_text refusal))

-- the members for a checksum that is not tested, with the reason
abbrev pub not_tested_members : VerdictKind → List Member
not_tested_members reason = (codes "checksum", string (codes "not_looked_at")) ∷ word_member (codes "reason") reason ∷ []

-- The members for a packet with this refusal. Without a refusal, they are the members for a checksum that is not tested, with the reason.
abbrev pub members_by : Option Refusal → VerdictKind → List Member
members_by None reason = not_tested_members reason
members_by (Some refusal) reason = refused_member refusal ∷ []

-- the members for a checksum that is not tested, with the reason; a UDP packet with length field 0 is refused instead
abbrev pub untested_members : Untested → List Member
untested_members reason = members_by (refusal_if_untested reason) (untested_kind reason)

-- the verdict on a checksum
abbrev pub checksum_members : ChecksumVerdict → List Member
checksum_members checksums.Right = word_member (codes "checksum") kinds.Right ∷ []
checksum_members (checksums.Wrong expected) =
    word_member (codes "checksum") kinds.Wrong ∷ (codes "expected_checksum", whole_number expected) ∷ []
checksum_members (checksums.Partial expected) = word_member (codes "checksum") kinds.Partial ∷ []
checksum_members checksums.Absent = word_member (codes "checksum") kinds.Absent ∷ []
checksum_members (checksums.Untested reason) = untested_members reason

-- the verdict on a packet
abbrev pub verdict_members : Verdict → List Member
verdict_members (verdicts.Checksum verdict) = checksum_members verdict
verdict_members verdicts.LengthMissing = not_tested_members kinds.LengthMissing
verdict_members (verdicts.TooLong required_len) =
    not_tested_members kinds.TooLong ++ (codes "required_length", whole_number required_len) ∷ []
verdict_members (verdicts.Refused refusal) = refused_member refusal ∷ []

-- ---- packets

-- the type of a line
abbrev pub type_member : List ℕ → Member
type_member kind = (codes "type", string kind)

-- These are the members of a packet: its type, its number, its time, its interface, the length of its frame, its tunnels, its content, its
-- ARP packet, the fields of its fragment, its hop limit, its verdict, and its comments.
abbrev pub ArePacketMembers : Times → ℕ → PacketTexts → Option PacketTime → Option PacketTime → Option FrameLen → Packet
    → List Member → Type 0
ArePacketMembers times number texts first time len packet members =
    (what : List Member) × AreContentMembers packet.content what
    × (members ≡ type_member (codes "packet") ∷ (codes "number", whole_number number) ∷ (time_members times first time
    ++ (packet_interface_members texts.interface ++ (frame_members len ++ (tunnel_members packet.tunnels.items
    ++ (what ++ (arp_members packet.arp ++ (fragment_members packet.fragment
    ++ (hop_limit_members packet.hop_limit ++ (verdict_members packet.verdict ++ comments_members texts.comments))))))))))

-- an object on its own line
abbrev pub json_line : List Member → List ℕ
json_line members = compact_text (object_of members) ++ codes "\n"

-- the members of the line that contains the name of a capture
abbrev pub file_members : List ℕ → List Member
file_members name = type_member (codes "file") ∷ (codes "file", string name) ∷ []

-- this is the line of a packet
abbrev pub IsJsonLine : Times → ℕ → PacketTexts → Option PacketTime → Option PacketTime → Option FrameLen → Packet → List ℕ
    → Type 0
IsJsonLine times number texts first time len packet line =
    (members : List Member) × ArePacketMembers times number texts first time len packet members × (line ≡ json_line members)

-- any two lines of this packet, with this number, these texts, these times and this length, are equal
abbrev pub HasOneJsonLine : Times → ℕ → PacketTexts → Option PacketTime → Option PacketTime → Option FrameLen → Packet → Type 0
HasOneJsonLine times number texts first time len packet = (line other : List ℕ)
    → IsJsonLine times number texts first time len packet line → IsJsonLine times number texts first time len packet other
    → line ≡ other
