-- The line of a packet.
use Rattle.std.specs.Prelude.{◌≡◌, ℕ, ◌==◌, Bool, if◌then◌else◌, List, [], ◌++◌, length, codes, decimal, Option, Some, None}
use Rattle.std.specs.List.{flat_map}
use Rattle.icmp_part.specs.Icmpv4Format as icmpv4
use Rattle.ip_part.specs.Addresses.{Addresses, by_value}
use Rattle.ip_part.specs.declared.proto.Proto.{Proto}
use Rattle.net_base.specs.Bytes.{be_number}
use Rattle.transport_part.specs.declared.transport_slice.TransportSlice.TheVariants as slices
use Rattle.capture_packet.specs.Payloads.{payload_in}
use Rattle.capture_packet.specs.Quotes.{Quoted, quoted_in}
use Rattle.capture_packet.specs.declared.content.Content.{Content}
use Rattle.capture_packet.specs.declared.content.Content.TheVariants as contents
use Rattle.capture_packet.specs.declared.network_protocol.NetworkProtocol.{NetworkProtocol}
use Rattle.capture_packet.specs.declared.network_protocol.NetworkProtocol.TheVariants.{AddressFamily, EtherType, FrameRelay, Ieee80211, LinkType, Llc, Nlpid, PppProtocol, Radiotap, Snap}
use Rattle.capture_packet.specs.declared.fragment_fields.FragmentFields.{FragmentFields}
use Rattle.capture_packet.specs.declared.fragment_fields.Identification.{Identification}
use Rattle.capture_packet.specs.declared.fragment_fields.Identification.TheVariants as identifications
use Rattle.capture_packet.specs.declared.hop_limit.HopLimit.{HopLimit}
use Rattle.capture_packet.specs.declared.hop_limit.HopLimit.TheVariants as limits
use Rattle.capture_packet.specs.declared.packet.Packet.{Packet}
use Rattle.capture_packet.specs.declared.transport.Transport.{Transport}
use Rattle.capture_packet.specs.declared.transport.Transport.TheVariants as transports
use Rattle.capture_packet.specs.NetworkKinds.{kind_name, proto_around}
use Rattle.capture_packet.specs.declared.tunnel.Tunnel.{Tunnel}
use Rattle.capture_packet.specs.declared.verdict.Verdict.{Verdict}
use Rattle.capture_packet.specs.declared.virtual_network.VirtualNetwork.{VirtualNetwork}
use Rattle.capture_file.specs.declared.packet_time.PacketTime.{PacketTime}
use Rattle.capture_file.specs.declared.reader.packet_texts.PacketTexts.{PacketTexts}
use Rattle.capture_text.specs.ArpText.{arp_text}
use Rattle.capture_text.specs.AddressText.{addresses_text, endpoints_text}
use Rattle.capture_text.specs.CommentsText.{comments_part}
use Rattle.capture_text.specs.InterfaceText.{interface_text}
use Rattle.capture_words.specs.Icmpv4Text as icmpv4_text
use Rattle.capture_words.specs.Icmpv6Text as icmpv6_text
use Rattle.capture_words.specs.Numbers.{hex_padded}
use Rattle.capture_summary.specs.Protocols.{ip_protocol_name, network_protocol_name}
use Rattle.capture_summary.specs.declared.capture_info.FrameLen.{FrameLen}
use Rattle.capture_words.specs.TcpText.{IsHeaderText}
use Rattle.capture_words.specs.TimeText.{time_text}
use Rattle.capture_text.specs.VerdictText.{is_other_protocol, verdict_text}
use Rattle.capture_words.specs.declared.times.Times.{Times}

-- the number of captured bytes; the text is empty if this number is `len`
abbrev pub captured_text : ℕ → ℕ → List ℕ
captured_text len captured_len = if captured_len == len then [] else codes ", " ++ (decimal captured_len ++ codes " captured")

-- The length of a frame in bytes, and the number of captured bytes if this number differs. If the length is unknown, the text states that
-- it is unknown.
abbrev pub frame_text : Option FrameLen → List ℕ
frame_text None = codes " length unknown: "
frame_text (Some len) = codes " length " ++ (decimal len.original ++ (captured_text len.original len.captured ++ codes ": "))

-- the length of a payload in bytes, and the number of captured bytes if this number differs
abbrev pub payload_text : ℕ → List ℕ → List ℕ
payload_text payload_len payload = codes ", payload " ++ (decimal payload_len ++ captured_text payload_len (length payload))

-- ---- the transport of an IP packet

-- the addresses with the ports of a UDP or TCP header: the source port in bytes 0 and 1, and the destination port in bytes 2 and 3
abbrev pub ports_text : Addresses → List ℕ → List ℕ
ports_text addresses header = endpoints_text addresses (be_number header 0 2) (be_number header 2 2)

-- a UDP datagram: its addresses and ports, and its length field (bytes 4 and 5)
abbrev pub udp_text : Addresses → List ℕ → List ℕ
udp_text addresses datagram = ports_text addresses datagram ++ (codes " UDP length " ++ decimal (be_number datagram 4 2))

-- this is the text of a TCP segment: its addresses, its ports, and the other fields of its header
abbrev pub IsTcpText : Addresses → List ℕ → List ℕ → Type 0
IsTcpText addresses segment text =
    (header : List ℕ) × IsHeaderText segment header
    × (text ≡ ports_text addresses segment ++ (codes " TCP " ++ header))

-- this name, or this text if there is no name
abbrev pub name_or : Option (List ℕ) → List ℕ → List ℕ
name_or (Some name) text = name
name_or None text = text

-- the protocol of a packet: its name, or its number if it has no name
abbrev pub name_or_number : ℕ → Option Proto → List ℕ
name_or_number number proto = name_or (ip_protocol_name number proto) (codes "protocol " ++ decimal number)

-- the addresses of a packet, with its ports if they are known
abbrev pub known_endpoints : Addresses → Option (ℕ × ℕ) → List ℕ
known_endpoints addresses None = addresses_text addresses
known_endpoints addresses (Some ports) = endpoints_text addresses ports.0 ports.1

-- the packet that an ICMP error quotes; the text is empty if no packet is quoted, or if the IP headers of the quoted packet can't be read
abbrev pub quoted_text : Option Quoted → List ℕ
quoted_text None = []
quoted_text (Some quoted) =
    codes " for " ++ (known_endpoints quoted.addresses quoted.ports ++ (codes " " ++ name_or_number quoted.protocol quoted.proto))

-- the addresses of a packet, its ICMPv4 message, and the packet that the message quotes, if there is one
abbrev pub icmpv4_line : Addresses → List ℕ → Option Quoted → List ℕ
icmpv4_line addresses message quoted =
    addresses_text addresses ++ (codes " ICMPv4 " ++ (icmpv4_text.message_text (icmpv4.icmp_type_of message) ++ quoted_text quoted))

-- the addresses of a packet, its ICMPv6 message, and the packet that the message quotes, if there is one
abbrev pub icmpv6_line : Addresses → List ℕ → Option Quoted → List ℕ
icmpv6_line addresses message quoted =
    addresses_text addresses ++ (codes " ICMPv6 " ++ (icmpv6_text.packet_text message ++ quoted_text quoted))

-- an IP packet whose transport is not read: its addresses, its ports if they are known, and its protocol
abbrev pub unread_text : Addresses → ℕ → Option Proto → Option (ℕ × ℕ) → List ℕ
unread_text addresses number proto ports = known_endpoints addresses ports ++ (codes " " ++ name_or_number number proto)

-- this is the text of the addresses and the transport of an IP packet
abbrev pub IsTransportText : Addresses → ℕ → Option Proto → Transport → List ℕ → Type 0
IsTransportText addresses number proto (transports.Read (slices.Udp datagram)) text = text ≡ udp_text addresses datagram
IsTransportText addresses number proto (transports.Read (slices.Tcp segment)) text = IsTcpText addresses segment text
IsTransportText addresses number proto (transports.Read (slices.Icmpv4 message)) text =
    text ≡ icmpv4_line addresses message (quoted_in (transports.Read (slices.Icmpv4 message)))
IsTransportText addresses number proto (transports.Read (slices.Icmpv6 message)) text =
    text ≡ icmpv6_line addresses message (quoted_in (transports.Read (slices.Icmpv6 message)))
IsTransportText addresses number proto (transports.Ports source destination payload) text =
    text ≡ unread_text addresses number proto (Some (source, destination))
IsTransportText addresses number proto (transports.Unread payload) text = text ≡ unread_text addresses number proto None

-- ---- lines

-- the numbers that identify the protocol of a frame without an IP packet
abbrev pub network_number : NetworkProtocol → List ℕ
network_number (EtherType number) = codes "ether type " ++ hex_padded 4 number
network_number (AddressFamily number) = codes "address family " ++ decimal number
network_number (LinkType number) = codes "link type " ++ decimal number
network_number (Ieee80211 frame_control) = codes "IEEE 802.11 frame control " ++ hex_padded 4 frame_control
network_number (Radiotap version len) = codes "radiotap version " ++ (decimal version ++ (codes " length " ++ decimal len))
network_number (Llc dsap ssap) = codes "LLC DSAP " ++ (hex_padded 2 dsap ++ (codes " SSAP " ++ hex_padded 2 ssap))
network_number (Snap organization_code protocol) = codes "SNAP " ++ (hex_padded 6 organization_code ++ (codes " " ++ hex_padded 4 protocol))
network_number (PppProtocol number) = codes "PPP protocol " ++ hex_padded 4 number
network_number (FrameRelay header) = codes "Frame Relay " ++ hex_padded 6 header
network_number (Nlpid number) = codes "NLPID " ++ hex_padded 2 number

-- the protocol of a frame without an IP packet: its name, or its numbers if it has no name
abbrev pub network_text : NetworkProtocol → List ℕ
network_text protocol = name_or (network_protocol_name protocol) (network_number protocol)

-- This is the text of the content of a packet, with the length of its payload. If the packet is not read, the text is empty. If its IP
-- headers are refused or cut off, the text contains only the addresses.
abbrev pub IsContentText : Content → List ℕ → Type 0
IsContentText contents.Unread text = text ≡ []
IsContentText (contents.IpHeader addresses) text = text ≡ addresses_text (by_value addresses)
IsContentText (contents.NotIp protocol) text = text ≡ network_text protocol
IsContentText (contents.Ip addresses protocol proto transport payload_len) text =
    (what : List ℕ) × IsTransportText (by_value addresses) protocol.0 proto transport what
    × (text ≡ what ++ payload_text payload_len (payload_in transport))

-- the identification of a packet that is sent in fragments: four hex digits over IPv4, and eight over IPv6
abbrev pub identification_text : Identification → List ℕ
identification_text (identifications.Ipv4 number) = hex_padded 4 number
identification_text (identifications.Ipv6 number) = hex_padded 8 number

-- more fragments follow; the text is empty if none follow
abbrev pub more_text : Bool → List ℕ
more_text more_fragments = if more_fragments then codes ", more" else []

-- The fields of a fragment: its identification, its offset in bytes, and whether more fragments follow. The text is empty if there is no
-- fragment.
abbrev pub fragment_text : Option FragmentFields → List ℕ
fragment_text None = []
fragment_text (Some fragment) = codes ", fragment, identification " ++ (identification_text fragment.identification
    ++ (codes ", offset " ++ (decimal fragment.offset ++ more_text fragment.more_fragments)))

-- the hop limit of a packet, or its time to live, if its IP header was captured
abbrev pub hop_limit_text : Option HopLimit → List ℕ
hop_limit_text None = []
hop_limit_text (Some (limits.Ipv4 limit)) = codes ", time to live " ++ decimal limit
hop_limit_text (Some (limits.Ipv6 limit)) = codes ", hop limit " ++ decimal limit

-- the details in a verbose line, which follow the content of a packet; the text is empty if the line is not verbose
abbrev pub details_text : Bool → Packet → List ℕ
details_text verbose packet = if verbose then hop_limit_text packet.hop_limit else []

-- a semicolon and the verdict, after the content of a packet; the text is empty if the protocol is not read
abbrev pub verdict_part : Verdict → List ℕ
verdict_part verdict = if is_other_protocol verdict then [] else codes "; " ++ verdict_text verdict

-- The verdict at the end of a line. If the content is `Unread`, the text is only the verdict. Otherwise the text is a semicolon and the
-- verdict, or empty if the protocol is not read.
abbrev pub end_text : Content → Verdict → List ℕ
end_text contents.Unread verdict = verdict_text verdict
end_text (contents.IpHeader addresses) verdict = verdict_part verdict
end_text (contents.NotIp protocol) verdict = verdict_part verdict
end_text (contents.Ip addresses protocol proto transport payload_len) verdict = verdict_part verdict

-- the virtual network of a tunnel, if it states one: the kind of the tunnel, and the network identifier
abbrev pub virtual_network_text : Option VirtualNetwork → List ℕ
virtual_network_text None = []
virtual_network_text (Some network) = codes ", " ++ (kind_name network.kind ++ (codes ", VNI " ++ decimal network.id))

-- the outer packet of a tunnel: its addresses, its protocol, its virtual network, and a bar before the inner packet
abbrev pub tunnel_text : Tunnel → List ℕ
tunnel_text tunnel =
    unread_text (by_value tunnel.addresses) tunnel.protocol.0 (proto_around tunnel.network) None
    ++ (virtual_network_text tunnel.network ++ codes " | ")

-- This is the line of a packet: its number, its time, its interface, the length of its frame, its tunnels, its content with an ARP packet,
-- the fields of its fragment, its details if the line is verbose, its verdict, and its comments if the line is verbose.
abbrev pub IsLine : Times → Bool → ℕ → PacketTexts → Option PacketTime → Option PacketTime → Option FrameLen → Packet → List ℕ
    → Type 0
IsLine times verbose number texts first time len packet line =
    (what : List ℕ) × IsContentText packet.content what
    × (line ≡ decimal number ++ (codes " " ++ (time_text times first time ++ (interface_text texts.interface ++ (frame_text len
    ++ (flat_map tunnel_text packet.tunnels.items
    ++ (what ++ (arp_text packet.arp ++ (fragment_text packet.fragment
    ++ (details_text verbose packet ++ (end_text packet.content packet.verdict
    ++ (comments_part verbose texts.comments ++ codes "\n"))))))))))))

-- The line of a packet depends only on the packet, its number, its texts, its time, the time of the first packet, its frame length, `times`
-- and `verbose`.
abbrev pub HasOneLine : Times → Bool → ℕ → PacketTexts → Option PacketTime → Option PacketTime → Option FrameLen → Packet
    → Type 0
HasOneLine times verbose number texts first time len packet = (line other : List ℕ)
    → IsLine times verbose number texts first time len packet line → IsLine times verbose number texts first time len packet other
    → line ≡ other
