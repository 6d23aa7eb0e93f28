-- The tables: the rows in which a packet is counted, and the place and the word of each row.
use Rattle.std.specs.Prelude.{ℕ, List, [], ◌∷◌, codes, map, slice_index, slice_index_or, Option, Some, None, Result, Ok, Err}
use Rattle.std.specs.Option.{option_map}
use Rattle.ip_part.specs.declared.ip_error.IpError.TheVariants as ip_errors
use Rattle.ip_part.specs.declared.proto.Proto.{Proto}
use Rattle.ip_part.specs.declared.proto.Proto.TheVariants as protos
use Rattle.net_base.specs.IpNumbers.{tcp_number, udp_number}
use Rattle.net_base.specs.declared.err.tcp.header_slice_error.HeaderSliceError.TheVariants as tcp_errors
use Rattle.transport_part.specs.declared.checksum_verdict.ChecksumVerdict.TheVariants as checksums
use Rattle.transport_part.specs.declared.checksum_verdict.Untested.{Untested}
use Rattle.transport_part.specs.declared.checksum_verdict.Untested.TheVariants as reasons
use Rattle.capture_numbers.specs.declared.link_type.LinkType.{LinkType}
use Rattle.capture_numbers.specs.declared.link_type.LinkType.TheVariants as link_types
use Rattle.capture_packet.specs.Verdicts.{refusal_of}
use Rattle.capture_packet.specs.declared.refusal.Refusal.{Refusal}
use Rattle.capture_packet.specs.declared.refusal.Refusal.TheVariants as refusals
use Rattle.capture_packet.specs.declared.verdict.Verdict.{Verdict}
use Rattle.capture_packet.specs.declared.verdict.Verdict.TheVariants as verdicts
use Rattle.capture_summary.specs.Protocols.{protocol_kinds, protocol_place, protocol_word}
use Rattle.capture_summary.specs.Tables.{no_packets}
use Rattle.capture_summary.specs.declared.count.Count.{Count}
use Rattle.capture_summary.specs.declared.flow.FlowProtocol.{FlowProtocol}
use Rattle.capture_summary.specs.declared.flow.FlowProtocol.TheVariants as flow_protocols
use Rattle.capture_summary.specs.declared.link_kind.LinkKind.{LinkKind}
use Rattle.capture_summary.specs.declared.link_kind.LinkKind.TheVariants.{Known, Other as OtherLink, Unknown as UnknownLink}
use Rattle.capture_summary.specs.declared.refusal_kind.RefusalKind.{RefusalKind}
use Rattle.capture_summary.specs.declared.refusal_kind.RefusalKind.TheVariants.{LinkHeader, IpHeaderCutOff, IpVersion, IpHeaderLength, IpTotalLength, IpPacketCutOff, IpExtensionHeader, UdpLength, TcpLength, TcpDataOffset, Icmpv4Length, Icmpv6Length}
use Rattle.capture_summary.specs.declared.verdict_kind.VerdictKind.{VerdictKind}
use Rattle.capture_summary.specs.declared.verdict_kind.VerdictKind.TheVariants.{Right, Wrong, Partial, Absent, Fragment, CutOff, LengthMissing, UnknownDestination, OtherProtocol, TooLong, Refused}

-- ---- the table of protocols

-- the rows of the table: the word and the count of each row; `counts` is in the order of the places
abbrev pub protocol_rows : List Count → List (List ℕ × Count)
protocol_rows counts = map (λ kind. (protocol_word kind, slice_index_or counts (protocol_place kind) no_packets)) protocol_kinds

-- ---- the table of checksums

-- The row of a packet whose checksum is not tested for this reason. A UDP packet with length field 0 is in the row of refused packets.
abbrev pub untested_kind : Untested → VerdictKind
untested_kind reasons.Fragment = Fragment
untested_kind reasons.CutOff = CutOff
untested_kind reasons.UnknownDestination = UnknownDestination
untested_kind reasons.OtherProtocol = OtherProtocol
untested_kind reasons.ZeroLength = Refused
untested_kind reasons.TooLong = TooLong

-- the row of this verdict in the table of checksums
abbrev pub verdict_kind : Verdict → VerdictKind
verdict_kind (verdicts.Checksum checksums.Right) = Right
verdict_kind (verdicts.Checksum (checksums.Wrong expected)) = Wrong
verdict_kind (verdicts.Checksum (checksums.Partial expected)) = Partial
verdict_kind (verdicts.Checksum checksums.Absent) = Absent
verdict_kind (verdicts.Checksum (checksums.Untested reason)) = untested_kind reason
verdict_kind verdicts.LengthMissing = LengthMissing
verdict_kind (verdicts.TooLong required_len) = TooLong
verdict_kind (verdicts.Refused refusal) = Refused

-- all rows, in their order
abbrev pub verdict_kinds : List VerdictKind
verdict_kinds =
    Right ∷ Wrong ∷ Partial ∷ Absent ∷ Fragment ∷ CutOff ∷ LengthMissing ∷ UnknownDestination ∷ OtherProtocol ∷ TooLong ∷ Refused ∷ []

-- the place of a row
abbrev pub verdict_place : VerdictKind → ℕ
verdict_place Right = 0
verdict_place Wrong = 1
verdict_place Partial = 2
verdict_place Absent = 3
verdict_place Fragment = 4
verdict_place CutOff = 5
verdict_place LengthMissing = 6
verdict_place UnknownDestination = 7
verdict_place OtherProtocol = 8
verdict_place TooLong = 9
verdict_place Refused = 10

-- the word of a row
abbrev pub verdict_word : VerdictKind → List ℕ
verdict_word Right = codes "right"
verdict_word Wrong = codes "wrong"
verdict_word Partial = codes "not filled in"
verdict_word Absent = codes "none"
verdict_word Fragment = codes "fragment"
verdict_word CutOff = codes "cut off"
verdict_word LengthMissing = codes "no length stated"
verdict_word UnknownDestination = codes "final destination unknown"
verdict_word OtherProtocol = codes "another protocol"
verdict_word TooLong = codes "too long"
verdict_word Refused = codes "refused"

-- the rows of the table: the word and the count of each row; `counts` is in the order of the places
abbrev pub verdict_rows : List ℕ → List (List ℕ × ℕ)
verdict_rows counts = map (λ kind. (verdict_word kind, slice_index counts (verdict_place kind))) verdict_kinds

-- ---- the table of refusals

-- the kind of a refusal if the transport is of this protocol and its length is wrong
abbrev pub length_kind : Proto → RefusalKind
length_kind protos.Udp = UdpLength
length_kind protos.Tcp = TcpLength
length_kind protos.Icmpv4 = Icmpv4Length
length_kind protos.Icmpv6 = Icmpv6Length

-- the row of this refusal in the table of refusals
abbrev pub refusal_kind : Refusal → RefusalKind
refusal_kind (refusals.Link error) = LinkHeader
refusal_kind (refusals.Ip (ip_errors.HeaderCutOff required_len len)) = IpHeaderCutOff
refusal_kind (refusals.Ip (ip_errors.Version version)) = IpVersion
refusal_kind (refusals.Ip (ip_errors.HeaderLength header_len)) = IpHeaderLength
refusal_kind (refusals.Ip (ip_errors.TotalLength total_len header_len)) = IpTotalLength
refusal_kind (refusals.Ip (ip_errors.PacketCutOff required_len len)) = IpPacketCutOff
refusal_kind (refusals.Ip (ip_errors.ExtensionHeaderCutOff protocol offset required_len len)) = IpExtensionHeader
refusal_kind (refusals.Ip ip_errors.JumboPayloadMissing) = IpExtensionHeader
refusal_kind (refusals.Ip (ip_errors.JumboPayloadLength jumbo_payload_len)) = IpExtensionHeader
refusal_kind (refusals.Ip (ip_errors.JumboPayloadUnexpected payload_len)) = IpExtensionHeader
refusal_kind (refusals.Ip (ip_errors.JumboPayloadFragment offset)) = IpExtensionHeader
refusal_kind (refusals.Transport proto (tcp_errors.Len error)) = length_kind proto
refusal_kind (refusals.Transport proto (tcp_errors.Content error)) = TcpDataOffset

-- the row in the table of refusals, or `None` if the verdict does not refuse the packet
abbrev pub verdict_refusal_kind : Verdict → Option RefusalKind
verdict_refusal_kind verdict = option_map refusal_kind (refusal_of verdict)

-- all rows, in their order
abbrev pub refusal_kinds : List RefusalKind
refusal_kinds =
    LinkHeader ∷ IpHeaderCutOff ∷ IpVersion ∷ IpHeaderLength ∷ IpTotalLength ∷ IpPacketCutOff ∷ IpExtensionHeader
    ∷ UdpLength ∷ TcpLength ∷ TcpDataOffset ∷ Icmpv4Length ∷ Icmpv6Length ∷ []

-- the place of a row
abbrev pub refusal_place : RefusalKind → ℕ
refusal_place LinkHeader = 0
refusal_place IpHeaderCutOff = 1
refusal_place IpVersion = 2
refusal_place IpHeaderLength = 3
refusal_place IpTotalLength = 4
refusal_place IpPacketCutOff = 5
refusal_place IpExtensionHeader = 6
refusal_place UdpLength = 7
refusal_place TcpLength = 8
refusal_place TcpDataOffset = 9
refusal_place Icmpv4Length = 10
refusal_place Icmpv6Length = 11

-- the word of a row
abbrev pub refusal_word : RefusalKind → List ℕ
refusal_word LinkHeader = codes "link header cut off"
refusal_word IpHeaderCutOff = codes "IP header cut off"
refusal_word IpVersion = codes "IP version"
refusal_word IpHeaderLength = codes "IP header length"
refusal_word IpTotalLength = codes "IP total length"
refusal_word IpPacketCutOff = codes "IP packet cut off"
refusal_word IpExtensionHeader = codes "IP extension header"
refusal_word UdpLength = codes "UDP length"
refusal_word TcpLength = codes "TCP length"
refusal_word TcpDataOffset = codes "TCP data offset"
refusal_word Icmpv4Length = codes "ICMPv4 length"
refusal_word Icmpv6Length = codes "ICMPv6 length"

-- the rows of the table: the word and the count of each row; `counts` is in the order of the places
abbrev pub refusal_rows : List ℕ → List (List ℕ × ℕ)
refusal_rows counts = map (λ kind. (refusal_word kind, slice_index counts (refusal_place kind))) refusal_kinds

-- ---- the table of link types

-- The row of the link type of a packet. The argument is a link type that is read, the number of another link type, or `None` if the capture
-- does not state the link type.
abbrev pub link_kind : Option (Result LinkType ℕ) → LinkKind
link_kind (Some (Ok link_type)) = Known link_type
link_kind (Some (Err number)) = OtherLink
link_kind None = UnknownLink

-- all rows, in their order
abbrev pub link_kinds : List LinkKind
link_kinds =
    (Known link_types.BsdLoopback) ∷ (Known link_types.Ethernet) ∷ (Known link_types.Ppp) ∷ (Known link_types.PppHdlc)
    ∷ (Known link_types.PppOverEthernet) ∷ (Known link_types.RawIp) ∷ (Known link_types.CiscoHdlc) ∷ (Known link_types.Ieee80211)
    ∷ (Known link_types.FrameRelay) ∷ (Known link_types.OpenBsdLoopback) ∷ (Known link_types.LinuxCooked) ∷ (Known link_types.Pflog)
    ∷ (Known link_types.Prism) ∷ (Known link_types.Radiotap) ∷ (Known link_types.Avs) ∷ (Known link_types.Ppi) ∷ (Known link_types.Ipnet)
    ∷ (Known link_types.Nflog) ∷ (Known link_types.InfiniBand) ∷ (Known link_types.Pktap) ∷ (Known link_types.LinuxCooked2)
    ∷ OtherLink ∷ UnknownLink ∷ []

-- the place of a row
abbrev pub link_place : LinkKind → ℕ
link_place (Known link_types.BsdLoopback) = 0
link_place (Known link_types.Ethernet) = 1
link_place (Known link_types.Ppp) = 2
link_place (Known link_types.PppHdlc) = 3
link_place (Known link_types.PppOverEthernet) = 4
link_place (Known link_types.RawIp) = 5
link_place (Known link_types.CiscoHdlc) = 6
link_place (Known link_types.Ieee80211) = 7
link_place (Known link_types.FrameRelay) = 8
link_place (Known link_types.OpenBsdLoopback) = 9
link_place (Known link_types.LinuxCooked) = 10
link_place (Known link_types.Pflog) = 11
link_place (Known link_types.Prism) = 12
link_place (Known link_types.Radiotap) = 13
link_place (Known link_types.Avs) = 14
link_place (Known link_types.Ppi) = 15
link_place (Known link_types.Ipnet) = 16
link_place (Known link_types.Nflog) = 17
link_place (Known link_types.InfiniBand) = 18
link_place (Known link_types.Pktap) = 19
link_place (Known link_types.LinuxCooked2) = 20
link_place OtherLink = 21
link_place UnknownLink = 22

-- the word of a row
abbrev pub link_word : LinkKind → List ℕ
link_word (Known link_types.BsdLoopback) = codes "BSD loopback"
link_word (Known link_types.Ethernet) = codes "Ethernet"
link_word (Known link_types.Ppp) = codes "PPP"
link_word (Known link_types.PppHdlc) = codes "PPP or Cisco HDLC"
link_word (Known link_types.PppOverEthernet) = codes "PPP over Ethernet"
link_word (Known link_types.RawIp) = codes "raw IP"
link_word (Known link_types.CiscoHdlc) = codes "Cisco HDLC"
link_word (Known link_types.Ieee80211) = codes "IEEE 802.11"
link_word (Known link_types.FrameRelay) = codes "Frame Relay"
link_word (Known link_types.OpenBsdLoopback) = codes "OpenBSD loopback"
link_word (Known link_types.LinuxCooked) = codes "Linux cooked"
link_word (Known link_types.Pflog) = codes "PFLOG"
link_word (Known link_types.Prism) = codes "Prism"
link_word (Known link_types.Radiotap) = codes "radiotap"
link_word (Known link_types.Avs) = codes "AVS"
link_word (Known link_types.Ppi) = codes "PPI"
link_word (Known link_types.Ipnet) = codes "Solaris ipnet"
link_word (Known link_types.Nflog) = codes "NFLOG"
link_word (Known link_types.InfiniBand) = codes "IP over InfiniBand"
link_word (Known link_types.Pktap) = codes "PKTAP"
link_word (Known link_types.LinuxCooked2) = codes "Linux cooked version 2"
link_word OtherLink = codes "another link type"
link_word UnknownLink = codes "unknown"

-- the rows of the table: the word and the count of each row; `counts` is in the order of the places
abbrev pub link_rows : List ℕ → List (List ℕ × ℕ)
link_rows counts = map (λ kind. (link_word kind, slice_index counts (link_place kind))) link_kinds

-- ---- flows

-- the name of the protocol of a flow
abbrev pub flow_protocol_word : FlowProtocol → List ℕ
flow_protocol_word flow_protocols.Udp = codes "UDP"
flow_protocol_word flow_protocols.Tcp = codes "TCP"

-- the protocol of a flow as a `Proto`
abbrev pub flow_proto : FlowProtocol → Proto
flow_proto flow_protocols.Udp = protos.Udp
flow_proto flow_protocols.Tcp = protos.Tcp

-- the number of the protocol of a flow
abbrev pub flow_protocol_number : FlowProtocol → ℕ
flow_protocol_number flow_protocols.Udp = udp_number
flow_protocol_number flow_protocols.Tcp = tcp_number
