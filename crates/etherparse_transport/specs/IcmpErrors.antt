-- An ICMP error about a packet (RFC 792; RFC 1122, section 3.2.2; RFC 4443, section 2.4): the packets about which no error is sent, the
-- part of the packet that the error quotes, and the bytes of the error.
use Rattle.std.specs.Prelude.{⊤, ◌≡◌, ℕ, ◌+◌, ◌-◌, ◌==◌, ◌&&◌, ◌||◌, not, nat_lt, is_some, Bool, true, false, List, [], ◌∷◌, length, take, drop, slice_index, slice_range, Option, Some, None, Result, Ok}
use Rattle.std.specs.Option.{option_map}
use Rattle.icmp_part.specs.Icmpv6Format.{parameter_problem_code}
use Rattle.icmp_part.specs.QuotedPackets.{is_icmpv6_error, quoted_by_icmpv4}
use Rattle.icmp_part.specs.declared.icmpv4_type.Icmpv4Type.{Icmpv4Type}
use Rattle.icmp_part.specs.declared.icmpv4_type.Icmpv4Type.TheVariants as v4
use Rattle.icmp_part.specs.declared.icmpv6_type.Icmpv6Type.{Icmpv6Type}
use Rattle.icmp_part.specs.declared.icmpv6_type.Icmpv6Type.TheVariants as v6
use Rattle.ip_part.specs.FixedHeaders.{Fixed, Ipv4, Ipv6, fixed_header}
use Rattle.ip_part.specs.Headers.{Headers}
use Rattle.ip_part.specs.Ip as ip
use Rattle.ip_part.specs.declared.ip_error.IpError.{IpError}
use Rattle.net_base.specs.IpNumbers.{icmpv4_number, icmpv6_number}
use Rattle.net_base.specs.Refusals.{first_of, refused_if}
use Rattle.etherparse_transport.specs.EchoReplies.{is_group_ipv4, is_group_ipv6, is_host_ipv4, is_host_ipv6}
use Rattle.etherparse_transport.specs.Packets.{ipv4_packet, ipv6_packet}
use Rattle.etherparse_transport.specs.declared.err.packet.error_about_error.ErrorAboutError.{ErrorAboutError}
use Rattle.etherparse_transport.specs.declared.err.packet.error_about_error.ErrorAboutError.TheVariants.{ErrorSource, GroupDestination, IcmpError, Ip, LaterFragment, NoErrorType, OtherVersion, PacketSource, Space}
use Rattle.etherparse_transport.specs.declared.transport_header.TransportHeader.{TransportHeader}
use Rattle.etherparse_transport.specs.declared.transport_header.TransportHeader.TheVariants as headers

-- ---- the message

-- This is the message of an error: destination unreachable, time exceeded, parameter problem, or a redirect whose gateway is the address of
-- one host (RFC 1122, section 3.2.2). Source quench is left out, since it is deprecated (RFC 6633).
abbrev pub is_icmpv4_error_type : Icmpv4Type → Bool
is_icmpv4_error_type (v4.Unknown type code bytes) = false
is_icmpv4_error_type (v4.EchoReply echo) = false
is_icmpv4_error_type (v4.DestinationUnreachable code) = true
is_icmpv4_error_type (v4.Redirect redirect) = is_host_ipv4 redirect.gateway_internet_address
is_icmpv4_error_type (v4.EchoRequest echo) = false
is_icmpv4_error_type (v4.TimeExceeded code) = true
is_icmpv4_error_type (v4.ParameterProblem problem) = true
is_icmpv4_error_type (v4.TimestampRequest message) = false
is_icmpv4_error_type (v4.TimestampReply message) = false

-- if the message is a redirect, its gateway is an address of four bytes
abbrev pub HasGateway : Icmpv4Type → Type 0
HasGateway (v4.Unknown type code bytes) = ⊤
HasGateway (v4.EchoReply echo) = ⊤
HasGateway (v4.DestinationUnreachable code) = ⊤
HasGateway (v4.Redirect redirect) = length redirect.gateway_internet_address ≡ 4
HasGateway (v4.EchoRequest echo) = ⊤
HasGateway (v4.TimeExceeded code) = ⊤
HasGateway (v4.ParameterProblem problem) = ⊤
HasGateway (v4.TimestampRequest message) = ⊤
HasGateway (v4.TimestampReply message) = ⊤

-- this is the message of an error: destination unreachable, packet too big, time exceeded or parameter problem (RFC 4443, section 3)
abbrev pub is_icmpv6_error_type : Icmpv6Type → Bool
is_icmpv6_error_type (v6.Unknown type code bytes) = false
is_icmpv6_error_type (v6.DestinationUnreachable code) = true
is_icmpv6_error_type (v6.PacketTooBig mtu) = true
is_icmpv6_error_type (v6.TimeExceeded code) = true
is_icmpv6_error_type (v6.ParameterProblem problem) = true
is_icmpv6_error_type (v6.EchoRequest echo) = false
is_icmpv6_error_type (v6.EchoReply echo) = false
is_icmpv6_error_type v6.RouterSolicitation = false
is_icmpv6_error_type (v6.RouterAdvertisement header) = false
is_icmpv6_error_type v6.NeighborSolicitation = false
is_icmpv6_error_type (v6.NeighborAdvertisement header) = false
is_icmpv6_error_type v6.Redirect = false

-- This error is also sent about a packet to a multicast address. It is packet too big, or a parameter problem with code 2, which means an
-- unrecognized option (RFC 4443, section 2.4, rule e.3).
abbrev pub may_be_about_group : Icmpv6Type → Bool
may_be_about_group (v6.PacketTooBig mtu) = true
may_be_about_group (v6.ParameterProblem problem) = parameter_problem_code problem.code == 2
may_be_about_group other = false

-- ---- the packet

-- the message is an ICMPv4 error, or its type is missing; no error is sent about an ICMP error
abbrev pub may_be_icmpv4_error : List ℕ → Bool
may_be_icmpv4_error message = length message == 0 || is_some (quoted_by_icmpv4 message)

-- The message is an ICMPv6 error, a redirect (137; RFC 4861, section 4.5), or its type is missing. No error is sent about an ICMPv6 error
-- or a redirect (RFC 4443, section 2.4, rules e.1 and e.2).
abbrev pub may_be_icmpv6_error : List ℕ → Bool
may_be_icmpv6_error message = length message == 0 || (is_icmpv6_error (slice_index message 0) || slice_index message 0 == 137)

-- The error for a packet with this IP header. The rules concern, in this order, the version, a fragment offset above 0, the message after
-- the headers, the destination and the source (RFC 1122, section 3.2.2; RFC 1812, section 4.3.2.7).
abbrev pub ipv4_rules : Fixed → Bool → ℕ → List ℕ → Option ErrorAboutError
ipv4_rules (Ipv4 source destination time_to_live protocol) is_later_fragment number message = first_of (
    refused_if is_later_fragment LaterFragment
    ∷ refused_if (number == icmpv4_number && may_be_icmpv4_error message) IcmpError
    ∷ refused_if (is_group_ipv4 destination) GroupDestination
    ∷ refused_if (not (is_host_ipv4 source)) PacketSource
    ∷ [])
ipv4_rules (Ipv6 source destination hop_limit next_header) is_later_fragment number message = Some OtherVersion

-- The error for a packet over IPv6, by rules in the order of `ipv4_rules` (RFC 4443, section 2.4, rules e.1 to e.6). `about_group` is true
-- if the ICMP error is also sent about a packet to a multicast address.
abbrev pub ipv6_rules : Bool → Fixed → Bool → ℕ → List ℕ → Option ErrorAboutError
ipv6_rules about_group (Ipv4 source destination time_to_live protocol) is_later_fragment number message = Some OtherVersion
ipv6_rules about_group (Ipv6 source destination hop_limit next_header) is_later_fragment number message = first_of (
    refused_if is_later_fragment LaterFragment
    ∷ refused_if (number == icmpv6_number && may_be_icmpv6_error message) IcmpError
    ∷ refused_if (not about_group && is_group_ipv6 destination) GroupDestination
    ∷ refused_if (not (is_host_ipv6 source)) PacketSource
    ∷ [])

-- this is the source in this fixed part of an IPv4 header
abbrev pub IsFromIpv4 : List ℕ → Fixed → Type 0
IsFromIpv4 source (Ipv4 from destination time_to_live protocol) = source ≡ from
IsFromIpv4 source (Ipv6 from destination hop_limit next_header) = ⊥

-- this is the source in this fixed part of an IPv6 header
abbrev pub IsFromIpv6 : List ℕ → Fixed → Type 0
IsFromIpv6 source (Ipv4 from destination time_to_live protocol) = ⊥
IsFromIpv6 source (Ipv6 from destination hop_limit next_header) = source ≡ from

-- the bytes of a packet that its IP header counts, as far as they are present; all bytes if the header states no length
abbrev pub counted : List ℕ → List ℕ
counted packet = ip.counted (ip.lacks_len packet) packet

-- the error by these rules for the parts of a packet: the fixed part of its IP header, the counted bytes, and the contents of its headers
abbrev pub by_parts : (Fixed → Bool → ℕ → List ℕ → Option ErrorAboutError) → Option Fixed → List ℕ → Result Headers IpError
    → Option ErrorAboutError
by_parts rules (Some fixed) bytes (Ok headers) = rules fixed headers.is_later_fragment headers.protocol.0 (drop headers.len bytes)
by_parts rules fixed bytes headers = None

-- the error for a packet: the error of `transport_in_ip_lax`, or else the error by these rules
abbrev pub about_refusal : (Fixed → Bool → ℕ → List ℕ → Option ErrorAboutError) → List ℕ → Option ErrorAboutError
about_refusal rules packet = first_of (
    option_map Ip (ip.lax_refusal packet)
    ∷ by_parts rules (fixed_header packet) (counted packet) (ip.headers_of (ip.lacks_len packet) packet)
    ∷ [])

-- ---- the quote

-- the length of the IPv4 header and the ICMPv4 header before the quoted packet
abbrev pub ipv4_front_len : ℕ
ipv4_front_len = 28

-- the length of the IPv6 header and the ICMPv6 header before the quoted packet
abbrev pub ipv6_front_len : ℕ
ipv6_front_len = 48

-- the greatest length of an error over IPv4 (RFC 1812, section 4.3.2.3)
abbrev pub max_error_len_ipv4 : ℕ
max_error_len_ipv4 = 576

-- the greatest length of an error over IPv6: the minimum MTU (RFC 4443, section 2.4, rule c)
abbrev pub max_error_len_ipv6 : ℕ
max_error_len_ipv6 = 1280

-- the bytes that an error over IPv4 quotes: at most the first 548 of the counted bytes of the packet
abbrev pub ipv4_quote : List ℕ → List ℕ
ipv4_quote packet = take (max_error_len_ipv4 - ipv4_front_len) (counted packet)

-- the bytes that an error over IPv6 quotes: at most the first 1,232 of the counted bytes of the packet
abbrev pub ipv6_quote : List ℕ → List ℕ
ipv6_quote packet = take (max_error_len_ipv6 - ipv6_front_len) (counted packet)

-- ---- errors

-- The first of these errors that applies: the message is no error; no error is sent about the packet; the passed source is not the address
-- of one host; a slice of length `room` is too short.
abbrev pub icmpv4_refusal : Icmpv4Type → List ℕ → List ℕ → ℕ → Option ErrorAboutError
icmpv4_refusal icmp_type source packet room = first_of (
    refused_if (not (is_icmpv4_error_type icmp_type)) NoErrorType
    ∷ about_refusal ipv4_rules packet
    ∷ refused_if (not (is_host_ipv4 source)) ErrorSource
    ∷ refused_if (nat_lt room (ipv4_front_len + length (ipv4_quote packet))) (Space (ipv4_front_len + length (ipv4_quote packet)) room)
    ∷ [])

-- the first error that applies over IPv6, in the order of `icmpv4_refusal`
abbrev pub icmpv6_refusal : Icmpv6Type → List ℕ → List ℕ → ℕ → Option ErrorAboutError
icmpv6_refusal icmp_type source packet room = first_of (
    refused_if (not (is_icmpv6_error_type icmp_type)) NoErrorType
    ∷ about_refusal (ipv6_rules (may_be_about_group icmp_type)) packet
    ∷ refused_if (not (is_host_ipv6 source)) ErrorSource
    ∷ refused_if (nat_lt room (ipv6_front_len + length (ipv6_quote packet))) (Space (ipv6_front_len + length (ipv6_quote packet)) room)
    ∷ [])

-- ---- the error

-- the ICMPv4 header of the error; its checksum is computed when the header is written
abbrev pub icmpv4_header : Icmpv4Type → TransportHeader
icmpv4_header icmp_type = headers.Icmpv4 (record { icmp_type = icmp_type; checksum = 0 })

-- the ICMPv6 header of the error; its checksum is computed when the header is written
abbrev pub icmpv6_header : Icmpv6Type → TransportHeader
icmpv6_header icmp_type = headers.Icmpv6 (record { icmp_type = icmp_type; checksum = 0 })

-- the error over IPv4, from this source to the source of the packet
abbrev pub icmpv4_error : Icmpv4Type → List ℕ → ℕ → List ℕ → List ℕ
icmpv4_error icmp_type source time_to_live packet =
    ipv4_packet source (slice_range packet 12 16) time_to_live (icmpv4_header icmp_type) (ipv4_quote packet)

-- the error over IPv6, from this source to the source of the packet
abbrev pub icmpv6_error : Icmpv6Type → List ℕ → ℕ → List ℕ → List ℕ
icmpv6_error icmp_type source hop_limit packet =
    ipv6_packet source (slice_range packet 8 24) hop_limit (icmpv6_header icmp_type) (ipv6_quote packet)
