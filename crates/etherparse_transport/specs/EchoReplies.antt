-- The reply to the echo request in an IP packet (RFC 792, "Echo or Echo Reply Message"; RFC 1122, section 3.2.2.6; RFC 4443,
-- section 4.2): which packets have no reply, and the bytes of the reply.
use Rattle.std.specs.Prelude.{◌≡◌, ◌≤◌, ℕ, ◌+◌, ◌/◌, ◌==◌, ◌&&◌, ◌||◌, not, Bool, true, false, if◌then◌else◌, List, [], ◌∷◌, ◌++◌, length, take, drop, slice_index, slice_range, Option, Some, None, Result, Ok, Err, unwrap_or}
use Rattle.std.specs.Int.{from_be_bytes, to_be_bytes, w16, w32, w128}
use Rattle.std.specs.Option.{option_map}
use Rattle.icmp_part.specs.IcmpEcho.{echo_of}
use Rattle.icmp_part.specs.Icmpv4Format as icmpv4
use Rattle.icmp_part.specs.Icmpv6Format as icmpv6
use Rattle.icmp_part.specs.declared.icmp_echo_header.IcmpEchoHeader.{IcmpEchoHeader}
use Rattle.icmp_part.specs.declared.icmpv4_header.Icmpv4Header.{Icmpv4Header}
use Rattle.icmp_part.specs.declared.icmpv4_type.Icmpv4Type.TheVariants as v4
use Rattle.icmp_part.specs.declared.icmpv6_header.Icmpv6Header.{Icmpv6Header}
use Rattle.icmp_part.specs.declared.icmpv6_type.Icmpv6Type.TheVariants as v6
use Rattle.ip_part.specs.Addresses.{Addresses, Ipv4, Ipv6}
use Rattle.ip_part.specs.Headers.{Headers}
use Rattle.ip_part.specs.Ip as ip
use Rattle.ip_part.specs.declared.ip_error.IpError.{IpError}
use Rattle.net_base.specs.IpHeaders.{ipv4_header_len, ipv4_is_fragment, version}
use Rattle.net_base.specs.IpNumbers.{icmpv4_number, icmpv6_number}
use Rattle.net_base.specs.PseudoHeader.{ipv6_pseudo_header}
use Rattle.net_base.specs.Refusals.{first_of, refused_if}
use Rattle.word_sum.specs.Checksum.{Verifies, all_ones, checksum_of, folded, total}
use Rattle.etherparse_transport.specs.Packets.{ipv4_header, ipv6_header}
use Rattle.etherparse_transport.specs.declared.err.packet.answer_echo_error.AnswerEchoError.{AnswerEchoError}
use Rattle.etherparse_transport.specs.declared.err.packet.answer_echo_error.AnswerEchoError.TheVariants.{Checksum, Fragment, HeaderChecksum, Ip, Len, NoEchoRequest, Options, ReplySource, RequestSource}
use Rattle.etherparse_transport.specs.declared.transport_header.TransportHeader.{TransportHeader}
use Rattle.etherparse_transport.specs.declared.transport_header.TransportHeader.TheVariants as headers

-- ---- addresses

-- an address of several hosts: the limited broadcast address, 255.255.255.255 (RFC 919, section 7), or a multicast address, whose first
-- four bits are 1110 (RFC 1112, section 4)
abbrev pub is_group_ipv4 : List ℕ → Bool
is_group_ipv4 address = from_be_bytes w32 address == 0xFFFFFFFF || slice_index address 0 / 16 == 14

-- an address of several hosts: a multicast address, whose first byte is 255 (RFC 4291, section 2.7)
abbrev pub is_group_ipv6 : List ℕ → Bool
is_group_ipv6 address = slice_index address 0 == 0xFF

-- a loopback address, by which a host reaches only itself: its first byte is 127 (RFC 1122, section 3.2.1.3)
abbrev pub is_loopback_ipv4 : List ℕ → Bool
is_loopback_ipv4 address = slice_index address 0 == 127

-- the loopback address of IPv6, by which a host reaches only itself: ::1 (RFC 4291, section 2.5.3)
abbrev pub is_loopback_ipv6 : List ℕ → Bool
is_loopback_ipv6 address = from_be_bytes w128 address == 1

-- an address of one host: neither the unspecified address, 0.0.0.0, nor a loopback address, nor an address of several hosts
abbrev pub is_host_ipv4 : List ℕ → Bool
is_host_ipv4 address = not (from_be_bytes w32 address == 0) && (not (is_loopback_ipv4 address) && not (is_group_ipv4 address))

-- an address of one host: neither the unspecified address, which is 0 (RFC 4291, section 2.5.2), nor ::1, nor an address of several hosts
abbrev pub is_host_ipv6 : List ℕ → Bool
is_host_ipv6 address = not (from_be_bytes w128 address == 0) && (not (is_loopback_ipv6 address) && not (is_group_ipv6 address))

-- ---- the lengths of headers

-- the length of an IPv4 header without options, which consists of five words (RFC 791, section 3.1)
abbrev pub ipv4_len_without_options : ℕ
ipv4_len_without_options = 20

-- the length of an IPv6 header (RFC 8200, section 3)
abbrev pub ipv6_header_len : ℕ
ipv6_header_len = 40

-- the length of the header of an echo message or reply, up to the payload (RFC 792; RFC 4443, sections 4.1 and 4.2)
abbrev pub echo_header_len : ℕ
echo_header_len = 8

-- ---- the request

-- The error for the transport of a packet: the packet is a fragment, it has another protocol, or its transport does not begin directly
-- after an IP header of this length. In the last case the packet has extension headers.
abbrev pub transport_refusal : ℕ → ℕ → Bool → ℕ → ℕ → Option AnswerEchoError
transport_refusal number header_len is_fragment protocol offset = first_of (
    refused_if is_fragment Fragment
    ∷ refused_if (not (protocol == number)) NoEchoRequest
    ∷ refused_if (not (offset == header_len)) Options
    ∷ [])

-- the one's complement sum of n is all ones, as a receiver requires it (RFC 1071, section 1)
abbrev pub is_all_ones : ℕ → Bool
is_all_ones n = folded n == all_ones

-- The error for an ICMPv4 message: `Icmpv4Slice` refuses it, it is no echo request (type 8, code 0; RFC 792), or it has a wrong checksum.
abbrev pub icmpv4_refusal : List ℕ → Option AnswerEchoError
icmpv4_refusal message = first_of (
    option_map Len (icmpv4.refusal message)
    ∷ refused_if (not (slice_index message 0 == 8 && slice_index message 1 == 0)) NoEchoRequest
    ∷ refused_if (not (is_all_ones (total message))) Checksum
    ∷ [])

-- The error for an ICMPv6 message: `Icmpv6Slice` refuses it, it is no echo request (type 128, code 0; RFC 4443, section 4.1), or it has a
-- wrong checksum.
abbrev pub icmpv6_refusal : List ℕ → List ℕ → List ℕ → Option AnswerEchoError
icmpv6_refusal source destination message = first_of (
    option_map Len (icmpv6.refusal message)
    ∷ refused_if (not (slice_index message 0 == 128 && slice_index message 1 == 0)) NoEchoRequest
    ∷ refused_if (not (is_all_ones (total (ipv6_pseudo_header source destination icmpv6_number (length message)) + total message))) Checksum
    ∷ [])

-- the message after headers of this length: the bytes after them that the IP header counts
abbrev pub message_after : ℕ → List ℕ → List ℕ
message_after len packet = drop len (ip.counted false packet)

-- the options of an IPv4 header, which follow its first five words (RFC 791, section 3.1)
abbrev pub ipv4_options : List ℕ → List ℕ
ipv4_options packet = drop ipv4_len_without_options (ip.ipv4_header packet)

-- These options are only padding. Each byte is the option "no operation", of kind 1, up to the end of the options or to the option "end of
-- option list", of kind 0. The bytes after that option are no options (RFC 791, section 3.1).
abbrev pub are_padding : List ℕ → Bool
are_padding [] = true
are_padding (kind ∷ rest) = kind == 0 || (kind == 1 && are_padding rest)

-- the message of an IPv4 packet, which follows its header directly
abbrev pub ipv4_message : List ℕ → List ℕ
ipv4_message packet = message_after (ipv4_header_len packet) packet

-- the message of an IPv6 packet without extension headers
abbrev pub ipv6_message : List ℕ → List ℕ
ipv6_message packet = message_after ipv6_header_len packet

-- The error for an IPv4 packet with these headers. The rules concern, in this order, the version, the transport, the options, the message,
-- the checksum of the header, and the source. A reply to a request with other options than padding would need options of its own (RFC 1122,
-- section 3.2.2.6). A host discards a packet with a wrong header checksum (RFC 1122, section 3.2.1.2). The source must be the address of
-- one host, since the reply goes to it.
abbrev pub ipv4_rules : List ℕ → Headers → Option AnswerEchoError
ipv4_rules packet headers = first_of (
    refused_if (not (version packet == 4)) NoEchoRequest
    ∷ transport_refusal icmpv4_number (ipv4_header_len packet) headers.is_fragment headers.protocol.0 headers.len
    ∷ refused_if (not (are_padding (ipv4_options packet))) Options
    ∷ icmpv4_refusal (ipv4_message packet)
    ∷ refused_if (not (is_all_ones (total (ip.ipv4_header packet)))) HeaderChecksum
    ∷ refused_if (not (is_host_ipv4 (slice_range packet 12 16))) RequestSource
    ∷ [])

-- the error for an IPv6 packet, by the rules of `ipv4_rules`, except that an IPv6 header has neither options nor a checksum
abbrev pub ipv6_rules : List ℕ → Headers → Option AnswerEchoError
ipv6_rules packet headers = first_of (
    refused_if (not (version packet == 6)) NoEchoRequest
    ∷ transport_refusal icmpv6_number ipv6_header_len headers.is_fragment headers.protocol.0 headers.len
    ∷ icmpv6_refusal (slice_range packet 8 24) (slice_range packet 24 40) (ipv6_message packet)
    ∷ refused_if (not (is_host_ipv6 (slice_range packet 8 24))) RequestSource
    ∷ [])

-- the error by these rules, or the error of the headers if they are refused
abbrev pub refusal_by_headers : (Headers → Option AnswerEchoError) → Result Headers IpError → Option AnswerEchoError
refusal_by_headers rules (Ok headers) = rules headers
refusal_by_headers rules (Err error) = Some (Ip error)

-- the error for a packet that is not a valid echo request over IPv4: the error of `transport_in_ip`, or else the error by `ipv4_rules`
abbrev pub ipv4_request_refusal : List ℕ → Option AnswerEchoError
ipv4_request_refusal packet = first_of (
    option_map Ip (ip.refusal packet)
    ∷ refusal_by_headers (ipv4_rules packet) (ip.headers_of false packet)
    ∷ [])

-- the error for a packet that is not a valid echo request over IPv6: the error of `transport_in_ip`, or else the error by `ipv6_rules`
abbrev pub ipv6_request_refusal : List ℕ → Option AnswerEchoError
ipv6_request_refusal packet = first_of (
    option_map Ip (ip.refusal packet)
    ∷ refusal_by_headers (ipv6_rules packet) (ip.headers_of false packet)
    ∷ [])

-- The error if an IPv4 packet is not answered: the error of the request, or else `ReplySource` if the source of the reply is not the
-- address of one host. This source is the passed source, or the destination of the request if no source is passed.
abbrev pub ipv4_answer_refusal : Option (List ℕ) → List ℕ → Option AnswerEchoError
ipv4_answer_refusal source packet = first_of (
    ipv4_request_refusal packet
    ∷ refused_if (not (is_host_ipv4 (unwrap_or source (slice_range packet 16 20)))) ReplySource
    ∷ [])

-- the error if an IPv6 packet is not answered, in the order of `ipv4_answer_refusal`
abbrev pub ipv6_answer_refusal : Option (List ℕ) → List ℕ → Option AnswerEchoError
ipv6_answer_refusal source packet = first_of (
    ipv6_request_refusal packet
    ∷ refused_if (not (is_host_ipv6 (unwrap_or source (slice_range packet 24 40)))) ReplySource
    ∷ [])

-- An accepted IPv4 packet: its header has at least five words and a right checksum, and the counted bytes after the header are a whole echo
-- request.
pub record IsIpv4Request (packet : List ℕ) : Type 0 where
  pub is_ipv4 : version packet ≡ 4
  pub five_words : ipv4_len_without_options ≤ ipv4_header_len packet
  pub whole : ipv4_is_fragment (ip.ipv4_header packet) ≡ false
  pub end : ip.counted_len false packet ≡ ipv4_header_len packet + length (ipv4_message packet)
  pub there : ip.counted_len false packet ≤ length packet
  pub message : icmpv4_refusal (ipv4_message packet) ≡ None
  pub verifies : Verifies [] (ip.ipv4_header packet)

-- an accepted IPv4 packet without options
pub record IsPlainRequest (packet : List ℕ) : Type 0 where
  pub five_words : slice_index packet 0 ≡ 0x45
  pub whole : ipv4_is_fragment (ip.ipv4_header packet) ≡ false
  pub end : ip.counted_len false packet ≡ ipv4_len_without_options + length (message_after ipv4_len_without_options packet)
  pub there : ip.counted_len false packet ≤ length packet
  pub message : icmpv4_refusal (message_after ipv4_len_without_options packet) ≡ None
  pub verifies : Verifies [] (take ipv4_len_without_options packet)

-- an accepted IPv6 packet: the bytes that its payload length counts are a whole echo request
pub record IsIpv6Request (packet : List ℕ) : Type 0 where
  pub is_ipv6 : version packet ≡ 6
  pub end : ip.counted_len false packet ≡ ipv6_header_len + length (ipv6_message packet)
  pub there : ip.counted_len false packet ≤ length packet
  pub stated : ip.payload_len packet ≡ length (ipv6_message packet)
  pub message : icmpv6_refusal (slice_range packet 8 24) (slice_range packet 24 40) (ipv6_message packet) ≡ None

-- ---- the reply

-- the ICMPv4 header of a reply with this identifier, this sequence number and this payload, and with the checksum over them
abbrev pub icmpv4_reply : IcmpEchoHeader → List ℕ → Icmpv4Header
icmpv4_reply echo payload = record {
  icmp_type = v4.EchoReply echo;
  checksum = checksum_of (icmpv4.checksummed (record { icmp_type = v4.EchoReply echo; checksum = 0 }) payload);
}

-- the ICMPv6 header of a reply with this identifier, this sequence number and this payload; the checksum also covers the addresses
abbrev pub icmpv6_reply : List ℕ → List ℕ → IcmpEchoHeader → List ℕ → Icmpv6Header
icmpv6_reply source destination echo payload = record {
  icmp_type = v6.EchoReply echo;
  checksum = checksum_of (icmpv6.checksummed source destination (record { icmp_type = v6.EchoReply echo; checksum = 0 }) payload);
}

-- the ICMPv4 header of the reply to this message
abbrev pub icmpv4_reply_to : List ℕ → Icmpv4Header
icmpv4_reply_to message = icmpv4_reply (echo_of message 4) (drop echo_header_len message)

-- the ICMPv6 header of the reply to this message; the reply goes from this source to this destination
abbrev pub icmpv6_reply_to : List ℕ → List ℕ → List ℕ → Icmpv6Header
icmpv6_reply_to source destination message = icmpv6_reply source destination (echo_of message 4) (drop echo_header_len message)

-- The first eight bytes of the reply: the first six bytes of the request, which end with its identification, and then the flag "don't
-- fragment". So the reply is an atomic datagram, which may have any identification (RFC 6864, section 4.1). No flag is copied: a host sends
-- the reserved flag as 0 (RFC 791, section 3.1).
abbrev pub ipv4_reply_start : List ℕ → List ℕ
ipv4_reply_start packet = take 6 packet ++ (0x40 ∷ 0 ∷ [])

-- The reply to a request without options, from this source and with this time to live. Its destination is the source of the request. The
-- type of service, the length, the identification, the payload and the bytes after the packet are those of the request.
abbrev pub plain_reply : List ℕ → ℕ → List ℕ → List ℕ
plain_reply source time_to_live packet =
    ipv4_header (ipv4_reply_start packet) time_to_live icmpv4_number source (slice_range packet 12 16)
    ++ (icmpv4.wire (icmpv4_reply_to (message_after ipv4_len_without_options packet))
    ++ drop (ipv4_len_without_options + echo_header_len) packet)

-- the length of an IPv4 packet without its options: a header of five words, and the message
abbrev pub len_without_options : List ℕ → ℕ
len_without_options packet = ipv4_len_without_options + length (ipv4_message packet)

-- the first eight bytes of the header without options: they state five words and the new length, and otherwise stay
abbrev pub start_without_options : List ℕ → List ℕ
start_without_options packet =
    (0x45 ∷ slice_index packet 1 ∷ to_be_bytes w16 (len_without_options packet))
    ++ (slice_index packet 4 ∷ slice_index packet 5 ∷ slice_index packet 6 ∷ slice_index packet 7 ∷ [])

-- the header without options, with a right checksum
abbrev pub header_without_options : List ℕ → List ℕ
header_without_options packet =
    ipv4_header (start_without_options packet) (slice_index packet 8) icmpv4_number (slice_range packet 12 16) (slice_range packet 16 20)

-- The request without its options, which are only padding. The message follows the shorter header. The bytes after the message stay. A
-- request that has no options stays as it is.
abbrev pub without_options : List ℕ → List ℕ
without_options packet =
    if ipv4_header_len packet == ipv4_len_without_options then packet
    else header_without_options packet ++ (ipv4_message packet ++ drop (len_without_options packet) packet)

-- The reply from this source, with this time to live: the reply to the request without its options. A host need not return these options,
-- and only a record route, a timestamp and a source route are returned (RFC 1122, section 3.2.2.6).
abbrev pub ipv4_reply : List ℕ → ℕ → List ℕ → List ℕ
ipv4_reply source time_to_live packet = plain_reply source time_to_live (without_options packet)

-- The reply over IPv6, from this source and with this hop limit. Its first six bytes, its payload and the bytes after the packet are those
-- of the request. In the pseudo header, the source of the request is the destination.
abbrev pub ipv6_reply : List ℕ → ℕ → List ℕ → List ℕ
ipv6_reply source hop_limit packet =
    ipv6_header (take 6 packet) icmpv6_number hop_limit source (slice_range packet 8 24)
    ++ (icmpv6.wire (icmpv6_reply_to source (slice_range packet 8 24) (ipv6_message packet))
    ++ drop (ipv6_header_len + echo_header_len) packet)

-- ---- either version

-- the error if a packet of either IP version is not answered; `transport_in_ip` refuses any other version
abbrev pub answer_refusal : List ℕ → Option AnswerEchoError
answer_refusal packet = if version packet == 6 then ipv6_answer_refusal None packet else ipv4_answer_refusal None packet

-- the length of the reply: the length of the request without the options of an IPv4 header
abbrev pub reply_len : List ℕ → ℕ
reply_len packet = if version packet == 6 then ip.counted_len false packet else len_without_options packet

-- the reply that goes from the destination of the request to its source
abbrev pub reply : ℕ → List ℕ → List ℕ
reply hop_limit packet =
    if version packet == 6 then ipv6_reply (slice_range packet 24 40) hop_limit packet
    else ipv4_reply (slice_range packet 16 20) hop_limit packet

-- the addresses of the reply that goes from the destination of the request to its source
abbrev pub reply_addresses : List ℕ → Addresses
reply_addresses packet =
    if version packet == 6 then Ipv6 (slice_range packet 24 40) (Some (slice_range packet 8 24))
    else Ipv4 (slice_range packet 16 20) (slice_range packet 12 16)

-- the ICMP header of the reply that goes from the destination of the request to its source
abbrev pub reply_header : List ℕ → TransportHeader
reply_header packet =
    if version packet == 6 then headers.Icmpv6 (icmpv6_reply_to (slice_range packet 24 40) (slice_range packet 8 24) (ipv6_message packet))
    else headers.Icmpv4 (icmpv4_reply_to (ipv4_message packet))

-- the payload of the reply, which is the payload of the request
abbrev pub reply_payload : List ℕ → List ℕ
reply_payload packet = drop echo_header_len (if version packet == 6 then ipv6_message packet else ipv4_message packet)
