-- The packets that are replies to an echo request (RFC 792, "Echo or Echo Reply Message"; RFC 1122, section 3.2.2.6; RFC 4443, sections 4.1
-- and 4.2).
use Rattle.std.specs.Prelude.{◌≡◌, ℕ, false, IsTrue, List, [], drop, slice_index, Option, Some, None, Ok, MatchBool}
use Rattle.icmp_part.specs.Icmpv4Format as icmpv4
use Rattle.icmp_part.specs.Icmpv6Format as icmpv6
use Rattle.icmp_part.specs.Icmpv4Validity.{IsValidIcmpv4}
use Rattle.icmp_part.specs.Icmpv6Validity.{IsValidIcmpv6}
use Rattle.ip_part.specs.Addresses.{Addresses, Ipv4, Ipv6}
use Rattle.ip_part.specs.Headers.{Headers}
use Rattle.ip_part.specs.Ip as ip
use Rattle.net_base.specs.IpHeaders.{BeginsWithIpv4Header}
use Rattle.net_base.specs.IpNumbers.{icmpv4_number, icmpv6_number}
use Rattle.net_base.specs.declared.err.len_error.LenError.{LenError}
use Rattle.word_sum.specs.Checksum.{Verifies}
use Rattle.etherparse_transport.specs.EchoReplies.{is_host_ipv4, is_host_ipv6, is_group_ipv4, is_group_ipv6}

-- ---- the packets

-- the protocol number of ICMP for the IP version of these addresses (RFC 5237)
abbrev pub icmp_number : Addresses → ℕ
icmp_number (Ipv4 source destination) = icmpv4_number
icmp_number (Ipv6 source destination) = icmpv6_number

-- `transport_in_ip` accepts the packet, and the packet is not a fragment. Its headers contain these addresses, and the protocol number of
-- ICMP for its IP version. The message consists of the bytes after the headers that the IP header counts.
pub record CarriesIcmp (packet : List ℕ) (between : Addresses) (message : List ℕ) : Type 0 where
  pub accepted : ip.refusal packet ≡ None
  pub headers : Headers
  pub read : ip.headers_of false packet ≡ Ok headers
  pub addresses : headers.addresses ≡ between
  pub protocol : headers.protocol.0 ≡ icmp_number between
  pub is_fragment : headers.is_fragment ≡ false
  pub content : drop headers.len (ip.counted false packet) ≡ message

-- ---- the addresses

-- A host with the address `responder` may answer a request to this destination. A request to one host is answered by this host. A request
-- to several hosts is answered by any of these hosts, from its own address (RFC 1122, section 3.2.2.6; RFC 4443, section 4.2).
abbrev pub MayAnswerIpv4 : List ℕ → List ℕ → Type 0
MayAnswerIpv4 destination responder =
    MatchBool (is_group_ipv4 destination) (IsTrue (is_host_ipv4 responder)) (responder ≡ destination)

-- a host with the address `responder` may answer a request to this destination over IPv6, by the rule of `MayAnswerIpv4`
abbrev pub MayAnswerIpv6 : List ℕ → List ℕ → Type 0
MayAnswerIpv6 destination responder =
    MatchBool (is_group_ipv6 destination) (IsTrue (is_host_ipv6 responder)) (responder ≡ destination)

-- The reply goes to the source of the request, and the source of the reply may answer for the destination of the request. If the final
-- destination of a packet is unknown, the packet is neither a request nor a reply.
abbrev pub GoesBack : Addresses → Addresses → Type 0
GoesBack (Ipv4 source destination) (Ipv4 responder receiver) = (receiver ≡ source) × MayAnswerIpv4 destination responder
GoesBack (Ipv6 source (Some destination)) (Ipv6 responder (Some receiver)) = (receiver ≡ source) × MayAnswerIpv6 destination responder
GoesBack request reply = ⊥

-- The reply goes to the source of the request, from the address of any host. A host replies to a request to an anycast address from a
-- unicast address, which the request does not contain (RFC 4443, section 4.2).
abbrev pub GoesToSource : Addresses → Addresses → Type 0
GoesToSource (Ipv4 source destination) (Ipv4 responder receiver) = (receiver ≡ source) × IsTrue (is_host_ipv4 responder)
GoesToSource (Ipv6 source destination) (Ipv6 responder (Some receiver)) = (receiver ≡ source) × IsTrue (is_host_ipv6 responder)
GoesToSource request reply = ⊥

-- ---- the messages

-- the message has this type and code 0, and the slice of its ICMP version accepts it
pub record IsOfType (type : ℕ) (refusal : Option LenError) (message : List ℕ) : Type 0 where
  pub accepted : refusal ≡ None
  pub type_is : slice_index message 0 ≡ type
  pub code_is : slice_index message 1 ≡ 0

-- the bytes of an echo message after type, code and checksum: the identifier, the sequence number and the payload
abbrev pub echoed : List ℕ → List ℕ
echoed message = drop 4 message

-- `request` is an echo request (type 8), and `reply` is its reply (type 0) with a right checksum (RFC 792)
pub record AnswersIcmpv4 (request reply : List ℕ) : Type 0 where
  pub is_request : IsOfType 8 (icmpv4.refusal request) request
  pub is_reply : IsOfType 0 (icmpv4.refusal reply) reply
  pub same : echoed reply ≡ echoed request
  pub checksum : IsValidIcmpv4 reply

-- `request` is an ICMPv6 echo request (type 128), and `reply` is its reply (type 129; RFC 4443, section 4). The checksum of the reply is
-- right, and covers the addresses of the reply.
pub record AnswersIcmpv6 (responder receiver request reply : List ℕ) : Type 0 where
  pub is_request : IsOfType 128 (icmpv6.refusal request) request
  pub is_reply : IsOfType 129 (icmpv6.refusal reply) reply
  pub same : echoed reply ≡ echoed request
  pub checksum : IsValidIcmpv6 responder receiver reply

-- `reply` is the reply to the message `request`, and has these addresses; their final destination is known
abbrev pub Answers : Addresses → List ℕ → List ℕ → Type 0
Answers (Ipv4 responder receiver) request reply = AnswersIcmpv4 request reply
Answers (Ipv6 responder (Some receiver)) request reply = AnswersIcmpv6 responder receiver request reply
Answers (Ipv6 responder None) request reply = ⊥

-- ---- the reply

-- `reply` is the reply to `request`, and their addresses have the relation `AreItsAddresses`. The message of `reply` is the reply to the
-- message of `request`. The checksum of the IPv4 header of `reply` is right, since a host discards the packet otherwise (RFC 1122, section
-- 3.2.1.2). The checksums of `request` are not tested.
pub record IsReplyBetween (AreItsAddresses : Addresses → Addresses → Type 0) (request reply : List ℕ) : Type 0 where
  pub request_addresses : Addresses
  pub reply_addresses : Addresses
  pub request_message : List ℕ
  pub reply_message : List ℕ
  pub request_carries : CarriesIcmp request request_addresses request_message
  pub reply_carries : CarriesIcmp reply reply_addresses reply_message
  pub goes_back : AreItsAddresses request_addresses reply_addresses
  pub answers : Answers reply_addresses request_message reply_message
  pub header_checksum : BeginsWithIpv4Header reply → Verifies [] (ip.ipv4_header reply)

-- the reply comes from the destination of the request, as `GoesBack` states
abbrev pub IsReplyTo : List ℕ → List ℕ → Type 0
IsReplyTo request reply = IsReplyBetween GoesBack request reply

-- the reply comes from the address of any host, as `GoesToSource` states
abbrev pub IsReplyFromAny : List ℕ → List ℕ → Type 0
IsReplyFromAny request reply = IsReplyBetween GoesToSource request reply
