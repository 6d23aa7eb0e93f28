-- An IP packet that is built from addresses, a transport header and a payload: its bytes, its errors, and how it is read.
use Rattle.std.specs.Prelude.{◌≡◌, ℕ, ◌+◌, ◌-◌, nat_lt, false, List, [], ◌∷◌, ◌++◌, length, Option, Some, None}
use Rattle.std.specs.Int.{to_be_bytes, w16}
use Rattle.std.specs.Option.{option_map}
use Rattle.icmp_part.specs.Icmpv4Format as icmpv4
use Rattle.ip_part.specs.Ip.{Carries}
use Rattle.ip_part.specs.Ip as ip
use Rattle.ip_part.specs.Addresses.{Addresses, by_value}
use Rattle.ip_part.specs.declared.proto.Proto.{Proto}
use Rattle.ip_part.specs.declared.proto.Proto.TheVariants as protos
use Rattle.ip_part.specs.declared.transport.TransportInIp.{TransportInIp}
use Rattle.net_base.specs.IpNumbers.{icmpv4_number, icmpv6_number, tcp_number, udp_number}
use Rattle.net_base.specs.PseudoHeader.{max_len_over_ipv4}
use Rattle.net_base.specs.Refusals.{first_of, refused_if}
use Rattle.word_sum.specs.Checksum.{checksum_of, total}
use Rattle.etherparse_transport.specs.Formats.{IsReadBack, proto_of, wire}
use Rattle.etherparse_transport.specs.Headers.{checksum_over_ipv4, checksum_over_ipv6, with_checksum_field}
use Rattle.transport_part.specs.Transports.{proto_in, refusal}
use Rattle.transport_part.specs.Verdicts.{JudgesFound}
use Rattle.transport_part.specs.declared.checksum_verdict.ChecksumVerdict.TheVariants.{Right}
use Rattle.etherparse_transport.specs.declared.err.packet.build_slice_write_error.BuildSliceWriteError.{BuildSliceWriteError}
use Rattle.etherparse_transport.specs.declared.err.packet.build_slice_write_error.BuildSliceWriteError.TheVariants.{Icmpv4InIpv6, Icmpv6InIpv4, PayloadLen, Space, TimestampLen}
use Rattle.etherparse_transport.specs.declared.transport_header.TransportHeader.{TransportHeader}
use Rattle.etherparse_transport.specs.declared.transport_header.TransportHeader.TheVariants.{Icmpv4, Icmpv6, Tcp, Udp}

-- ---- the IP header

-- the number of a protocol in IP headers (RFC 5237)
abbrev pub number_of : Proto → ℕ
number_of protos.Udp = udp_number
number_of protos.Tcp = tcp_number
number_of protos.Icmpv4 = icmpv4_number
number_of protos.Icmpv6 = icmpv6_number

-- An IPv4 header without options (RFC 791, section 3.1). Its first eight bytes are version, header length, type of service, total length,
-- identification, flags and fragment offset. Time to live, protocol, checksum, source and destination follow.
abbrev pub ipv4_fields : List ℕ → ℕ → ℕ → List ℕ → List ℕ → ℕ → List ℕ
ipv4_fields start time_to_live protocol source destination checksum =
    start ++ ((time_to_live ∷ protocol ∷ to_be_bytes w16 checksum) ++ (source ++ destination))

-- an IPv4 header with its checksum, which is computed while the checksum field is 0
abbrev pub ipv4_header : List ℕ → ℕ → ℕ → List ℕ → List ℕ → List ℕ
ipv4_header start time_to_live protocol source destination =
    ipv4_fields start time_to_live protocol source destination
    (checksum_of (total (ipv4_fields start time_to_live protocol source destination 0)))

-- An IPv6 header (RFC 8200, section 3). Its first six bytes are version, traffic class, flow label and payload length. Next header, hop
-- limit, source and destination follow.
abbrev pub ipv6_header : List ℕ → ℕ → ℕ → List ℕ → List ℕ → List ℕ
ipv6_header start next_header hop_limit source destination = start ++ ((next_header ∷ hop_limit ∷ []) ++ (source ++ destination))

-- The first eight bytes of an IPv4 header that is built. Version is 4, and the header has five words. Type of service and identification
-- are 0. The flag "don't fragment" is set, and the fragment offset is 0.
abbrev pub ipv4_start : ℕ → List ℕ
ipv4_start total_len = (0x45 ∷ 0 ∷ to_be_bytes w16 total_len) ++ (0 ∷ 0 ∷ 0x40 ∷ 0 ∷ [])

-- The first six bytes of an IPv6 header that is built. Version is 6. Traffic class and flow label are 0.
abbrev pub ipv6_start : ℕ → List ℕ
ipv6_start payload_len = 0x60 ∷ 0 ∷ 0 ∷ 0 ∷ to_be_bytes w16 payload_len

-- ---- the transport header

-- The header with its length field for this payload. The length field of UDP counts header and payload (RFC 768). No other header contains
-- a length field.
abbrev pub with_length : TransportHeader → ℕ → TransportHeader
with_length (Udp header) payload_len = Udp (record header { length = 8 + payload_len })
with_length (Tcp header) payload_len = Tcp header
with_length (Icmpv4 header) payload_len = Icmpv4 header
with_length (Icmpv6 header) payload_len = Icmpv6 header

-- the transport header that is sent over IPv4, with its length field and its checksum
abbrev pub sent_over_ipv4 : List ℕ → List ℕ → TransportHeader → List ℕ → TransportHeader
sent_over_ipv4 source destination header payload =
    let counted : TransportHeader = with_length header (length payload) in
    with_checksum_field counted (checksum_over_ipv4 source destination counted payload)

-- the transport header that is sent over IPv6, with its length field and its checksum
abbrev pub sent_over_ipv6 : List ℕ → List ℕ → TransportHeader → List ℕ → TransportHeader
sent_over_ipv6 source destination header payload =
    let counted : TransportHeader = with_length header (length payload) in
    with_checksum_field counted (checksum_over_ipv6 source destination counted payload)

-- ---- the packet

-- the length of transport header and payload
abbrev pub message_len : TransportHeader → ℕ → ℕ
message_len header payload_len = length (wire header) + payload_len

-- the bytes of an IPv4 packet: IP header, transport header and payload
abbrev pub ipv4_packet : List ℕ → List ℕ → ℕ → TransportHeader → List ℕ → List ℕ
ipv4_packet source destination time_to_live header payload =
    ipv4_header (ipv4_start (20 + message_len header (length payload))) time_to_live (number_of (proto_of header)) source destination
    ++ (wire (sent_over_ipv4 source destination header payload) ++ payload)

-- the bytes of an IPv6 packet: IP header, transport header and payload
abbrev pub ipv6_packet : List ℕ → List ℕ → ℕ → TransportHeader → List ℕ → List ℕ
ipv6_packet source destination hop_limit header payload =
    ipv6_header (ipv6_start (message_len header (length payload))) (number_of (proto_of header)) hop_limit source destination
    ++ (wire (sent_over_ipv6 source destination header payload) ++ payload)

-- ---- errors

-- The greatest length of transport header and payload that the total length of IPv4 can count. It has 16 bits, and also counts the 20 bytes
-- of the IP header (RFC 791, section 3.1).
abbrev pub max_message_len_ipv4 : ℕ
max_message_len_ipv4 = max_len_over_ipv4 - 20

-- the greatest length of transport header and payload that the payload length of IPv6 can count in 16 bits (RFC 8200, section 3)
abbrev pub max_message_len_ipv6 : ℕ
max_message_len_ipv6 = 65535

-- the error for an ICMPv6 header over IPv4, which a receiver does not read as ICMP
abbrev pub other_version_ipv4 : TransportHeader → Option BuildSliceWriteError
other_version_ipv4 (Icmpv6 header) = Some Icmpv6InIpv4
other_version_ipv4 other = None

-- the error for an ICMPv4 header over IPv6, which a receiver does not read as ICMP
abbrev pub other_version_ipv6 : TransportHeader → Option BuildSliceWriteError
other_version_ipv6 (Icmpv4 header) = Some Icmpv4InIpv6
other_version_ipv6 other = None

-- the error if a payload is too long for a header of this length
abbrev pub payload_above : ℕ → ℕ → ℕ → Option BuildSliceWriteError
payload_above max_message_len header_len payload_len =
    let max_allowed : ℕ = max_message_len - header_len in
    refused_if (nat_lt max_allowed payload_len) (PayloadLen payload_len max_allowed)

-- the error for an ICMPv4 timestamp message or reply with code 0 that is not 20 bytes long, which `Icmpv4Slice` refuses
abbrev pub timestamp_refusal : TransportHeader → List ℕ → Option BuildSliceWriteError
timestamp_refusal (Icmpv4 header) payload = option_map TimestampLen (icmpv4.refusal (icmpv4.wire header ++ payload))
timestamp_refusal other payload = None

-- the error if a slice is shorter than the packet
abbrev pub space_refusal : ℕ → ℕ → Option BuildSliceWriteError
space_refusal required_len len = refused_if (nat_lt len required_len) (Space required_len len)

-- the first error over IPv4 that does not depend on the slice
abbrev pub ipv4_message_refusal : TransportHeader → List ℕ → Option BuildSliceWriteError
ipv4_message_refusal header payload = first_of (
    other_version_ipv4 header
    ∷ payload_above max_message_len_ipv4 (length (wire header)) (length payload)
    ∷ timestamp_refusal header payload
    ∷ [])

-- the first error over IPv4: an error that does not depend on the slice, or else a slice of this length that is too short
abbrev pub ipv4_write_refusal : TransportHeader → List ℕ → ℕ → Option BuildSliceWriteError
ipv4_write_refusal header payload len = first_of (
    ipv4_message_refusal header payload
    ∷ space_refusal (20 + message_len header (length payload)) len
    ∷ [])

-- the first error over IPv6 that does not depend on the slice
abbrev pub ipv6_message_refusal : TransportHeader → List ℕ → Option BuildSliceWriteError
ipv6_message_refusal header payload = first_of (
    other_version_ipv6 header
    ∷ payload_above max_message_len_ipv6 (length (wire header)) (length payload)
    ∷ [])

-- the first error over IPv6: an error that does not depend on the slice, or else a slice of this length that is too short
abbrev pub ipv6_write_refusal : TransportHeader → List ℕ → ℕ → Option BuildSliceWriteError
ipv6_write_refusal header payload len = first_of (
    ipv6_message_refusal header payload
    ∷ space_refusal (40 + message_len header (length payload)) len
    ∷ [])

-- ---- the reading of a packet

-- The transport that was found is not a fragment, is not cut off, and states its length. It is this message of this protocol between these
-- addresses. The slice of the protocol accepts it, and its checksum is right.
pub record IsFoundAs (between : Addresses) (proto : Proto) (bytes : List ℕ) (found : TransportInIp) : Type 0 where
  pub addresses : by_value found.addresses ≡ between
  pub number : found.protocol.0 ≡ number_of proto
  pub protocol : proto_in found ≡ Some proto
  pub message : found.payload.now ≡ bytes
  pub is_fragment : found.is_fragment ≡ false
  pub is_later_fragment : found.is_later_fragment ≡ false
  pub is_cut_off : found.is_cut_off ≡ false
  pub is_length_missing : found.is_length_missing ≡ false
  pub accepted : refusal found ≡ None
  pub right : JudgesFound found Right

-- the packet is accepted, and the transport that is found is this header and this payload
pub record IsReadAs (packet : List ℕ) (between : Addresses) (header : TransportHeader) (payload : List ℕ) : Type 0 where
  pub accepted : ip.refusal packet ≡ None
  pub carries : (found : TransportInIp) → Carries packet found → IsFoundAs between (proto_of header) (wire header ++ payload) found
  pub read_back : IsReadBack header payload
