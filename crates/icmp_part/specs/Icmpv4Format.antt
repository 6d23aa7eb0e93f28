-- The ICMPv4 header (RFC 792): which packets are accepted, how the header is read and written, and what its checksum covers.
--
--   byte  0     1     2, 3      4 to 7 (in timestamps: 4 to 19)
--         type  code  checksum  by type and code
use Rattle.std.specs.Prelude.{◌≡◌, ◌≤◌, ◌⊎◌, ℕ, ◌+◌, ◌==◌, ◌&&◌, not, nat_lt, List, [], ◌∷◌, ◌++◌, length, drop, map, slice_index, slice_range, Option, Some, None}
use Rattle.std.specs.Int.{to_be_bytes, w16, w32}
use Rattle.net_base.specs.Bytes.{HeaderLayout, be_number, masked}
use Rattle.net_base.specs.Refusals.{first_of, refused_if, wrong_length}
use Rattle.net_base.specs.declared.err.layer.Layer.{Layer}
use Rattle.net_base.specs.declared.err.layer.Layer.TheVariants as layers
use Rattle.net_base.specs.declared.err.len_error.LenError.{LenError}
use Rattle.word_sum.specs.Checksum.{total}
use Rattle.icmp_part.specs.MessageFormat.{MessageFormat, Written, all_used, cleared, format_in, header_bytes, inside, unused, used}
use Rattle.icmp_part.specs.IcmpEcho.{echo, echo_fields}
use Rattle.icmp_part.specs.declared.icmpv4.dest_unreachable_header.DestUnreachableHeader.{DestUnreachableHeader}
use Rattle.icmp_part.specs.declared.icmpv4.dest_unreachable_header.DestUnreachableHeader.TheVariants.{Network, Host, Protocol, Port, FragmentationNeeded, SourceRouteFailed, NetworkUnknown, HostUnknown, Isolated, NetworkProhibited, HostProhibited, TosNetwork, TosHost, FilterProhibited, HostPrecedenceViolation, PrecedenceCutoff}
use Rattle.icmp_part.specs.declared.icmpv4.parameter_problem_header.ParameterProblemHeader.{ParameterProblemHeader}
use Rattle.icmp_part.specs.declared.icmpv4.parameter_problem_header.ParameterProblemHeader.TheVariants.{PointerIndicatesError, MissingRequiredOption, BadLength}
use Rattle.icmp_part.specs.declared.icmpv4.redirect_code.RedirectCode.{RedirectCode}
use Rattle.icmp_part.specs.declared.icmpv4.redirect_code.RedirectCode.TheVariants.{RedirectForNetwork, RedirectForHost, RedirectForTypeOfServiceAndNetwork, RedirectForTypeOfServiceAndHost}
use Rattle.icmp_part.specs.declared.icmpv4.time_exceeded_code.TimeExceededCode.{TimeExceededCode}
use Rattle.icmp_part.specs.declared.icmpv4.time_exceeded_code.TimeExceededCode.TheVariants.{TtlExceededInTransit, FragmentReassemblyTimeExceeded}
use Rattle.icmp_part.specs.declared.icmpv4.timestamp_message.TimestampMessage.{TimestampMessage}
use Rattle.icmp_part.specs.declared.icmpv4_header.Icmpv4Header.{Icmpv4Header}
use Rattle.icmp_part.specs.declared.icmpv4_type.Icmpv4Type.{Icmpv4Type}
use Rattle.icmp_part.specs.declared.icmpv4_type.Icmpv4Type.TheVariants.{Unknown, EchoReply, DestinationUnreachable, Redirect, EchoRequest, TimeExceeded, ParameterProblem, TimestampRequest, TimestampReply}

-- ---- the table: for each code of each type the message, the length of its header, and the used bits

-- code 4 of type 3: the MTU of the next hop is in bytes 6 and 7 (RFC 1191, section 4)
abbrev pub with_next_hop_mtu : MessageFormat DestUnreachableHeader
with_next_hop_mtu = record {
  layout = record { header_len = 8; masks = used 4 ++ (cleared 2 ++ used 2) };
  message_of = λ bytes. FragmentationNeeded (be_number bytes 6 2);
}

-- The formats of type 3, by code. Codes 0 to 5 are from RFC 792, "Destination Unreachable Message". Codes 6 to 12 are from RFC 1122,
-- section 3.2.2.1. Codes 13 to 15 are from RFC 1812, section 5.2.7.1.
abbrev pub dest_unreachable_formats : List (MessageFormat DestUnreachableHeader)
dest_unreachable_formats =
    unused Network  -- 0
    ∷ unused Host  -- 1
    ∷ unused Protocol  -- 2
    ∷ unused Port  -- 3
    ∷ with_next_hop_mtu  -- 4
    ∷ unused SourceRouteFailed  -- 5
    ∷ unused NetworkUnknown  -- 6
    ∷ unused HostUnknown  -- 7
    ∷ unused Isolated  -- 8
    ∷ unused NetworkProhibited  -- 9
    ∷ unused HostProhibited  -- 10
    ∷ unused TosNetwork  -- 11
    ∷ unused TosHost  -- 12
    ∷ unused FilterProhibited  -- 13
    ∷ unused HostPrecedenceViolation  -- 14
    ∷ unused PrecedenceCutoff  -- 15
    ∷ []

-- type 5, by code: which datagrams are redirected (RFC 792, "Redirect Message")
abbrev pub redirect_codes : List RedirectCode
redirect_codes =
    RedirectForNetwork  -- 0
    ∷ RedirectForHost  -- 1
    ∷ RedirectForTypeOfServiceAndNetwork  -- 2
    ∷ RedirectForTypeOfServiceAndHost  -- 3
    ∷ []

-- the format of type 5 with this code; the gateway's address is in bytes 4 to 7
abbrev pub redirect : RedirectCode → MessageFormat Icmpv4Type
redirect code = all_used 8 (λ bytes. Redirect (record { code = code; gateway_internet_address = slice_range bytes 4 8 }))

-- type 11, by code: which time was exceeded (RFC 792, "Time Exceeded Message")
abbrev pub time_exceeded_codes : List TimeExceededCode
time_exceeded_codes =
    TtlExceededInTransit  -- 0
    ∷ FragmentReassemblyTimeExceeded  -- 1
    ∷ []

-- code 0 of type 12: the pointer to the error is in byte 4 (RFC 792, "Parameter Problem Message")
abbrev pub with_pointer : MessageFormat ParameterProblemHeader
with_pointer = record {
  layout = record { header_len = 8; masks = used 4 ++ (used 1 ++ cleared 3) };
  message_of = λ bytes. PointerIndicatesError (slice_index bytes 4);
}

-- the formats of type 12, by code: code 0 is from RFC 792, "Parameter Problem Message", code 1 from RFC 1122, section 3.2.2.5, and code 2
-- is in no RFC
abbrev pub parameter_problem_formats : List (MessageFormat ParameterProblemHeader)
parameter_problem_formats =
    with_pointer  -- 0
    ∷ unused MissingRequiredOption  -- 1
    ∷ unused BadLength  -- 2
    ∷ []

-- the fields of types 13 and 14 that begin at this place: identifier, sequence number and three times (RFC 792, "Timestamp or Timestamp
-- Reply Message")
abbrev pub timestamp_of : List ℕ → ℕ → TimestampMessage
timestamp_of bytes from = record {
  id = be_number bytes from 2;
  seq = be_number bytes (from + 2) 2;
  originate_timestamp = be_number bytes (from + 4) 4;
  receive_timestamp = be_number bytes (from + 8) 4;
  transmit_timestamp = be_number bytes (from + 12) 4;
}

-- the format of types 13 and 14, whose header has twenty bytes
abbrev pub timestamp : (TimestampMessage → Icmpv4Type) → MessageFormat Icmpv4Type
timestamp variant = all_used 20 (λ bytes. variant (timestamp_of bytes 4))

-- The types of RFC 792, each with the formats of its codes from 0 on. Types 4, 15 and 16 are missing, since they are deprecated (RFC 6633;
-- RFC 6918).
abbrev pub formats : List (ℕ × List (MessageFormat Icmpv4Type))
formats =
    (0, echo EchoReply ∷ [])
    ∷ (3, map (inside DestinationUnreachable) dest_unreachable_formats)
    ∷ (5, map redirect redirect_codes)
    ∷ (8, echo EchoRequest ∷ [])
    ∷ (11, map (λ code. unused (TimeExceeded code)) time_exceeded_codes)
    ∷ (12, map (inside ParameterProblem) parameter_problem_formats)
    ∷ (13, timestamp TimestampRequest ∷ [])
    ∷ (14, timestamp TimestampReply ∷ [])
    ∷ []

-- the format of a type and code that are not listed: the type, the code, and bytes 4 to 7 unchanged
abbrev pub unknown : MessageFormat Icmpv4Type
unknown = all_used 8 (λ bytes. Unknown (slice_index bytes 0) (slice_index bytes 1) (slice_range bytes 4 8))

-- the format of this type and code
abbrev pub format_at : ℕ → ℕ → MessageFormat Icmpv4Type
format_at type code = format_in formats unknown type code

-- the format of a packet
unfoldable pub format_of : List ℕ → MessageFormat Icmpv4Type
format_of bytes = format_at (slice_index bytes 0) (slice_index bytes 1)

-- ---- reading

-- the length of the header of a packet, and the masks of its used bits
abbrev pub layout_of : List ℕ → HeaderLayout
layout_of bytes = (format_of bytes).layout

-- the message with its fields
abbrev pub icmp_type_of : List ℕ → Icmpv4Type
icmp_type_of bytes = (format_of bytes).message_of bytes

-- the header of a packet: the message with its fields, and the checksum
abbrev pub header_of : List ℕ → Icmpv4Header
header_of bytes = record { icmp_type = icmp_type_of bytes; checksum = be_number bytes 2 2 }

-- the error for a timestamp message or reply of this type that does not consist of exactly 20 bytes (RFC 792, "Timestamp or Timestamp Reply
-- Message")
abbrev pub timestamp_refusal : ℕ → Layer → List ℕ → Option LenError
timestamp_refusal type layer bytes = refused_if
    ((slice_index bytes 0 == type) && (slice_index bytes 1 == 0) && not (length bytes == 20))
    (wrong_length layer 20 (length bytes))

-- The error for a packet, if there is one: it has fewer bytes than the shortest header, or it is a timestamp message or reply with code 0
-- that is not 20 bytes long.
abbrev pub refusal : List ℕ → Option LenError
refusal bytes = first_of (
    refused_if (nat_lt (length bytes) 8) (wrong_length layers.Icmpv4 8 (length bytes))
    ∷ timestamp_refusal 13 layers.Icmpv4Timestamp bytes
    ∷ timestamp_refusal 14 layers.Icmpv4TimestampReply bytes
    ∷ [])

-- the packet is accepted: it contains a whole header, and no bytes follow the header of a timestamp message or reply
pub record HasWholeHeader (bytes : List ℕ) : Type 0 where
  pub shortest : 8 ≤ length bytes
  pub timestamp : (slice_index bytes 0 ≡ 13) ⊎ (slice_index bytes 0 ≡ 14) → slice_index bytes 1 ≡ 0 → length bytes ≡ 20

-- the bytes are accepted, and read as this header and this rest
pub record DecodesAs (bytes : List ℕ) (header : Icmpv4Header) (rest : List ℕ) : Type 0 where
  pub accepted : refusal bytes ≡ None
  pub fields : header ≡ header_of bytes
  pub after_header : rest ≡ drop (layout_of bytes).header_len bytes

-- these bytes with the unused bits of the header cleared; the bytes after the header are unchanged
abbrev pub canonical : List ℕ → List ℕ
canonical bytes = masked (layout_of bytes).masks bytes

-- ---- writing

-- the code of a message of type 3
abbrev pub dest_unreachable_code : DestUnreachableHeader → ℕ
dest_unreachable_code Network = 0
dest_unreachable_code Host = 1
dest_unreachable_code Protocol = 2
dest_unreachable_code Port = 3
dest_unreachable_code (FragmentationNeeded next_hop_mtu) = 4
dest_unreachable_code SourceRouteFailed = 5
dest_unreachable_code NetworkUnknown = 6
dest_unreachable_code HostUnknown = 7
dest_unreachable_code Isolated = 8
dest_unreachable_code NetworkProhibited = 9
dest_unreachable_code HostProhibited = 10
dest_unreachable_code TosNetwork = 11
dest_unreachable_code TosHost = 12
dest_unreachable_code FilterProhibited = 13
dest_unreachable_code HostPrecedenceViolation = 14
dest_unreachable_code PrecedenceCutoff = 15

-- the MTU of the next hop, or 0 if the message contains no MTU
abbrev pub next_hop_mtu : DestUnreachableHeader → ℕ
next_hop_mtu (FragmentationNeeded mtu) = mtu
next_hop_mtu other = 0

-- the code of a message of type 5
abbrev pub redirect_code : RedirectCode → ℕ
redirect_code RedirectForNetwork = 0
redirect_code RedirectForHost = 1
redirect_code RedirectForTypeOfServiceAndNetwork = 2
redirect_code RedirectForTypeOfServiceAndHost = 3

-- the code of a message of type 11
abbrev pub time_exceeded_code : TimeExceededCode → ℕ
time_exceeded_code TtlExceededInTransit = 0
time_exceeded_code FragmentReassemblyTimeExceeded = 1

-- the code of a message of type 12
abbrev pub parameter_problem_code : ParameterProblemHeader → ℕ
parameter_problem_code (PointerIndicatesError pointer) = 0
parameter_problem_code MissingRequiredOption = 1
parameter_problem_code BadLength = 2

-- the pointer, or 0 if the message contains no pointer
abbrev pub pointer : ParameterProblemHeader → ℕ
pointer (PointerIndicatesError at) = at
pointer other = 0

-- the bytes of the identifier, the sequence number and the three times
abbrev pub timestamp_fields : TimestampMessage → List ℕ
timestamp_fields message =
    to_be_bytes w16 message.id ++ (to_be_bytes w16 message.seq ++ (to_be_bytes w32 message.originate_timestamp
    ++ (to_be_bytes w32 message.receive_timestamp ++ to_be_bytes w32 message.transmit_timestamp)))

-- the written form of a message; unused bytes are zero
abbrev pub written : Icmpv4Type → Written
written (Unknown type code fields) = record { type = type; code = code; fields = fields }
written (EchoReply echo) = record { type = 0; code = 0; fields = echo_fields echo }
written (DestinationUnreachable header) =
    record { type = 3; code = dest_unreachable_code header; fields = 0 ∷ 0 ∷ to_be_bytes w16 (next_hop_mtu header) }
written (Redirect header) = record { type = 5; code = redirect_code header.code; fields = header.gateway_internet_address }
written (EchoRequest echo) = record { type = 8; code = 0; fields = echo_fields echo }
written (TimeExceeded code) = record { type = 11; code = time_exceeded_code code; fields = 0 ∷ 0 ∷ 0 ∷ 0 ∷ [] }
written (ParameterProblem header) = record { type = 12; code = parameter_problem_code header; fields = pointer header ∷ 0 ∷ 0 ∷ 0 ∷ [] }
written (TimestampRequest message) = record { type = 13; code = 0; fields = timestamp_fields message }
written (TimestampReply message) = record { type = 14; code = 0; fields = timestamp_fields message }

-- the bytes of a header
abbrev pub wire : Icmpv4Header → List ℕ
wire header = header_bytes (written header.icmp_type) header.checksum

-- the number of bytes after the header, if the kind of message determines it
abbrev pub fixed_payload_size : Icmpv4Type → Option ℕ
fixed_payload_size (TimestampRequest message) = Some 0
fixed_payload_size (TimestampReply message) = Some 0
fixed_payload_size other = None

-- the sum from which the checksum is computed: the header with checksum 0, and the payload
abbrev pub checksummed : Icmpv4Header → List ℕ → ℕ
checksummed header payload = total (wire (record header { checksum = 0 })) + total payload
