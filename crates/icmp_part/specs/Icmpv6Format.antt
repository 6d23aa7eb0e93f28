-- The ICMPv6 header (RFC 4443; neighbor discovery, RFC 4861): which packets are accepted, how the header is read and
-- written, and what its checksum covers.
--
--   byte  0     1     2, 3      4 to 7
--         type  code  checksum  by type and code
use Rattle.std.specs.Prelude.{◌≡◌, ◌≤◌, ℕ, ◌+◌, ◌-◌, ◌*◌, nat_lt, List, [], ◌∷◌, ◌++◌, length, drop, map, slice_index, slice_range, Option, None}
use Rattle.std.specs.Int.{from_bool, to_be_bytes, w16, w32}
use Rattle.net_base.specs.Bytes.{HeaderLayout, be_number, flag, masked}
use Rattle.net_base.specs.IpNumbers.{icmpv6_number}
use Rattle.net_base.specs.PseudoHeader.{ipv6_pseudo_header}
use Rattle.net_base.specs.Refusals.{first_of, refused_if, wrong_length}
use Rattle.net_base.specs.declared.err.layer.Layer.TheVariants as layers
use Rattle.net_base.specs.declared.err.len_error.LenError.{LenError}
use Rattle.word_sum.specs.Checksum.{total}
use Rattle.icmp_part.specs.MessageFormat.{MessageFormat, Written, all_used, format_in, header_bytes, unused, used}
use Rattle.icmp_part.specs.IcmpEcho.{echo, echo_fields}
use Rattle.icmp_part.specs.declared.icmpv6.dest_unreachable_code.DestUnreachableCode.{DestUnreachableCode}
use Rattle.icmp_part.specs.declared.icmpv6.dest_unreachable_code.DestUnreachableCode.TheVariants.{NoRoute, Prohibited, BeyondScope, Address, Port, SourceAddressFailedPolicy, RejectRoute}
use Rattle.icmp_part.specs.declared.icmpv6.neighbor_advertisement_header.NeighborAdvertisementHeader.{NeighborAdvertisementHeader}
use Rattle.icmp_part.specs.declared.icmpv6.parameter_problem_code.ParameterProblemCode.{ParameterProblemCode}
use Rattle.icmp_part.specs.declared.icmpv6.parameter_problem_code.ParameterProblemCode.TheVariants.{ErroneousHeaderField, UnrecognizedNextHeader, UnrecognizedIpv6Option, Ipv6FirstFragmentIncompleteHeaderChain, SrUpperLayerHeaderError, UnrecognizedNextHeaderByIntermediateNode, ExtensionHeaderTooBig, ExtensionHeaderChainTooLong, TooManyExtensionHeaders, TooManyOptionsInExtensionHeader, OptionTooBig}
use Rattle.icmp_part.specs.declared.icmpv6.router_advertisement_header.RouterAdvertisementHeader.{RouterAdvertisementHeader}
use Rattle.icmp_part.specs.declared.icmpv6.time_exceeded_code.TimeExceededCode.{TimeExceededCode}
use Rattle.icmp_part.specs.declared.icmpv6.time_exceeded_code.TimeExceededCode.TheVariants.{HopLimitExceeded, FragmentReassemblyTimeExceeded}
use Rattle.icmp_part.specs.declared.icmpv6_header.Icmpv6Header.{Icmpv6Header}
use Rattle.icmp_part.specs.declared.icmpv6_type.Icmpv6Type.{Icmpv6Type}
use Rattle.icmp_part.specs.declared.icmpv6_type.Icmpv6Type.TheVariants.{Unknown, DestinationUnreachable, PacketTooBig, TimeExceeded, ParameterProblem, EchoRequest, EchoReply, RouterSolicitation, RouterAdvertisement, NeighborSolicitation, NeighborAdvertisement, Redirect}

-- ---- the table: for each code of each type the message, and the used bits

-- the length of every header: type, code, checksum, and the first four bytes of the message body (RFC 4443, section 2.1)
abbrev pub header_len : ℕ
header_len = 8

-- type 1, by code: why a packet could not be delivered (RFC 4443, section 3.1)
abbrev pub dest_unreachable_codes : List DestUnreachableCode
dest_unreachable_codes =
    NoRoute  -- 0
    ∷ Prohibited  -- 1
    ∷ BeyondScope  -- 2
    ∷ Address  -- 3
    ∷ Port  -- 4
    ∷ SourceAddressFailedPolicy  -- 5
    ∷ RejectRoute  -- 6
    ∷ []

-- type 2: the MTU of the next link is in bytes 4 to 7 (RFC 4443, section 3.2); a sender sets code 0, and no other code is listed
abbrev pub packet_too_big : MessageFormat Icmpv6Type
packet_too_big = all_used header_len (λ bytes. PacketTooBig (be_number bytes 4 4))

-- type 3, by code: which time was exceeded (RFC 4443, section 3.3)
abbrev pub time_exceeded_codes : List TimeExceededCode
time_exceeded_codes =
    HopLimitExceeded  -- 0
    ∷ FragmentReassemblyTimeExceeded  -- 1
    ∷ []

-- Type 4, by code. Codes 0 to 2 are from RFC 4443, section 3.4. Code 3 is from RFC 7112, section 5. Code 4 is from RFC 8754, section
-- 4.3.1.2. Codes 5 to 10 are from RFC 8883, section 2.
abbrev pub parameter_problem_codes : List ParameterProblemCode
parameter_problem_codes =
    ErroneousHeaderField  -- 0
    ∷ UnrecognizedNextHeader  -- 1
    ∷ UnrecognizedIpv6Option  -- 2
    ∷ Ipv6FirstFragmentIncompleteHeaderChain  -- 3
    ∷ SrUpperLayerHeaderError  -- 4
    ∷ UnrecognizedNextHeaderByIntermediateNode  -- 5
    ∷ ExtensionHeaderTooBig  -- 6
    ∷ ExtensionHeaderChainTooLong  -- 7
    ∷ TooManyExtensionHeaders  -- 8
    ∷ TooManyOptionsInExtensionHeader  -- 9
    ∷ OptionTooBig  -- 10
    ∷ []

-- the format of type 4 with this code; the pointer to the error is in bytes 4 to 7 (RFC 4443, section 3.4)
abbrev pub parameter_problem : ParameterProblemCode → MessageFormat Icmpv6Type
parameter_problem code = all_used header_len (λ bytes. ParameterProblem (record { code = code; pointer = be_number bytes 4 4 }))

-- type 134: the bit of the flag M in byte 5 (RFC 4861, section 4.2)
abbrev pub managed_bit : ℕ
managed_bit = 0x80

-- type 134: the bit of the flag O in byte 5
abbrev pub other_bit : ℕ
other_bit = 0x40

-- the masks of bytes 4 to 7; the bits of byte 5 other than M and O are reserved
abbrev pub router_advertisement_masks : List ℕ
router_advertisement_masks = 0xff ∷ 0xc0 ∷ 0xff ∷ 0xff ∷ []

-- the fields that begin at this place: the current hop limit, a byte with the flags M and O, and the router lifetime
abbrev pub router_advertisement_of : List ℕ → ℕ → RouterAdvertisementHeader
router_advertisement_of bytes from = record {
  cur_hop_limit = slice_index bytes from;
  managed_address_config = flag bytes (from + 1) managed_bit;
  other_config = flag bytes (from + 1) other_bit;
  router_lifetime = be_number bytes (from + 2) 2;
}

-- the format of a router advertisement; its fields are in bytes 4 to 7
abbrev pub router_advertisement : MessageFormat Icmpv6Type
router_advertisement = record {
  layout = record { header_len = header_len; masks = used 4 ++ router_advertisement_masks };
  message_of = λ bytes. RouterAdvertisement (router_advertisement_of bytes 4);
}

-- type 136: the bit of the flag R in byte 4 (RFC 4861, section 4.4)
abbrev pub router_bit : ℕ
router_bit = 0x80

-- type 136: the bit of the flag S in byte 4
abbrev pub solicited_bit : ℕ
solicited_bit = 0x40

-- type 136: the bit of the flag O in byte 4
abbrev pub override_bit : ℕ
override_bit = 0x20

-- the masks of bytes 4 to 7; all bits other than R, S and O are reserved
abbrev pub neighbor_advertisement_masks : List ℕ
neighbor_advertisement_masks = 0xe0 ∷ 0 ∷ 0 ∷ 0 ∷ []

-- the flags in the byte at this place
abbrev pub neighbor_advertisement_of : List ℕ → ℕ → NeighborAdvertisementHeader
neighbor_advertisement_of bytes from = record {
  router = flag bytes from router_bit;
  solicited = flag bytes from solicited_bit;
  override_flag = flag bytes from override_bit;
}

-- the format of a neighbor advertisement; its fields are in bytes 4 to 7
abbrev pub neighbor_advertisement : MessageFormat Icmpv6Type
neighbor_advertisement = record {
  layout = record { header_len = header_len; masks = used 4 ++ neighbor_advertisement_masks };
  message_of = λ bytes. NeighborAdvertisement (neighbor_advertisement_of bytes 4);
}

-- the types of RFC 4443 and RFC 4861, each with the formats of its codes from 0 on
abbrev pub formats : List (ℕ × List (MessageFormat Icmpv6Type))
formats =
    (1, map (λ code. unused (DestinationUnreachable code)) dest_unreachable_codes)
    ∷ (2, packet_too_big ∷ [])
    ∷ (3, map (λ code. unused (TimeExceeded code)) time_exceeded_codes)
    ∷ (4, map parameter_problem parameter_problem_codes)
    ∷ (128, echo EchoRequest ∷ [])
    ∷ (129, echo EchoReply ∷ [])
    ∷ (133, unused RouterSolicitation ∷ [])
    ∷ (134, router_advertisement ∷ [])
    ∷ (135, unused NeighborSolicitation ∷ [])
    ∷ (136, neighbor_advertisement ∷ [])
    ∷ (137, unused Redirect ∷ [])
    ∷ []

-- the format of a type and code that are not listed: the type, the code, and bytes 4 to 7 unchanged
abbrev pub unknown : MessageFormat Icmpv6Type
unknown = all_used header_len (λ bytes. Unknown (slice_index bytes 0) (slice_index bytes 1) (slice_range bytes 4 8))

-- the format of this type and code
abbrev pub format_at : ℕ → ℕ → MessageFormat Icmpv6Type
format_at type code = format_in formats unknown type code

-- the format of a packet
unfoldable pub format_of : List ℕ → MessageFormat Icmpv6Type
format_of bytes = format_at (slice_index bytes 0) (slice_index bytes 1)

-- ---- reading

-- the length of the header of a packet, and the masks of its used bits
abbrev pub layout_of : List ℕ → HeaderLayout
layout_of bytes = (format_of bytes).layout

-- the message with its fields
abbrev pub icmp_type_of : List ℕ → Icmpv6Type
icmp_type_of bytes = (format_of bytes).message_of bytes

-- the header of a packet: the message with its fields, and the checksum
abbrev pub header_of : List ℕ → Icmpv6Header
header_of bytes = record { icmp_type = icmp_type_of bytes; checksum = be_number bytes 2 2 }

-- the length of the longest packet; the pseudo header counts header and payload in 32 bits (RFC 8200, section 8.1)
abbrev pub max_packet_len : ℕ
max_packet_len = 4294967295

-- the error for a packet, if there is one: it has fewer bytes than a header, or more bytes than the pseudo header can count
abbrev pub refusal : List ℕ → Option LenError
refusal bytes = first_of (
    refused_if (nat_lt (length bytes) header_len) (wrong_length layers.Icmpv6 header_len (length bytes))
    ∷ refused_if (nat_lt max_packet_len (length bytes)) (wrong_length layers.Icmpv6 max_packet_len (length bytes))
    ∷ [])

-- the packet is accepted: its length is within both limits
pub record HasPacketLength (bytes : List ℕ) : Type 0 where
  pub shortest : header_len ≤ length bytes
  pub longest : length bytes ≤ max_packet_len

-- the bytes are accepted, and read as this header and this rest
pub record DecodesAs (bytes : List ℕ) (header : Icmpv6Header) (rest : List ℕ) : Type 0 where
  pub accepted : refusal bytes ≡ None
  pub fields : header ≡ header_of bytes
  pub after_header : rest ≡ drop (layout_of bytes).header_len bytes

-- these bytes with the unused bits of the header cleared; the bytes after the header are unchanged
abbrev pub canonical : List ℕ → List ℕ
canonical bytes = masked (layout_of bytes).masks bytes

-- ---- writing

-- the code of a message of type 1
abbrev pub dest_unreachable_code : DestUnreachableCode → ℕ
dest_unreachable_code NoRoute = 0
dest_unreachable_code Prohibited = 1
dest_unreachable_code BeyondScope = 2
dest_unreachable_code Address = 3
dest_unreachable_code Port = 4
dest_unreachable_code SourceAddressFailedPolicy = 5
dest_unreachable_code RejectRoute = 6

-- the code of a message of type 3
abbrev pub time_exceeded_code : TimeExceededCode → ℕ
time_exceeded_code HopLimitExceeded = 0
time_exceeded_code FragmentReassemblyTimeExceeded = 1

-- the code of a message of type 4
abbrev pub parameter_problem_code : ParameterProblemCode → ℕ
parameter_problem_code ErroneousHeaderField = 0
parameter_problem_code UnrecognizedNextHeader = 1
parameter_problem_code UnrecognizedIpv6Option = 2
parameter_problem_code Ipv6FirstFragmentIncompleteHeaderChain = 3
parameter_problem_code SrUpperLayerHeaderError = 4
parameter_problem_code UnrecognizedNextHeaderByIntermediateNode = 5
parameter_problem_code ExtensionHeaderTooBig = 6
parameter_problem_code ExtensionHeaderChainTooLong = 7
parameter_problem_code TooManyExtensionHeaders = 8
parameter_problem_code TooManyOptionsInExtensionHeader = 9
parameter_problem_code OptionTooBig = 10

-- byte 4 of a neighbor advertisement: its flags
abbrev pub neighbor_advertisement_flags : NeighborAdvertisementHeader → ℕ
neighbor_advertisement_flags header =
    from_bool header.router * router_bit + from_bool header.solicited * solicited_bit + from_bool header.override_flag * override_bit

-- bytes 4 to 7 of a neighbor advertisement
abbrev pub neighbor_advertisement_fields : NeighborAdvertisementHeader → List ℕ
neighbor_advertisement_fields header = neighbor_advertisement_flags header ∷ 0 ∷ 0 ∷ 0 ∷ []

-- byte 5 of a router advertisement: its flags
abbrev pub router_advertisement_flags : RouterAdvertisementHeader → ℕ
router_advertisement_flags header = from_bool header.managed_address_config * managed_bit + from_bool header.other_config * other_bit

-- bytes 4 to 7 of a router advertisement
abbrev pub router_advertisement_fields : RouterAdvertisementHeader → List ℕ
router_advertisement_fields header =
    header.cur_hop_limit ∷ router_advertisement_flags header ∷ to_be_bytes w16 header.router_lifetime

-- the written form of a message; unused bits are zero
abbrev pub written : Icmpv6Type → Written
written (Unknown type code fields) = record { type = type; code = code; fields = fields }
written (DestinationUnreachable code) = record { type = 1; code = dest_unreachable_code code; fields = 0 ∷ 0 ∷ 0 ∷ 0 ∷ [] }
written (PacketTooBig mtu) = record { type = 2; code = 0; fields = to_be_bytes w32 mtu }
written (TimeExceeded code) = record { type = 3; code = time_exceeded_code code; fields = 0 ∷ 0 ∷ 0 ∷ 0 ∷ [] }
written (ParameterProblem header) = record { type = 4; code = parameter_problem_code header.code; fields = to_be_bytes w32 header.pointer }
written (EchoRequest echo) = record { type = 128; code = 0; fields = echo_fields echo }
written (EchoReply echo) = record { type = 129; code = 0; fields = echo_fields echo }
written RouterSolicitation = record { type = 133; code = 0; fields = 0 ∷ 0 ∷ 0 ∷ 0 ∷ [] }
written (RouterAdvertisement header) = record { type = 134; code = 0; fields = router_advertisement_fields header }
written NeighborSolicitation = record { type = 135; code = 0; fields = 0 ∷ 0 ∷ 0 ∷ 0 ∷ [] }
written (NeighborAdvertisement header) = record { type = 136; code = 0; fields = neighbor_advertisement_fields header }
written Redirect = record { type = 137; code = 0; fields = 0 ∷ 0 ∷ 0 ∷ 0 ∷ [] }

-- the bytes of a header
abbrev pub wire : Icmpv6Header → List ℕ
wire header = header_bytes (written header.icmp_type) header.checksum

-- ---- the checksum

-- the length of the longest payload: the longest packet without its header of eight bytes
abbrev pub max_payload_len : ℕ
max_payload_len = max_packet_len - header_len

-- the pseudo header of a packet of this length (RFC 4443, section 2.3; RFC 8200, section 8.1)
abbrev pub pseudo_header : List ℕ → List ℕ → ℕ → List ℕ
pseudo_header source destination len = ipv6_pseudo_header source destination icmpv6_number len

-- the sum from which the checksum is computed: the pseudo header, the header with checksum 0, and the payload
abbrev pub checksummed : List ℕ → List ℕ → Icmpv6Header → List ℕ → ℕ
checksummed source destination header payload =
    total (pseudo_header source destination (length (wire header) + length payload))
    + total (wire (record header { checksum = 0 })) + total payload
