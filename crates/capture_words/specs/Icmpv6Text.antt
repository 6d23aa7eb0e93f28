-- The text of an ICMPv6 message in a line (RFC 4443, RFC 4861).
use Rattle.std.specs.Prelude.{ℕ, ◌==◌, if◌then◌else◌, List, [], ◌∷◌, ◌++◌, codes, decimal, Option, Some, None}
use Rattle.net_base.specs.Bytes.{be_number}
use Rattle.icmp_part.specs.Icmpv6Format.{dest_unreachable_code, icmp_type_of, parameter_problem_code, time_exceeded_code}
use Rattle.icmp_part.specs.declared.icmpv6.dest_unreachable_code.DestUnreachableCode.{DestUnreachableCode}
use Rattle.icmp_part.specs.declared.icmpv6.dest_unreachable_code.DestUnreachableCode.TheVariants.{NoRoute, Prohibited, BeyondScope, Address, Port, SourceAddressFailedPolicy, RejectRoute}
use Rattle.icmp_part.specs.declared.icmpv6.neighbor_advertisement_header.NeighborAdvertisementHeader.{NeighborAdvertisementHeader}
use Rattle.icmp_part.specs.declared.icmpv6.parameter_problem_code.ParameterProblemCode.{ParameterProblemCode}
use Rattle.icmp_part.specs.declared.icmpv6.parameter_problem_code.ParameterProblemCode.TheVariants.{ErroneousHeaderField, UnrecognizedNextHeader, UnrecognizedIpv6Option, Ipv6FirstFragmentIncompleteHeaderChain, SrUpperLayerHeaderError, UnrecognizedNextHeaderByIntermediateNode, ExtensionHeaderTooBig, ExtensionHeaderChainTooLong, TooManyExtensionHeaders, TooManyOptionsInExtensionHeader, OptionTooBig}
use Rattle.icmp_part.specs.declared.icmpv6.router_advertisement_header.RouterAdvertisementHeader.{RouterAdvertisementHeader}
use Rattle.icmp_part.specs.declared.icmpv6.time_exceeded_code.TimeExceededCode.{TimeExceededCode}
use Rattle.icmp_part.specs.declared.icmpv6.time_exceeded_code.TimeExceededCode.TheVariants.{HopLimitExceeded, FragmentReassemblyTimeExceeded}
use Rattle.icmp_part.specs.declared.icmpv6_type.Icmpv6Type.{Icmpv6Type}
use Rattle.icmp_part.specs.declared.icmpv6_type.Icmpv6Type.TheVariants.{Unknown, DestinationUnreachable, PacketTooBig, TimeExceeded, ParameterProblem, EchoRequest, EchoReply, RouterSolicitation, RouterAdvertisement, NeighborSolicitation, NeighborAdvertisement, Redirect}
use Rattle.capture_words.specs.Flags.{flags_text}
use Rattle.capture_words.specs.Icmpv6Fields.{fields_of, fields_text}
use Rattle.capture_words.specs.IcmpText.{echo_text, field_text, named_message, unknown_text}

-- why a packet could not be delivered
abbrev pub unreachable_reason : DestUnreachableCode → List ℕ
unreachable_reason NoRoute = codes "no route"
unreachable_reason Prohibited = codes "prohibited"
unreachable_reason BeyondScope = codes "beyond the scope of the source"
unreachable_reason Address = codes "address"
unreachable_reason Port = codes "port"
unreachable_reason SourceAddressFailedPolicy = codes "source address failed the policy"
unreachable_reason RejectRoute = codes "reject route"

-- which time was exceeded
abbrev pub exceeded_time : TimeExceededCode → List ℕ
exceeded_time HopLimitExceeded = codes "hop limit"
exceeded_time FragmentReassemblyTimeExceeded = codes "fragment reassembly"

-- what is wrong with a packet
abbrev pub problem_name : ParameterProblemCode → List ℕ
problem_name ErroneousHeaderField = codes "erroneous header field"
problem_name UnrecognizedNextHeader = codes "unrecognized next header"
problem_name UnrecognizedIpv6Option = codes "unrecognized IPv6 option"
problem_name Ipv6FirstFragmentIncompleteHeaderChain = codes "incomplete header chain in the first fragment"
problem_name SrUpperLayerHeaderError = codes "upper-layer header error"
problem_name UnrecognizedNextHeaderByIntermediateNode = codes "unrecognized next header by an intermediate node"
problem_name ExtensionHeaderTooBig = codes "extension header too big"
problem_name ExtensionHeaderChainTooLong = codes "extension header chain too long"
problem_name TooManyExtensionHeaders = codes "too many extension headers"
problem_name TooManyOptionsInExtensionHeader = codes "too many options in an extension header"
problem_name OptionTooBig = codes "option too big"

-- a router advertisement; the lifetime is in seconds
abbrev pub router_text : RouterAdvertisementHeader → List ℕ
router_text router =
    codes "router advertisement, code 0, current hop limit " ++ (decimal router.cur_hop_limit ++ (codes ", "
    ++ (flags_text (λ flag. flag) ((router.managed_address_config, codes "managed") ∷ (router.other_config, codes "other") ∷ [])
    ++ field_text (codes "router lifetime") router.router_lifetime)))

-- a neighbor advertisement
abbrev pub neighbor_text : NeighborAdvertisementHeader → List ℕ
neighbor_text neighbor =
    codes "neighbor advertisement, code 0, "
    ++ flags_text (λ flag. flag) ((neighbor.router, codes "router") ∷ (neighbor.solicited, codes "solicited")
    ∷ (neighbor.override_flag, codes "override") ∷ [])

-- the name of a message about multicast listeners, by its type (RFC 2710, section 3; RFC 3810, section 5); `None` for any other type
abbrev pub listener_name : ℕ → Option (List ℕ)
listener_name type =
    if type == 130 then Some (codes "multicast listener query")
    else if type == 131 then Some (codes "multicast listener report")
    else if type == 132 then Some (codes "multicast listener done")
    else if type == 143 then Some (codes "version 2 multicast listener report")
    else None

-- The number in bytes 5 to 8 of a message about multicast listeners. A query contains the maximum response code (RFC 3810, section 5.1),
-- and a version 2 report the number of its records (RFC 3810, section 5.2).
abbrev pub listener_number : ℕ → List ℕ → List ℕ
listener_number type bytes =
    if type == 130 then field_text (codes "maximum response code") (be_number bytes 0 2)
    else if type == 143 then field_text (codes "records") (be_number bytes 2 2)
    else []

-- a message about multicast listeners with this name: its code, and its number
abbrev pub listener_text : List ℕ → ℕ → ℕ → List ℕ → List ℕ
listener_text name type code bytes = name ++ (codes ", code " ++ (decimal code ++ listener_number type bytes))

-- a message about multicast listeners, or a message that is not read
abbrev pub listener_or_unknown : Option (List ℕ) → ℕ → ℕ → List ℕ → List ℕ
listener_or_unknown None type code bytes = unknown_text type code bytes
listener_or_unknown (Some name) type code bytes = listener_text name type code bytes

-- the name of a message, its code, and its fields
abbrev pub message_text : Icmpv6Type → List ℕ
message_text (Unknown type code bytes) = listener_or_unknown (listener_name type) type code bytes
message_text (DestinationUnreachable code) =
    named_message (codes "destination unreachable") (dest_unreachable_code code) (unreachable_reason code)
message_text (PacketTooBig mtu) = codes "packet too big, code 0" ++ field_text (codes "MTU") mtu
message_text (TimeExceeded code) = named_message (codes "time exceeded") (time_exceeded_code code) (exceeded_time code)
message_text (ParameterProblem header) =
    named_message (codes "parameter problem") (parameter_problem_code header.code) (problem_name header.code)
    ++ field_text (codes "pointer") header.pointer
message_text (EchoRequest echo) = echo_text (codes "echo request") echo
message_text (EchoReply echo) = echo_text (codes "echo reply") echo
message_text RouterSolicitation = codes "router solicitation, code 0"
message_text (RouterAdvertisement router) = router_text router
message_text NeighborSolicitation = codes "neighbor solicitation, code 0"
message_text (NeighborAdvertisement neighbor) = neighbor_text neighbor
message_text Redirect = codes "redirect, code 0"

-- a message with its fields after the first eight bytes
abbrev pub packet_text : List ℕ → List ℕ
packet_text message = message_text (icmp_type_of message) ++ fields_text (fields_of message)
