use Rattle.std.proofs.Common.{◌≡◌, refl, ap, ◌∙◌}
use Rattle.std.specs.Ordering.{nat_cmp, ordering_then}
use Rattle.icmp_part.specs.Icmpv6Format.{dest_unreachable_code, parameter_problem_code, time_exceeded_code}
use Rattle.icmp_part.specs.Icmpv6Order.{message_cmp}
use Rattle.icmp_part.specs.declared.icmpv6.dest_unreachable_code.DestUnreachableCode.{DestUnreachableCode}
use Rattle.icmp_part.specs.declared.icmpv6.dest_unreachable_code.DestUnreachableCode.TheVariants.{NoRoute, Prohibited, BeyondScope, Address, Port, SourceAddressFailedPolicy, RejectRoute}
use Rattle.icmp_part.specs.contracts.icmpv6.dest_unreachable_code.DestUnreachableCodeOrd.TheImpl as dest_unreachable_code_order
use Rattle.icmp_part.specs.declared.icmpv6.time_exceeded_code.TimeExceededCode.{TimeExceededCode}
use Rattle.icmp_part.specs.declared.icmpv6.time_exceeded_code.TimeExceededCode.TheVariants.{HopLimitExceeded, FragmentReassemblyTimeExceeded}
use Rattle.icmp_part.specs.contracts.icmpv6.time_exceeded_code.TimeExceededCodeOrd.TheImpl as time_exceeded_code_order
use Rattle.icmp_part.specs.declared.icmpv6.parameter_problem_code.ParameterProblemCode.{ParameterProblemCode}
use Rattle.icmp_part.specs.declared.icmpv6.parameter_problem_code.ParameterProblemCode.TheVariants.{ErroneousHeaderField, UnrecognizedNextHeader, UnrecognizedIpv6Option, Ipv6FirstFragmentIncompleteHeaderChain, SrUpperLayerHeaderError, UnrecognizedNextHeaderByIntermediateNode, ExtensionHeaderTooBig, ExtensionHeaderChainTooLong, TooManyExtensionHeaders, TooManyOptionsInExtensionHeader, OptionTooBig}
use Rattle.icmp_part.specs.contracts.icmpv6.parameter_problem_code.ParameterProblemCodeOrd.TheImpl as parameter_problem_code_order
use Rattle.icmp_part.specs.declared.icmpv6_type.Icmpv6Type.{Icmpv6Type}
use Rattle.icmp_part.specs.declared.icmpv6_type.Icmpv6Type.TheVariants.{Unknown, DestinationUnreachable, PacketTooBig, TimeExceeded, ParameterProblem, EchoRequest, EchoReply, RouterSolicitation, RouterAdvertisement, NeighborSolicitation, NeighborAdvertisement, Redirect}
use Rattle.icmp_part.specs.contracts.icmpv6_type.Icmpv6TypeOrd.TheImpl as message_order
use Rattle.icmp_part.proofs.laws.icmpv6.ordered_type.Goals as goal

-- the derived order of codes is the order of their numbers
dest_unreachable_by_code : (a b : DestUnreachableCode)
    → dest_unreachable_code_order.cmp-value.it a b ≡ nat_cmp (dest_unreachable_code a) (dest_unreachable_code b)
dest_unreachable_by_code NoRoute NoRoute = refl
dest_unreachable_by_code Prohibited Prohibited = refl
dest_unreachable_by_code BeyondScope BeyondScope = refl
dest_unreachable_by_code Address Address = refl
dest_unreachable_by_code Port Port = refl
dest_unreachable_by_code SourceAddressFailedPolicy SourceAddressFailedPolicy = refl
dest_unreachable_by_code RejectRoute RejectRoute = refl
dest_unreachable_by_code a b = refl

time_exceeded_by_code : (a b : TimeExceededCode)
    → time_exceeded_code_order.cmp-value.it a b ≡ nat_cmp (time_exceeded_code a) (time_exceeded_code b)
time_exceeded_by_code HopLimitExceeded HopLimitExceeded = refl
time_exceeded_by_code FragmentReassemblyTimeExceeded FragmentReassemblyTimeExceeded = refl
time_exceeded_by_code a b = refl

parameter_problem_by_code : (a b : ParameterProblemCode)
    → parameter_problem_code_order.cmp-value.it a b ≡ nat_cmp (parameter_problem_code a) (parameter_problem_code b)
parameter_problem_by_code ErroneousHeaderField ErroneousHeaderField = refl
parameter_problem_by_code UnrecognizedNextHeader UnrecognizedNextHeader = refl
parameter_problem_by_code UnrecognizedIpv6Option UnrecognizedIpv6Option = refl
parameter_problem_by_code Ipv6FirstFragmentIncompleteHeaderChain Ipv6FirstFragmentIncompleteHeaderChain = refl
parameter_problem_by_code SrUpperLayerHeaderError SrUpperLayerHeaderError = refl
parameter_problem_by_code UnrecognizedNextHeaderByIntermediateNode UnrecognizedNextHeaderByIntermediateNode = refl
parameter_problem_by_code ExtensionHeaderTooBig ExtensionHeaderTooBig = refl
parameter_problem_by_code ExtensionHeaderChainTooLong ExtensionHeaderChainTooLong = refl
parameter_problem_by_code TooManyExtensionHeaders TooManyExtensionHeaders = refl
parameter_problem_by_code TooManyOptionsInExtensionHeader TooManyOptionsInExtensionHeader = refl
parameter_problem_by_code OptionTooBig OptionTooBig = refl
parameter_problem_by_code a b = refl

-- the derived order of messages compares first their kinds, and then their fields
by_kind_and_fields : (a b : Icmpv6Type) → message_order.cmp-value.it a b ≡ message_cmp a b
by_kind_and_fields (Unknown type code bytes5to8) (Unknown other_type other_code other_bytes5to8) = refl
by_kind_and_fields (DestinationUnreachable code) (DestinationUnreachable other) = dest_unreachable_by_code code other
by_kind_and_fields (PacketTooBig mtu) (PacketTooBig other) = refl
by_kind_and_fields (TimeExceeded code) (TimeExceeded other) = time_exceeded_by_code code other
by_kind_and_fields (ParameterProblem header) (ParameterProblem other) =
    ap (λ codes. ordering_then codes (nat_cmp header.pointer other.pointer)) (parameter_problem_by_code header.code other.code)
by_kind_and_fields (EchoRequest echo) (EchoRequest other) = refl
by_kind_and_fields (EchoReply echo) (EchoReply other) = refl
by_kind_and_fields RouterSolicitation RouterSolicitation = refl
by_kind_and_fields (RouterAdvertisement header) (RouterAdvertisement other) = refl
by_kind_and_fields NeighborSolicitation NeighborSolicitation = refl
by_kind_and_fields (NeighborAdvertisement header) (NeighborAdvertisement other) = refl
by_kind_and_fields Redirect Redirect = refl
by_kind_and_fields a b = refl

pub returns : goal.returns
returns c = record {
  by_kind_and_fields =
      let derived : c.cmp.result ≡ message_order.cmp-value.it c.args.a.now c.args.b.now = c.cmp.ensures in
      derived ∙ by_kind_and_fields c.args.a.now c.args.b.now;
}
