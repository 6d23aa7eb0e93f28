-- The order of ICMPv6 messages and of their parts, and what a hash covers.
use Rattle.std.specs.Prelude.{ℕ, [], ◌++◌}
use Rattle.std.specs.Cmp.Lexicographic.{slice_cmp}
use Rattle.std.specs.Hash.{HashWrites}
use Rattle.std.specs.Hash as fed
use Rattle.std.specs.declared.cmp.Ordering.{Ordering}
use Rattle.std.specs.declared.cmp.Ordering.TheVariants.{Equal}
use Rattle.std.specs.Ordering.{bool_cmp, nat_cmp, ordering_then}
use Rattle.icmp_part.specs.Icmpv6Format.{dest_unreachable_code, parameter_problem_code, time_exceeded_code}
use Rattle.icmp_part.specs.declared.icmp_echo_header.IcmpEchoHeader.{IcmpEchoHeader}
use Rattle.icmp_part.specs.declared.icmpv6.neighbor_advertisement_header.NeighborAdvertisementHeader.{NeighborAdvertisementHeader}
use Rattle.icmp_part.specs.declared.icmpv6.parameter_problem_header.ParameterProblemHeader.{ParameterProblemHeader}
use Rattle.icmp_part.specs.declared.icmpv6.router_advertisement_header.RouterAdvertisementHeader.{RouterAdvertisementHeader}
use Rattle.icmp_part.specs.declared.icmpv6_type.Icmpv6Type.{Icmpv6Type}
use Rattle.icmp_part.specs.declared.icmpv6_type.Icmpv6Type.TheVariants.{Unknown, DestinationUnreachable, PacketTooBig, TimeExceeded, ParameterProblem, EchoRequest, EchoReply, RouterSolicitation, RouterAdvertisement, NeighborSolicitation, NeighborAdvertisement, Redirect}

-- ---- the parts of messages; a flag that is not set comes before a flag that is set

-- the order of echo fields: field by field
abbrev pub echo_cmp : IcmpEchoHeader → IcmpEchoHeader → Ordering
echo_cmp a b = ordering_then (nat_cmp a.id b.id) (nat_cmp a.seq b.seq)

-- what a hash of echo fields covers: each field, in order
abbrev pub echo_writes : IcmpEchoHeader → HashWrites
echo_writes echo = fed.u16 echo.id ++ fed.u16 echo.seq

-- the order of parameter problems: field by field
abbrev pub parameter_problem_cmp : ParameterProblemHeader → ParameterProblemHeader → Ordering
parameter_problem_cmp a b =
    ordering_then (nat_cmp (parameter_problem_code a.code) (parameter_problem_code b.code)) (nat_cmp a.pointer b.pointer)

-- what a hash of a parameter problem covers: each field, in order
abbrev pub parameter_problem_writes : ParameterProblemHeader → HashWrites
parameter_problem_writes header = fed.usize (parameter_problem_code header.code) ++ fed.u32 header.pointer

-- the order of router advertisements: field by field
abbrev pub router_advertisement_cmp : RouterAdvertisementHeader → RouterAdvertisementHeader → Ordering
router_advertisement_cmp a b =
    ordering_then (nat_cmp a.cur_hop_limit b.cur_hop_limit)
    (ordering_then (bool_cmp a.managed_address_config b.managed_address_config)
    (ordering_then (bool_cmp a.other_config b.other_config) (nat_cmp a.router_lifetime b.router_lifetime)))

-- what a hash of a router advertisement covers: each field, in order
abbrev pub router_advertisement_writes : RouterAdvertisementHeader → HashWrites
router_advertisement_writes header =
    fed.u8 header.cur_hop_limit
    ++ (fed.bool header.managed_address_config ++ (fed.bool header.other_config ++ fed.u16 header.router_lifetime))

-- the order of neighbor advertisements: field by field
abbrev pub neighbor_advertisement_cmp : NeighborAdvertisementHeader → NeighborAdvertisementHeader → Ordering
neighbor_advertisement_cmp a b =
    ordering_then (bool_cmp a.router b.router)
    (ordering_then (bool_cmp a.solicited b.solicited) (bool_cmp a.override_flag b.override_flag))

-- what a hash of a neighbor advertisement covers: each field, in order
abbrev pub neighbor_advertisement_writes : NeighborAdvertisementHeader → HashWrites
neighbor_advertisement_writes header = fed.bool header.router ++ (fed.bool header.solicited ++ fed.bool header.override_flag)

-- ---- messages

-- the place of the variant of a message, from 0
abbrev pub kind : Icmpv6Type → ℕ
kind (Unknown type code bytes5to8) = 0
kind (DestinationUnreachable code) = 1
kind (PacketTooBig mtu) = 2
kind (TimeExceeded code) = 3
kind (ParameterProblem header) = 4
kind (EchoRequest echo) = 5
kind (EchoReply echo) = 6
kind RouterSolicitation = 7
kind (RouterAdvertisement header) = 8
kind NeighborSolicitation = 9
kind (NeighborAdvertisement header) = 10
kind Redirect = 11

-- the order of two messages of the same kind: field by field
abbrev pub fields_cmp : Icmpv6Type → Icmpv6Type → Ordering
fields_cmp (Unknown type code bytes5to8) (Unknown other_type other_code other_bytes5to8) =
    ordering_then (nat_cmp type other_type) (ordering_then (nat_cmp code other_code) (slice_cmp nat_cmp bytes5to8 other_bytes5to8))
fields_cmp (DestinationUnreachable code) (DestinationUnreachable other) = nat_cmp (dest_unreachable_code code) (dest_unreachable_code other)
fields_cmp (PacketTooBig mtu) (PacketTooBig other) = nat_cmp mtu other
fields_cmp (TimeExceeded code) (TimeExceeded other) = nat_cmp (time_exceeded_code code) (time_exceeded_code other)
fields_cmp (ParameterProblem header) (ParameterProblem other) = parameter_problem_cmp header other
fields_cmp (EchoRequest echo) (EchoRequest other) = echo_cmp echo other
fields_cmp (EchoReply echo) (EchoReply other) = echo_cmp echo other
fields_cmp (RouterAdvertisement header) (RouterAdvertisement other) = router_advertisement_cmp header other
fields_cmp (NeighborAdvertisement header) (NeighborAdvertisement other) = neighbor_advertisement_cmp header other
fields_cmp message other = Equal

-- the order of messages: by the kind, in the order of the variants, and then by the fields
abbrev pub message_cmp : Icmpv6Type → Icmpv6Type → Ordering
message_cmp a b = ordering_then (nat_cmp (kind a) (kind b)) (fields_cmp a b)

-- what a hash of the fields of a message covers
abbrev pub fields_writes : Icmpv6Type → HashWrites
fields_writes (Unknown type code bytes5to8) = fed.u8 type ++ (fed.u8 code ++ fed.slice fed.u8 bytes5to8)
fields_writes (DestinationUnreachable code) = fed.usize (dest_unreachable_code code)
fields_writes (PacketTooBig mtu) = fed.u32 mtu
fields_writes (TimeExceeded code) = fed.usize (time_exceeded_code code)
fields_writes (ParameterProblem header) = parameter_problem_writes header
fields_writes (EchoRequest echo) = echo_writes echo
fields_writes (EchoReply echo) = echo_writes echo
fields_writes RouterSolicitation = []
fields_writes (RouterAdvertisement header) = router_advertisement_writes header
fields_writes NeighborSolicitation = []
fields_writes (NeighborAdvertisement header) = neighbor_advertisement_writes header
fields_writes Redirect = []

-- what a hash of a message covers: the kind, and then the fields
abbrev pub message_writes : Icmpv6Type → HashWrites
message_writes message = fed.usize (kind message) ++ fields_writes message
