-- ICMPv6 in the interface to C.
use Rattle.std.specs.Prelude.{◌≡◌, ◌≢◌, ⊤, ℕ, Bool, false, not, bit_and, ◌-◌, ◌==◌, if◌then◌else◌, List, [], length, drop, slice_get, slice_index, slice_range, replicate, take, Option, Some, None, Result, Ok, Err}
use Rattle.std.specs.Option.{option_map}
use Rattle.net_base.specs.Bytes.{be_number}
use Rattle.net_base.specs.declared.err.len_error.LenError.{LenError}
use Rattle.icmp_part.specs.Icmpv6Format as icmpv6
use Rattle.icmp_part.specs.Icmpv6ReadsBack.{reads_back}
use Rattle.icmp_part.specs.Icmpv6Validity.{IsValidIcmpv6}
use Rattle.icmp_part.specs.declared.icmp_echo_header.IcmpEchoHeader.{IcmpEchoHeader}
use Rattle.icmp_part.specs.declared.icmpv6.neighbor_advertisement_header.NeighborAdvertisementHeader.{NeighborAdvertisementHeader}
use Rattle.icmp_part.specs.declared.icmpv6.router_advertisement_header.RouterAdvertisementHeader.{RouterAdvertisementHeader}
use Rattle.icmp_part.specs.declared.icmpv6_header.Icmpv6Header.{Icmpv6Header}
use Rattle.icmp_part.specs.declared.icmpv6_type.Icmpv6Type.{Icmpv6Type}
use Rattle.icmp_part.specs.declared.icmpv6_type.Icmpv6Type.TheVariants.{Unknown, DestinationUnreachable, PacketTooBig, TimeExceeded, ParameterProblem, EchoRequest, EchoReply, RouterSolicitation, RouterAdvertisement, NeighborSolicitation, NeighborAdvertisement, Redirect}
use Rattle.etherparse_transport_c.specs.Errors.{Tells, no_room, of_len, of_status}
use Rattle.etherparse_transport_c.specs.Numbers as numbers
use Rattle.etherparse_transport_c.specs.declared.error.EtherparseError.{EtherparseError}
use Rattle.etherparse_transport_c.specs.declared.icmpv6.EtherparseIcmpv6Header.{EtherparseIcmpv6Header}
use Rattle.etherparse_transport_c.specs.declared.icmpv6.EtherparseIcmpv6Packet.{EtherparseIcmpv6Packet}

-- a header in which every field is 0
abbrev pub nothing : EtherparseIcmpv6Header
nothing = record {
  kind = numbers.icmpv6_kind_unknown;
  mtu = 0;
  pointer = 0;
  checksum = 0;
  id = 0;
  sequence_number = 0;
  router_lifetime = 0;
  cur_hop_limit = 0;
  flags = 0;
  type_u8 = 0;
  code_u8 = 0;
  bytes4to7 = replicate 4 0;
}

-- the header of a message that has no field except its kind
abbrev pub bare : ℕ → EtherparseIcmpv6Header
bare kind = record nothing { kind = kind }

-- the fields of an echo request or reply
abbrev pub echo_fields : ℕ → IcmpEchoHeader → EtherparseIcmpv6Header
echo_fields kind echo = record (bare kind) { id = echo.id; sequence_number = echo.seq }

-- the flags of a router advertisement as a byte
abbrev pub router_flags : RouterAdvertisementHeader → ℕ
router_flags header = icmpv6.router_advertisement_flags header

-- the flags of a neighbor advertisement as a byte
abbrev pub neighbor_flags : NeighborAdvertisementHeader → ℕ
neighbor_flags header = icmpv6.neighbor_advertisement_flags header

-- A header with the number of the kind, and with the fields that belong to this kind. The code is not set here: `packet_of` sets `code_u8`.
abbrev pub message_fields : Icmpv6Type → EtherparseIcmpv6Header
message_fields (Unknown type code fields) = bare numbers.icmpv6_kind_unknown
message_fields (DestinationUnreachable code) = bare numbers.icmpv6_kind_destination_unreachable
message_fields (PacketTooBig mtu) = record (bare numbers.icmpv6_kind_packet_too_big) { mtu = mtu }
message_fields (TimeExceeded code) = bare numbers.icmpv6_kind_time_exceeded
message_fields (ParameterProblem header) = record (bare numbers.icmpv6_kind_parameter_problem) { pointer = header.pointer }
message_fields (EchoRequest echo) = echo_fields numbers.icmpv6_kind_echo_request echo
message_fields (EchoReply echo) = echo_fields numbers.icmpv6_kind_echo_reply echo
message_fields RouterSolicitation = bare numbers.icmpv6_kind_router_solicitation
message_fields (RouterAdvertisement header) = record (bare numbers.icmpv6_kind_router_advertisement) {
  cur_hop_limit = header.cur_hop_limit;
  flags = router_flags header;
  router_lifetime = header.router_lifetime;
}
message_fields NeighborSolicitation = bare numbers.icmpv6_kind_neighbor_solicitation
message_fields (NeighborAdvertisement header) = record (bare numbers.icmpv6_kind_neighbor_advertisement) { flags = neighbor_flags header }
message_fields Redirect = bare numbers.icmpv6_kind_redirect

-- the refusal of a message
abbrev pub refusal : List ℕ → Option EtherparseError
refusal bytes = option_map of_len (icmpv6.refusal bytes)

-- the header `fields`, but with the checksum, the type, the code and `bytes4to7` of `common`
abbrev pub with_common : EtherparseIcmpv6Header → EtherparseIcmpv6Header → EtherparseIcmpv6Header
with_common common fields = record fields {
  checksum = common.checksum;
  type_u8 = common.type_u8;
  code_u8 = common.code_u8;
  bytes4to7 = common.bytes4to7;
}

-- the result of reading a message: its header, and the place and length of its payload
abbrev pub packet_of : List ℕ → EtherparseIcmpv6Packet
packet_of bytes = record {
  header = record (message_fields (icmpv6.icmp_type_of bytes)) {
    checksum = be_number bytes 2 2;
    type_u8 = slice_index bytes 0;
    code_u8 = slice_index bytes 1;
    bytes4to7 = slice_range bytes 4 8;
  };
  payload_offset = 8;
  payload_len = length bytes - 8;
}

-- the status of the test of a message
abbrev pub TestTells : List ℕ → List ℕ → List ℕ → ℕ → Type 0
TestTells source destination bytes status = Tells (refusal bytes) false (IsValidIcmpv6 source destination bytes) status

-- ---- writing

-- the identifier and the sequence number of an echo message
abbrev pub echo_in : EtherparseIcmpv6Header → IcmpEchoHeader
echo_in fields = record { id = fields.id; seq = fields.sequence_number }

-- the flag with this bit is set
abbrev pub is_set : ℕ → ℕ → Bool
is_set flags bit = not (bit_and flags bit == 0)

-- the fields of a router advertisement
abbrev pub router_in : EtherparseIcmpv6Header → RouterAdvertisementHeader
router_in fields = record {
  cur_hop_limit = fields.cur_hop_limit;
  managed_address_config = is_set fields.flags numbers.icmpv6_router_managed;
  other_config = is_set fields.flags numbers.icmpv6_router_other_config;
  router_lifetime = fields.router_lifetime;
}

-- the flags of a neighbor advertisement
abbrev pub neighbor_in : EtherparseIcmpv6Header → NeighborAdvertisementHeader
neighbor_in fields = record {
  router = is_set fields.flags numbers.icmpv6_neighbor_router;
  solicited = is_set fields.flags numbers.icmpv6_neighbor_solicited;
  override_flag = is_set fields.flags numbers.icmpv6_neighbor_override;
}

-- the message with these fields; it is `None` if no kind has this number, or if the kind does not have this code
abbrev pub message_in : EtherparseIcmpv6Header → Option Icmpv6Type
message_in fields =
    if fields.kind == numbers.icmpv6_kind_unknown then Some (Unknown fields.type_u8 fields.code_u8 fields.bytes4to7)
    else if fields.kind == numbers.icmpv6_kind_destination_unreachable
    then option_map DestinationUnreachable (slice_get icmpv6.dest_unreachable_codes fields.code_u8)
    else if fields.kind == numbers.icmpv6_kind_packet_too_big then Some (PacketTooBig fields.mtu)
    else if fields.kind == numbers.icmpv6_kind_time_exceeded
    then option_map TimeExceeded (slice_get icmpv6.time_exceeded_codes fields.code_u8)
    else if fields.kind == numbers.icmpv6_kind_parameter_problem
    then option_map (λ code. ParameterProblem (record { code = code; pointer = fields.pointer }))
    (slice_get icmpv6.parameter_problem_codes fields.code_u8)
    else if fields.kind == numbers.icmpv6_kind_echo_request then Some (EchoRequest (echo_in fields))
    else if fields.kind == numbers.icmpv6_kind_echo_reply then Some (EchoReply (echo_in fields))
    else if fields.kind == numbers.icmpv6_kind_router_solicitation then Some RouterSolicitation
    else if fields.kind == numbers.icmpv6_kind_router_advertisement then Some (RouterAdvertisement (router_in fields))
    else if fields.kind == numbers.icmpv6_kind_neighbor_solicitation then Some NeighborSolicitation
    else if fields.kind == numbers.icmpv6_kind_neighbor_advertisement then Some (NeighborAdvertisement (neighbor_in fields))
    else if fields.kind == numbers.icmpv6_kind_redirect then Some Redirect
    else None

-- the bytes of a header with this message and checksum; if there is no message, the list is empty
abbrev pub header_bytes : ℕ → Option Icmpv6Type → List ℕ
header_bytes checksum None = []
header_bytes checksum (Some message) = icmpv6.wire (record { icmp_type = message; checksum = checksum })

-- the refusal to write a header: no message has these fields, or the buffer is too small
abbrev pub write_refusal : ℕ → Option Icmpv6Type → ℕ → Option EtherparseError
write_refusal checksum None room = Some (of_status numbers.status_message_unknown)
write_refusal checksum (Some message) room = no_room (length (header_bytes checksum (Some message))) room

-- ---- reading a written header

-- The header that is read after this message was written. The checksum and the message come from `found`, which the library in Rattle
-- reads. The type, the code and the four bytes after the checksum are as they were written.
abbrev pub header_read : Icmpv6Type → Icmpv6Header → EtherparseIcmpv6Header
header_read message found = record (message_fields found.icmp_type) {
  checksum = found.checksum;
  type_u8 = (icmpv6.written message).type;
  code_u8 = (icmpv6.written message).code;
  bytes4to7 = take 4 (icmpv6.written message).fields;
}

-- the call in C does what the library in Rattle does: it refuses the packet with this error, or it reads this header and this payload
abbrev pub IsReadAs : Icmpv6Type → List ℕ → Result (Icmpv6Header × List ℕ) LenError → Type 0
IsReadAs message packet (Err error) = refusal packet ≡ Some (of_len error)
IsReadAs message packet (Ok found) = (refusal packet ≡ None) × (packet_of packet ≡ record {
  header = header_read message found.0;
  payload_offset = length packet - length found.1;
  payload_len = length found.1;
})

-- Assume that the packet begins with the header of this message and checksum. Then the same message is read, with two exceptions. An
-- `Unknown` message whose type and code have a variant is read as that variant. A packet that is too long is refused.
abbrev pub ReadsBack : ℕ → Option Icmpv6Type → List ℕ → Type 0
ReadsBack checksum None packet = ⊤
ReadsBack checksum (Some message) packet =
    IsReadAs message packet (reads_back message checksum (drop (length (header_bytes checksum (Some message))) packet))

-- The header that was read (`read`) is the header that was written (`fields`). The checksum is equal. If the written kind is not 0, the
-- kind and its fields are equal. If the written kind is 0, the type, the code and the four bytes after the checksum are equal.
pub record IsSameHeader (fields read : EtherparseIcmpv6Header) : Type 0 where
  pub checksum : read.checksum ≡ fields.checksum
  pub kind : fields.kind ≢ numbers.icmpv6_kind_unknown → read.kind ≡ fields.kind
  pub message : fields.kind ≢ numbers.icmpv6_kind_unknown → message_in read ≡ message_in fields
  pub raw : fields.kind ≡ numbers.icmpv6_kind_unknown
      → (read.type_u8 ≡ fields.type_u8) × (read.code_u8 ≡ fields.code_u8) × (read.bytes4to7 ≡ fields.bytes4to7)
