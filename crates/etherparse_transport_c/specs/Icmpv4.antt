-- ICMPv4 in the interface to C.
use Rattle.std.specs.Prelude.{◌≡◌, ◌≢◌, ⊤, ℕ, false, ◌-◌, ◌==◌, if◌then◌else◌, List, [], ◌∷◌, ◌++◌, length, drop, slice_get, slice_index, slice_range, replicate, take, Option, Some, None, Result, Ok, Err}
use Rattle.std.specs.Int.{to_be_bytes, w16}
use Rattle.std.specs.Option.{option_map}
use Rattle.net_base.specs.Bytes.{be_number}
use Rattle.net_base.specs.declared.err.len_error.LenError.{LenError}
use Rattle.icmp_part.specs.Icmpv4Format as icmpv4
use Rattle.icmp_part.specs.Icmpv4ReadsBack.{reads_back}
use Rattle.icmp_part.specs.Icmpv4Validity.{IsValidIcmpv4}
use Rattle.icmp_part.specs.MessageFormat.{listed}
use Rattle.icmp_part.specs.declared.icmp_echo_header.IcmpEchoHeader.{IcmpEchoHeader}
use Rattle.icmp_part.specs.declared.icmpv4.timestamp_message.TimestampMessage.{TimestampMessage}
use Rattle.icmp_part.specs.declared.icmpv4_header.Icmpv4Header.{Icmpv4Header}
use Rattle.icmp_part.specs.declared.icmpv4_type.Icmpv4Type.{Icmpv4Type}
use Rattle.icmp_part.specs.declared.icmpv4_type.Icmpv4Type.TheVariants.{Unknown, EchoReply, DestinationUnreachable, Redirect, EchoRequest, TimeExceeded, ParameterProblem, TimestampRequest, TimestampReply}
use Rattle.etherparse_transport_c.specs.Errors.{Tells, no_room, of_len, of_status}
use Rattle.etherparse_transport_c.specs.Numbers as numbers
use Rattle.etherparse_transport_c.specs.declared.error.EtherparseError.{EtherparseError}
use Rattle.etherparse_transport_c.specs.declared.icmpv4.EtherparseIcmpv4Header.{EtherparseIcmpv4Header}
use Rattle.etherparse_transport_c.specs.declared.icmpv4.EtherparseIcmpv4Packet.{EtherparseIcmpv4Packet}

-- a header in which every field is 0
abbrev pub nothing : EtherparseIcmpv4Header
nothing = record {
  kind = numbers.icmpv4_kind_unknown;
  originate_timestamp = 0;
  receive_timestamp = 0;
  transmit_timestamp = 0;
  checksum = 0;
  id = 0;
  sequence_number = 0;
  next_hop_mtu = 0;
  type_u8 = 0;
  code_u8 = 0;
  pointer = 0;
  bytes4to7 = replicate 4 0;
}

-- the fields of an echo message or reply
abbrev pub echo_fields : ℕ → IcmpEchoHeader → EtherparseIcmpv4Header
echo_fields kind echo = record nothing { kind = kind; id = echo.id; sequence_number = echo.seq }

-- the fields of a timestamp message or reply
abbrev pub timestamp_fields : ℕ → TimestampMessage → EtherparseIcmpv4Header
timestamp_fields kind message = record nothing {
  kind = kind;
  id = message.id;
  sequence_number = message.seq;
  originate_timestamp = message.originate_timestamp;
  receive_timestamp = message.receive_timestamp;
  transmit_timestamp = message.transmit_timestamp;
}

-- A header with the number of the kind, and with the fields that only some kinds have. `packet_of` sets the type, the code, the checksum
-- and `bytes4to7`.
abbrev pub message_fields : Icmpv4Type → EtherparseIcmpv4Header
message_fields (Unknown type code fields) = record nothing { kind = numbers.icmpv4_kind_unknown }
message_fields (EchoReply echo) = echo_fields numbers.icmpv4_kind_echo_reply echo
message_fields (DestinationUnreachable header) =
    record nothing { kind = numbers.icmpv4_kind_destination_unreachable; next_hop_mtu = icmpv4.next_hop_mtu header }
message_fields (Redirect header) = record nothing { kind = numbers.icmpv4_kind_redirect }
message_fields (EchoRequest echo) = echo_fields numbers.icmpv4_kind_echo_request echo
message_fields (TimeExceeded code) = record nothing { kind = numbers.icmpv4_kind_time_exceeded }
message_fields (ParameterProblem header) = record nothing { kind = numbers.icmpv4_kind_parameter_problem; pointer = icmpv4.pointer header }
message_fields (TimestampRequest message) = timestamp_fields numbers.icmpv4_kind_timestamp_request message
message_fields (TimestampReply message) = timestamp_fields numbers.icmpv4_kind_timestamp_reply message

-- the refusal of a message
abbrev pub refusal : List ℕ → Option EtherparseError
refusal bytes = option_map of_len (icmpv4.refusal bytes)

-- the header `fields`, but with the checksum, the type, the code and `bytes4to7` of `common`
abbrev pub with_common : EtherparseIcmpv4Header → EtherparseIcmpv4Header → EtherparseIcmpv4Header
with_common common fields = record fields {
  checksum = common.checksum;
  type_u8 = common.type_u8;
  code_u8 = common.code_u8;
  bytes4to7 = common.bytes4to7;
}

-- the result of reading a message: its header, and the place and length of its payload
abbrev pub packet_of : List ℕ → EtherparseIcmpv4Packet
packet_of bytes = record {
  header = record (message_fields (icmpv4.icmp_type_of bytes)) {
    checksum = be_number bytes 2 2;
    type_u8 = slice_index bytes 0;
    code_u8 = slice_index bytes 1;
    bytes4to7 = slice_range bytes 4 8;
  };
  payload_offset = (icmpv4.layout_of bytes).header_len;
  payload_len = length bytes - (icmpv4.layout_of bytes).header_len;
}

-- the status of the test of a message
abbrev pub TestTells : List ℕ → ℕ → Type 0
TestTells bytes status = Tells (refusal bytes) false (IsValidIcmpv4 bytes) status

-- ---- writing

-- the first 8 bytes of a header with this MTU of the next hop; all other bytes are 0
abbrev pub with_next_hop_mtu : ℕ → List ℕ
with_next_hop_mtu mtu = replicate 6 0 ++ to_be_bytes w16 mtu

-- the first 5 bytes of a header with this pointer; all other bytes are 0
abbrev pub with_pointer : ℕ → List ℕ
with_pointer pointer = replicate 4 0 ++ (pointer ∷ [])

-- the identifier and the sequence number of an echo message
abbrev pub echo_in : EtherparseIcmpv4Header → IcmpEchoHeader
echo_in fields = record { id = fields.id; seq = fields.sequence_number }

-- the identifier, the sequence number and the three times of a timestamp message
abbrev pub timestamp_in : EtherparseIcmpv4Header → TimestampMessage
timestamp_in fields = record {
  id = fields.id;
  seq = fields.sequence_number;
  originate_timestamp = fields.originate_timestamp;
  receive_timestamp = fields.receive_timestamp;
  transmit_timestamp = fields.transmit_timestamp;
}

-- the message with these fields; it is `None` if no kind has this number, or if the kind does not have this code
abbrev pub message_in : EtherparseIcmpv4Header → Option Icmpv4Type
message_in fields =
    if fields.kind == numbers.icmpv4_kind_unknown then Some (Unknown fields.type_u8 fields.code_u8 fields.bytes4to7)
    else if fields.kind == numbers.icmpv4_kind_echo_reply then Some (EchoReply (echo_in fields))
    else if fields.kind == numbers.icmpv4_kind_destination_unreachable
    then option_map DestinationUnreachable (listed icmpv4.dest_unreachable_formats fields.code_u8
    (with_next_hop_mtu fields.next_hop_mtu))
    else if fields.kind == numbers.icmpv4_kind_redirect
    then option_map (λ code. Redirect (record { code = code; gateway_internet_address = fields.bytes4to7 }))
    (slice_get icmpv4.redirect_codes fields.code_u8)
    else if fields.kind == numbers.icmpv4_kind_echo_request then Some (EchoRequest (echo_in fields))
    else if fields.kind == numbers.icmpv4_kind_time_exceeded
    then option_map TimeExceeded (slice_get icmpv4.time_exceeded_codes fields.code_u8)
    else if fields.kind == numbers.icmpv4_kind_parameter_problem
    then option_map ParameterProblem (listed icmpv4.parameter_problem_formats fields.code_u8 (with_pointer fields.pointer))
    else if fields.kind == numbers.icmpv4_kind_timestamp_request then Some (TimestampRequest (timestamp_in fields))
    else if fields.kind == numbers.icmpv4_kind_timestamp_reply then Some (TimestampReply (timestamp_in fields))
    else None

-- the bytes of a header with this message and checksum; if there is no message, the list is empty
abbrev pub header_bytes : ℕ → Option Icmpv4Type → List ℕ
header_bytes checksum None = []
header_bytes checksum (Some message) = icmpv4.wire (record { icmp_type = message; checksum = checksum })

-- the refusal to write a header: no message has these fields, or the buffer is too small
abbrev pub write_refusal : ℕ → Option Icmpv4Type → ℕ → Option EtherparseError
write_refusal checksum None room = Some (of_status numbers.status_message_unknown)
write_refusal checksum (Some message) room = no_room (length (header_bytes checksum (Some message))) room

-- ---- reading a written header

-- The header that is read after this message was written. The checksum and the message come from `found`, which the library in Rattle
-- reads. The type, the code and the four bytes after the checksum are as they were written.
abbrev pub header_read : Icmpv4Type → Icmpv4Header → EtherparseIcmpv4Header
header_read message found = record (message_fields found.icmp_type) {
  checksum = found.checksum;
  type_u8 = (icmpv4.written message).type;
  code_u8 = (icmpv4.written message).code;
  bytes4to7 = take 4 (icmpv4.written message).fields;
}

-- the call in C does what the library in Rattle does: it refuses the packet with this error, or it reads this header and this payload
abbrev pub IsReadAs : Icmpv4Type → List ℕ → Result (Icmpv4Header × List ℕ) LenError → Type 0
IsReadAs message packet (Err error) = refusal packet ≡ Some (of_len error)
IsReadAs message packet (Ok found) = (refusal packet ≡ None) × (packet_of packet ≡ record {
  header = header_read message found.0;
  payload_offset = length packet - length found.1;
  payload_len = length found.1;
})

-- Assume that the packet begins with the header of this message and checksum. Then the same message is read, with two exceptions. An
-- `Unknown` message whose type and code have a variant is read as that variant. A timestamp message that is not 20 bytes long is refused.
abbrev pub ReadsBack : ℕ → Option Icmpv4Type → List ℕ → Type 0
ReadsBack checksum None packet = ⊤
ReadsBack checksum (Some message) packet =
    IsReadAs message packet (reads_back message checksum (drop (length (header_bytes checksum (Some message))) packet))

-- The header that was read (`read`) is the header that was written (`fields`). The checksum is equal. If the written kind is not 0, the
-- kind and its fields are equal. If the written kind is 0, the type, the code and the four bytes after the checksum are equal.
pub record IsSameHeader (fields read : EtherparseIcmpv4Header) : Type 0 where
  pub checksum : read.checksum ≡ fields.checksum
  pub kind : fields.kind ≢ numbers.icmpv4_kind_unknown → read.kind ≡ fields.kind
  pub message : fields.kind ≢ numbers.icmpv4_kind_unknown → message_in read ≡ message_in fields
  pub raw : fields.kind ≡ numbers.icmpv4_kind_unknown
      → (read.type_u8 ≡ fields.type_u8) × (read.code_u8 ≡ fields.code_u8) × (read.bytes4to7 ≡ fields.bytes4to7)
