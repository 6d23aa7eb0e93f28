-- TCP in the interface to C.
use Rattle.std.specs.Prelude.{◌≡◌, ◌≤◌, ℕ, Bool, false, not, ◌+◌, ◌-◌, ◌*◌, ◌==◌, nat_lt, bit_and, List, [], ◌∷◌, ◌++◌, length, take, drop, replicate, Option, None, Some, Ok, Err}
use Rattle.std.specs.Int.{from_bool}
use Rattle.std.specs.Option.{option_map}
use Rattle.net_base.specs.PseudoHeader.{max_len_over_ipv4, max_len_over_ipv6}
use Rattle.net_base.specs.Refusals.{refused_if, too_big}
use Rattle.net_base.specs.declared.err.value_type.ValueType.{ValueType}
use Rattle.net_base.specs.declared.err.value_type.ValueType.TheVariants.{TcpPayloadLengthIpv4, TcpPayloadLengthIpv6}
use Rattle.tcp_part.specs.TcpFormat as tcp
use Rattle.tcp_part.specs.TcpOptions.{pad, too_long}
use Rattle.tcp_part.specs.TcpOptionsReading.{Item, ReadsNext}
use Rattle.tcp_part.specs.TcpRawOptions.{RawItem, RawOption, ReadsRawNext}
use Rattle.tcp_part.specs.TcpValidity.{IsValidTcpIpv4, IsValidTcpIpv6}
use Rattle.tcp_part.specs.declared.tcp_header.TcpHeader.{TcpHeader}
use Rattle.tcp_part.specs.declared.tcp_option_element.TcpOptionElement.{TcpOptionElement}
use Rattle.tcp_part.specs.declared.tcp_option_element.TcpOptionElement.TheVariants.{Noop, MaximumSegmentSize, WindowScale, SelectiveAcknowledgementPermitted, SelectiveAcknowledgement, Timestamp}
use Rattle.etherparse_transport_c.specs.Errors.{Tells, at_front, first_refusal, no_room, of_flags, of_header_slice, of_option, of_options, of_raw_option, of_status, of_value}
use Rattle.etherparse_transport_c.specs.Numbers as numbers
use Rattle.etherparse_transport_c.specs.declared.error.EtherparseError.{EtherparseError}
use Rattle.etherparse_transport_c.specs.declared.tcp.EtherparseTcpHeader.{EtherparseTcpHeader}
use Rattle.etherparse_transport_c.specs.declared.tcp.EtherparseTcpPacket.{EtherparseTcpPacket}
use Rattle.etherparse_transport_c.specs.declared.tcp_option.EtherparseTcpOption.{EtherparseTcpOption}
use Rattle.etherparse_transport_c.specs.declared.tcp_option.EtherparseTcpRawOption.{EtherparseTcpRawOption}

-- ---- headers

-- the nine flags as one number: NS is bit 0x100, and the other flags have the same bits as in byte 13 of the header
abbrev pub flags_of : TcpHeader → ℕ
flags_of header = from_bool header.ns * 256 + tcp.flags_byte header

-- the fields of a header
abbrev pub fields_of : TcpHeader → EtherparseTcpHeader
fields_of header = record {
  sequence_number = header.sequence_number;
  acknowledgment_number = header.acknowledgment_number;
  source_port = header.source_port;
  destination_port = header.destination_port;
  flags = flags_of header;
  window_size = header.window_size;
  checksum = header.checksum;
  urgent_pointer = header.urgent_pointer;
}

-- the flag with this bit is set
abbrev pub is_set : ℕ → ℕ → Bool
is_set flags bit = not (bit_and flags bit == 0)

-- the header with these fields and options
abbrev pub header_in : EtherparseTcpHeader → List ℕ → TcpHeader
header_in fields options = record {
  source_port = fields.source_port;
  destination_port = fields.destination_port;
  sequence_number = fields.sequence_number;
  acknowledgment_number = fields.acknowledgment_number;
  ns = is_set fields.flags numbers.tcp_ns;
  fin = is_set fields.flags numbers.tcp_fin;
  syn = is_set fields.flags numbers.tcp_syn;
  rst = is_set fields.flags numbers.tcp_rst;
  psh = is_set fields.flags numbers.tcp_psh;
  ack = is_set fields.flags numbers.tcp_ack;
  urg = is_set fields.flags numbers.tcp_urg;
  ece = is_set fields.flags numbers.tcp_ece;
  cwr = is_set fields.flags numbers.tcp_cwr;
  window_size = fields.window_size;
  checksum = fields.checksum;
  urgent_pointer = fields.urgent_pointer;
  options = pad options;
}

-- the refusal of a segment
abbrev pub refusal : List ℕ → Option EtherparseError
refusal bytes = option_map of_header_slice (tcp.refusal bytes)

-- the result of reading a segment: its header, and the places and lengths of its options and its payload
abbrev pub packet_of : List ℕ → EtherparseTcpPacket
packet_of bytes = record {
  header = fields_of (tcp.header_of bytes);
  options_offset = 20;
  options_len = (tcp.layout_of bytes).header_len - 20;
  payload_offset = (tcp.layout_of bytes).header_len;
  payload_len = length bytes - (tcp.layout_of bytes).header_len;
}

-- the first refusal that applies: the options have more than 40 bytes, or the flags are above 0x1ff
abbrev pub fields_refusal : EtherparseTcpHeader → List ℕ → Option EtherparseError
fields_refusal fields options =
    first_refusal (option_map of_options (too_long (length options)))
    (refused_if (nat_lt numbers.tcp_flags fields.flags) (of_flags fields.flags))

-- the refusal to write a header: its options or flags are refused, or the buffer is too small
abbrev pub write_refusal : EtherparseTcpHeader → List ℕ → ℕ → Option EtherparseError
write_refusal fields options room =
    first_refusal (fields_refusal fields options) (no_room (length (tcp.wire (header_in fields options))) room)

-- the refusal to store a header in a segment: the segment is refused, or the flags are refused
abbrev pub store_refusal : EtherparseTcpHeader → List ℕ → Option EtherparseError
store_refusal fields bytes = first_refusal (refusal bytes) (fields_refusal fields (tcp.options_of bytes))

-- the segment with these fields in its header; its options and the bytes after the header are unchanged
abbrev pub with_fields : EtherparseTcpHeader → List ℕ → List ℕ
with_fields fields bytes = at_front (tcp.wire (header_in fields (tcp.options_of bytes))) bytes

-- ---- checksums

-- the header of accepted bytes
abbrev pub header_bytes : List ℕ → List ℕ
header_bytes bytes = take ((tcp.layout_of bytes).header_len) bytes

-- the payload of accepted bytes
abbrev pub payload_bytes : List ℕ → List ℕ
payload_bytes bytes = drop ((tcp.layout_of bytes).header_len) bytes

-- the refusal to compute or test a checksum: the segment is refused, or it is too long for the length field of the pseudo header
abbrev pub checksum_refusal : ValueType → ℕ → List ℕ → Option EtherparseError
checksum_refusal value_type limit bytes = first_refusal (refusal bytes)
    (option_map of_value (too_big value_type (limit - length (header_bytes bytes)) (length (payload_bytes bytes))))

-- the status of the test of a segment over IPv4
abbrev pub TestTellsIpv4 : List ℕ → List ℕ → List ℕ → ℕ → Type 0
TestTellsIpv4 source destination bytes status =
    Tells (checksum_refusal TcpPayloadLengthIpv4 max_len_over_ipv4 bytes) false (IsValidTcpIpv4 source destination bytes) status

-- the status of the test of a segment over IPv6
abbrev pub TestTellsIpv6 : List ℕ → List ℕ → List ℕ → ℕ → Type 0
TestTellsIpv6 source destination bytes status =
    Tells (checksum_refusal TcpPayloadLengthIpv6 max_len_over_ipv6 bytes) false (IsValidTcpIpv6 source destination bytes) status

-- ---- options

-- the two edges of a block, or two zeros if the block is absent
abbrev pub edges : Option (ℕ × ℕ) → List ℕ
edges None = 0 ∷ 0 ∷ []
edges (Some block) = block.0 ∷ block.1 ∷ []

-- the edges of some blocks, one block after the other
abbrev pub all_edges : List (Option (ℕ × ℕ)) → List ℕ
all_edges [] = []
all_edges (block ∷ more) = edges block ++ all_edges more

-- the number of edges of the blocks that are present
abbrev pub edge_count : List (Option (ℕ × ℕ)) → ℕ
edge_count [] = 0
edge_count (None ∷ more) = edge_count more
edge_count (Some block ∷ more) = 2 + edge_count more

-- the option with the kind and the values of an element
abbrev pub option_of : TcpOptionElement → EtherparseTcpOption
option_of Noop = record { kind = numbers.tcp_option_noop; value_count = 0; values = replicate 8 0 }
option_of (MaximumSegmentSize size) =
    record { kind = numbers.tcp_option_maximum_segment_size; value_count = 1; values = size ∷ replicate 7 0 }
option_of (WindowScale shift) = record { kind = numbers.tcp_option_window_scale; value_count = 1; values = shift ∷ replicate 7 0 }
option_of SelectiveAcknowledgementPermitted = record { kind = numbers.tcp_option_sack_permitted; value_count = 0; values = replicate 8 0 }
option_of (SelectiveAcknowledgement first more) =
    record { kind = numbers.tcp_option_sack; value_count = 2 + edge_count more; values = first.0 ∷ first.1 ∷ all_edges more }
option_of (Timestamp value echo) = record { kind = numbers.tcp_option_timestamp; value_count = 2; values = value ∷ echo ∷ replicate 6 0 }

-- the status of a call that read this item, or `OPTIONS_END` if no option is left
abbrev pub item_status : Option Item → ℕ
item_status None = numbers.status_options_end
item_status (Some (Ok element)) = numbers.status_ok
item_status (Some (Err error)) = (of_option error).status

-- the option after a call that read this item; if an error was read or no option is left, the option is unchanged
abbrev pub item_option : Option Item → EtherparseTcpOption → EtherparseTcpOption
item_option (Some (Ok element)) before = option_of element
item_option (Some (Err error)) before = before
item_option None before = before

-- the error after a call that read this item; if an element was read, the error is unchanged
abbrev pub item_error : Option Item → EtherparseError → EtherparseError
item_error (Some (Err error)) before = of_option error
item_error (Some (Ok element)) before = before
item_error None before = of_status numbers.status_options_end

-- A call read the option at the place `from`, and moved the place to `to`. The item is what `next` of the library in Rattle returns for the
-- bytes that begin at `from`. The item determines the status, the option and the error.
pub record ReadsFrom (options : List ℕ) (from to status : ℕ) (option option_before : EtherparseTcpOption) (error error_before : EtherparseError) : Type 0 where
  pub item : Option Item
  pub within : to ≤ length options
  pub reads : ReadsNext (drop from options) item (drop to options)
  pub has_status : status ≡ item_status item
  pub has_option : option ≡ item_option item option_before
  pub has_error : error ≡ item_error item error_before

-- ---- options of any kind

-- the option in the form of the C struct; its value ends at the place `to`
abbrev pub raw_option_of : RawOption → ℕ → EtherparseTcpRawOption
raw_option_of option to =
    record { kind = option.kind; value_offset = to - length option.value; value_len = length option.value }

-- the status of a call that read this item, or `OPTIONS_END` if no option is left
abbrev pub raw_item_status : Option RawItem → ℕ
raw_item_status None = numbers.status_options_end
raw_item_status (Some (Ok option)) = numbers.status_ok
raw_item_status (Some (Err error)) = (of_raw_option error).status

-- the option after a call that read this item; if an error was read or no option is left, the option is unchanged
abbrev pub raw_item_option : Option RawItem → ℕ → EtherparseTcpRawOption → EtherparseTcpRawOption
raw_item_option (Some (Ok option)) to before = raw_option_of option to
raw_item_option (Some (Err error)) to before = before
raw_item_option None to before = before

-- the error after a call that read this item; if an option was read, the error is unchanged
abbrev pub raw_item_error : Option RawItem → EtherparseError → EtherparseError
raw_item_error (Some (Err error)) before = of_raw_option error
raw_item_error (Some (Ok option)) before = before
raw_item_error None before = of_status numbers.status_options_end

-- A call read the option of any kind at the place `from`, and moved the place to `to`. The item is what `next` of the library in Rattle
-- returns for the bytes that begin at `from`. The item determines the status, the option and the error.
pub record ReadsRawFrom (options : List ℕ) (from to status : ℕ) (option option_before : EtherparseTcpRawOption) (error error_before : EtherparseError) : Type 0 where
  pub item : Option RawItem
  pub within : to ≤ length options
  pub reads : ReadsRawNext (drop from options) item (drop to options)
  pub has_status : status ≡ raw_item_status item
  pub has_option : option ≡ raw_item_option item to option_before
  pub has_error : error ≡ raw_item_error item error_before
