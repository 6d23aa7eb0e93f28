-- The TCP header (RFC 9293, section 3.1): which bytes are accepted, how the header is read and written, and what its checksum covers.
--
--   byte  0, 1         2, 3              4 to 7           8 to 11
--         source port  destination port  sequence number  acknowledgment number
--
--   byte  12                         13     14, 15  16, 17    18, 19          20 up to data offset * 4
--         data offset | unused | NS  flags  window  checksum  urgent pointer  options
use Rattle.std.specs.Prelude.{◌≡◌, ℕ, ◌+◌, ◌-◌, ◌*◌, ◌/◌, ◌==◌, nat_lt, if◌then◌else◌, Bool, false, List, [], ◌∷◌, ◌++◌, length, drop, slice_index, slice_range, replicate, bit_and, Option, None}
use Rattle.std.specs.Int.{from_bool, to_be_bytes, w16, w32}
use Rattle.net_base.specs.Bytes.{HeaderLayout, be_number, flag, masked}
use Rattle.net_base.specs.IpNumbers.{tcp_number}
use Rattle.net_base.specs.PseudoHeader.{ipv4_pseudo_header, ipv6_pseudo_header, max_len_over_ipv4, max_len_over_ipv6}
use Rattle.net_base.specs.Refusals.{first_of, refused_if, wrong_length}
use Rattle.net_base.specs.StoredChecksum.{tcp_checksum_place, with_checksum}
use Rattle.net_base.specs.declared.err.layer.Layer.TheVariants as layers
use Rattle.net_base.specs.declared.err.tcp.header_error.HeaderError.TheVariants.{DataOffsetTooSmall}
use Rattle.net_base.specs.declared.err.tcp.header_slice_error.HeaderSliceError.{HeaderSliceError}
use Rattle.net_base.specs.declared.err.tcp.header_slice_error.HeaderSliceError.TheVariants.{Len, Content}
use Rattle.word_sum.specs.Checksum.{total}
use Rattle.tcp_part.specs.declared.tcp_header.TcpHeader.{TcpHeader}

-- ---- the length of a header

-- the least data offset: the words of four bytes that every header has, without options
abbrev pub min_data_offset : ℕ
min_data_offset = 5

-- the greatest data offset, a number of four bits
abbrev pub max_data_offset : ℕ
max_data_offset = 15

-- the least length of a header, in bytes
abbrev pub min_header_len : ℕ
min_header_len = 20

-- the greatest length of a header, in bytes
abbrev pub max_header_len : ℕ
max_header_len = 60

-- the length of the header in words of four bytes: the high four bits of byte 12
abbrev pub data_offset : List ℕ → ℕ
data_offset bytes = slice_index bytes 12 / 16

-- The length of the header in these bytes, and the masks of its meaningful bits. In byte 12 only the data offset and NS are meaningful. In
-- any other byte of the header all bits are meaningful.
abbrev pub layout_of : List ℕ → HeaderLayout
layout_of bytes = record {
  header_len = data_offset bytes * 4;
  masks = replicate 12 0xff ++ (0xf1 ∷ replicate (data_offset bytes * 4 - 13) 0xff);
}

-- ---- accepted bytes

-- The error for these bytes, if there is one. It is the first that applies: fewer than 20 bytes; a data offset below 5; fewer bytes than
-- the data offset states.
abbrev pub refusal : List ℕ → Option HeaderSliceError
refusal bytes = first_of (
    refused_if (nat_lt (length bytes) min_header_len) (Len (wrong_length layers.TcpHeader min_header_len (length bytes)))
    ∷ refused_if (nat_lt (data_offset bytes) min_data_offset) (Content (DataOffsetTooSmall (data_offset bytes)))
    ∷ refused_if (nat_lt (length bytes) ((layout_of bytes).header_len))
    (Len (wrong_length layers.TcpHeader ((layout_of bytes).header_len) (length bytes)))
    ∷ [])

-- ---- flags

-- the place of a flag: its byte, and the value of its bit there
pub record FlagBit : Type 0 where
  pub place : ℕ
  pub bit : ℕ

-- the flag NS (RFC 3540, section 9)
abbrev pub ns_flag : FlagBit
ns_flag = record { place = 12; bit = 0x01 }

-- the flag FIN (RFC 9293, section 3.1)
abbrev pub fin_flag : FlagBit
fin_flag = record { place = 13; bit = 0x01 }

-- the flag SYN (RFC 9293, section 3.1)
abbrev pub syn_flag : FlagBit
syn_flag = record { place = 13; bit = 0x02 }

-- the flag RST (RFC 9293, section 3.1)
abbrev pub rst_flag : FlagBit
rst_flag = record { place = 13; bit = 0x04 }

-- the flag PSH (RFC 9293, section 3.1)
abbrev pub psh_flag : FlagBit
psh_flag = record { place = 13; bit = 0x08 }

-- the flag ACK (RFC 9293, section 3.1)
abbrev pub ack_flag : FlagBit
ack_flag = record { place = 13; bit = 0x10 }

-- the flag URG (RFC 9293, section 3.1)
abbrev pub urg_flag : FlagBit
urg_flag = record { place = 13; bit = 0x20 }

-- the flag ECE (RFC 3168, section 6.1)
abbrev pub ece_flag : FlagBit
ece_flag = record { place = 13; bit = 0x40 }

-- the flag CWR (RFC 3168, section 6.1)
abbrev pub cwr_flag : FlagBit
cwr_flag = record { place = 13; bit = 0x80 }

-- whether a flag is set in these bytes
abbrev pub flag_of : List ℕ → FlagBit → Bool
flag_of bytes at = flag bytes at.place at.bit

-- what a flag adds to the byte at this place: its bit, if the flag is set and is in this byte
abbrev pub added_at : ℕ → FlagBit → Bool → ℕ
added_at place at set = if at.place == place then from_bool set * at.bit else 0

-- what all flags of a header add to the byte at this place
abbrev pub flags_at : ℕ → TcpHeader → ℕ
flags_at place header =
    added_at place ns_flag header.ns
    + added_at place fin_flag header.fin + added_at place syn_flag header.syn
    + added_at place rst_flag header.rst + added_at place psh_flag header.psh
    + added_at place ack_flag header.ack + added_at place urg_flag header.urg
    + added_at place ece_flag header.ece + added_at place cwr_flag header.cwr

-- ---- reading

-- the options: the bytes of the header after its first five words
abbrev pub options_of : List ℕ → List ℕ
options_of bytes = slice_range bytes min_header_len ((layout_of bytes).header_len)

-- the header in these bytes, with each field read at its place
abbrev pub header_of : List ℕ → TcpHeader
header_of bytes = record {
  source_port = be_number bytes 0 2;
  destination_port = be_number bytes 2 2;
  sequence_number = be_number bytes 4 4;
  acknowledgment_number = be_number bytes 8 4;
  ns = flag_of bytes ns_flag;
  fin = flag_of bytes fin_flag;
  syn = flag_of bytes syn_flag;
  rst = flag_of bytes rst_flag;
  psh = flag_of bytes psh_flag;
  ack = flag_of bytes ack_flag;
  urg = flag_of bytes urg_flag;
  ece = flag_of bytes ece_flag;
  cwr = flag_of bytes cwr_flag;
  window_size = be_number bytes 14 2;
  checksum = be_number bytes 16 2;
  urgent_pointer = be_number bytes 18 2;
  options = options_of bytes;
}

-- the bytes are accepted, and read as this header and this rest
pub record DecodesAs (bytes : List ℕ) (header : TcpHeader) (rest : List ℕ) : Type 0 where
  pub accepted : refusal bytes ≡ None
  pub fields : header ≡ header_of bytes
  pub after_header : rest ≡ drop ((layout_of bytes).header_len) bytes

-- these bytes with the meaningless bits of the header cleared; the bytes after the header are unchanged
abbrev pub canonical : List ℕ → List ℕ
canonical bytes = masked ((layout_of bytes).masks) bytes

-- the meaningless bits are zero; they are the three bits of byte 12 between the data offset and NS
abbrev pub UnusedBitsAreZero : List ℕ → Type 0
UnusedBitsAreZero bytes = bit_and (slice_index bytes 12) 0x0e ≡ 0

-- ---- writing

-- a header with these fields; all other numbers are 0, no flag is set, and there are no options
abbrev pub new_header : ℕ → ℕ → ℕ → ℕ → TcpHeader
new_header source_port destination_port sequence_number window_size = record {
  source_port = source_port;
  destination_port = destination_port;
  sequence_number = sequence_number;
  acknowledgment_number = 0;
  ns = false;
  fin = false;
  syn = false;
  rst = false;
  psh = false;
  ack = false;
  urg = false;
  ece = false;
  cwr = false;
  window_size = window_size;
  checksum = 0;
  urgent_pointer = 0;
  options = [];
}

-- the data offset of a written header: five words, and the words of the options
abbrev pub data_offset_of : TcpHeader → ℕ
data_offset_of header = min_data_offset + length header.options / 4

-- byte 12: the data offset in its high four bits, and the flag NS
abbrev pub offset_byte : TcpHeader → ℕ
offset_byte header = data_offset_of header * 16 + flags_at 12 header

-- byte 13: the other flags
abbrev pub flags_byte : TcpHeader → ℕ
flags_byte header = flags_at 13 header

-- the bytes of a header
abbrev pub wire : TcpHeader → List ℕ
wire header =
    to_be_bytes w16 header.source_port ++ to_be_bytes w16 header.destination_port
    ++ to_be_bytes w32 header.sequence_number ++ to_be_bytes w32 header.acknowledgment_number
    ++ (offset_byte header ∷ flags_byte header ∷ [])
    ++ to_be_bytes w16 header.window_size ++ to_be_bytes w16 header.checksum ++ to_be_bytes w16 header.urgent_pointer
    ++ header.options

-- ---- the checksum

-- the bytes of a header with zeros instead of its checksum
abbrev pub without_checksum : List ℕ → List ℕ
without_checksum header = with_checksum tcp_checksum_place header 0

-- the sum from which the checksum is computed: the pseudo header, the header with zeros instead of the checksum, and the payload
abbrev pub checksummed : List ℕ → List ℕ → List ℕ → ℕ
checksummed pseudo_header header payload = total pseudo_header + total (without_checksum header) + total payload

-- the sum from which the checksum over IPv4 is computed; the pseudo header contains the length of header and payload together (RFC 9293,
-- section 3.1)
abbrev pub checksummed_ipv4 : List ℕ → List ℕ → List ℕ → List ℕ → ℕ
checksummed_ipv4 source destination header payload =
    checksummed (ipv4_pseudo_header source destination tcp_number (length header + length payload)) header payload

-- the sum from which the checksum over IPv6 is computed; the pseudo header contains the length of header and payload together (RFC 8200,
-- section 8.1)
abbrev pub checksummed_ipv6 : List ℕ → List ℕ → List ℕ → List ℕ → ℕ
checksummed_ipv6 source destination header payload =
    checksummed (ipv6_pseudo_header source destination tcp_number (length header + length payload)) header payload

-- the length of the longest payload after this header over IPv4; the pseudo header counts header and payload in 16 bits (RFC 9293, section
-- 3.1)
abbrev pub max_payload_len_ipv4 : List ℕ → ℕ
max_payload_len_ipv4 header = max_len_over_ipv4 - length header

-- the length of the longest payload after this header over IPv6; the pseudo header counts header and payload in 32 bits (RFC 8200, section
-- 8.1)
abbrev pub max_payload_len_ipv6 : List ℕ → ℕ
max_payload_len_ipv6 header = max_len_over_ipv6 - length header
