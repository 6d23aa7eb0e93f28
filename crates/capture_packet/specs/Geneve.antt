-- The header of Geneve (RFC 8926, section 3.4).
use Rattle.std.specs.Prelude.{ℕ, ◌+◌, ◌*◌, Bool, ◌&&◌, nat_le, nat_lt, List, length, slice_index}
use Rattle.net_base.specs.Bytes.{be_number}

-- the UDP port of Geneve, as the destination (RFC 8926, section 3.3)
abbrev pub port : ℕ
port = 6081

-- The length of the header: eight bytes, and the options. Byte 0 contains the version in its two upper bits, and the length of the options
-- in its six lower bits, in units of four bytes. In a header of version 0, byte 0 is the length of the options.
abbrev pub header_len : List ℕ → ℕ
header_len header = 8 + slice_index header 0 * 4

-- The header is read. Its version is 0, so that byte 0 is below 64, and all its bytes are present, options included. The flags and the
-- reserved bits in bytes 1 and 7 are ignored.
abbrev pub is_read : List ℕ → Bool
is_read header = nat_le 8 (length header) && (nat_lt (slice_index header 0) 64 && nat_le (header_len header) (length header))

-- the protocol type, an ether type: bytes 2 and 3
abbrev pub protocol_type : List ℕ → ℕ
protocol_type header = be_number header 2 2

-- the virtual network identifier: bytes 4 to 6
abbrev pub network_id : List ℕ → ℕ
network_id header = be_number header 4 3
