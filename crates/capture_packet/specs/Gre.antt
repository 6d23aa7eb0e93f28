-- The header of GRE, Generic Routing Encapsulation (RFC 2784, section 2; RFC 2890, section 2). Bit 0 is the most significant bit of byte 0.
use Rattle.std.specs.Prelude.{ℕ, ◌+◌, ◌==◌, ◌&&◌, Bool, nat_le, bit_and, if◌then◌else◌, List, length}
use Rattle.net_base.specs.Bytes.{be_number}

-- bytes 0 and 1: a bit for each optional field, reserved bits, and the version
abbrev pub first_bits : List ℕ → ℕ
first_bits header = be_number header 0 2

-- The header is read. Its first four bytes are present. The version in bits 13 to 15 is 0 (RFC 2784, section 2.3.1). The reserved bits 1, 4
-- and 5 are 0 (RFC 2784, section 2.3). Bits 2 and 3 announce optional fields (RFC 2890). Bits 6 to 12 are ignored.
abbrev pub is_read : List ℕ → Bool
is_read header = nat_le 4 (length header) && bit_and (first_bits header) 0x4C07 == 0

-- the length of an optional field: four bytes if its bit is set, otherwise 0
abbrev pub field_len : ℕ → ℕ → ℕ
field_len bits bit = if bit_and bits bit == 0 then 0 else 4

-- The length of a header with these first bits. Four bytes are always present. Bit 0 adds the checksum and two reserved bytes (RFC 2784,
-- section 2.2). Bit 2 adds the key (RFC 2890, section 2.1). Bit 3 adds the sequence number (RFC 2890, section 2.2).
abbrev pub len_with : ℕ → ℕ
len_with bits = 4 + field_len bits 0x8000 + field_len bits 0x2000 + field_len bits 0x1000

-- the length of the header
abbrev pub header_len : List ℕ → ℕ
header_len header = len_with (first_bits header)

-- the protocol type, an ether type: bytes 2 and 3
abbrev pub protocol_type : List ℕ → ℕ
protocol_type header = be_number header 2 2
