-- The header of VXLAN (RFC 7348, section 5).
use Rattle.std.specs.Prelude.{ℕ, Bool, ◌&&◌, nat_le, List, length}
use Rattle.net_base.specs.Bytes.{be_number, flag}

-- the UDP port of VXLAN, as the destination (RFC 7348, section 8)
abbrev pub port : ℕ
port = 4789

-- the length of the header
abbrev pub header_len : ℕ
header_len = 8

-- The header is read. Its eight bytes are present, and its flag I, 0x08 in byte 0, states that the network identifier is valid. A receiver
-- ignores the other flags and the reserved bytes.
abbrev pub is_read : List ℕ → Bool
is_read header = nat_le header_len (length header) && flag header 0 0x08

-- the VXLAN network identifier: bytes 4 to 6
abbrev pub network_id : List ℕ → ℕ
network_id header = be_number header 4 3
