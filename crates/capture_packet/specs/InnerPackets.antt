-- The IP packet at the front of the bytes in a tunnel.
use Rattle.std.specs.Prelude.{ℕ, ◌==◌, ◌&&◌, nat_le, if◌then◌else◌, List, length, Option, Some, None}
use Rattle.net_base.specs.IpHeaders.{version}

-- the length of the fixed part of an IP header: 20 bytes in version 4 (RFC 791, section 3.1), 40 bytes in version 6 (RFC 8200, section 3)
abbrev pub fixed_len : ℕ → ℕ
fixed_len number = if number == 4 then 20 else 40

-- these bytes, if they begin with the fixed part of an IP header of this version
abbrev pub packet_of_version : ℕ → List ℕ → Option (List ℕ)
packet_of_version number bytes =
    if nat_le (fixed_len number) (length bytes) && version bytes == number then Some bytes else None

-- These bytes, if they begin with an IP packet of this ether type. The ether type 0800 is IPv4 (RFC 2784, section 3), and 86DD is IPv6 (RFC
-- 7676, section 3.1).
abbrev pub packet_of_type : ℕ → List ℕ → Option (List ℕ)
packet_of_type ether_type bytes =
    if ether_type == 0x0800 then packet_of_version 4 bytes
    else if ether_type == 0x86DD then packet_of_version 6 bytes
    else None
