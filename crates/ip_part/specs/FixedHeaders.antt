-- The fixed part of an IP header: 20 bytes of version 4 (RFC 791, section 3.1), or 40 bytes of version 6 (RFC 8200, section 3).
use Rattle.std.specs.Prelude.{ℕ, ◌==◌, ◌&&◌, nat_le, if◌then◌else◌, List, length, slice_index, slice_range, Option, Some, None}
use Rattle.net_base.specs.IpHeaders.{version}
use Rattle.ip_part.specs.declared.fixed_part.FixedHeader.{FixedHeader}
use Rattle.ip_part.specs.declared.fixed_part.FixedHeader.TheVariants as borrowed

-- the source, the destination, the time to live or the hop limit, and the number of the protocol or of the next header
pub data Fixed : Type 0 where
  Ipv4 : List ℕ → List ℕ → ℕ → ℕ → Fixed
  Ipv6 : List ℕ → List ℕ → ℕ → ℕ → Fixed

-- the value of a fixed part; where its addresses are stored does not matter
abbrev pub fixed_by_value : FixedHeader → Fixed
fixed_by_value (borrowed.Ipv4 source destination time_to_live protocol) = Ipv4 source.now destination.now time_to_live protocol.0
fixed_by_value (borrowed.Ipv6 source destination hop_limit next_header) = Ipv6 source.now destination.now hop_limit next_header.0

-- the fields of an IPv4 header (RFC 791, section 3.1)
abbrev pub fixed_ipv4 : List ℕ → Fixed
fixed_ipv4 bytes = Ipv4 (slice_range bytes 12 16) (slice_range bytes 16 20) (slice_index bytes 8) (slice_index bytes 9)

-- the fields of an IPv6 header (RFC 8200, section 3)
abbrev pub fixed_ipv6 : List ℕ → Fixed
fixed_ipv6 bytes = Ipv6 (slice_range bytes 8 24) (slice_range bytes 24 40) (slice_index bytes 7) (slice_index bytes 6)

-- the fixed part of the IP header of a packet, if the packet contains all its bytes
abbrev pub fixed_header : List ℕ → Option Fixed
fixed_header packet =
    if version packet == 4 && nat_le 20 (length packet) then Some (fixed_ipv4 packet)
    else if version packet == 6 && nat_le 40 (length packet) then Some (fixed_ipv6 packet)
    else None
