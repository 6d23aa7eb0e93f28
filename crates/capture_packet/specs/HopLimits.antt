-- The hop limit of an IP packet.
use Rattle.std.specs.Prelude.{ℕ, List, Option}
use Rattle.std.specs.Option.{option_map}
use Rattle.ip_part.specs.FixedHeaders as fixed
use Rattle.ip_part.specs.FixedHeaders.{Fixed, fixed_header}
use Rattle.capture_packet.specs.declared.hop_limit.HopLimit.{HopLimit}
use Rattle.capture_packet.specs.declared.hop_limit.HopLimit.TheVariants.{Ipv4, Ipv6}

-- the time to live, byte 8 of a version 4 header (RFC 791, section 3.1), or the hop limit, byte 7 of a version 6 header (RFC 8200, section
-- 3)
abbrev pub hop_limit_in : Fixed → HopLimit
hop_limit_in (fixed.Ipv4 source destination time_to_live protocol) = Ipv4 time_to_live
hop_limit_in (fixed.Ipv6 source destination hop_limit next_header) = Ipv6 hop_limit

-- the hop limit of the IP header at the front of a packet, if its fixed part is complete: 20 bytes of version 4, or 40 bytes of version 6
abbrev pub hop_limit_of : List ℕ → Option HopLimit
hop_limit_of packet = option_map hop_limit_in (fixed_header packet)
