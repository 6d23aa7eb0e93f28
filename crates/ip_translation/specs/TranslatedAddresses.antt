-- The addresses in the translated header of a packet.
use Rattle.std.specs.Prelude.{◌≡◌, ℕ, List, slice_range}
use Rattle.ip_translation.specs.AddressTables.{embedded, extracted}
use Rattle.ip_translation.specs.HeadersToIpv4 as from_ipv6
use Rattle.ip_translation.specs.HeadersToIpv6 as from_ipv4
use Rattle.ip_translation.specs.declared.prefixes.Prefixes.{Prefixes}

-- The IPv6 addresses at the front of these bytes are the translated addresses of this IPv4 header.
pub record HasIpv6Addresses (prefixes : Prefixes) (header front : List ℕ) : Type 0 where
  pub source : slice_range front 8 24 ≡ embedded prefixes.source (from_ipv4.source header)
  pub destination : slice_range front 24 40 ≡ embedded prefixes.destination (from_ipv4.destination header)

-- The IPv4 addresses at the front of these bytes are the translated addresses of this IPv6 header.
pub record HasIpv4Addresses (prefixes : Prefixes) (header front : List ℕ) : Type 0 where
  pub source : slice_range front 12 16 ≡ extracted prefixes.source (from_ipv6.source header)
  pub destination : slice_range front 16 20 ≡ extracted prefixes.destination (from_ipv6.destination header)
