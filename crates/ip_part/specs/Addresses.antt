-- The addresses of an IP packet as bytes. Where the bytes are stored does not matter.
use Rattle.std.specs.Prelude.{ℕ, Bool, true, false, List, Option}
use Rattle.std.specs.Option.{option_map}
use Rattle.std.specs.Borrow.{Bor}
use Rattle.ip_part.specs.declared.ip_addresses.IpAddresses.{IpAddresses}
use Rattle.ip_part.specs.declared.ip_addresses.IpAddresses.TheVariants as borrowed

-- The source and the final destination over IPv4 (RFC 791, section 3.1) or IPv6 (RFC 8200, section 3). Over IPv6 the final destination may
-- be unknown.
pub data Addresses : Type 0 where
  Ipv4 : List ℕ → List ℕ → Addresses
  Ipv6 : List ℕ → Option (List ℕ) → Addresses

-- the value of a borrowed address, if there is one
abbrev pub address_by_value : Option (Bor (List ℕ)) → Option (List ℕ)
address_by_value address = option_map (λ address. address.now) address

-- the values of the borrowed addresses
abbrev pub by_value : IpAddresses → Addresses
by_value (borrowed.Ipv4 source destination) = Ipv4 source.now destination.now
by_value (borrowed.Ipv6 source destination) = Ipv6 source.now (address_by_value destination)

-- whether these are addresses of IPv6
abbrev pub is_ipv6 : Addresses → Bool
is_ipv6 (Ipv4 source destination) = false
is_ipv6 (Ipv6 source destination) = true
