-- The table of replacements, and the new addresses and ports that it gives.
use Rattle.std.specs.Prelude.{ℕ, ◌-◌, ◌^◌, ◌≡◌, ◌==◌, ◌&&◌, Bool, length, min, bit_and, bit_or, List, [], Option, Some, None}
use Rattle.std.specs.Int.{from_be_bytes, to_be_bytes, w32, w128}
use Rattle.std.specs.List.{find}
use Rattle.std.specs.Option.{option_map}
use Rattle.net_base.specs.declared.ipv4_header.Ipv4Header.{Ipv4Header}
use Rattle.net_base.specs.declared.ipv6_header.Ipv6Header.{Ipv6Header}
use Rattle.etherparse_transport.specs.declared.ip.ipv4_translation.Ipv4Translation.{Ipv4Translation}
use Rattle.etherparse_transport.specs.declared.ip.ipv6_translation.Ipv6Translation.{Ipv6Translation}
use Rattle.translator.specs.declared.network.Network.{Network}
use Rattle.translator.specs.declared.replacements.NetworkReplacement.{NetworkReplacement}
use Rattle.translator.specs.declared.replacements.PortReplacement.{PortReplacement}
use Rattle.translator.specs.declared.replacements.Replacements.{Replacements}
use Rattle.translator.specs.declared.table.Table.{Table}

-- ---- networks

-- the number of 128 bits whose last `host_bits` bits are 1 and whose other bits are 0; all bits are 1 if `host_bits` is above 128
abbrev pub host_mask : ℕ → ℕ
host_mask host_bits = min (2 ^ host_bits) (2 ^ 128) - 1

-- the network of the addresses that differ from `address` only in the last `host_bits` bits, which are 0 in `address`
pub record HasHostBits (address host_bits : ℕ) (network : Network) : Type 0 where
  pub first : network.first ≡ address
  pub mask : network.host_mask ≡ host_mask host_bits
  pub none_set : bit_and address network.host_mask ≡ 0

-- the network contains this address: the bits before the host bits are the same
abbrev pub is_in : Network → ℕ → Bool
is_in network address = bit_or address network.host_mask == bit_or network.first network.host_mask

-- the address in this network that has the host bits of the given address
abbrev pub in_network : Network → ℕ → ℕ
in_network network address = bit_or network.first (bit_and address network.host_mask)

-- ---- first matches

-- the new address that is given by the first replacement whose old network contains this address
abbrev pub new_address : List NetworkReplacement → ℕ → Option ℕ
new_address replacements address =
    option_map (λ replacement. in_network replacement.new address) (find (λ replacement. is_in replacement.old address) replacements)

-- the new port that is given by the first replacement whose old port is this port
abbrev pub new_port : List PortReplacement → ℕ → Option ℕ
new_port replacements port = option_map (λ replacement. replacement.new) (find (λ replacement. replacement.old == port) replacements)

-- the address that replaces this IPv4 address, or `None` if no replacement applies
abbrev pub new_ipv4 : Replacements → List ℕ → Option (List ℕ)
new_ipv4 replacements address = option_map (to_be_bytes w32) (new_address replacements.ipv4.items (from_be_bytes w32 address))

-- the address that replaces this IPv6 address, or `None` if no replacement applies
abbrev pub new_ipv6 : Replacements → List ℕ → Option (List ℕ)
new_ipv6 replacements address = option_map (to_be_bytes w128) (new_address replacements.ipv6.items (from_be_bytes w128 address))

-- ---- the table

-- each list is empty
pub record HasNone (replacements : Replacements) : Type 0 where
  pub ipv4 : replacements.ipv4.items ≡ []
  pub ipv6 : replacements.ipv6.items ≡ []
  pub ports : replacements.ports.items ≡ []

-- the lists contain no replacement
abbrev pub is_empty : Replacements → Bool
is_empty replacements =
    length replacements.ipv4.items == 0 && (length replacements.ipv6.items == 0 && length replacements.ports.items == 0)

-- the table contains no replacement
abbrev pub is_empty_table : Table → Bool
is_empty_table table = is_empty table.source && is_empty table.destination

-- the new source port, if the packet has ports
abbrev pub new_source_port : Table → Option (ℕ × ℕ) → Option ℕ
new_source_port table None = None
new_source_port table (Some ports) = new_port table.source.ports.items ports.0

-- the new destination port, if the packet has ports
abbrev pub new_destination_port : Table → Option (ℕ × ℕ) → Option ℕ
new_destination_port table None = None
new_destination_port table (Some ports) = new_port table.destination.ports.items ports.1

-- the new source port and the new destination port
abbrev pub new_ports : Table → Option (ℕ × ℕ) → Option ℕ × Option ℕ
new_ports table ports = (new_source_port table ports, new_destination_port table ports)

-- what the table replaces in an IPv4 packet with these addresses and ports
abbrev pub ipv4_translation : Table → Ipv4Header → Option (ℕ × ℕ) → Ipv4Translation
ipv4_translation table addresses ports = record {
  source = new_ipv4 table.source addresses.source;
  destination = new_ipv4 table.destination addresses.destination;
  source_port = new_source_port table ports;
  destination_port = new_destination_port table ports;
}

-- what the table replaces in an IPv6 packet with these addresses and ports
abbrev pub ipv6_translation : Table → Ipv6Header → Option (ℕ × ℕ) → Ipv6Translation
ipv6_translation table addresses ports = record {
  source = new_ipv6 table.source addresses.source;
  destination = new_ipv6 table.destination addresses.destination;
  source_port = new_source_port table ports;
  destination_port = new_destination_port table ports;
}

-- the source port and the destination port, exchanged
abbrev pub exchanged : Option (ℕ × ℕ) → Option (ℕ × ℕ)
exchanged None = None
exchanged (Some ports) = Some (ports.1, ports.0)
