-- Whether a table can give two addresses the same new address. This is decided from the table only, without a capture.
use Rattle.std.specs.Prelude.{◌≡◌, ◌⊎◌, ◌==◌, ◌&&◌, ◌||◌, ℕ, Bool, List, Some, bit_and, bit_or, false, not}
use Rattle.std.specs.List.{list_any}
use Rattle.translator.specs.Replacements.{new_address}
use Rattle.translator.specs.declared.network.Network.{Network}
use Rattle.translator.specs.declared.replacements.NetworkReplacement.{NetworkReplacement}
use Rattle.translator.specs.declared.table.Table.{Table}

-- ---- replacements

-- the new network is smaller than the old one, so that several addresses of the old network get the same new address
abbrev pub is_narrower : NetworkReplacement → Bool
is_narrower replacement = not (replacement.old.host_mask == replacement.new.host_mask)

-- the two networks are the same network
abbrev pub is_same_network : Network → Network → Bool
is_same_network one other = one.first == other.first && one.host_mask == other.host_mask

-- the two networks have an address in common: their first addresses agree in every bit that is a host bit of neither network
abbrev pub overlap : Network → Network → Bool
overlap one other = bit_or one.first (bit_or one.host_mask other.host_mask) == bit_or other.first (bit_or one.host_mask other.host_mask)

-- two replacements that differ have new networks with an address in common
abbrev pub meet : NetworkReplacement → NetworkReplacement → Bool
meet one other = not (is_same_network one.old other.old && is_same_network one.new other.new) && overlap one.new other.new

-- a replacement of the first list meets a replacement of the second list
abbrev pub any_meet : List NetworkReplacement → List NetworkReplacement → Bool
any_meet list others = list_any (λ one. list_any (meet one) others) list

-- Two addresses of one IP version can become one address. `sources` are the replacements of source addresses, and `destinations` those of
-- destination addresses. A new network is smaller than its old network, or two replacements that differ have overlapping new networks.
abbrev pub can_merge : List NetworkReplacement → List NetworkReplacement → Bool
can_merge sources destinations =
    list_any is_narrower sources || (list_any is_narrower destinations
    || (any_meet sources sources || (any_meet sources destinations || any_meet destinations destinations)))

-- two addresses of the same IP version can become one address by this table
abbrev pub merges_addresses : Table → Bool
merges_addresses table =
    can_merge table.source.ipv4.items table.destination.ipv4.items || can_merge table.source.ipv6.items table.destination.ipv6.items

-- ---- what is excluded

-- an address of the new network has bits other than 0 after its prefix; the text of a replacement with such a network is refused
abbrev pub has_host_bits : NetworkReplacement → Bool
has_host_bits replacement = not (bit_and replacement.new.first replacement.new.host_mask == 0)

-- this address is replaced by the new address, as a source address or as a destination address
abbrev pub IsReplaced : List NetworkReplacement → List NetworkReplacement → ℕ → ℕ → Type 0
IsReplaced sources destinations address new =
    (new_address sources address ≡ Some new) ⊎ (new_address destinations address ≡ Some new)

-- addresses that differ get new addresses that differ
abbrev pub AreApart : List NetworkReplacement → List NetworkReplacement → Type 0
AreApart sources destinations =
    list_any has_host_bits sources ≡ false → list_any has_host_bits destinations ≡ false → (address other new : ℕ)
    → IsReplaced sources destinations address new → IsReplaced sources destinations other new → address ≡ other

-- addresses of either IP version that differ get new addresses that differ
pub record KeepsApart (table : Table) : Type 0 where
  pub ipv4 : AreApart table.source.ipv4.items table.destination.ipv4.items
  pub ipv6 : AreApart table.source.ipv6.items table.destination.ipv6.items
