-- Addresses that are translated by an explicit mapping, or by a prefix if no mapping applies (RFC 7757, section 3.3).
use Rattle.std.specs.Prelude.{ℕ, ◌≡◌, ◌⊎◌, List, [], Option, Some, None}
use Rattle.std.specs.Int.{from_be_bytes, to_be_bytes, w32, w128}
use Rattle.ip_translation.specs.AddressMappings.{longest_ipv4, longest_ipv6, mapped_to_ipv4, mapped_to_ipv6}
use Rattle.ip_translation.specs.Prefixes as prefixes
use Rattle.ip_translation.specs.declared.address_error.AddressError.{AddressError}
use Rattle.ip_translation.specs.declared.address_mapping.AddressMapping.{AddressMapping}
use Rattle.ip_translation.specs.declared.address_table.AddressTable.{AddressTable}
use Rattle.ip_translation.specs.declared.prefix64.Prefix64.{Prefix64}

-- ---- an address whose mapping is known

-- the IPv6 address by this mapping, or by the prefix if there is none
abbrev pub embedded_by : Option AddressMapping → Prefix64 → List ℕ → List ℕ
embedded_by None prefix ipv4 = prefixes.embedded prefix ipv4
embedded_by (Some mapping) prefix ipv4 = to_be_bytes w128 (mapped_to_ipv6 mapping (from_be_bytes w32 ipv4))

-- the IPv4 address by this mapping, or by the prefix if there is none
abbrev pub extracted_by : Option AddressMapping → Prefix64 → List ℕ → List ℕ
extracted_by None prefix address = prefixes.extracted prefix address
extracted_by (Some mapping) prefix address = to_be_bytes w32 (mapped_to_ipv4 mapping (from_be_bytes w128 address))

-- the refusal by the prefix; an address that has a mapping is not refused
abbrev pub refused_by : Option AddressMapping → Option AddressError → Option AddressError
refused_by None refusal = refusal
refused_by (Some mapping) refusal = None

-- ---- an address

-- the mapping of an IPv4 address: of those whose IPv4 prefix it begins with, the one with the longest IPv4 prefix
abbrev pub mapping_of_ipv4 : AddressTable → List ℕ → Option AddressMapping
mapping_of_ipv4 table ipv4 = longest_ipv4 table.mappings.now (from_be_bytes w32 ipv4)

-- the mapping of an IPv6 address: of those whose IPv6 prefix it begins with, the one with the longest IPv6 prefix
abbrev pub mapping_of_ipv6 : AddressTable → List ℕ → Option AddressMapping
mapping_of_ipv6 table address = longest_ipv6 table.mappings.now (from_be_bytes w128 address)

-- the IPv6 address for an IPv4 address
unfoldable pub embedded : AddressTable → List ℕ → List ℕ
embedded table ipv4 = embedded_by (mapping_of_ipv4 table ipv4) table.prefix ipv4

-- the IPv4 address for an IPv6 address
unfoldable pub extracted : AddressTable → List ℕ → List ℕ
extracted table address = extracted_by (mapping_of_ipv6 table address) table.prefix address

-- why an IPv4 address is not translated to IPv6
unfoldable pub to_ipv6_refusal : AddressTable → List ℕ → Option AddressError
to_ipv6_refusal table ipv4 = refused_by (mapping_of_ipv4 table ipv4) (prefixes.to_ipv6_refusal table.prefix ipv4)

-- why an IPv6 address is not translated to IPv4
unfoldable pub to_ipv4_refusal : AddressTable → List ℕ → Option AddressError
to_ipv4_refusal table address = refused_by (mapping_of_ipv6 table address) (prefixes.to_ipv4_refusal table.prefix address)

-- ---- there and back

-- An IPv4 address that is translated to IPv6 and back is the same address. This is always true if there are no mappings.
abbrev pub ComesBack : AddressTable → List ℕ → Type 0
ComesBack table ipv4 = (table.mappings.now ≡ []) ⊎ (extracted table (embedded table ipv4) ≡ ipv4)

-- An IPv6 address that is translated to IPv4 and back is the same address. If there are no mappings, this is true for an address that begins
-- with the prefix, and whose suffix, which the way to IPv4 leaves out, consists of zeros.
abbrev pub Ipv6ComesBack : AddressTable → List ℕ → Type 0
Ipv6ComesBack table address =
    ((table.mappings.now ≡ []) × (prefixes.with_zero_suffix table.prefix address ≡ address))
    ⊎ (embedded table (extracted table address) ≡ address)
