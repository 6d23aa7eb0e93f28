-- The translation of an address by the mapping that is found for it, and back.
use Rattle.std.proofs.Common.{◌≡◌, inl, inr, ℕ, List, [], Option, Some, None, ap, sym, ◌∙◌, refl}
use Rattle.std.proofs.lemmas.Option.{none-some}
use Rattle.std.specs.Int.{from_be_bytes, w32, w128}
use Rattle.ip_translation.specs.AddressMappings.{longest_ipv4, longest_ipv6}
use Rattle.ip_translation.specs.AddressTables.{ComesBack, embedded, embedded_by, extracted, extracted_by, mapping_of_ipv4, mapping_of_ipv6, refused_by, to_ipv4_refusal, to_ipv6_refusal}
use Rattle.ip_translation.specs.Prefixes as prefixes
use Rattle.ip_translation.specs.declared.address_mapping.AddressMapping.{AddressMapping}
use Rattle.ip_translation.specs.declared.address_table.AddressTable.{AddressTable}
use Rattle.ip_translation.specs.declared.prefix64.Prefix64.{Prefix64}

-- a table of no mappings, with this prefix
abbrev pub without_mappings : Prefix64 → AddressTable
without_mappings prefix = record { mappings = record { ref_ptr = (0, 0); now = [] }; prefix = prefix }

-- ---- to IPv6

-- the mapping of an IPv4 address with this number
found_ipv4 : (table : AddressTable) (ipv4 : List ℕ) (number : ℕ) (found : Option AddressMapping) → number ≡ from_be_bytes w32 ipv4
    → longest_ipv4 table.mappings.now number ≡ found → mapping_of_ipv4 table ipv4 ≡ found
found_ipv4 table ipv4 number found is finds = ap (longest_ipv4 table.mappings.now) (sym is) ∙ finds

pub embedded_is : (table : AddressTable) (ipv4 : List ℕ) (number : ℕ) (found : Option AddressMapping) → number ≡ from_be_bytes w32 ipv4
    → longest_ipv4 table.mappings.now number ≡ found → embedded table ipv4 ≡ embedded_by found table.prefix ipv4
unfolding embedded
embedded_is table ipv4 number found is finds =
    ap (λ found. embedded_by found table.prefix ipv4) (found_ipv4 table ipv4 number found is finds)

pub to_ipv6_refusal_is : (table : AddressTable) (ipv4 : List ℕ) (number : ℕ) (found : Option AddressMapping)
    → number ≡ from_be_bytes w32 ipv4 → longest_ipv4 table.mappings.now number ≡ found
    → to_ipv6_refusal table ipv4 ≡ refused_by found (prefixes.to_ipv6_refusal table.prefix ipv4)
unfolding to_ipv6_refusal
to_ipv6_refusal_is table ipv4 number found is finds =
    ap (λ found. refused_by found (prefixes.to_ipv6_refusal table.prefix ipv4)) (found_ipv4 table ipv4 number found is finds)

-- ---- to IPv4

-- the mapping of an IPv6 address with this number
found_ipv6 : (table : AddressTable) (address : List ℕ) (number : ℕ) (found : Option AddressMapping) → number ≡ from_be_bytes w128 address
    → longest_ipv6 table.mappings.now number ≡ found → mapping_of_ipv6 table address ≡ found
found_ipv6 table address number found is finds = ap (longest_ipv6 table.mappings.now) (sym is) ∙ finds

pub extracted_is : (table : AddressTable) (address : List ℕ) (number : ℕ) (found : Option AddressMapping)
    → number ≡ from_be_bytes w128 address → longest_ipv6 table.mappings.now number ≡ found → extracted table address ≡ extracted_by found table.prefix address
unfolding extracted
extracted_is table address number found is finds =
    ap (λ found. extracted_by found table.prefix address) (found_ipv6 table address number found is finds)

pub to_ipv4_refusal_is : (table : AddressTable) (address : List ℕ) (number : ℕ) (found : Option AddressMapping)
    → number ≡ from_be_bytes w128 address → longest_ipv6 table.mappings.now number ≡ found
    → to_ipv4_refusal table address ≡ refused_by found (prefixes.to_ipv4_refusal table.prefix address)
unfolding to_ipv4_refusal
to_ipv4_refusal_is table address number found is finds =
    ap (λ found. refused_by found (prefixes.to_ipv4_refusal table.prefix address)) (found_ipv6 table address number found is finds)

-- ---- without mappings

-- a mapping is not found among no mappings
pub some_ipv4 : (table : AddressTable) (number : ℕ) (mapping : AddressMapping) → longest_ipv4 table.mappings.now number ≡ Some mapping
    → table.mappings.now ≡ [] → ⊥
some_ipv4 table number mapping finds empty =
    none-some mapping (ap (λ mappings. longest_ipv4 mappings number) (sym empty) ∙ finds)

pub embedded_without : (table : AddressTable) (ipv4 : List ℕ) → table.mappings.now ≡ []
    → embedded table ipv4 ≡ prefixes.embedded table.prefix ipv4
embedded_without table ipv4 empty =
    embedded_is table ipv4 (from_be_bytes w32 ipv4) None refl (ap (λ mappings. longest_ipv4 mappings (from_be_bytes w32 ipv4)) empty)

pub extracted_without : (table : AddressTable) (address : List ℕ) → table.mappings.now ≡ []
    → extracted table address ≡ prefixes.extracted table.prefix address
extracted_without table address empty =
    extracted_is table address (from_be_bytes w128 address) None refl
    (ap (λ mappings. longest_ipv6 mappings (from_be_bytes w128 address)) empty)

pub to_ipv4_refusal_without : (table : AddressTable) (address : List ℕ) → table.mappings.now ≡ []
    → to_ipv4_refusal table address ≡ prefixes.to_ipv4_refusal table.prefix address
to_ipv4_refusal_without table address empty =
    to_ipv4_refusal_is table address (from_be_bytes w128 address) None refl
    (ap (λ mappings. longest_ipv6 mappings (from_be_bytes w128 address)) empty)

-- ---- there and back

-- An address that comes back. If there are no mappings, the prefix extracts the address that it embedded.
pub back_again : (table : AddressTable) (ipv4 address : List ℕ) → address ≡ embedded table ipv4
    → (table.mappings.now ≡ [] → prefixes.extracted table.prefix (prefixes.embedded table.prefix ipv4) ≡ ipv4)
    → ComesBack table ipv4 → extracted table address ≡ ipv4
back_again table ipv4 address is by_prefix (inl empty) =
    extracted_without table address empty
    ∙ ap (prefixes.extracted table.prefix) (is ∙ embedded_without table ipv4 empty) ∙ by_prefix empty
back_again table ipv4 address is by_prefix (inr back) = ap (extracted table) is ∙ back
