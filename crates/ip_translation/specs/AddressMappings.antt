-- Explicit mappings of addresses (RFC 7757, section 3).
--
-- A mapping consists of an IPv4 prefix and an IPv6 prefix. An address that begins with one of these prefixes is translated to an address that
-- begins with the other prefix. The bits after the prefix, the suffix, are kept. The IPv6 suffix may be longer than the IPv4 suffix. Then its
-- other bits are 0 in a translated address, and they are ignored if the address is translated to IPv4.
use Rattle.std.specs.Prelude.{ℕ, ◌≡◌, ◌≤◌, true, ◌+◌, ◌-◌, ◌*◌, ◌/◌, ◌%◌, ◌^◌, ◌==◌, Bool, ◌&&◌, not, if◌then◌else◌, List, [], ◌∷◌, nat_lt, Option, Some, None}
use Rattle.std.specs.Int.{from_be_bytes, w32, w128}
use Rattle.std.specs.List.{fold}
use Rattle.net_base.specs.Refusals.{first_of, refused_if}
use Rattle.ip_translation.specs.declared.address_mapping.AddressMapping.{AddressMapping}
use Rattle.ip_translation.specs.declared.address_mapping_error.AddressMappingError.{AddressMappingError}
use Rattle.ip_translation.specs.declared.address_mapping_error.AddressMappingError.TheVariants.{Ipv4Bits, Ipv4Len, Ipv6Bits, Ipv6Len, Suffix}

-- ---- mappings

-- the number of bits after an IPv4 prefix of this length
abbrev pub ipv4_suffix_len : ℕ → ℕ
ipv4_suffix_len len = 32 - len

-- the number of bits after an IPv6 prefix of this length
abbrev pub ipv6_suffix_len : ℕ → ℕ
ipv6_suffix_len len = 128 - len

-- Why two addresses and two lengths do not define a mapping: a length is too great, the IPv6 suffix is shorter than the IPv4 suffix (RFC
-- 7757, section 3), or a bit after a prefix is not 0.
abbrev pub mapping_refusal : List ℕ → ℕ → List ℕ → ℕ → Option AddressMappingError
mapping_refusal ipv4 ipv4_len ipv6 ipv6_len = first_of (
    refused_if (nat_lt 32 ipv4_len) (Ipv4Len ipv4_len)
    ∷ refused_if (nat_lt 128 ipv6_len) (Ipv6Len ipv6_len)
    ∷ refused_if (nat_lt (ipv6_suffix_len ipv6_len) (ipv4_suffix_len ipv4_len)) Suffix
    ∷ refused_if (not (from_be_bytes w32 ipv4 % 2 ^ ipv4_suffix_len ipv4_len == 0)) Ipv4Bits
    ∷ refused_if (not (from_be_bytes w128 ipv6 % 2 ^ ipv6_suffix_len ipv6_len == 0)) Ipv6Bits
    ∷ [])

-- how many bits longer the IPv6 suffix is than the IPv4 suffix
abbrev pub ignored_len : AddressMapping → ℕ
ignored_len mapping = ipv6_suffix_len mapping.ipv6_len - ipv4_suffix_len mapping.ipv4_len

-- the IPv4 address with this number begins with the IPv4 prefix of the mapping
abbrev pub is_ipv4_of : ℕ → AddressMapping → Bool
is_ipv4_of address mapping = address / 2 ^ ipv4_suffix_len mapping.ipv4_len == mapping.ipv4

-- the IPv6 address with this number begins with the IPv6 prefix of the mapping
abbrev pub is_ipv6_of : ℕ → AddressMapping → Bool
is_ipv6_of address mapping = address / 2 ^ ipv6_suffix_len mapping.ipv6_len == mapping.ipv6

-- the IPv6 address for an IPv4 address: the IPv6 prefix, the IPv4 suffix, and zeros (RFC 7757, section 3.3.1)
abbrev pub mapped_to_ipv6 : AddressMapping → ℕ → ℕ
mapped_to_ipv6 mapping address =
    (mapping.ipv6 * 2 ^ ipv4_suffix_len mapping.ipv4_len + address % 2 ^ ipv4_suffix_len mapping.ipv4_len) * 2 ^ ignored_len mapping

-- the IPv4 address for an IPv6 address: the IPv4 prefix, and as many bits after the IPv6 prefix as an IPv4 address has room for (RFC 7757,
-- section 3.3.2)
abbrev pub mapped_to_ipv4 : AddressMapping → ℕ → ℕ
mapped_to_ipv4 mapping address =
    mapping.ipv4 * 2 ^ ipv4_suffix_len mapping.ipv4_len + address / 2 ^ ignored_len mapping % 2 ^ ipv4_suffix_len mapping.ipv4_len

-- ---- the longest prefix

-- the length of the IPv4 prefix
abbrev pub ipv4_len : AddressMapping → ℕ
ipv4_len mapping = mapping.ipv4_len

-- the length of the IPv6 prefix
abbrev pub ipv6_len : AddressMapping → ℕ
ipv6_len mapping = mapping.ipv6_len

-- this mapping, if it applies, and if its prefix is longer than the prefix of the mapping that was found before
abbrev pub better_of : (AddressMapping → Bool) → (AddressMapping → ℕ) → Option AddressMapping → AddressMapping → Option AddressMapping
better_of applies len None mapping = if applies mapping then Some mapping else None
better_of applies len (Some found) mapping = if applies mapping && nat_lt (len found) (len mapping) then Some mapping else Some found

-- the mapping with the longest IPv4 prefix of those whose IPv4 prefix this address begins with; the first of them, if there are several
abbrev pub longest_ipv4 : List AddressMapping → ℕ → Option AddressMapping
longest_ipv4 mappings address = fold (better_of (is_ipv4_of address) ipv4_len) None mappings

-- the mapping with the longest IPv6 prefix of those whose IPv6 prefix this address begins with; the first of them, if there are several
abbrev pub longest_ipv6 : List AddressMapping → ℕ → Option AddressMapping
longest_ipv6 mappings address = fold (better_of (is_ipv6_of address) ipv6_len) None mappings

-- each of these mappings has a prefix of at most this length, or does not apply
abbrev pub HasNoLonger : (AddressMapping → Bool) → (AddressMapping → ℕ) → ℕ → List AddressMapping → Type 0
HasNoLonger applies len most [] = Unit {0}
HasNoLonger applies len most (mapping ∷ mappings) = (applies mapping ≡ true → len mapping ≤ most) × HasNoLonger applies len most mappings
