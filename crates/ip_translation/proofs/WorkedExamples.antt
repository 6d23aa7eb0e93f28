-- Worked examples of the definitions, so that a wrong definition fails before any code does.
use Rattle.std.proofs.Common.{◌≡◌, true, false, List, ℕ, [], ◌∷◌, Some, None, refl}
use Rattle.ip_part.specs.Options.{options_within}
use Rattle.word_sum.specs.Checksum.{folded}
use Rattle.ip_translation.specs.AddressTables as tables
use Rattle.ip_translation.specs.Prefixes.{embedded, extracted, is_embedded, is_not_global, prefix_address, prefix_refusal, to_ipv4_refusal, to_ipv6_refusal, well_known_octets, with_zero_suffix}
use Rattle.ip_translation.specs.declared.address_error.AddressError.TheVariants.{NotEmbedded, NotGlobal}
use Rattle.ip_translation.specs.declared.prefix64.Prefix64.{Prefix64}
use Rattle.ip_translation.specs.declared.prefix64.Prefix64.TheVariants.{Bits32, Bits40, Bits48, Bits56, Bits64, Bits96}
use Rattle.ip_translation.specs.HeadersToIpv6.{addresses_refusal, header_refusal, translated_header}
use Rattle.ip_translation.specs.declared.prefix64_error.Prefix64Error.TheVariants.{Len, ReservedOctet, SuffixBits}
use Rattle.ip_translation.specs.declared.prefixes.Prefixes.{Prefixes}
use Rattle.ip_translation.specs.declared.translation_error.TranslationError.TheVariants.{Destination, HeaderChecksum, IllegalDestination}
use Rattle.ip_translation.proofs.AddressTableLemmas.{without_mappings}

-- ---- the rows of RFC 6052, section 2.4, for 192.0.2.33

test_net : List ℕ
test_net = 192 ∷ 0 ∷ 2 ∷ 33 ∷ []

-- the prefix 2001:db8::/32, and the address 2001:db8:c000:221::
row_32 : embedded (Bits32 (0x20 ∷ 0x01 ∷ 0x0d ∷ 0xb8 ∷ [])) test_net
    ≡ 0x20 ∷ 0x01 ∷ 0x0d ∷ 0xb8 ∷ 0xc0 ∷ 0x00 ∷ 0x02 ∷ 0x21 ∷ 0 ∷ 0 ∷ 0 ∷ 0 ∷ 0 ∷ 0 ∷ 0 ∷ 0 ∷ []
unfolding test_net
row_32 = refl

-- the prefix 2001:db8:100::/40, and the address 2001:db8:1c0:2:21::
row_40 : embedded (Bits40 (0x20 ∷ 0x01 ∷ 0x0d ∷ 0xb8 ∷ 0x01 ∷ [])) test_net
    ≡ 0x20 ∷ 0x01 ∷ 0x0d ∷ 0xb8 ∷ 0x01 ∷ 0xc0 ∷ 0x00 ∷ 0x02 ∷ 0x00 ∷ 0x21 ∷ 0 ∷ 0 ∷ 0 ∷ 0 ∷ 0 ∷ 0 ∷ []
unfolding test_net
row_40 = refl

-- the prefix 2001:db8:122::/48, and the address 2001:db8:122:c000:2:2100::
row_48 : embedded (Bits48 (0x20 ∷ 0x01 ∷ 0x0d ∷ 0xb8 ∷ 0x01 ∷ 0x22 ∷ [])) test_net
    ≡ 0x20 ∷ 0x01 ∷ 0x0d ∷ 0xb8 ∷ 0x01 ∷ 0x22 ∷ 0xc0 ∷ 0x00 ∷ 0x00 ∷ 0x02 ∷ 0x21 ∷ 0 ∷ 0 ∷ 0 ∷ 0 ∷ 0 ∷ []
unfolding test_net
row_48 = refl

-- the prefix 2001:db8:122:300::/56, and the address 2001:db8:122:3c0:0:221::
row_56 : embedded (Bits56 (0x20 ∷ 0x01 ∷ 0x0d ∷ 0xb8 ∷ 0x01 ∷ 0x22 ∷ 0x03 ∷ [])) test_net
    ≡ 0x20 ∷ 0x01 ∷ 0x0d ∷ 0xb8 ∷ 0x01 ∷ 0x22 ∷ 0x03 ∷ 0xc0 ∷ 0x00 ∷ 0x00 ∷ 0x02 ∷ 0x21 ∷ 0 ∷ 0 ∷ 0 ∷ 0 ∷ []
unfolding test_net
row_56 = refl

-- the prefix 2001:db8:122:344::/64, and the address 2001:db8:122:344:c0:2:2100::
row_64 : embedded (Bits64 (0x20 ∷ 0x01 ∷ 0x0d ∷ 0xb8 ∷ 0x01 ∷ 0x22 ∷ 0x03 ∷ 0x44 ∷ [])) test_net
    ≡ 0x20 ∷ 0x01 ∷ 0x0d ∷ 0xb8 ∷ 0x01 ∷ 0x22 ∷ 0x03 ∷ 0x44 ∷ 0x00 ∷ 0xc0 ∷ 0x00 ∷ 0x02 ∷ 0x21 ∷ 0 ∷ 0 ∷ 0 ∷ []
unfolding test_net
row_64 = refl

-- the prefix 2001:db8:122:344::/96, and the address 2001:db8:122:344::192.0.2.33
row_96 : embedded (Bits96 (0x20 ∷ 0x01 ∷ 0x0d ∷ 0xb8 ∷ 0x01 ∷ 0x22 ∷ 0x03 ∷ 0x44 ∷ 0 ∷ 0 ∷ 0 ∷ [])) test_net
    ≡ 0x20 ∷ 0x01 ∷ 0x0d ∷ 0xb8 ∷ 0x01 ∷ 0x22 ∷ 0x03 ∷ 0x44 ∷ 0 ∷ 0 ∷ 0 ∷ 0 ∷ 192 ∷ 0 ∷ 2 ∷ 33 ∷ []
unfolding test_net
row_96 = refl

-- the prefix 64:ff9b::/96, and the address 64:ff9b::192.0.2.33
row_of_well_known : embedded (Bits96 well_known_octets) test_net
    ≡ 0x00 ∷ 0x64 ∷ 0xff ∷ 0x9b ∷ 0 ∷ 0 ∷ 0 ∷ 0 ∷ 0 ∷ 0 ∷ 0 ∷ 0 ∷ 192 ∷ 0 ∷ 2 ∷ 33 ∷ []
unfolding test_net
row_of_well_known = refl

-- ---- an address with a suffix

-- the address 2001:db8:122:c000:2:21ff:0:1, whose suffix is not zero
with_suffix : List ℕ
with_suffix = 0x20 ∷ 0x01 ∷ 0x0d ∷ 0xb8 ∷ 0x01 ∷ 0x22 ∷ 0xc0 ∷ 0x00 ∷ 0x00 ∷ 0x02 ∷ 0x21 ∷ 0xff ∷ 0 ∷ 0 ∷ 0 ∷ 1 ∷ []

prefix_48 : Prefix64
prefix_48 = Bits48 (0x20 ∷ 0x01 ∷ 0x0d ∷ 0xb8 ∷ 0x01 ∷ 0x22 ∷ [])

suffix_ignored : is_embedded prefix_48 with_suffix ≡ true
unfolding prefix_48 with_suffix
suffix_ignored = refl

extracted_48 : extracted prefix_48 with_suffix ≡ test_net
unfolding prefix_48 with_suffix test_net
extracted_48 = refl

suffix_cleared : with_zero_suffix prefix_48 with_suffix ≡ embedded prefix_48 test_net
unfolding prefix_48 with_suffix test_net
suffix_cleared = refl

other_prefix : to_ipv4_refusal (Bits48 (0x20 ∷ 0x01 ∷ 0x0d ∷ 0xb8 ∷ 0x01 ∷ 0x23 ∷ [])) with_suffix ≡ Some NotEmbedded
unfolding with_suffix
other_prefix = refl

-- ---- prefixes

address_of_48 : prefix_address prefix_48 ≡ 0x20 ∷ 0x01 ∷ 0x0d ∷ 0xb8 ∷ 0x01 ∷ 0x22 ∷ 0 ∷ 0 ∷ 0 ∷ 0 ∷ 0 ∷ 0 ∷ 0 ∷ 0 ∷ 0 ∷ 0 ∷ []
unfolding prefix_48
address_of_48 = refl

accepted_48 : prefix_refusal (prefix_address prefix_48) 48 ≡ None
unfolding prefix_48
accepted_48 = refl

length_47 : prefix_refusal (prefix_address prefix_48) 47 ≡ Some (Len 47)
unfolding prefix_48
length_47 = refl

length_40 : prefix_refusal (prefix_address prefix_48) 40 ≡ Some SuffixBits
unfolding prefix_48
length_40 = refl

reserved_bit : prefix_refusal (0 ∷ 0 ∷ 0 ∷ 0 ∷ 0 ∷ 0 ∷ 0 ∷ 0 ∷ 1 ∷ 0 ∷ 0 ∷ 0 ∷ 0 ∷ 0 ∷ 0 ∷ 0 ∷ []) 96 ≡ Some ReservedOctet
reserved_bit = refl

-- ---- global addresses

-- 192.0.2.33 is an address of TEST-NET-1 (RFC 5735, section 4)
test_net_refused : to_ipv6_refusal (Bits96 well_known_octets) test_net ≡ Some NotGlobal
unfolding test_net
test_net_refused = refl

other_prefix_allowed : to_ipv6_refusal prefix_48 test_net ≡ None
unfolding prefix_48 test_net
other_prefix_allowed = refl

-- the first and the last address of 172.16.0.0/12
first_private : is_not_global (172 ∷ 16 ∷ 0 ∷ 0 ∷ []) ≡ true
first_private = refl

after_private : is_not_global (172 ∷ 32 ∷ 0 ∷ 0 ∷ []) ≡ false
after_private = refl

-- ---- a header

-- a header from 192.0.2.33 to 198.51.100.7, with type of service b9, total length 31, time to live 64, and protocol UDP
header : List ℕ
header = 0x45 ∷ 0xb9 ∷ 0 ∷ 31 ∷ 0x12 ∷ 0x34 ∷ 0x40 ∷ 0 ∷ 64 ∷ 17 ∷ 0x3b ∷ 0x85 ∷ 192 ∷ 0 ∷ 2 ∷ 33 ∷ 198 ∷ 51 ∷ 100 ∷ 7 ∷ []

-- the prefix 2001:db8:122::/48 for the source, and the well-known prefix for the destination
prefixes : Prefixes
prefixes = record { source = without_mappings prefix_48; destination = without_mappings (Bits96 well_known_octets) }

-- the prefixes 2001:db8:122::/48 for both addresses
other_prefixes : Prefixes
other_prefixes = record { source = without_mappings prefix_48; destination = without_mappings prefix_48 }

-- 198.51.100.7 is an address of TEST-NET-2 (RFC 5737)
header_to_well_known : header_refusal prefixes header ≡ Some (Destination NotGlobal)
unfolding tables.to_ipv6_refusal folded header options_within prefixes prefix_48
header_to_well_known = refl

header_accepted : header_refusal other_prefixes header ≡ None
unfolding tables.to_ipv6_refusal folded header options_within other_prefixes prefix_48
header_accepted = refl

header_translated : translated_header other_prefixes header
    ≡ 0x6b ∷ 0x90 ∷ 0 ∷ 0 ∷ 0 ∷ 11 ∷ 17 ∷ 63
    ∷ 0x20 ∷ 0x01 ∷ 0x0d ∷ 0xb8 ∷ 0x01 ∷ 0x22 ∷ 192 ∷ 0 ∷ 0 ∷ 2 ∷ 33 ∷ 0 ∷ 0 ∷ 0 ∷ 0 ∷ 0
    ∷ 0x20 ∷ 0x01 ∷ 0x0d ∷ 0xb8 ∷ 0x01 ∷ 0x22 ∷ 198 ∷ 51 ∷ 0 ∷ 100 ∷ 7 ∷ 0 ∷ 0 ∷ 0 ∷ 0 ∷ 0 ∷ []
unfolding tables.embedded header other_prefixes prefix_48
header_translated = refl

-- a checksum that is 1 less than the right checksum
wrong_checksum : header_refusal other_prefixes
    (0x45 ∷ 0xb9 ∷ 0 ∷ 31 ∷ 0x12 ∷ 0x34 ∷ 0x40 ∷ 0 ∷ 64 ∷ 17 ∷ 0x3b ∷ 0x84 ∷ 192 ∷ 0 ∷ 2 ∷ 33 ∷ 198 ∷ 51 ∷ 100 ∷ 7 ∷ [])
    ≡ Some HeaderChecksum
unfolding folded other_prefixes prefix_48
wrong_checksum = refl

-- a packet to the multicast address 224.51.100.7
multicast : addresses_refusal (0x45 ∷ 0xb9 ∷ 0 ∷ 31 ∷ 0x12 ∷ 0x34 ∷ 0x40 ∷ 0 ∷ 64 ∷ 17 ∷ 0x21 ∷ 0x85 ∷ 192 ∷ 0 ∷ 2 ∷ 33 ∷ 224 ∷ 51 ∷ 100 ∷ 7
    ∷ [])
    ≡ Some IllegalDestination
multicast = refl
