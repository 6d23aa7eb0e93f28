-- Worked examples of explicit mappings: the example table of RFC 7757, section 3, and one more mapping.
use Rattle.std.proofs.Common.{◌≡◌, [], ◌∷◌, Some, None, refl, arith}
use Rattle.ip_translation.specs.AddressMappings.{mapping_refusal}
use Rattle.ip_translation.specs.AddressTables.{embedded, extracted, to_ipv4_refusal, to_ipv6_refusal}
use Rattle.ip_translation.specs.declared.address_error.AddressError.TheVariants.{NotEmbedded}
use Rattle.ip_translation.specs.declared.address_mapping.AddressMapping.{AddressMapping}
use Rattle.ip_translation.specs.declared.address_mapping_error.AddressMappingError.TheVariants.{Ipv4Bits, Ipv4Len, Ipv6Bits, Ipv6Len, Suffix}
use Rattle.ip_translation.specs.declared.address_table.AddressTable.{AddressTable}
use Rattle.ip_translation.specs.declared.prefix64.Prefix64.TheVariants.{Bits96}
use Rattle.ip_translation.specs.Prefixes.{well_known_octets}

-- ---- mappings

-- 192.0.2.1/32 and 2001:db8:aaaa::/128
aaaa : AddressMapping
aaaa = record {
  ipv4 = 0xc0000201;
  ipv4_len = 32;
  ipv6 = 0x20010db8aaaa00000000000000000000;
  ipv6_len = 128;
  ipv4_counted = omega arith;
  ipv6_counted = omega arith;
  suffix_fits = omega arith;
  ipv4_fits = omega arith;
  ipv6_fits = omega arith;
}

-- 192.0.2.2/32 and 2001:db8:bbbb::b/128
bbbb : AddressMapping
bbbb = record {
  ipv4 = 0xc0000202;
  ipv4_len = 32;
  ipv6 = 0x20010db8bbbb0000000000000000000b;
  ipv6_len = 128;
  ipv4_counted = omega arith;
  ipv6_counted = omega arith;
  suffix_fits = omega arith;
  ipv4_fits = omega arith;
  ipv6_fits = omega arith;
}

-- 192.0.2.16/28 and 2001:db8:cccc::/124
cccc : AddressMapping
cccc = record {
  ipv4 = 0xc000021;
  ipv4_len = 28;
  ipv6 = 0x20010db8cccc0000000000000000000;
  ipv6_len = 124;
  ipv4_counted = omega arith;
  ipv6_counted = omega arith;
  suffix_fits = omega arith;
  ipv4_fits = omega arith;
  ipv6_fits = omega arith;
}

-- 192.0.2.128/26 and 2001:db8:dddd::/64
dddd : AddressMapping
dddd = record {
  ipv4 = 0x300000a;
  ipv4_len = 26;
  ipv6 = 0x20010db8dddd0000;
  ipv6_len = 64;
  ipv4_counted = omega arith;
  ipv6_counted = omega arith;
  suffix_fits = omega arith;
  ipv4_fits = omega arith;
  ipv6_fits = omega arith;
}

-- 192.0.2.192/29 and 2001:db8:eeee:8::/62
eeee : AddressMapping
eeee = record {
  ipv4 = 0x18000058;
  ipv4_len = 29;
  ipv6 = 0x800436e3bbb8002;
  ipv6_len = 62;
  ipv4_counted = omega arith;
  ipv6_counted = omega arith;
  suffix_fits = omega arith;
  ipv4_fits = omega arith;
  ipv6_fits = omega arith;
}

-- 192.0.2.224/31 and 64:ff9b::/127
well_known : AddressMapping
well_known = record {
  ipv4 = 0x60000170;
  ipv4_len = 31;
  ipv6 = 0x327fcd800000000000000000000000;
  ipv6_len = 127;
  ipv4_counted = omega arith;
  ipv6_counted = omega arith;
  suffix_fits = omega arith;
  ipv4_fits = omega arith;
  ipv6_fits = omega arith;
}

-- all of 192.0.2.0/24, whose prefix is shorter than the other prefixes, and 2001:db8:ffff::/120
all_of_block : AddressMapping
all_of_block = record {
  ipv4 = 0xc00002;
  ipv4_len = 24;
  ipv6 = 0x20010db8ffff000000000000000000;
  ipv6_len = 120;
  ipv4_counted = omega arith;
  ipv6_counted = omega arith;
  suffix_fits = omega arith;
  ipv4_fits = omega arith;
  ipv6_fits = omega arith;
}

-- The mapping with the shortest prefix is the first one. The prefix for all other addresses is 64:ff9b::/96.
table : AddressTable
table = record {
  mappings = record { ref_ptr = (0, 0); now = all_of_block ∷ aaaa ∷ bbbb ∷ cccc ∷ dddd ∷ eeee ∷ well_known ∷ [] };
  prefix = Bits96 well_known_octets;
}

-- ---- addresses there and back

-- 192.0.2.1 and 2001:db8:aaaa::
aaaa_to_ipv6 : embedded table (192 ∷ 0 ∷ 2 ∷ 1 ∷ [])
    ≡ 0x20 ∷ 0x01 ∷ 0x0d ∷ 0xb8 ∷ 0xaa ∷ 0xaa ∷ 0 ∷ 0 ∷ 0 ∷ 0 ∷ 0 ∷ 0 ∷ 0 ∷ 0 ∷ 0 ∷ 0 ∷ []
unfolding embedded extracted to_ipv4_refusal to_ipv6_refusal table all_of_block aaaa bbbb cccc dddd eeee well_known
aaaa_to_ipv6 = refl

aaaa_to_ipv4 : extracted table (0x20 ∷ 0x01 ∷ 0x0d ∷ 0xb8 ∷ 0xaa ∷ 0xaa ∷ 0 ∷ 0 ∷ 0 ∷ 0 ∷ 0 ∷ 0 ∷ 0 ∷ 0 ∷ 0 ∷ 0 ∷ [])
    ≡ 192 ∷ 0 ∷ 2 ∷ 1 ∷ []
unfolding embedded extracted to_ipv4_refusal to_ipv6_refusal table all_of_block aaaa bbbb cccc dddd eeee well_known
aaaa_to_ipv4 = refl

-- 192.0.2.2 and 2001:db8:bbbb::b
bbbb_to_ipv6 : embedded table (192 ∷ 0 ∷ 2 ∷ 2 ∷ [])
    ≡ 0x20 ∷ 0x01 ∷ 0x0d ∷ 0xb8 ∷ 0xbb ∷ 0xbb ∷ 0 ∷ 0 ∷ 0 ∷ 0 ∷ 0 ∷ 0 ∷ 0 ∷ 0 ∷ 0 ∷ 0x0b ∷ []
unfolding embedded extracted to_ipv4_refusal to_ipv6_refusal table all_of_block aaaa bbbb cccc dddd eeee well_known
bbbb_to_ipv6 = refl

bbbb_to_ipv4 : extracted table (0x20 ∷ 0x01 ∷ 0x0d ∷ 0xb8 ∷ 0xbb ∷ 0xbb ∷ 0 ∷ 0 ∷ 0 ∷ 0 ∷ 0 ∷ 0 ∷ 0 ∷ 0 ∷ 0 ∷ 0x0b ∷ [])
    ≡ 192 ∷ 0 ∷ 2 ∷ 2 ∷ []
unfolding embedded extracted to_ipv4_refusal to_ipv6_refusal table all_of_block aaaa bbbb cccc dddd eeee well_known
bbbb_to_ipv4 = refl

-- 192.0.2.24 and 2001:db8:cccc::8
cccc_to_ipv6 : embedded table (192 ∷ 0 ∷ 2 ∷ 24 ∷ [])
    ≡ 0x20 ∷ 0x01 ∷ 0x0d ∷ 0xb8 ∷ 0xcc ∷ 0xcc ∷ 0 ∷ 0 ∷ 0 ∷ 0 ∷ 0 ∷ 0 ∷ 0 ∷ 0 ∷ 0 ∷ 0x08 ∷ []
unfolding embedded extracted to_ipv4_refusal to_ipv6_refusal table all_of_block aaaa bbbb cccc dddd eeee well_known
cccc_to_ipv6 = refl

cccc_to_ipv4 : extracted table (0x20 ∷ 0x01 ∷ 0x0d ∷ 0xb8 ∷ 0xcc ∷ 0xcc ∷ 0 ∷ 0 ∷ 0 ∷ 0 ∷ 0 ∷ 0 ∷ 0 ∷ 0 ∷ 0 ∷ 0x08 ∷ [])
    ≡ 192 ∷ 0 ∷ 2 ∷ 24 ∷ []
unfolding embedded extracted to_ipv4_refusal to_ipv6_refusal table all_of_block aaaa bbbb cccc dddd eeee well_known
cccc_to_ipv4 = refl

-- 192.0.2.152 and 2001:db8:dddd:0:6000::
dddd_to_ipv6 : embedded table (192 ∷ 0 ∷ 2 ∷ 152 ∷ [])
    ≡ 0x20 ∷ 0x01 ∷ 0x0d ∷ 0xb8 ∷ 0xdd ∷ 0xdd ∷ 0 ∷ 0 ∷ 0x60 ∷ 0 ∷ 0 ∷ 0 ∷ 0 ∷ 0 ∷ 0 ∷ 0 ∷ []
unfolding embedded extracted to_ipv4_refusal to_ipv6_refusal table all_of_block aaaa bbbb cccc dddd eeee well_known
dddd_to_ipv6 = refl

dddd_to_ipv4 : extracted table (0x20 ∷ 0x01 ∷ 0x0d ∷ 0xb8 ∷ 0xdd ∷ 0xdd ∷ 0 ∷ 0 ∷ 0x60 ∷ 0 ∷ 0 ∷ 0 ∷ 0 ∷ 0 ∷ 0 ∷ 0 ∷ [])
    ≡ 192 ∷ 0 ∷ 2 ∷ 152 ∷ []
unfolding embedded extracted to_ipv4_refusal to_ipv6_refusal table all_of_block aaaa bbbb cccc dddd eeee well_known
dddd_to_ipv4 = refl

-- 192.0.2.195 and 2001:db8:eeee:9:8000::
eeee_to_ipv6 : embedded table (192 ∷ 0 ∷ 2 ∷ 195 ∷ [])
    ≡ 0x20 ∷ 0x01 ∷ 0x0d ∷ 0xb8 ∷ 0xee ∷ 0xee ∷ 0 ∷ 0x09 ∷ 0x80 ∷ 0 ∷ 0 ∷ 0 ∷ 0 ∷ 0 ∷ 0 ∷ 0 ∷ []
unfolding embedded extracted to_ipv4_refusal to_ipv6_refusal table all_of_block aaaa bbbb cccc dddd eeee well_known
eeee_to_ipv6 = refl

eeee_to_ipv4 : extracted table (0x20 ∷ 0x01 ∷ 0x0d ∷ 0xb8 ∷ 0xee ∷ 0xee ∷ 0 ∷ 0x09 ∷ 0x80 ∷ 0 ∷ 0 ∷ 0 ∷ 0 ∷ 0 ∷ 0 ∷ 0 ∷ [])
    ≡ 192 ∷ 0 ∷ 2 ∷ 195 ∷ []
unfolding embedded extracted to_ipv4_refusal to_ipv6_refusal table all_of_block aaaa bbbb cccc dddd eeee well_known
eeee_to_ipv4 = refl

-- 192.0.2.225 and 64:ff9b::1
well_known_to_ipv6 : embedded table (192 ∷ 0 ∷ 2 ∷ 225 ∷ [])
    ≡ 0 ∷ 0x64 ∷ 0xff ∷ 0x9b ∷ 0 ∷ 0 ∷ 0 ∷ 0 ∷ 0 ∷ 0 ∷ 0 ∷ 0 ∷ 0 ∷ 0 ∷ 0 ∷ 0x01 ∷ []
unfolding embedded extracted to_ipv4_refusal to_ipv6_refusal table all_of_block aaaa bbbb cccc dddd eeee well_known
well_known_to_ipv6 = refl

well_known_to_ipv4 : extracted table (0 ∷ 0x64 ∷ 0xff ∷ 0x9b ∷ 0 ∷ 0 ∷ 0 ∷ 0 ∷ 0 ∷ 0 ∷ 0 ∷ 0 ∷ 0 ∷ 0 ∷ 0 ∷ 0x01 ∷ [])
    ≡ 192 ∷ 0 ∷ 2 ∷ 225 ∷ []
unfolding embedded extracted to_ipv4_refusal to_ipv6_refusal table all_of_block aaaa bbbb cccc dddd eeee well_known
well_known_to_ipv4 = refl

-- 192.0.2.3 and 2001:db8:ffff::3
block_to_ipv6 : embedded table (192 ∷ 0 ∷ 2 ∷ 3 ∷ [])
    ≡ 0x20 ∷ 0x01 ∷ 0x0d ∷ 0xb8 ∷ 0xff ∷ 0xff ∷ 0 ∷ 0 ∷ 0 ∷ 0 ∷ 0 ∷ 0 ∷ 0 ∷ 0 ∷ 0 ∷ 0x03 ∷ []
unfolding embedded extracted to_ipv4_refusal to_ipv6_refusal table all_of_block aaaa bbbb cccc dddd eeee well_known
block_to_ipv6 = refl

block_to_ipv4 : extracted table (0x20 ∷ 0x01 ∷ 0x0d ∷ 0xb8 ∷ 0xff ∷ 0xff ∷ 0 ∷ 0 ∷ 0 ∷ 0 ∷ 0 ∷ 0 ∷ 0 ∷ 0 ∷ 0 ∷ 0x03 ∷ [])
    ≡ 192 ∷ 0 ∷ 2 ∷ 3 ∷ []
unfolding embedded extracted to_ipv4_refusal to_ipv6_refusal table all_of_block aaaa bbbb cccc dddd eeee well_known
block_to_ipv4 = refl

-- 198.41.0.4 and 64:ff9b::c629:4
unmapped_to_ipv6 : embedded table (198 ∷ 41 ∷ 0 ∷ 4 ∷ [])
    ≡ 0 ∷ 0x64 ∷ 0xff ∷ 0x9b ∷ 0 ∷ 0 ∷ 0 ∷ 0 ∷ 0 ∷ 0 ∷ 0 ∷ 0 ∷ 0xc6 ∷ 0x29 ∷ 0 ∷ 0x04 ∷ []
unfolding embedded extracted to_ipv4_refusal to_ipv6_refusal table all_of_block aaaa bbbb cccc dddd eeee well_known
unmapped_to_ipv6 = refl

unmapped_to_ipv4 : extracted table (0 ∷ 0x64 ∷ 0xff ∷ 0x9b ∷ 0 ∷ 0 ∷ 0 ∷ 0 ∷ 0 ∷ 0 ∷ 0 ∷ 0 ∷ 0xc6 ∷ 0x29 ∷ 0 ∷ 0x04 ∷ [])
    ≡ 198 ∷ 41 ∷ 0 ∷ 4 ∷ []
unfolding embedded extracted to_ipv4_refusal to_ipv6_refusal table all_of_block aaaa bbbb cccc dddd eeee well_known
unmapped_to_ipv4 = refl

-- bits that follow the six bits of the IPv4 suffix are ignored
suffix_ignored : extracted table (0x20 ∷ 0x01 ∷ 0x0d ∷ 0xb8 ∷ 0xdd ∷ 0xdd ∷ 0 ∷ 0 ∷ 0x60 ∷ 0 ∷ 0 ∷ 0 ∷ 0 ∷ 0 ∷ 0 ∷ 0x01 ∷ [])
    ≡ 192 ∷ 0 ∷ 2 ∷ 152 ∷ []
unfolding embedded extracted to_ipv4_refusal to_ipv6_refusal table all_of_block aaaa bbbb cccc dddd eeee well_known
suffix_ignored = refl

-- 192.0.2.1 is not global, but the well-known prefix does not embed it, since it has a mapping
mapped_allowed : to_ipv6_refusal table (192 ∷ 0 ∷ 2 ∷ 1 ∷ []) ≡ None
unfolding embedded extracted to_ipv4_refusal to_ipv6_refusal table all_of_block aaaa bbbb cccc dddd eeee well_known
mapped_allowed = refl

-- 2001:db8:aaaa::1 has no mapping, and does not begin with 64:ff9b::/96
unmapped_refused : to_ipv4_refusal table (0x20 ∷ 0x01 ∷ 0x0d ∷ 0xb8 ∷ 0xaa ∷ 0xaa ∷ 0 ∷ 0 ∷ 0 ∷ 0 ∷ 0 ∷ 0 ∷ 0 ∷ 0 ∷ 0 ∷ 0x01 ∷ [])
    ≡ Some NotEmbedded
unfolding embedded extracted to_ipv4_refusal to_ipv6_refusal table all_of_block aaaa bbbb cccc dddd eeee well_known
unmapped_refused = refl

-- ---- two prefixes that are no mapping

suffix_of_6_bits : mapping_refusal (192 ∷ 0 ∷ 2 ∷ 128 ∷ []) 26
    (0x20 ∷ 0x01 ∷ 0x0d ∷ 0xb8 ∷ 0xdd ∷ 0xdd ∷ 0 ∷ 0 ∷ 0 ∷ 0 ∷ 0 ∷ 0 ∷ 0 ∷ 0 ∷ 0 ∷ 0 ∷ []) 122
    ≡ None
suffix_of_6_bits = refl

suffix_of_5_bits : mapping_refusal (192 ∷ 0 ∷ 2 ∷ 128 ∷ []) 26
    (0x20 ∷ 0x01 ∷ 0x0d ∷ 0xb8 ∷ 0xdd ∷ 0xdd ∷ 0 ∷ 0 ∷ 0 ∷ 0 ∷ 0 ∷ 0 ∷ 0 ∷ 0 ∷ 0 ∷ 0 ∷ []) 123
    ≡ Some Suffix
suffix_of_5_bits = refl

ipv4_prefix_of_33_bits : mapping_refusal (192 ∷ 0 ∷ 2 ∷ 1 ∷ []) 33
    (0x20 ∷ 0x01 ∷ 0x0d ∷ 0xb8 ∷ 0xaa ∷ 0xaa ∷ 0 ∷ 0 ∷ 0 ∷ 0 ∷ 0 ∷ 0 ∷ 0 ∷ 0 ∷ 0 ∷ 0 ∷ []) 128
    ≡ Some (Ipv4Len 33)
ipv4_prefix_of_33_bits = refl

ipv6_prefix_of_129_bits : mapping_refusal (192 ∷ 0 ∷ 2 ∷ 1 ∷ []) 32
    (0x20 ∷ 0x01 ∷ 0x0d ∷ 0xb8 ∷ 0xaa ∷ 0xaa ∷ 0 ∷ 0 ∷ 0 ∷ 0 ∷ 0 ∷ 0 ∷ 0 ∷ 0 ∷ 0 ∷ 0 ∷ []) 129
    ≡ Some (Ipv6Len 129)
ipv6_prefix_of_129_bits = refl

bit_after_the_ipv4_prefix : mapping_refusal (192 ∷ 0 ∷ 2 ∷ 129 ∷ []) 26
    (0x20 ∷ 0x01 ∷ 0x0d ∷ 0xb8 ∷ 0xdd ∷ 0xdd ∷ 0 ∷ 0 ∷ 0 ∷ 0 ∷ 0 ∷ 0 ∷ 0 ∷ 0 ∷ 0 ∷ 0 ∷ []) 64
    ≡ Some Ipv4Bits
bit_after_the_ipv4_prefix = refl

bit_after_the_ipv6_prefix : mapping_refusal (192 ∷ 0 ∷ 2 ∷ 128 ∷ []) 26
    (0x20 ∷ 0x01 ∷ 0x0d ∷ 0xb8 ∷ 0xdd ∷ 0xdd ∷ 0 ∷ 0 ∷ 0 ∷ 0 ∷ 0 ∷ 0 ∷ 0 ∷ 0 ∷ 0 ∷ 0x01 ∷ []) 64
    ≡ Some Ipv6Bits
bit_after_the_ipv6_prefix = refl
