-- Worked examples of ICMP errors with an extension (RFC 4884). Their checksums were computed by a program in another language.
use Rattle.std.proofs.Common.{◌≡◌, List, ℕ, [], ◌∷◌, ◌++◌, None, refl, replicate}
use Rattle.ip_part.specs.Options.{options_within}
use Rattle.word_sum.specs.Checksum.{folded}
use Rattle.ip_translation.specs.FragmentsToIpv6 as ipv6
use Rattle.ip_translation.specs.PacketsToIpv4 as ipv4
use Rattle.ip_translation.specs.SkippedHeaders.{skipped_from}
use Rattle.ip_translation.specs.AddressTables.{embedded, extracted, to_ipv4_refusal, to_ipv6_refusal}
use Rattle.ip_translation.specs.declared.prefix64.Prefix64.TheVariants.{Bits32, Bits96}
use Rattle.ip_translation.specs.declared.prefixes.Prefixes.{Prefixes}
use Rattle.ip_translation.proofs.AddressTableLemmas.{without_mappings}

-- 2001:db8::/32 for the source, and 2001:db8:122:344::/96 for the destination
prefixes : Prefixes
prefixes = record {
  source = without_mappings (Bits32 (0x20 ∷ 0x01 ∷ 0x0d ∷ 0xb8 ∷ []));
  destination = without_mappings (Bits96 (0x20 ∷ 0x01 ∷ 0x0d ∷ 0xb8 ∷ 0x01 ∷ 0x22 ∷ 0x03 ∷ 0x44 ∷ 0 ∷ 0 ∷ 0 ∷ []));
}

-- an MPLS label (RFC 4950, section 3)
extension : List ℕ
extension = 0x20 ∷ 0 ∷ 0x9d ∷ 0xef ∷ 0 ∷ 8 ∷ 1 ∷ 1 ∷ 0 ∷ 6 ∷ 0x41 ∷ 1 ∷ []

-- "time exceeded" about a UDP packet, which zeros extend to 128 bytes
exceeded : List ℕ
exceeded = (
    0x45 ∷ 0 ∷ 0 ∷ 0xa8 ∷ 0x12 ∷ 0x34 ∷ 0x40 ∷ 0 ∷ 0x40 ∷ 1 ∷ 0x3b ∷ 0xc5 ∷ 0xc0 ∷ 0 ∷ 2 ∷ 0x21
    ∷ 0xc6 ∷ 0x33 ∷ 0x64 ∷ 7 ∷ 0x0b ∷ 0 ∷ 0xe1 ∷ 0x58 ∷ 0 ∷ 0x20 ∷ 0 ∷ 0 ∷ 0x45 ∷ 0 ∷ 0 ∷ 0x1f
    ∷ 0xab ∷ 0xcd ∷ 0x40 ∷ 0 ∷ 1 ∷ 0x11 ∷ 0xe1 ∷ 0xa4 ∷ 0xc6 ∷ 0x33 ∷ 0x64 ∷ 7 ∷ 0xc0 ∷ 0 ∷ 2 ∷ 0x21
    ∷ 4 ∷ 0xd2 ∷ 0 ∷ 0x15 ∷ 0 ∷ 0x0b ∷ 0x4a ∷ 0x32 ∷ 0x61 ∷ 0x62 ∷ 0x63 ∷ [])
    ++ (replicate 97 0 ++ extension)

-- over IPv6, where the length field counts units of eight bytes
exceeded_ipv6 : List ℕ
exceeded_ipv6 = (
    0x60 ∷ 0 ∷ 0 ∷ 0 ∷ 0 ∷ 0x94 ∷ 0x3a ∷ 0x3f ∷ 0x20 ∷ 1 ∷ 0x0d ∷ 0xb8 ∷ 0xc0 ∷ 0 ∷ 2 ∷ 0x21
    ∷ 0 ∷ 0 ∷ 0 ∷ 0 ∷ 0 ∷ 0 ∷ 0 ∷ 0 ∷ 0x20 ∷ 1 ∷ 0x0d ∷ 0xb8 ∷ 1 ∷ 0x22 ∷ 3 ∷ 0x44
    ∷ 0 ∷ 0 ∷ 0 ∷ 0 ∷ 0xc6 ∷ 0x33 ∷ 0x64 ∷ 7 ∷ 3 ∷ 0 ∷ 0x2f ∷ 0x0c ∷ 0x10 ∷ 0 ∷ 0 ∷ 0
    ∷ 0x60 ∷ 0 ∷ 0 ∷ 0 ∷ 0 ∷ 0x0b ∷ 0x11 ∷ 1 ∷ 0x20 ∷ 1 ∷ 0x0d ∷ 0xb8 ∷ 1 ∷ 0x22 ∷ 3 ∷ 0x44
    ∷ 0 ∷ 0 ∷ 0 ∷ 0 ∷ 0xc6 ∷ 0x33 ∷ 0x64 ∷ 7 ∷ 0x20 ∷ 1 ∷ 0x0d ∷ 0xb8 ∷ 0xc0 ∷ 0 ∷ 2 ∷ 0x21
    ∷ 0 ∷ 0 ∷ 0 ∷ 0 ∷ 0 ∷ 0 ∷ 0 ∷ 0 ∷ 4 ∷ 0xd2 ∷ 0 ∷ 0x15 ∷ 0 ∷ 0x0b ∷ 0xea ∷ 0x59
    ∷ 0x61 ∷ 0x62 ∷ 0x63 ∷ [])
    ++ (replicate 77 0 ++ extension)

-- back over IPv4, with the identification BEEF
exceeded_back : List ℕ
exceeded_back = (
    0x45 ∷ 0 ∷ 0 ∷ 0xa8 ∷ 0xbe ∷ 0xef ∷ 0 ∷ 0 ∷ 0x3e ∷ 1 ∷ 0xd1 ∷ 9 ∷ 0xc0 ∷ 0 ∷ 2 ∷ 0x21
    ∷ 0xc6 ∷ 0x33 ∷ 0x64 ∷ 7 ∷ 0x0b ∷ 0 ∷ 0xe1 ∷ 0x58 ∷ 0 ∷ 0x20 ∷ 0 ∷ 0 ∷ 0x45 ∷ 0 ∷ 0 ∷ 0x1f
    ∷ 0 ∷ 0 ∷ 0 ∷ 0 ∷ 1 ∷ 0x11 ∷ 0xcd ∷ 0x72 ∷ 0xc6 ∷ 0x33 ∷ 0x64 ∷ 7 ∷ 0xc0 ∷ 0 ∷ 2 ∷ 0x21
    ∷ 4 ∷ 0xd2 ∷ 0 ∷ 0x15 ∷ 0 ∷ 0x0b ∷ 0x4a ∷ 0x32 ∷ 0x61 ∷ 0x62 ∷ 0x63 ∷ [])
    ++ (replicate 97 0 ++ extension)

exceeded_accepted : ipv6.packet_refusal prefixes exceeded 188 ≡ None
unfolding embedded extracted to_ipv4_refusal to_ipv6_refusal folded options_within prefixes extension exceeded
exceeded_accepted = refl

exceeded_translated : ipv6.translated_packet prefixes exceeded ≡ exceeded_ipv6
unfolding embedded extracted to_ipv4_refusal to_ipv6_refusal folded prefixes extension exceeded exceeded_ipv6
exceeded_translated = refl

exceeded_accepted_back : ipv4.packet_refusal prefixes exceeded_ipv6 168 ≡ None
unfolding embedded extracted to_ipv4_refusal to_ipv6_refusal skipped_from folded prefixes extension exceeded_ipv6
exceeded_accepted_back = refl

exceeded_translated_back : ipv4.translated_packet prefixes 0xbeef exceeded_ipv6 ≡ exceeded_back
unfolding embedded extracted to_ipv4_refusal to_ipv6_refusal skipped_from folded prefixes extension exceeded_ipv6 exceeded_back
exceeded_translated_back = refl
