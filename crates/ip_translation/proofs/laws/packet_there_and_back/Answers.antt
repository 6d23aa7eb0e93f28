use Rattle.std.proofs.Common.{◌≡◌, ◌≢◌, ◌≤◌, false, List, ℕ, length, slice_index, None, rules, sym, subst, ap, ◌∙◌, arith}
use Rattle.std.specs.Prelude.{not}
use Rattle.ip_part.specs.Ip.{ipv4_header}
use Rattle.net_base.specs.Bytes.{IsBytes}
use Rattle.net_base.specs.IpNumbers.{icmpv6_number}
use Rattle.net_base.specs.Refusals.{refused_if}
use Rattle.word_sum.specs.Checksum.{all_ones}
use Rattle.ip_translation.specs.Fragments.{whole}
use Rattle.ip_translation.specs.HeadersToIpv4 as back
use Rattle.ip_translation.specs.HeadersToIpv6 as headers
use Rattle.ip_translation.specs.PacketsToIpv6 as ipv6
use Rattle.ip_translation.specs.AddressTables.{embedded}
use Rattle.ip_translation.specs.ThereAndBack.{AddressesComeBack, header_back, tcp_back, udp_back}
use Rattle.ip_translation.specs.declared.packet_translation_error.PacketTranslationError.TheVariants.{NoIpv4Header}
use Rattle.ip_translation.proofs.Ipv4PacketBackLemmas as over_ipv4
use Rattle.ip_translation.proofs.Ipv6PacketBackLemmas as over_ipv6
use Rattle.ip_translation.proofs.PacketBackLemmas.{first_rule}
use Rattle.ip_translation.proofs.laws.packet_there_and_back.Goals as goal

pub returns-in-Some-clause-from_ipv4 : goal.returns-in-Some-clause-from_ipv4
returns-in-Some-clause-from_ipv4 c = λ identification room none restored.
    let prefixes = c.args.prefixes.now in
    let packet : List ℕ = c.args.packet.now in
    let same : c.in-Some.header ≡ ipv4_header packet = c.in-Some.ensures.found.1 in
    let is_source : c.embed.result ≡ embedded prefixes.source (headers.source (ipv4_header packet)) =
    c.embed.ensures.embedded ∙ ap (embedded prefixes.source) (c.source.ensures ∙ ap headers.source same) in
    let is_destination : c.embed-in-Some.result ≡ embedded prefixes.destination (headers.destination (ipv4_header packet)) =
    c.embed-in-Some.ensures.embedded ∙ ap (embedded prefixes.destination) (c.destination.ensures ∙ ap headers.destination same) in
    let come = subst (AddressesComeBack prefixes) (sym same) restored.addresses in
    over_ipv4.there_and_back prefixes packet identification room c.expect_bytes.ensures restored
    (over_ipv4.accepted prefixes packet room none restored.whole)
    (ap length (sym is_source) ∙ search rules)
    (ap length (sym is_destination) ∙ search rules)
    (subst (λ header. length header ≡ 20 → slice_index header 0 ≡ 0x45 → 20 ≤ headers.total_len header
    → headers.protocol header ≢ icmpv6_number
    → back.translated_header prefixes (whole identification) (headers.translated_header prefixes header)
    ≡ header_back identification header) same (c.header_there_and_back.ensures.back come identification))
    (subst (λ header. IsBytes (ipv6.message_of packet) → 8 ≤ length (ipv6.message_of packet)
    → ipv6.udp_checksum (ipv6.message_of packet) ≢ 0
    → udp_back prefixes header (ipv6.message_of packet) ≡ ipv6.message_of packet) same
    (c.message_there_and_back.ensures.udp come (ipv6.message_of packet)))
    (subst (λ header. IsBytes (ipv6.message_of packet) → 20 ≤ length (ipv6.message_of packet)
    → ipv6.tcp_checksum (ipv6.message_of packet) ≢ all_ones
    → tcp_back prefixes header (ipv6.message_of packet) ≡ ipv6.message_of packet) same
    (c.message_there_and_back.ensures.tcp come (ipv6.message_of packet)))

pub returns-in-Some-clause-from_ipv6 : goal.returns-in-Some-clause-from_ipv6
returns-in-Some-clause-from_ipv6 c = λ identification room none restored.
    let prefixes = c.args.prefixes.now in
    let packet : List ℕ = c.args.packet.now in
    over_ipv6.there_and_back prefixes packet identification room c.expect_bytes.ensures restored
    (over_ipv6.accepted prefixes packet room none restored.whole)

pub returns-in_default-clause-from_ipv4 : goal.returns-in_default-clause-from_ipv4
returns-in_default-clause-from_ipv4 c = λ identification room none restored.
    let packet : List ℕ = c.args.packet.now in
    let begins : ipv6.begins_with_header packet ≡ false = c.in_default.ensures.found in
    let refused : refused_if (not (ipv6.begins_with_header packet)) NoIpv4Header ≡ None = first_rule _ _ none in
    absurd (grind (arith, refused, begins))

pub returns-in_default-clause-from_ipv6 : goal.returns-in_default-clause-from_ipv6
returns-in_default-clause-from_ipv6 c = λ identification room none restored.
    let prefixes = c.args.prefixes.now in
    let packet : List ℕ = c.args.packet.now in
    over_ipv6.there_and_back prefixes packet identification room c.expect_bytes.ensures restored
    (over_ipv6.accepted prefixes packet room none restored.whole)
