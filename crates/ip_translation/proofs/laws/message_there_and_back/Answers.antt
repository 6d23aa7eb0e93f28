use Rattle.std.proofs.Common.{◌≡◌, ◌+◌, ◌-◌, ◌==◌, false, if◌then◌else◌, List, ℕ, length, take, rules, sym, subst, ap, ap₂, ◌∙◌, arith}
use Rattle.std.proofs.lemmas.Bool.Decides.{nat_tests}
use Rattle.net_base.specs.IpHeaders.{ipv4_header_len}
use Rattle.net_base.specs.IpNumbers.{udp_number}
use Rattle.net_base.specs.StoredChecksum.{with_checksum}
use Rattle.word_sum.specs.Checksum.{folded, total, udp_checksum_of}
use Rattle.word_sum.specs.UpdatedChecksum.{updated_udp_checksum_of}
use Rattle.word_sum.proofs.ChecksumLemmas.{folded-lt}
use Rattle.ip_translation.specs.HeadersToIpv4 as back
use Rattle.ip_translation.specs.HeadersToIpv6 as headers
use Rattle.ip_translation.specs.PacketsToIpv4 as ipv4
use Rattle.ip_translation.specs.PacketsToIpv6.{added_addresses, new_udp_checksum, removed_addresses, udp_checksum, udp_length}
use Rattle.ip_translation.specs.AddressTables.{ComesBack, embedded, extracted}
use Rattle.ip_translation.proofs.BackLemmas.{destination_of, source_of, tcp_same, udp_same}
use Rattle.ip_translation.proofs.laws.message_there_and_back.Goals as goal

pub returns-clause-udp : goal.returns-clause-udp
returns-clause-udp c = λ come packet fits there some.
    let prefixes = c.args.prefixes.now in
    let header : List ℕ = c.args.header.now in
    let source_back = subst (ComesBack prefixes.source) (sym c.source.ensures) come.source_back in
    let destination_back = subst (ComesBack prefixes.destination) (sym c.destination.ensures) come.destination_back in
    let is_source : c.embed.result ≡ embedded prefixes.source (headers.source header) =
    c.embed.ensures.embedded ∙ ap (embedded prefixes.source) c.source.ensures in
    let is_destination : c.embed-2.result ≡ embedded prefixes.destination (headers.destination header) =
    c.embed-2.ensures.embedded ∙ ap (embedded prefixes.destination) c.destination.ensures in
    let source_len : length (embedded prefixes.source (headers.source header)) ≡ 16 = ap length (sym is_source) ∙ search rules in
    let destination_len : length (embedded prefixes.destination (headers.destination header)) ≡ 16 =
    ap length (sym is_destination) ∙ search rules in
    let old_source : back.source (headers.translated_header prefixes header) ≡ embedded prefixes.source (headers.source header) =
    source_of (headers.type_of_service header) (headers.total_len header - ipv4_header_len header)
    (headers.next_header (headers.protocol header))
    (headers.time_to_live header - 1) (embedded prefixes.source (headers.source header))
    (embedded prefixes.destination (headers.destination header)) source_len in
    let old_destination : back.destination (headers.translated_header prefixes header)
    ≡ embedded prefixes.destination (headers.destination header) =
    destination_of (headers.type_of_service header) (headers.total_len header - ipv4_header_len header)
    (headers.next_header (headers.protocol header))
    (headers.time_to_live header - 1) (embedded prefixes.source (headers.source header))
    (embedded prefixes.destination (headers.destination header)) source_len destination_len in
    let same : back.removed_addresses (headers.translated_header prefixes header) ≡ added_addresses prefixes header =
    ap₂ (λ source destination. folded (total source + total destination)) old_source old_destination in
    let same_too : back.added_addresses prefixes (headers.translated_header prefixes header) ≡ removed_addresses header =
    ap₂ (λ source destination. folded (total (extracted prefixes.source source) + total (extracted prefixes.destination destination)))
    old_source old_destination
    ∙ ap₂ (λ source destination. folded (total source + total destination))
    (ap (extracted prefixes.source) (sym is_source) ∙ c.embed.ensures.extracted source_back ∙ c.source.ensures)
    (ap (extracted prefixes.destination) (sym is_destination) ∙ c.embed-2.ensures.extracted destination_back ∙ c.destination.ensures) in
    let test : (udp_checksum packet == 0) ≡ false = grind (arith, nat_tests) in
    let updated : new_udp_checksum prefixes header packet
    ≡ updated_udp_checksum_of (udp_checksum packet) (removed_addresses header) (added_addresses prefixes header) =
    ap (λ test. if test then udp_checksum_of (total (headers.new_pseudo_header prefixes header udp_number (udp_length packet))
    + total (take (udp_length packet) packet))
    else updated_udp_checksum_of (udp_checksum packet) (removed_addresses header) (added_addresses prefixes header)) test in
    ap (λ checksum. ipv4.translated_udp prefixes (headers.translated_header prefixes header) (with_checksum 6 packet checksum)) updated
    ∙ udp_same packet (removed_addresses header) (added_addresses prefixes header) _ _ fits there
    (folded-lt (total (headers.source header) + total (headers.destination header)))
    (folded-lt (total (embedded prefixes.source (headers.source header))
    + total (embedded prefixes.destination (headers.destination header))))
    same same_too

pub returns-clause-tcp : goal.returns-clause-tcp
returns-clause-tcp c = λ come segment fits there some.
    let prefixes = c.args.prefixes.now in
    let header : List ℕ = c.args.header.now in
    let source_back = subst (ComesBack prefixes.source) (sym c.source.ensures) come.source_back in
    let destination_back = subst (ComesBack prefixes.destination) (sym c.destination.ensures) come.destination_back in
    let is_source : c.embed.result ≡ embedded prefixes.source (headers.source header) =
    c.embed.ensures.embedded ∙ ap (embedded prefixes.source) c.source.ensures in
    let is_destination : c.embed-2.result ≡ embedded prefixes.destination (headers.destination header) =
    c.embed-2.ensures.embedded ∙ ap (embedded prefixes.destination) c.destination.ensures in
    let source_len : length (embedded prefixes.source (headers.source header)) ≡ 16 = ap length (sym is_source) ∙ search rules in
    let destination_len : length (embedded prefixes.destination (headers.destination header)) ≡ 16 =
    ap length (sym is_destination) ∙ search rules in
    let old_source : back.source (headers.translated_header prefixes header) ≡ embedded prefixes.source (headers.source header) =
    source_of (headers.type_of_service header) (headers.total_len header - ipv4_header_len header)
    (headers.next_header (headers.protocol header))
    (headers.time_to_live header - 1) (embedded prefixes.source (headers.source header))
    (embedded prefixes.destination (headers.destination header)) source_len in
    let old_destination : back.destination (headers.translated_header prefixes header)
    ≡ embedded prefixes.destination (headers.destination header) =
    destination_of (headers.type_of_service header) (headers.total_len header - ipv4_header_len header)
    (headers.next_header (headers.protocol header))
    (headers.time_to_live header - 1) (embedded prefixes.source (headers.source header))
    (embedded prefixes.destination (headers.destination header)) source_len destination_len in
    let same : back.removed_addresses (headers.translated_header prefixes header) ≡ added_addresses prefixes header =
    ap₂ (λ source destination. folded (total source + total destination)) old_source old_destination in
    let same_too : back.added_addresses prefixes (headers.translated_header prefixes header) ≡ removed_addresses header =
    ap₂ (λ source destination. folded (total (extracted prefixes.source source) + total (extracted prefixes.destination destination)))
    old_source old_destination
    ∙ ap₂ (λ source destination. folded (total source + total destination))
    (ap (extracted prefixes.source) (sym is_source) ∙ c.embed.ensures.extracted source_back ∙ c.source.ensures)
    (ap (extracted prefixes.destination) (sym is_destination) ∙ c.embed-2.ensures.extracted destination_back ∙ c.destination.ensures) in
    tcp_same segment (removed_addresses header) (added_addresses prefixes header) _ _ fits (omega (arith, there)) some
    (folded-lt (total (headers.source header) + total (headers.destination header)))
    (folded-lt (total (embedded prefixes.source (headers.source header))
    + total (embedded prefixes.destination (headers.destination header))))
    same same_too
