use Rattle.std.proofs.Common.{◌≡◌, ◌+◌, ◌-◌, ◌*◌, ◌%◌, [], ◌∷◌, List, ℕ, length, rules, sym, subst, ap, ap₂, ◌∙◌}
use Rattle.net_base.specs.Bytes.{IsBytes}
use Rattle.net_base.specs.IpHeaders.{ipv4_header_len}
use Rattle.ip_translation.specs.Fragments.{whole}
use Rattle.ip_translation.specs.HeadersToIpv4 as back
use Rattle.ip_translation.specs.HeadersToIpv6 as headers
use Rattle.ip_translation.specs.AddressTables.{ComesBack, embedded, extracted}
use Rattle.ip_translation.proofs.BackLemmas.{destination_of, source_of}
use Rattle.ip_translation.proofs.HeaderBackLemmas.{header_same}
use Rattle.ip_translation.proofs.laws.header_there_and_back.Goals as goal

pub returns-clause-addresses : goal.returns-clause-addresses
returns-clause-addresses c = λ come.
    let prefixes = c.args.prefixes.now in
    let header : List ℕ = c.args.header.now in
    let source_back = subst (ComesBack prefixes.source) (sym c.source.ensures) come.source_back in
    let destination_back = subst (ComesBack prefixes.destination) (sym c.destination.ensures) come.destination_back in
    let is_source : c.embed.result ≡ embedded prefixes.source (headers.source header) =
    c.embed.ensures.embedded ∙ ap (embedded prefixes.source) c.source.ensures in
    let is_destination : c.embed-2.result ≡ embedded prefixes.destination (headers.destination header) =
    c.embed-2.ensures.embedded ∙ ap (embedded prefixes.destination) c.destination.ensures in
    let source_len : length (embedded prefixes.source (headers.source header)) ≡ 16 = ap length (sym is_source) ∙ search rules in
    let destination_len : length (embedded prefixes.destination (headers.destination header)) ≡ 16 =
    ap length (sym is_destination) ∙ search rules in
    let old_source : back.source (headers.translated_header prefixes header) ≡ embedded prefixes.source (headers.source header) =
    source_of (headers.type_of_service header) (headers.total_len header - ipv4_header_len header)
    (headers.next_header (headers.protocol header))
    (headers.time_to_live header - 1) (embedded prefixes.source (headers.source header))
    (embedded prefixes.destination (headers.destination header)) source_len in
    let old_destination : back.destination (headers.translated_header prefixes header)
    ≡ embedded prefixes.destination (headers.destination header) =
    destination_of (headers.type_of_service header) (headers.total_len header - ipv4_header_len header)
    (headers.next_header (headers.protocol header))
    (headers.time_to_live header - 1) (embedded prefixes.source (headers.source header))
    (embedded prefixes.destination (headers.destination header)) source_len destination_len in
    let same_source : extracted prefixes.source (back.source (headers.translated_header prefixes header)) ≡ headers.source header =
    ap (extracted prefixes.source) (old_source ∙ sym is_source) ∙ c.embed.ensures.extracted source_back ∙ c.source.ensures in
    let same_destination : extracted prefixes.destination (back.destination (headers.translated_header prefixes header))
    ≡ headers.destination header =
    ap (extracted prefixes.destination) (old_destination ∙ sym is_destination) ∙ c.embed-2.ensures.extracted destination_back
    ∙ c.destination.ensures in
    (same_source, same_destination)

pub returns-clause-back : goal.returns-clause-back
returns-clause-back c = λ come identification len first counted other.
    let prefixes = c.args.prefixes.now in
    let header : List ℕ = c.args.header.now in
    let source_back = subst (ComesBack prefixes.source) (sym c.source.ensures) come.source_back in
    let destination_back = subst (ComesBack prefixes.destination) (sym c.destination.ensures) come.destination_back in
    let fits : IsBytes header = subst IsBytes c.slice.ensures c.expect_bytes.ensures in
    let header_len : ipv4_header_len header ≡ 20 = ap (λ byte. byte % 16 * 4) first in
    let is_source : c.embed.result ≡ embedded prefixes.source (headers.source header) =
    c.embed.ensures.embedded ∙ ap (embedded prefixes.source) c.source.ensures in
    let is_destination : c.embed-2.result ≡ embedded prefixes.destination (headers.destination header) =
    c.embed-2.ensures.embedded ∙ ap (embedded prefixes.destination) c.destination.ensures in
    let source_len : length (embedded prefixes.source (headers.source header)) ≡ 16 = ap length (sym is_source) ∙ search rules in
    let destination_len : length (embedded prefixes.destination (headers.destination header)) ≡ 16 =
    ap length (sym is_destination) ∙ search rules in
    let old_source : back.source (headers.translated_header prefixes header) ≡ embedded prefixes.source (headers.source header) =
    source_of (headers.type_of_service header) (headers.total_len header - ipv4_header_len header)
    (headers.next_header (headers.protocol header))
    (headers.time_to_live header - 1) (embedded prefixes.source (headers.source header))
    (embedded prefixes.destination (headers.destination header)) source_len in
    let old_destination : back.destination (headers.translated_header prefixes header)
    ≡ embedded prefixes.destination (headers.destination header) =
    destination_of (headers.type_of_service header) (headers.total_len header - ipv4_header_len header)
    (headers.next_header (headers.protocol header))
    (headers.time_to_live header - 1) (embedded prefixes.source (headers.source header))
    (embedded prefixes.destination (headers.destination header)) source_len destination_len in
    let same_source : extracted prefixes.source (back.source (headers.translated_header prefixes header)) ≡ headers.source header =
    ap (extracted prefixes.source) (old_source ∙ sym is_source) ∙ c.embed.ensures.extracted source_back ∙ c.source.ensures in
    let same_destination : extracted prefixes.destination (back.destination (headers.translated_header prefixes header))
    ≡ headers.destination header =
    ap (extracted prefixes.destination) (old_destination ∙ sym is_destination) ∙ c.embed-2.ensures.extracted destination_back
    ∙ c.destination.ensures in
    let start : ℕ → List ℕ = λ header_len.
    let ipv6 : List ℕ = headers.ipv6_header (headers.type_of_service header) (headers.total_len header - header_len)
    (headers.next_header (headers.protocol header) ∷ (headers.time_to_live header - 1) ∷ [])
    (embedded prefixes.source (headers.source header)) (embedded prefixes.destination (headers.destination header)) in
    back.start_of_ipv4 (back.traffic_class ipv6) (back.payload_len ipv6 + 20) (whole identification) (headers.time_to_live header - 1 - 1)
    (back.protocol_of (headers.next_header (headers.protocol header))) in
    ap₂ (λ source destination. back.ipv4_header (start (ipv4_header_len header)) source destination) same_source same_destination
    ∙ ap (λ len. back.ipv4_header (start len) (headers.source header) (headers.destination header)) header_len
    ∙ header_same identification header (embedded prefixes.source (headers.source header))
    (embedded prefixes.destination (headers.destination header)) fits len first counted other
