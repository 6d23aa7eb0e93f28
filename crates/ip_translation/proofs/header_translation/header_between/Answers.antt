use Rattle.std.proofs.Common.{List, [], ◌∷◌, ℕ, rules, ap, sym, ◌∙◌}
use Rattle.std.specs.Prelude.{slice_range}
use Rattle.std.proofs.lemmas.List.{append-nil}
use Rattle.ip_translation.specs.HeadersToIpv6.{ipv6_header}
use Rattle.ip_translation.proofs.TranslatedAddressLemmas.{ipv6_destination, ipv6_source}
use Rattle.ip_translation.proofs.header_translation.header_between.Goals as goal

pub returns-clause-source : goal.returns-clause-source
returns-clause-source c =
    let header : List ℕ = ipv6_header c.byte_at-service.result c.args.payload_len (c.next_header-next_header.result.0 ∷ c.args.hop_limit ∷ [])
    c.args.source c.args.destination in
    ap (λ bytes. slice_range bytes 8 24) (c.ipv6_header.ensures.bytes ∙ sym (append-nil header))
    ∙ ipv6_source c.byte_at-service.result c.args.payload_len c.next_header-next_header.result.0 c.args.hop_limit c.args.source c.args.destination [] (search rules)

pub returns-clause-destination : goal.returns-clause-destination
returns-clause-destination c =
    let header : List ℕ = ipv6_header c.byte_at-service.result c.args.payload_len (c.next_header-next_header.result.0 ∷ c.args.hop_limit ∷ [])
    c.args.source c.args.destination in
    ap (λ bytes. slice_range bytes 24 40) (c.ipv6_header.ensures.bytes ∙ sym (append-nil header))
    ∙ ipv6_destination c.byte_at-service.result c.args.payload_len c.next_header-next_header.result.0 c.args.hop_limit c.args.source c.args.destination [] (search rules) (search rules)
