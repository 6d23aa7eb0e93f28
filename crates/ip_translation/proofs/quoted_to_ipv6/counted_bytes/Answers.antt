use Rattle.std.proofs.Common.{◌≡◌, ◌-◌, min, List, ℕ, length, drop, take, rules, ap, ◌∙◌}
use Rattle.std.proofs.lemmas.List.{drop_min}
use Rattle.net_base.specs.IpHeaders.{ipv4_header_len}
use Rattle.ip_translation.specs.HeadersToIpv6.{total_len}
use Rattle.ip_translation.specs.QuotedToIpv6 as specs
use Rattle.ip_translation.proofs.ErrorLemmas.{rest_from}
use Rattle.ip_translation.proofs.quoted_to_ipv6.counted_bytes.Goals as goal

pub returns-clause-bytes : goal.returns-clause-bytes
returns-clause-bytes c =
    let quote : List ℕ = c.args.quote.now in
    let header : List ℕ = c.args.header.now in
    let counted : List ℕ = c.first_bytes-counted.result.now in
    let start : ℕ = c.min-start.result in
    let start_is : start ≡ min (ipv4_header_len header) (length counted) = search rules in
    let counted_is : counted ≡ take (total_len header) quote = search rules in
    c.first_bytes.ensures.bytes
    ∙ ap (λ room. take room (take (length counted - start) (drop start counted))) c.message_room.ensures.room
    ∙ ap (take (specs.message_room header)) (rest_from start counted ∙ ap (λ n. drop n counted) start_is
    ∙ drop_min (ipv4_header_len header) counted ∙ ap (drop (ipv4_header_len header)) counted_is)
