use Rattle.std.proofs.Common.{◌≡◌, ◌+◌, min, List, ℕ, length, drop, take, rules, ap, ◌∙◌}
use Rattle.std.proofs.lemmas.List.{drop_min}
use Rattle.ip_translation.specs.HeadersToIpv4.{payload_len}
use Rattle.ip_translation.proofs.ErrorLemmas.{rest_from}
use Rattle.ip_translation.proofs.quoted_to_ipv4.quoted_payload.Goals as goal

pub returns-clause-bytes : goal.returns-clause-bytes
returns-clause-bytes c =
    let counted : List ℕ = c.first_bytes-counted.result.now in
    let start : ℕ = c.min-start.result in
    let start_is : start ≡ min 40 (length counted) = search rules in
    let counted_is : counted ≡ take (40 + payload_len c.args.header.now) c.args.quote.now = search rules in
    rest_from start counted ∙ ap (λ n. drop n counted) start_is ∙ drop_min 40 counted ∙ ap (drop 40) counted_is
