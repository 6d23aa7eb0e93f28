use Rattle.std.proofs.Common.{◌≡◌, ◌+◌, ◌-◌, ◌++◌, List, ℕ, length, drop, rules, subst, ap, ap₂, ◌∙◌}
use Rattle.ip_translation.specs.ErrorsToIpv4.{error_without_checksum, with_new_checksum}
use Rattle.ip_translation.specs.HeadersToIpv4.{header_with, hop_limit}
use Rattle.ip_translation.specs.PacketsToIpv4 as specs
use Rattle.ip_translation.proofs.packet_to_ipv4.translate_error.Goals as goal

pub returns-clause-written : goal.returns-clause-written
returns-clause-written c =
    let header : List ℕ = c.args.header.now in
    let message : List ℕ = c.args.message.now in
    let error : List ℕ = error_without_checksum c.args.prefixes.now message in
    let front : List ℕ = header_with c.args.prefixes.now c.args.fields (length error + 20) (hop_limit header - 1) header in
    let same : c.as_slice-2.result.now ≡ error = search rules in
    let hop : c.saturating_sub-time_to_live.result ≡ hop_limit header - 1 = search rules in
    let copied : c.as_slice.result.now ≡ c.header_with-ipv4_header.result.items = search rules in
    let front_is : c.as_slice.result.now ≡ front =
    copied ∙ c.header_with-ipv4_header.ensures.written
    ∙ ap₂ (λ len hop. header_with c.args.prefixes.now c.args.fields len hop header) (search rules) hop in
    c.write_error_parts.ensures.written
    ∙ ap₂ (λ front error. (front ++ with_new_checksum header message error) ++ drop (length front + length error) c.args.buffer.now)
    front_is same
    ∙ ap (λ len. specs.error_packet header c.args.prefixes.now c.args.fields message ++ drop len c.args.buffer.now) (search rules)

pub returns-clause-alike : goal.returns-clause-alike
returns-clause-alike c =
    let same : c.as_slice-2.result.now ≡ error_without_checksum c.args.prefixes.now c.args.message.now = search rules in
    subst (specs.IsChecksumAlike c.args.header.now c.args.message.now) same c.write_error_parts.ensures.alike
