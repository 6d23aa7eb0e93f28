use Rattle.std.proofs.Common.{◌≡◌, ◌+◌, ◌-◌, ◌++◌, List, ℕ, length, drop, rules, sym, ap, ◌∙◌}
use Rattle.std.proofs.lemmas.List.{append_assoc, drop-drop}
use Rattle.ip_translation.specs.ErrorsToIpv6.{with_new_checksum}
use Rattle.ip_translation.specs.HeadersToIpv6.{header_with, time_to_live}
use Rattle.ip_translation.proofs.packet_translation.write_error_parts.Goals as goal

pub returns-clause-written : goal.returns-clause-written
returns-clause-written c =
    let header : List ℕ = c.args.header.now in
    let len : ℕ = length c.args.error.now in
    let front : List ℕ = header_with c.args.prefixes.now len (time_to_live header - 1) header in
    let error : List ℕ = with_new_checksum c.args.prefixes.now header c.args.message.now c.args.error.now in
    let rest : List ℕ = drop len c.split_at_mut-front.result.1.now in
    let copied : c.copy_from_slice.new.self ≡ c.header_with-ipv6_header.result.items = search rules in
    let hop : c.saturating_sub-hop_limit.result ≡ time_to_live header - 1 = search rules in
    let front_is : c.copy_from_slice.new.self ≡ front =
    copied ∙ c.header_with-ipv6_header.ensures.written ∙ ap (λ hop. header_with c.args.prefixes.now len hop header) hop in
    let back : c.split_at_mut-front.result.1.now ≡ drop 40 c.args.buffer.now = search rules in
    let rest_is : rest ≡ drop (40 + len) c.args.buffer.now = ap (drop len) back ∙ drop-drop len 40 c.args.buffer.now in
    ap (λ front. front ++ (c.write_error.new.translated ++ rest)) front_is
    ∙ ap (λ error. front ++ (error ++ rest)) c.write_error.ensures.written
    ∙ ap (λ rest. front ++ (error ++ rest)) rest_is
    ∙ sym (append_assoc front error (drop (40 + len) c.args.buffer.now))
