use Rattle.std.proofs.Common.{◌≡◌, ◌+◌, ◌++◌, List, ℕ, append_assoc, drop, length, rules, ap, ap₂, sym, ◌∙◌}
use Rattle.std.proofs.lemmas.List.{drop-drop}
use Rattle.ip_translation.specs.HeadersToIpv6.{translated_header}
use Rattle.ip_translation.specs.PacketsToIpv6.{updated_message}
use Rattle.ip_translation.proofs.packet_translation.write_in_place.Goals as goal

pub returns-clause-written : goal.returns-clause-written
returns-clause-written c =
    let message : List ℕ = c.args.message.now in
    let buffer : List ℕ = c.args.buffer.now in
    let front : List ℕ = translated_header c.args.prefixes.now c.args.header.now in
    let translated : List ℕ = updated_message c.args.prefixes.now c.args.header.now message in
    let back : c.split_at_mut-front.result.1.now ≡ drop 40 buffer = search rules in
    let rest : drop (length message) c.split_at_mut-front.result.1.now ≡ drop (40 + length message) buffer =
    ap (drop (length message)) back ∙ drop-drop (length message) 40 buffer in
    ap₂ (λ front translated. front ++ (translated ++ drop (length message) c.split_at_mut-front.result.1.now))
    c.write_header.ensures.written c.write_message.ensures.written
    ∙ ap (λ rest. front ++ (translated ++ rest)) rest
    ∙ sym (append_assoc front translated (drop (40 + length message) buffer))
