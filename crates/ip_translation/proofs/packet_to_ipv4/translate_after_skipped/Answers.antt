use Rattle.std.proofs.Common.{◌≡◌, ◌++◌, List, ℕ, Option, Ok, length, drop, rules, subst, sym, ap, ap₂, ◌∙◌}
use Rattle.std.specs.Prelude.{IfOk}
use Rattle.std.proofs.lemmas.List.{take_rest}
use Rattle.ip_part.specs.Ip.{error_of}
use Rattle.net_base.specs.Refusals.{RefusesExactly}
use Rattle.ip_translation.specs.PacketsToIpv4 as specs
use Rattle.ip_translation.specs.SkippedHeaders.{headers_before}
use Rattle.ip_translation.proofs.DirectLemmas.{IsDirect, is_direct, moved}
use Rattle.ip_translation.proofs.RuleLemmas.{last_of_two}
use Rattle.ip_translation.proofs.packet_to_ipv4.translate_after_skipped.Goals as goal

pub returns-clause-refused : goal.returns-clause-refused
returns-clause-refused c =
    let room : ℕ = length c.args.buffer.now in
    let header : List ℕ = c.args.header.now in
    let payload : List ℕ = c.args.payload.now in
    let is : specs.skipped_in header payload ≡ Ok c.in_ok-skipped.skipped =
    ap (λ number. headers_before number payload) (sym c.next_header.ensures) ∙ sym c.in_ok-skipped.ensures.skipped in
    let copied : c.as_slice.result.now ≡ c.header_before-direct.result.items = search rules in
    let direct : IsDirect c.args.identification header payload c.whole_header.result _ c.fields_or.result =
    is_direct c.args.identification header payload c.whole_header.result _ c.fields_or.result c.in_ok-skipped.skipped is
    (take_rest payload c.in_ok-skipped.skipped.len)
    (c.whole_header.ensures ∙ copied ∙ c.header_before-direct.ensures.bytes) c.fields_or.ensures in
    let refusal : List ℕ → Option ℕ → List ℕ → _ =
    λ header flags message. specs.direct_refusal header c.args.prefixes.now flags message room in
    subst (RefusesExactly c.translate_direct.result)
    (sym (
    last_of_two (error_of (specs.skipped_in header payload))
    (refusal (specs.direct_in header payload) (specs.flags_in header payload) (specs.message_in header payload)) direct.accepted
    ∙ ap (λ header. refusal header (specs.flags_in c.args.header.now payload) (specs.message_in c.args.header.now payload)) direct.header_is
    ∙ ap₂ (refusal c.whole_header.result) direct.flags_are direct.message_is))
    c.translate_direct.ensures.refused

pub returns-clause-len : goal.returns-clause-len
returns-clause-len c =
    let header : List ℕ = c.args.header.now in
    let payload : List ℕ = c.args.payload.now in
    let is : specs.skipped_in header payload ≡ Ok c.in_ok-skipped.skipped =
    ap (λ number. headers_before number payload) (sym c.next_header.ensures) ∙ sym c.in_ok-skipped.ensures.skipped in
    let copied : c.as_slice.result.now ≡ c.header_before-direct.result.items = search rules in
    let direct : IsDirect c.args.identification header payload c.whole_header.result _ c.fields_or.result =
    is_direct c.args.identification header payload c.whole_header.result _ c.fields_or.result c.in_ok-skipped.skipped is
    (take_rest payload c.in_ok-skipped.skipped.len)
    (c.whole_header.ensures ∙ copied ∙ c.header_before-direct.ensures.bytes) c.fields_or.ensures in
    moved (λ header fields message. IfOk c.translate_direct.result
    (λ len. len ≡ specs.direct_len header c.args.prefixes.now fields.flags_and_offset message))
    c.args.identification header payload c.whole_header.result _ c.fields_or.result direct c.translate_direct.ensures.len

pub returns-clause-written : goal.returns-clause-written
returns-clause-written c =
    let header : List ℕ = c.args.header.now in
    let payload : List ℕ = c.args.payload.now in
    let is : specs.skipped_in header payload ≡ Ok c.in_ok-skipped.skipped =
    ap (λ number. headers_before number payload) (sym c.next_header.ensures) ∙ sym c.in_ok-skipped.ensures.skipped in
    let copied : c.as_slice.result.now ≡ c.header_before-direct.result.items = search rules in
    let direct : IsDirect c.args.identification header payload c.whole_header.result _ c.fields_or.result =
    is_direct c.args.identification header payload c.whole_header.result _ c.fields_or.result c.in_ok-skipped.skipped is
    (take_rest payload c.in_ok-skipped.skipped.len)
    (c.whole_header.ensures ∙ copied ∙ c.header_before-direct.ensures.bytes) c.fields_or.ensures in
    moved (λ header fields message. IfOk c.translate_direct.result (λ len. c.translate_direct.new.buffer
    ≡ specs.direct_translation header c.args.prefixes.now fields message ++ drop len c.args.buffer.now))
    c.args.identification header payload c.whole_header.result _ c.fields_or.result direct c.translate_direct.ensures.written

pub returns-clause-alike : goal.returns-clause-alike
returns-clause-alike c =
    let header : List ℕ = c.args.header.now in
    let payload : List ℕ = c.args.payload.now in
    let is : specs.skipped_in header payload ≡ Ok c.in_ok-skipped.skipped =
    ap (λ number. headers_before number payload) (sym c.next_header.ensures) ∙ sym c.in_ok-skipped.ensures.skipped in
    let copied : c.as_slice.result.now ≡ c.header_before-direct.result.items = search rules in
    let direct : IsDirect c.args.identification header payload c.whole_header.result _ c.fields_or.result =
    is_direct c.args.identification header payload c.whole_header.result _ c.fields_or.result c.in_ok-skipped.skipped is
    (take_rest payload c.in_ok-skipped.skipped.len)
    (c.whole_header.ensures ∙ copied ∙ c.header_before-direct.ensures.bytes) c.fields_or.ensures in
    moved (λ header fields message. IfOk c.translate_direct.result
    (λ _. specs.IsPacketAlike c.args.prefixes.now header fields.flags_and_offset message))
    c.args.identification header payload c.whole_header.result _ c.fields_or.result direct c.translate_direct.ensures.alike
