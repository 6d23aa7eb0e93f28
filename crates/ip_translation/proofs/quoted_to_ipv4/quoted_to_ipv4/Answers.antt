use Rattle.std.proofs.Common.{◌≡◌, List, ℕ, Err, Ok, Option, refl, rules, subst, sym, take, ap, ◌∙◌}
use Rattle.std.specs.Prelude.{IfOk}
use Rattle.std.proofs.lemmas.List.{take_rest}
use Rattle.net_base.specs.Refusals.{RefusesExactly}
use Rattle.ip_translation.specs.Ipv6Packets.{skipped_in}
use Rattle.ip_translation.specs.QuotedToIpv4 as specs
use Rattle.ip_translation.specs.SkippedHeaders.{unless_err}
use Rattle.ip_translation.specs.declared.fragment_fields.FragmentFields.{FragmentFields}
use Rattle.ip_translation.specs.declared.packet_translation_error.PacketTranslationError.{PacketTranslationError}
use Rattle.ip_translation.specs.declared.skipped_headers.SkippedHeaders.{SkippedHeaders}
use Rattle.ip_translation.proofs.RuleLemmas.{first_of_two, last_of_two}
use Rattle.ip_translation.proofs.quoted_to_ipv4.quoted_to_ipv4.Goals as goal

pub returns-in_err-skipped-clause-refused : goal.returns-in_err-skipped-clause-refused
returns-in_err-skipped-clause-refused c =
    let header : List ℕ = c.args.header.now in
    let payload : List ℕ = c.quoted_payload-payload.result.now in
    let refusal : List ℕ → Option PacketTranslationError =
    λ payload. specs.payload_refusal c.args.prefixes.now header payload (skipped_in header payload) in
    let result : c.from_residual.result ≡ Err c.in_err-skipped.field-0.0 = search rules in
    subst (λ result. RefusesExactly result (specs.quoted_refusal c.args.prefixes.now header c.args.quote.now)) (sym result)
    (ap refusal (sym c.quoted_payload-payload.ensures.bytes)
    ∙ first_of_two (specs.extension_refusal header (skipped_in header payload))
    (specs.refusal_after c.args.prefixes.now header payload (unless_err (skipped_in header payload)))
    c.in_err-skipped.field-0.0 c.in_err-skipped.ensures.refused)

pub returns-clause-refused : goal.returns-clause-refused
returns-clause-refused c =
    let header : List ℕ = c.args.header.now in
    let payload : List ℕ = c.quoted_payload-payload.result.now in
    let skipped : SkippedHeaders = c.in_ok-skipped.skipped in
    let message : List ℕ = c.first_bytes-message.result.now in
    let by : FragmentFields → List ℕ → List ℕ → Option PacketTranslationError =
    λ fields header message. specs.direct_refusal c.args.prefixes.now fields.flags_and_offset header message in
    let refusal : List ℕ → Option PacketTranslationError =
    λ payload. specs.payload_refusal c.args.prefixes.now header payload (skipped_in header payload) in
    let copied : c.as_slice.result.now ≡ c.direct_header-direct.result.items = search rules in
    let header_is : c.whole_header.result ≡ specs.direct_header header skipped =
    c.whole_header.ensures ∙ copied ∙ c.direct_header-direct.ensures.bytes in
    let message_is : message ≡ specs.message_after skipped payload =
    c.first_bytes-message.ensures.bytes ∙ ap (take 1192) (take_rest payload skipped.len) in
    subst (RefusesExactly c.translate_direct.result)
    (ap (λ fields. by fields c.whole_header.result message) c.fields_or-fields.ensures
    ∙ ap (λ header. by (specs.fields_after skipped) header message) header_is
    ∙ ap (by (specs.fields_after skipped) (specs.direct_header header skipped)) message_is
    ∙ sym (last_of_two (specs.extension_refusal header (Ok skipped)) (specs.refusal_after c.args.prefixes.now header payload skipped) refl)
    ∙ sym (ap (specs.payload_refusal c.args.prefixes.now header payload) c.in_ok-skipped.ensures.skipped)
    ∙ ap refusal c.quoted_payload-payload.ensures.bytes)
    c.translate_direct.ensures.refused

pub returns-clause-written : goal.returns-clause-written
returns-clause-written c =
    let header : List ℕ = c.args.header.now in
    let payload : List ℕ = c.quoted_payload-payload.result.now in
    let skipped : SkippedHeaders = c.in_ok-skipped.skipped in
    let message : List ℕ = c.first_bytes-message.result.now in
    let by : FragmentFields → List ℕ → List ℕ → List ℕ =
    λ fields header message. specs.direct_packet c.args.prefixes.now fields header message in
    let packet : List ℕ → List ℕ =
    λ payload. specs.packet_after c.args.prefixes.now header payload (unless_err (skipped_in header payload)) in
    let copied : c.as_slice.result.now ≡ c.direct_header-direct.result.items = search rules in
    let header_is : c.whole_header.result ≡ specs.direct_header header skipped =
    c.whole_header.ensures ∙ copied ∙ c.direct_header-direct.ensures.bytes in
    let message_is : message ≡ specs.message_after skipped payload =
    c.first_bytes-message.ensures.bytes ∙ ap (take 1192) (take_rest payload skipped.len) in
    subst (λ bytes. IfOk c.translate_direct.result (λ packet. packet.items ≡ bytes))
    (ap (λ fields. by fields c.whole_header.result message) c.fields_or-fields.ensures
    ∙ ap (λ header. by (specs.fields_after skipped) header message) header_is
    ∙ ap (by (specs.fields_after skipped) (specs.direct_header header skipped)) message_is
    ∙ sym (ap (λ skipped. specs.packet_after c.args.prefixes.now header payload (unless_err skipped)) c.in_ok-skipped.ensures.skipped)
    ∙ ap packet c.quoted_payload-payload.ensures.bytes)
    c.translate_direct.ensures.written
