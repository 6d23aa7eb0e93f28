use Rattle.std.proofs.Common.{◌≡◌, ◌++◌, drop, List, ℕ, length, rules, subst, sym, ap, ◌∙◌}
use Rattle.std.specs.Prelude.{IfOk, not}
use Rattle.net_base.specs.Refusals.{RefusesExactly, refused_if}
use Rattle.ip_translation.specs.PacketsToIpv4 as specs
use Rattle.ip_translation.specs.declared.fragment_fields.FragmentFields.{FragmentFields}
use Rattle.ip_translation.specs.declared.packet_translation_error.PacketTranslationError.TheVariants.{NoIpv6Header}
use Rattle.ip_part.specs.Ip.{ipv6_header}
use Rattle.ip_translation.proofs.PayloadLemmas.{ipv6_payload_kept}
use Rattle.ip_translation.proofs.RuleLemmas.{last_of_three}
use Rattle.ip_translation.proofs.packet_to_ipv4.ipv6_to_ipv4.Goals as goal

pub returns-clause-refused : goal.returns-clause-refused
returns-clause-refused c =
    let packet : List ℕ = c.args.packet.now in
    let room : ℕ = length c.args.buffer.now in
    let whole : specs.cut_off_refusal (ipv6_header packet) (length packet) ≡ _ =
    ap (λ header. specs.cut_off_refusal header (length packet)) (sym c.in-Some.ensures.found.1) ∙ c.in_ok-payload.ensures.refused in
    subst (RefusesExactly c.translate_payload.result)
    (sym (
    last_of_three (refused_if (not (specs.begins_with_header packet)) NoIpv6Header)
    (specs.cut_off_refusal (ipv6_header packet) (length packet))
    (specs.payload_refusal (ipv6_header packet) c.args.prefixes.now (specs.payload_of packet) room)
    (ap (λ begins. refused_if (not begins) NoIpv6Header) c.in-Some.ensures.found.0) whole
    ∙ ap (λ header. specs.payload_refusal header c.args.prefixes.now (specs.payload_after header packet) room)
    (sym c.in-Some.ensures.found.1)
    ∙ ap (λ payload. specs.payload_refusal c.in-Some.header c.args.prefixes.now payload room) (sym c.in_ok-payload.ensures.payload)))
    c.translate_payload.ensures.refused

pub returns-clause-len : goal.returns-clause-len
returns-clause-len c =
    let packet : List ℕ = c.args.packet.now in
    let identification : ℕ = c.args.identification in
    let Holds : List ℕ → FragmentFields → List ℕ → Type 0 = λ header fields message. IfOk c.translate_payload.result
    (λ len. len ≡ specs.direct_len header c.args.prefixes.now fields.flags_and_offset message) in
    let HoldsIn : List ℕ → List ℕ → Type 0 =
    λ header payload. Holds (specs.direct_in header payload) (specs.fields_in identification header payload)
    (specs.message_in header payload) in
    subst (λ header. HoldsIn header (specs.payload_after header packet)) c.in-Some.ensures.found.1
    (subst (HoldsIn c.in-Some.header) c.in_ok-payload.ensures.payload c.translate_payload.ensures.len)

pub returns-clause-written : goal.returns-clause-written
returns-clause-written c =
    let packet : List ℕ = c.args.packet.now in
    let identification : ℕ = c.args.identification in
    let Holds : List ℕ → FragmentFields → List ℕ → Type 0 =
    λ header fields message. IfOk c.translate_payload.result (λ len. c.translate_payload.new.buffer
    ≡ specs.direct_translation header c.args.prefixes.now fields message ++ drop len c.args.buffer.now) in
    let HoldsIn : List ℕ → List ℕ → Type 0 =
    λ header payload. Holds (specs.direct_in header payload) (specs.fields_in identification header payload)
    (specs.message_in header payload) in
    subst (λ header. HoldsIn header (specs.payload_after header packet)) c.in-Some.ensures.found.1
    (subst (HoldsIn c.in-Some.header) c.in_ok-payload.ensures.payload c.translate_payload.ensures.written)

pub returns-clause-alike : goal.returns-clause-alike
returns-clause-alike c =
    let packet : List ℕ = c.args.packet.now in
    let identification : ℕ = c.args.identification in
    let Holds : List ℕ → FragmentFields → List ℕ → Type 0 =
    λ header fields message. IfOk c.translate_payload.result
    (λ _. specs.IsPacketAlike c.args.prefixes.now header fields.flags_and_offset message) in
    let HoldsIn : List ℕ → List ℕ → Type 0 =
    λ header payload. Holds (specs.direct_in header payload) (specs.fields_in identification header payload)
    (specs.message_in header payload) in
    subst (λ header. HoldsIn header (specs.payload_after header packet)) c.in-Some.ensures.found.1
    (subst (HoldsIn c.in-Some.header) c.in_ok-payload.ensures.payload c.translate_payload.ensures.alike)

pub returns-clause-payload : goal.returns-clause-payload
returns-clause-payload c =
    ipv6_payload_kept c.translate_payload.result c.args.prefixes.now c.args.packet.now c.args.identification c.args.buffer.now
    c.translate_payload.new.buffer (returns-clause-refused c) (returns-clause-len c) (returns-clause-written c) (search rules)
