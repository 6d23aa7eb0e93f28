use Rattle.std.proofs.Common.{◌≡◌, ◌<◌, ◌++◌, List, ℕ, Option, false, length, drop, subst, sym, ap, ap₂, refl, ◌∙◌, true≢false, arith}
use Rattle.std.specs.Prelude.{IfOk}
use Rattle.std.proofs.lemmas.Result.{IfOk-weaker}
use Rattle.ip_part.specs.Ip.{error_of}
use Rattle.net_base.specs.Refusals.{RefusesExactly}
use Rattle.ip_translation.specs.Fragments.{whole}
use Rattle.ip_translation.specs.HeadersToIpv4 as headers
use Rattle.ip_translation.specs.PacketsToIpv4 as specs
use Rattle.ip_translation.specs.SkippedHeaders.{none_skipped}
use Rattle.ip_translation.proofs.DirectLemmas.{IsDirect, is_direct, moved}
use Rattle.ip_translation.proofs.LabelLemmas.{IsSameWhole, same_without_label}
use Rattle.ip_translation.proofs.PacketBackLemmas.{skips_none}
use Rattle.ip_translation.proofs.RuleLemmas.{last_of_two}
use Rattle.ip_translation.proofs.packet_to_ipv4.translate_payload.Goals as goal

-- a header without extension headers is translated like the header that the specification describes
record IsDirectAlike (identification : ℕ) (header payload : List ℕ) : Type 0 where
  pub direct : IsDirect identification header payload (specs.header_before header (headers.next_header header) payload) payload
      (whole identification)
  pub same : IsSameWhole header (specs.header_before header (headers.next_header header) payload)

is_alike : (identification : ℕ) (header payload : List ℕ) → headers.is_extension (headers.next_header header) ≡ false → length header ≡ 40
    → length payload ≡ headers.payload_len header → length payload < 65536 → IsDirectAlike identification header payload
is_alike identification header payload none forty counted small = record {
  direct = is_direct identification header payload _ payload (whole identification) (none_skipped (headers.next_header header))
      (skips_none (headers.next_header header) payload none) refl refl refl;
  same = same_without_label header payload forty counted small;
}

pub returns-clause-refused : goal.returns-clause-refused
returns-clause-refused c =
    let room : ℕ = length c.args.buffer.now in
    let header : List ℕ = c.args.header.now in
    let payload : List ℕ = c.args.payload.now in
    let none : headers.is_extension (headers.next_header header) ≡ false =
    ap headers.is_extension (sym c.next_header.ensures) ∙ sym c.is_extension.ensures ∙ c.if-is_extension.false in
    let alike = is_alike c.args.identification header payload none c.requires.long c.requires.whole (omega (arith, c.requires.counted)) in
    let refusal : List ℕ → Option ℕ → List ℕ → _ =
    λ header flags message. specs.direct_refusal header c.args.prefixes.now flags message room in
    subst (RefusesExactly c.translate_whole.result)
    (sym (
    last_of_two (error_of (specs.skipped_in header payload))
    (refusal (specs.direct_in header payload) (specs.flags_in header payload) (specs.message_in header payload)) alike.direct.accepted
    ∙ ap (λ header. refusal header (specs.flags_in c.args.header.now payload) (specs.message_in c.args.header.now payload))
    alike.direct.header_is
    ∙ ap₂ (refusal (specs.header_before header (headers.next_header header) payload)) alike.direct.flags_are alike.direct.message_is
    ∙ alike.same.refusal c.args.prefixes.now payload room))
    c.translate_whole.ensures.refused

pub returns-clause-len : goal.returns-clause-len
returns-clause-len c =
    let header : List ℕ = c.args.header.now in
    let payload : List ℕ = c.args.payload.now in
    let none : headers.is_extension (headers.next_header header) ≡ false =
    ap headers.is_extension (sym c.next_header.ensures) ∙ sym c.is_extension.ensures ∙ c.if-is_extension.false in
    let alike = is_alike c.args.identification header payload none c.requires.long c.requires.whole (omega (arith, c.requires.counted)) in
    moved (λ header fields message. IfOk c.translate_whole.result
    (λ len. len ≡ specs.direct_len header c.args.prefixes.now fields.flags_and_offset message))
    c.args.identification header payload _ payload (whole c.args.identification) alike.direct
    (subst (λ expected. IfOk c.translate_whole.result (λ len. len ≡ expected)) (sym (alike.same.len c.args.prefixes.now payload))
    c.translate_whole.ensures.len)

pub returns-clause-written : goal.returns-clause-written
returns-clause-written c =
    let header : List ℕ = c.args.header.now in
    let payload : List ℕ = c.args.payload.now in
    let none : headers.is_extension (headers.next_header header) ≡ false =
    ap headers.is_extension (sym c.next_header.ensures) ∙ sym c.is_extension.ensures ∙ c.if-is_extension.false in
    let alike = is_alike c.args.identification header payload none c.requires.long c.requires.whole (omega (arith, c.requires.counted)) in
    moved (λ header fields message. IfOk c.translate_whole.result (λ len. c.translate_whole.new.buffer
    ≡ specs.direct_translation header c.args.prefixes.now fields message ++ drop len c.args.buffer.now))
    c.args.identification header payload _ payload (whole c.args.identification) alike.direct
    (subst (λ expected. IfOk c.translate_whole.result (λ len. c.translate_whole.new.buffer ≡ expected ++ drop len c.args.buffer.now))
    (sym (alike.same.translation c.args.prefixes.now (whole c.args.identification) payload))
    (subst (λ fields. IfOk c.translate_whole.result (λ len. c.translate_whole.new.buffer
    ≡ specs.translation_of header c.args.prefixes.now fields payload ++ drop len c.args.buffer.now)) c.whole.ensures
    c.translate_whole.ensures.written))

pub returns-clause-alike : goal.returns-clause-alike
returns-clause-alike c =
    let header : List ℕ = c.args.header.now in
    let payload : List ℕ = c.args.payload.now in
    let none : headers.is_extension (headers.next_header header) ≡ false =
    ap headers.is_extension (sym c.next_header.ensures) ∙ sym c.is_extension.ensures ∙ c.if-is_extension.false in
    let alike = is_alike c.args.identification header payload none c.requires.long c.requires.whole (omega (arith, c.requires.counted)) in
    let direct : List ℕ = specs.header_before header (headers.next_header header) payload in
    moved (λ header fields message. IfOk c.translate_whole.result
    (λ _. specs.IsPacketAlike c.args.prefixes.now header fields.flags_and_offset message))
    c.args.identification header payload direct payload (whole c.args.identification) alike.direct
    (IfOk-weaker c.translate_whole.result
    (λ _. specs.AreAcceptedAlike c.args.prefixes.now header payload)
    (λ _. specs.IsPacketAlike c.args.prefixes.now direct (whole c.args.identification).flags_and_offset payload)
    (λ _ accepted. record {
      whole = λ _. alike.same.alike c.args.prefixes.now payload accepted;
      first = λ part _. absurd (true≢false (sym part));
    })
    c.translate_whole.ensures.alike)
