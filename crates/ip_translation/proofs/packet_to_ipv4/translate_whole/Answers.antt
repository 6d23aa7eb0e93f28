use Rattle.std.proofs.Common.{◌≡◌, ◌+◌, ◌++◌, List, ℕ, true, false, if◌then◌else◌, length, drop, rules, subst, sym, ap, ◌∙◌, true≢false}
use Rattle.std.specs.Prelude.{IfOk}
use Rattle.std.specs.Option.{option_map}
use Rattle.std.proofs.lemmas.Result.{IfOk-weaker}
use Rattle.net_base.specs.Refusals.{RefusesExactly}
use Rattle.ip_translation.specs.ErrorsToIpv4.{error_without_checksum}
use Rattle.ip_translation.specs.HeadersToIpv4 as headers
use Rattle.ip_translation.specs.PacketsToIpv4 as specs
use Rattle.ip_translation.specs.declared.packet_translation_error.PacketTranslationError.TheVariants.{Header}
use Rattle.ip_translation.proofs.RuleLemmas.{last_of_two}
use Rattle.ip_translation.proofs.packet_to_ipv4.translate_whole.Goals as goal

pub returns-then-is_icmp_error-clause-refused : goal.returns-then-is_icmp_error-clause-refused
returns-then-is_icmp_error-clause-refused c =
    let header : List ℕ = c.args.header.now in
    let message : List ℕ = c.args.message.now in
    let room : ℕ = length c.args.buffer.now in
    let is_error : specs.is_icmp_error (headers.next_header header) message ≡ true =
    ap (λ protocol. specs.is_icmp_error protocol message) (sym c.next_header.ensures)
    ∙ sym c.is_icmp_error.ensures ∙ c.if-is_icmp_error.true in
    subst (RefusesExactly c.translate_error.result)
    (sym (
    last_of_two (option_map Header (headers.header_refusal c.args.prefixes.now header))
    (specs.refusal_of (headers.next_header header) c.args.prefixes.now message room)
    c.in_ok-ipv4_header.ensures.refused
    ∙ ap (λ test. if test then specs.error_packet_refusal c.args.prefixes.now message room
    else specs.other_refusal (headers.next_header header) message room) is_error))
    c.translate_error.ensures.refused

pub returns-then-is_icmp_error-clause-len : goal.returns-then-is_icmp_error-clause-len
returns-then-is_icmp_error-clause-len c =
    let header : List ℕ = c.args.header.now in
    let message : List ℕ = c.args.message.now in
    let is_error : specs.is_icmp_error (headers.next_header header) message ≡ true =
    ap (λ protocol. specs.is_icmp_error protocol message) (sym c.next_header.ensures)
    ∙ sym c.is_icmp_error.ensures ∙ c.if-is_icmp_error.true in
    subst (λ test. IfOk c.translate_error.result
    (λ len. len ≡ 20 + (if test then length (error_without_checksum c.args.prefixes.now message) else length message)))
    (sym is_error)
    c.translate_error.ensures.len

pub returns-then-is_icmp_error-clause-written : goal.returns-then-is_icmp_error-clause-written
returns-then-is_icmp_error-clause-written c =
    let header : List ℕ = c.args.header.now in
    let message : List ℕ = c.args.message.now in
    let is_error : specs.is_icmp_error (headers.next_header header) message ≡ true =
    ap (λ protocol. specs.is_icmp_error protocol message) (sym c.next_header.ensures)
    ∙ sym c.is_icmp_error.ensures ∙ c.if-is_icmp_error.true in
    subst (λ test. IfOk c.translate_error.result (λ len. c.translate_error.new.buffer
    ≡ (if test then specs.error_packet header c.args.prefixes.now c.args.fields message
    else headers.translated_header c.args.prefixes.now c.args.fields header ++ specs.updated_message c.args.prefixes.now header message)
    ++ drop len c.args.buffer.now))
    (sym is_error)
    c.translate_error.ensures.written

pub returns-then-is_icmp_error-clause-alike : goal.returns-then-is_icmp_error-clause-alike
returns-then-is_icmp_error-clause-alike c =
    let header : List ℕ = c.args.header.now in
    let message : List ℕ = c.args.message.now in
    let is_error : specs.is_icmp_error (headers.next_header header) message ≡ true =
    ap (λ protocol. specs.is_icmp_error protocol message) (sym c.next_header.ensures)
    ∙ sym c.is_icmp_error.ensures ∙ c.if-is_icmp_error.true in
    IfOk-weaker c.translate_error.result
    (λ _. specs.IsErrorAcceptedAlike c.args.prefixes.now header message)
    (λ _. specs.AreAcceptedAlike c.args.prefixes.now header message)
    (λ _ alike. record { error = λ _. alike; other = λ other. absurd (true≢false (sym is_error ∙ other)) })
    c.translate_error.ensures.alike

pub returns-clause-refused : goal.returns-clause-refused
returns-clause-refused c =
    let header : List ℕ = c.args.header.now in
    let message : List ℕ = c.args.message.now in
    let room : ℕ = length c.args.buffer.now in
    let is_other : specs.is_icmp_error (headers.next_header header) message ≡ false =
    ap (λ protocol. specs.is_icmp_error protocol message) (sym c.next_header.ensures)
    ∙ sym c.is_icmp_error.ensures ∙ c.if-is_icmp_error.false in
    subst (RefusesExactly c.translate_message.result)
    (sym (
    last_of_two (option_map Header (headers.header_refusal c.args.prefixes.now header))
    (specs.refusal_of (headers.next_header header) c.args.prefixes.now message room)
    c.in_ok-ipv4_header.ensures.refused
    ∙ ap (λ test. if test then specs.error_packet_refusal c.args.prefixes.now message room
    else specs.other_refusal (headers.next_header header) message room) is_other))
    c.translate_message.ensures.refused

pub returns-clause-len : goal.returns-clause-len
returns-clause-len c =
    let header : List ℕ = c.args.header.now in
    let message : List ℕ = c.args.message.now in
    let is_other : specs.is_icmp_error (headers.next_header header) message ≡ false =
    ap (λ protocol. specs.is_icmp_error protocol message) (sym c.next_header.ensures)
    ∙ sym c.is_icmp_error.ensures ∙ c.if-is_icmp_error.false in
    subst (λ test. IfOk c.translate_message.result
    (λ len. len ≡ 20 + (if test then length (error_without_checksum c.args.prefixes.now message) else length message)))
    (sym is_other)
    c.translate_message.ensures.len

pub returns-clause-written : goal.returns-clause-written
returns-clause-written c =
    let header : List ℕ = c.args.header.now in
    let message : List ℕ = c.args.message.now in
    let translated : List ℕ = headers.translated_header c.args.prefixes.now c.args.fields header in
    let same : c.as_slice.result.now ≡ translated = search rules in
    let is_other : specs.is_icmp_error (headers.next_header header) message ≡ false =
    ap (λ protocol. specs.is_icmp_error protocol message) (sym c.next_header.ensures)
    ∙ sym c.is_icmp_error.ensures ∙ c.if-is_icmp_error.false in
    subst (λ test. IfOk c.translate_message.result (λ len. c.translate_message.new.buffer
    ≡ (if test then specs.error_packet header c.args.prefixes.now c.args.fields message
    else translated ++ specs.updated_message c.args.prefixes.now header message) ++ drop len c.args.buffer.now))
    (sym is_other)
    (subst (λ front. IfOk c.translate_message.result (λ len. c.translate_message.new.buffer
    ≡ (front ++ specs.updated_message c.args.prefixes.now header message) ++ drop len c.args.buffer.now))
    same c.translate_message.ensures.written)

pub returns-clause-alike : goal.returns-clause-alike
returns-clause-alike c =
    let header : List ℕ = c.args.header.now in
    let message : List ℕ = c.args.message.now in
    let is_other : specs.is_icmp_error (headers.next_header header) message ≡ false =
    ap (λ protocol. specs.is_icmp_error protocol message) (sym c.next_header.ensures)
    ∙ sym c.is_icmp_error.ensures ∙ c.if-is_icmp_error.false in
    IfOk-weaker c.translate_message.result
    (λ _. specs.IsAcceptedAlike c.args.prefixes.now header message (specs.updated_message c.args.prefixes.now header message))
    (λ _. specs.AreAcceptedAlike c.args.prefixes.now header message)
    (λ _ alike. record { error = λ error. absurd (true≢false (sym error ∙ is_other)); other = λ _. alike })
    c.translate_message.ensures.alike
