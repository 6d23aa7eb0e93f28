use Rattle.std.proofs.Common.{◌≡◌, ◌+◌, ◌++◌, List, ℕ, true, false, if◌then◌else◌, length, drop, subst, sym, ap, ◌∙◌, true≢false}
use Rattle.std.specs.Prelude.{IfOk}
use Rattle.std.specs.Option.{option_map}
use Rattle.std.proofs.lemmas.Result.{IfOk-weaker}
use Rattle.net_base.specs.Refusals.{RefusesExactly}
use Rattle.ip_translation.specs.ErrorsToIpv6.{error_without_checksum}
use Rattle.ip_translation.specs.HeadersToIpv6 as headers
use Rattle.ip_translation.specs.PacketsToIpv6 as specs
use Rattle.ip_translation.specs.declared.packet_translation_error.PacketTranslationError.TheVariants.{Header}
use Rattle.ip_translation.proofs.ErrorLemmas.{error_type}
use Rattle.ip_translation.proofs.RuleLemmas.{last_of_three}
use Rattle.ip_translation.proofs.packet_translation.translate_in_place.Goals as goal

pub translate_error-requires-clause-some : goal.translate_error-requires-clause-some
translate_error-requires-clause-some c =
    error_type c.protocol.result.0 c.in_ok-message.message.now (sym c.is_icmp_error.ensures ∙ c.if-is_icmp_error.true)

pub returns-then-is_icmp_error-clause-refused : goal.returns-then-is_icmp_error-clause-refused
returns-then-is_icmp_error-clause-refused c =
    let header : List ℕ = c.args.header.now in
    let message : List ℕ = specs.message_after header c.args.packet.now in
    let room : ℕ = length c.args.buffer.now in
    let is_error : specs.is_icmp_error (headers.protocol header) message ≡ true =
    ap (λ protocol. specs.is_icmp_error protocol message) (sym c.protocol.ensures)
    ∙ ap (specs.is_icmp_error c.protocol.result.0) (sym c.in_ok-message.ensures.message)
    ∙ sym c.is_icmp_error.ensures ∙ c.if-is_icmp_error.true in
    let refused : RefusesExactly c.translate_error.result (specs.error_packet_refusal c.args.prefixes.now message room) =
    subst (λ message. RefusesExactly c.translate_error.result (specs.error_packet_refusal c.args.prefixes.now message room))
    c.in_ok-message.ensures.message c.translate_error.ensures.refused in
    subst (RefusesExactly c.translate_error.result)
    (sym (
    last_of_three (option_map Header (headers.header_refusal c.args.prefixes.now header))
    (specs.cut_off_refusal header (length c.args.packet.now))
    (specs.refusal_of (headers.protocol header) c.args.prefixes.now message room)
    c.in_ok-check_translation.ensures.refused c.in_ok-message.ensures.refused
    ∙ ap (λ test. if test then specs.error_packet_refusal c.args.prefixes.now message room
    else specs.other_refusal (headers.protocol header) message room) is_error))
    refused

pub returns-then-is_icmp_error-clause-len : goal.returns-then-is_icmp_error-clause-len
returns-then-is_icmp_error-clause-len c =
    let header : List ℕ = c.args.header.now in
    let message : List ℕ = specs.message_after header c.args.packet.now in
    let is_error : specs.is_icmp_error (headers.protocol header) message ≡ true =
    ap (λ protocol. specs.is_icmp_error protocol message) (sym c.protocol.ensures)
    ∙ ap (specs.is_icmp_error c.protocol.result.0) (sym c.in_ok-message.ensures.message)
    ∙ sym c.is_icmp_error.ensures ∙ c.if-is_icmp_error.true in
    subst (λ test. IfOk c.translate_error.result
    (λ len. len ≡ 40 + (if test then length (error_without_checksum c.args.prefixes.now message) else length message)))
    (sym is_error)
    (subst (λ message. IfOk c.translate_error.result (λ len. len ≡ 40 + length (error_without_checksum c.args.prefixes.now message)))
    c.in_ok-message.ensures.message c.translate_error.ensures.len)

pub returns-then-is_icmp_error-clause-written : goal.returns-then-is_icmp_error-clause-written
returns-then-is_icmp_error-clause-written c =
    let header : List ℕ = c.args.header.now in
    let message : List ℕ = specs.message_after header c.args.packet.now in
    let is_error : specs.is_icmp_error (headers.protocol header) message ≡ true =
    ap (λ protocol. specs.is_icmp_error protocol message) (sym c.protocol.ensures)
    ∙ ap (specs.is_icmp_error c.protocol.result.0) (sym c.in_ok-message.ensures.message)
    ∙ sym c.is_icmp_error.ensures ∙ c.if-is_icmp_error.true in
    subst (λ test. IfOk c.translate_error.result (λ len. c.translate_error.new.buffer
    ≡ (if test then specs.error_packet header c.args.prefixes.now message
    else headers.translated_header c.args.prefixes.now header ++ specs.updated_message c.args.prefixes.now header message)
    ++ drop len c.args.buffer.now))
    (sym is_error)
    (subst (λ message. IfOk c.translate_error.result (λ len. c.translate_error.new.buffer
    ≡ specs.error_packet header c.args.prefixes.now message ++ drop len c.args.buffer.now))
    c.in_ok-message.ensures.message c.translate_error.ensures.written)

pub returns-then-is_icmp_error-clause-alike : goal.returns-then-is_icmp_error-clause-alike
returns-then-is_icmp_error-clause-alike c =
    let header : List ℕ = c.args.header.now in
    let message : List ℕ = specs.message_after header c.args.packet.now in
    let is_error : specs.is_icmp_error (headers.protocol header) message ≡ true =
    ap (λ protocol. specs.is_icmp_error protocol message) (sym c.protocol.ensures)
    ∙ ap (specs.is_icmp_error c.protocol.result.0) (sym c.in_ok-message.ensures.message)
    ∙ sym c.is_icmp_error.ensures ∙ c.if-is_icmp_error.true in
    IfOk-weaker c.translate_error.result
    (λ _. specs.IsErrorAcceptedAlike c.args.prefixes.now header message)
    (λ _. specs.AreAcceptedAlike c.args.prefixes.now header message)
    (λ _ alike. record { error = λ _. alike; other = λ other. absurd (true≢false (sym is_error ∙ other)) })
    (subst (λ message. IfOk c.translate_error.result (λ _. specs.IsErrorAcceptedAlike c.args.prefixes.now header message))
    c.in_ok-message.ensures.message c.translate_error.ensures.alike)

pub returns-clause-refused : goal.returns-clause-refused
returns-clause-refused c =
    let header : List ℕ = c.args.header.now in
    let message : List ℕ = specs.message_after header c.args.packet.now in
    let room : ℕ = length c.args.buffer.now in
    let is_other : specs.is_icmp_error (headers.protocol header) message ≡ false =
    ap (λ protocol. specs.is_icmp_error protocol message) (sym c.protocol.ensures)
    ∙ ap (specs.is_icmp_error c.protocol.result.0) (sym c.in_ok-message.ensures.message)
    ∙ sym c.is_icmp_error.ensures ∙ c.if-is_icmp_error.false in
    let refused : RefusesExactly c.translate_message_in_place.result (specs.other_refusal (headers.protocol header) message room) =
    subst (λ message. RefusesExactly c.translate_message_in_place.result (specs.other_refusal (headers.protocol header) message room))
    c.in_ok-message.ensures.message c.translate_message_in_place.ensures.refused in
    subst (RefusesExactly c.translate_message_in_place.result)
    (sym (
    last_of_three (option_map Header (headers.header_refusal c.args.prefixes.now header))
    (specs.cut_off_refusal header (length c.args.packet.now))
    (specs.refusal_of (headers.protocol header) c.args.prefixes.now message room)
    c.in_ok-check_translation.ensures.refused c.in_ok-message.ensures.refused
    ∙ ap (λ test. if test then specs.error_packet_refusal c.args.prefixes.now message room
    else specs.other_refusal (headers.protocol header) message room) is_other))
    refused

pub returns-clause-len : goal.returns-clause-len
returns-clause-len c =
    let header : List ℕ = c.args.header.now in
    let message : List ℕ = specs.message_after header c.args.packet.now in
    let is_other : specs.is_icmp_error (headers.protocol header) message ≡ false =
    ap (λ protocol. specs.is_icmp_error protocol message) (sym c.protocol.ensures)
    ∙ ap (specs.is_icmp_error c.protocol.result.0) (sym c.in_ok-message.ensures.message)
    ∙ sym c.is_icmp_error.ensures ∙ c.if-is_icmp_error.false in
    subst (λ test. IfOk c.translate_message_in_place.result
    (λ len. len ≡ 40 + (if test then length (error_without_checksum c.args.prefixes.now message) else length message)))
    (sym is_other)
    (subst (λ message. IfOk c.translate_message_in_place.result (λ len. len ≡ 40 + length message))
    c.in_ok-message.ensures.message c.translate_message_in_place.ensures.len)

pub returns-clause-written : goal.returns-clause-written
returns-clause-written c =
    let header : List ℕ = c.args.header.now in
    let message : List ℕ = specs.message_after header c.args.packet.now in
    let translated : List ℕ = headers.translated_header c.args.prefixes.now header in
    let is_other : specs.is_icmp_error (headers.protocol header) message ≡ false =
    ap (λ protocol. specs.is_icmp_error protocol message) (sym c.protocol.ensures)
    ∙ ap (specs.is_icmp_error c.protocol.result.0) (sym c.in_ok-message.ensures.message)
    ∙ sym c.is_icmp_error.ensures ∙ c.if-is_icmp_error.false in
    subst (λ test. IfOk c.translate_message_in_place.result (λ len. c.translate_message_in_place.new.buffer
    ≡ (if test then specs.error_packet header c.args.prefixes.now message
    else translated ++ specs.updated_message c.args.prefixes.now header message) ++ drop len c.args.buffer.now))
    (sym is_other)
    (subst (λ message. IfOk c.translate_message_in_place.result (λ len. c.translate_message_in_place.new.buffer
    ≡ (translated ++ specs.updated_message c.args.prefixes.now header message) ++ drop len c.args.buffer.now))
    c.in_ok-message.ensures.message
    c.translate_message_in_place.ensures.written)

pub returns-clause-alike : goal.returns-clause-alike
returns-clause-alike c =
    let header : List ℕ = c.args.header.now in
    let message : List ℕ = specs.message_after header c.args.packet.now in
    let is_other : specs.is_icmp_error (headers.protocol header) message ≡ false =
    ap (λ protocol. specs.is_icmp_error protocol message) (sym c.protocol.ensures)
    ∙ ap (specs.is_icmp_error c.protocol.result.0) (sym c.in_ok-message.ensures.message)
    ∙ sym c.is_icmp_error.ensures ∙ c.if-is_icmp_error.false in
    IfOk-weaker c.translate_message_in_place.result
    (λ _. specs.IsAcceptedAlike c.args.prefixes.now header message (specs.updated_message c.args.prefixes.now header message))
    (λ _. specs.AreAcceptedAlike c.args.prefixes.now header message)
    (λ _ alike. record { error = λ error. absurd (true≢false (sym error ∙ is_other)); other = λ _. alike })
    (subst (λ message. IfOk c.translate_message_in_place.result
    (λ _. specs.IsAcceptedAlike c.args.prefixes.now header message (specs.updated_message c.args.prefixes.now header message)))
    c.in_ok-message.ensures.message c.translate_message_in_place.ensures.alike)
