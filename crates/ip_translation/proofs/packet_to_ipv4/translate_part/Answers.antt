use Rattle.std.proofs.Common.{◌≡◌, ◌+◌, ◌++◌, List, ℕ, true, false, if◌then◌else◌, None, length, drop, rules, subst, sym, ap, ◌∙◌, true≢false}
use Rattle.std.specs.Prelude.{IfOk, ◌==◌}
use Rattle.std.specs.Option.{option_map}
use Rattle.std.proofs.lemmas.Result.{IfOk-weaker}
use Rattle.net_base.specs.IpNumbers.{icmpv6_number}
use Rattle.net_base.specs.Refusals.{RefusesExactly, refused_if}
use Rattle.ip_translation.specs.Fragments.{is_later}
use Rattle.ip_translation.specs.HeadersToIpv4 as headers
use Rattle.ip_translation.specs.PacketsToIpv4 as specs
use Rattle.ip_translation.specs.declared.packet_translation_error.PacketTranslationError.TheVariants.{Header, IcmpFragment}
use Rattle.ip_translation.proofs.RuleLemmas.{last_of_three}
use Rattle.ip_translation.proofs.packet_to_ipv4.translate_part.Goals as goal

pub returns-then-is_later-clause-refused : goal.returns-then-is_later-clause-refused
returns-then-is_later-clause-refused c =
    let header : List ℕ = c.args.header.now in
    let message : List ℕ = c.args.message.now in
    let room : ℕ = length c.args.buffer.now in
    let later : is_later c.args.fields.flags_and_offset ≡ true = sym c.is_later.ensures ∙ c.if-is_later.true in
    let other : refused_if (headers.next_header header == icmpv6_number) IcmpFragment ≡ None =
    ap (λ number. refused_if (number == icmpv6_number) IcmpFragment) (sym c.next_header.ensures)
    ∙ c.in_ok-check_protocol_of_part.ensures.refused in
    subst (RefusesExactly c.copy_message.result)
    (sym (
    last_of_three (option_map Header (headers.header_refusal c.args.prefixes.now header))
    (refused_if (headers.next_header header == icmpv6_number) IcmpFragment)
    (if is_later c.args.fields.flags_and_offset then specs.space_refusal (length message) room
    else specs.other_refusal (headers.next_header header) message room)
    c.in_ok-ipv4_header.ensures.refused other
    ∙ ap (λ test. if test then specs.space_refusal (length message) room else specs.other_refusal (headers.next_header header) message room)
    later))
    c.copy_message.ensures.refused

pub returns-then-is_later-clause-written : goal.returns-then-is_later-clause-written
returns-then-is_later-clause-written c =
    let header : List ℕ = c.args.header.now in
    let message : List ℕ = c.args.message.now in
    let translated : List ℕ = headers.translated_header c.args.prefixes.now c.args.fields header in
    let updated : List ℕ = specs.updated_message c.args.prefixes.now header message in
    let same : c.as_slice-front.result.now ≡ translated = search rules in
    let later : is_later c.args.fields.flags_and_offset ≡ true = sym c.is_later.ensures ∙ c.if-is_later.true in
    subst (λ test. IfOk c.copy_message.result (λ len. c.copy_message.new.buffer
    ≡ (translated ++ (if test then message else updated)) ++ drop len c.args.buffer.now)) (sym later)
    (subst (λ front. IfOk c.copy_message.result (λ len. c.copy_message.new.buffer ≡ (front ++ message) ++ drop len c.args.buffer.now))
    same c.copy_message.ensures.written)

pub returns-then-is_later-clause-alike : goal.returns-then-is_later-clause-alike
returns-then-is_later-clause-alike c =
    let header : List ℕ = c.args.header.now in
    let message : List ℕ = c.args.message.now in
    let later : is_later c.args.fields.flags_and_offset ≡ true = sym c.is_later.ensures ∙ c.if-is_later.true in
    IfOk-weaker c.copy_message.result (λ len. len ≡ 20 + length message)
    (λ _. is_later c.args.fields.flags_and_offset ≡ false → specs.IsAcceptedAlike c.args.prefixes.now header message
    (specs.updated_message c.args.prefixes.now header message))
    (λ _ _ first. absurd (true≢false (sym later ∙ first)))
    c.copy_message.ensures.len

pub returns-clause-refused : goal.returns-clause-refused
returns-clause-refused c =
    let header : List ℕ = c.args.header.now in
    let message : List ℕ = c.args.message.now in
    let room : ℕ = length c.args.buffer.now in
    let first : is_later c.args.fields.flags_and_offset ≡ false = sym c.is_later.ensures ∙ c.if-is_later.false in
    let other : refused_if (headers.next_header header == icmpv6_number) IcmpFragment ≡ None =
    ap (λ number. refused_if (number == icmpv6_number) IcmpFragment) (sym c.next_header.ensures)
    ∙ c.in_ok-check_protocol_of_part.ensures.refused in
    subst (RefusesExactly c.translate_message.result)
    (sym (
    last_of_three (option_map Header (headers.header_refusal c.args.prefixes.now header))
    (refused_if (headers.next_header header == icmpv6_number) IcmpFragment)
    (if is_later c.args.fields.flags_and_offset then specs.space_refusal (length message) room
    else specs.other_refusal (headers.next_header header) message room)
    c.in_ok-ipv4_header.ensures.refused other
    ∙ ap (λ test. if test then specs.space_refusal (length message) room else specs.other_refusal (headers.next_header header) message room)
    first))
    c.translate_message.ensures.refused

pub returns-clause-written : goal.returns-clause-written
returns-clause-written c =
    let header : List ℕ = c.args.header.now in
    let message : List ℕ = c.args.message.now in
    let translated : List ℕ = headers.translated_header c.args.prefixes.now c.args.fields header in
    let updated : List ℕ = specs.updated_message c.args.prefixes.now header message in
    let same : c.as_slice-front.result.now ≡ translated = search rules in
    let first : is_later c.args.fields.flags_and_offset ≡ false = sym c.is_later.ensures ∙ c.if-is_later.false in
    subst (λ test. IfOk c.translate_message.result (λ len. c.translate_message.new.buffer
    ≡ (translated ++ (if test then message else updated)) ++ drop len c.args.buffer.now)) (sym first)
    (subst (λ front. IfOk c.translate_message.result
    (λ len. c.translate_message.new.buffer ≡ (front ++ updated) ++ drop len c.args.buffer.now))
    same c.translate_message.ensures.written)

pub returns-clause-alike : goal.returns-clause-alike
returns-clause-alike c =
    let header : List ℕ = c.args.header.now in
    let message : List ℕ = c.args.message.now in
    IfOk-weaker c.translate_message.result
    (λ _. specs.IsAcceptedAlike c.args.prefixes.now header message (specs.updated_message c.args.prefixes.now header message))
    (λ _. is_later c.args.fields.flags_and_offset ≡ false → specs.IsAcceptedAlike c.args.prefixes.now header message
    (specs.updated_message c.args.prefixes.now header message))
    (λ _ alike _. alike)
    c.translate_message.ensures.alike
