use Rattle.std.proofs.Common.{◌≡◌, ◌+◌, ◌++◌, List, ℕ, false, length, drop, rules, subst, sym}
use Rattle.std.specs.Prelude.{IfOk}
use Rattle.std.specs.Option.{option_map}
use Rattle.net_base.specs.Refusals.{RefusesExactly}
use Rattle.ip_translation.specs.FragmentsToIpv6 as specs
use Rattle.ip_translation.specs.HeadersToIpv6 as headers
use Rattle.ip_translation.specs.PacketsToIpv6 as packets
use Rattle.ip_translation.specs.declared.packet_translation_error.PacketTranslationError.TheVariants.{Header}
use Rattle.ip_translation.proofs.RuleLemmas.{last_of_three}
use Rattle.ip_translation.proofs.fragment_to_ipv6.translate_part.Goals as goal

pub returns-clause-refused : goal.returns-clause-refused
returns-clause-refused c =
    let header : List ℕ = c.args.header.now in
    let room : ℕ = length c.args.buffer.now in
    subst (RefusesExactly c.translate_message_of_part.result)
    (sym (
    last_of_three (option_map Header (headers.any_header_refusal c.args.prefixes.now header))
    (packets.cut_off_refusal header (length c.args.packet.now))
    (specs.message_refusal header (packets.message_after header c.args.packet.now) room)
    c.in_ok-front.ensures.refused c.in_ok-message.ensures.refused))
    (subst (λ message. RefusesExactly c.translate_message_of_part.result (specs.message_refusal header message room))
    c.in_ok-message.ensures.message c.translate_message_of_part.ensures.refused)

pub returns-clause-len : goal.returns-clause-len
returns-clause-len c =
    subst (λ message. IfOk c.translate_message_of_part.result (λ len. len ≡ 48 + length message))
    c.in_ok-message.ensures.message c.translate_message_of_part.ensures.len

pub returns-clause-written : goal.returns-clause-written
returns-clause-written c =
    let header : List ℕ = c.args.header.now in
    let front : List ℕ = specs.part_headers c.args.prefixes.now header in
    let same : c.as_slice.result.now ≡ front = search rules in
    subst (λ message. IfOk c.translate_message_of_part.result (λ len. c.translate_message_of_part.new.buffer
    ≡ (front ++ specs.part_of c.args.prefixes.now header message) ++ drop len c.args.buffer.now)) c.in_ok-message.ensures.message
    (subst (λ front. IfOk c.translate_message_of_part.result (λ len. c.translate_message_of_part.new.buffer
    ≡ (front ++ specs.part_of c.args.prefixes.now header c.in_ok-message.message.now) ++ drop len c.args.buffer.now))
    same c.translate_message_of_part.ensures.written)

pub returns-clause-alike : goal.returns-clause-alike
returns-clause-alike c =
    let header : List ℕ = c.args.header.now in
    subst (λ message. IfOk c.translate_message_of_part.result (λ _. specs.is_later header ≡ false →
    packets.IsAcceptedAlike c.args.prefixes.now header message (packets.updated_message c.args.prefixes.now header message)))
    c.in_ok-message.ensures.message c.translate_message_of_part.ensures.alike
