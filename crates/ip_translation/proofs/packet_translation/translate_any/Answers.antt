use Rattle.std.proofs.Common.{◌≡◌, ◌++◌, drop, List, ℕ, length, rules, subst, sym, ap, ◌∙◌}
use Rattle.std.specs.Prelude.{IfOk, not}
use Rattle.net_base.specs.Refusals.{RefusesExactly, refused_if}
use Rattle.ip_translation.specs.FragmentsToIpv6 as parts
use Rattle.ip_translation.specs.PacketsToIpv6 as specs
use Rattle.ip_translation.specs.declared.packet_translation_error.PacketTranslationError.TheVariants.{NoIpv4Header}
use Rattle.ip_part.specs.Ip.{ipv4_header}
use Rattle.ip_translation.proofs.PayloadLemmas.{ipv4_payload_kept}
use Rattle.ip_translation.proofs.RuleLemmas.{last_of_two}
use Rattle.ip_translation.proofs.packet_translation.translate_any.Goals as goal

pub returns-clause-refused : goal.returns-clause-refused
returns-clause-refused c =
    let packet : List ℕ = c.args.packet.now in
    let room : ℕ = length c.args.buffer.now in
    subst (λ refusal. RefusesExactly c.translate_with.result refusal)
    (sym (
    last_of_two (refused_if (not (specs.begins_with_header packet)) NoIpv4Header)
    (parts.refusal_with (ipv4_header packet) c.args.prefixes.now packet room)
    (ap (λ begins. refused_if (not begins) NoIpv4Header) c.in-Some.ensures.found.0)
    ∙ ap (λ header. parts.refusal_with header c.args.prefixes.now packet room) (sym c.in-Some.ensures.found.1)))
    c.translate_with.ensures.refused

pub returns-clause-len : goal.returns-clause-len
returns-clause-len c =
    subst (λ header. IfOk c.translate_with.result
    (λ len. len ≡ parts.len_with header c.args.prefixes.now (specs.message_after header c.args.packet.now)))
    c.in-Some.ensures.found.1 c.translate_with.ensures.len

pub returns-clause-written : goal.returns-clause-written
returns-clause-written c =
    subst (λ header. IfOk c.translate_with.result (λ len. c.translate_with.new.buffer
    ≡ parts.translation_with header c.args.prefixes.now (specs.message_after header c.args.packet.now) ++ drop len c.args.buffer.now))
    c.in-Some.ensures.found.1 c.translate_with.ensures.written

pub returns-clause-alike : goal.returns-clause-alike
returns-clause-alike c =
    subst (λ header. IfOk c.translate_with.result
    (λ _. parts.IsPacketAlike c.args.prefixes.now header (specs.message_after header c.args.packet.now)))
    c.in-Some.ensures.found.1 c.translate_with.ensures.alike

pub returns-clause-payload : goal.returns-clause-payload
returns-clause-payload c =
    ipv4_payload_kept c.translate_with.result c.args.prefixes.now c.args.packet.now c.args.buffer.now c.translate_with.new.buffer
    (returns-clause-refused c) (returns-clause-len c) (returns-clause-written c) (search rules)
