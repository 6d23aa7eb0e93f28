use Rattle.std.proofs.Common.{◌≡◌, ◌+◌, ◌++◌, List, ℕ, true, false, if◌then◌else◌, None, length, drop, subst, sym, ap, ◌∙◌, true≢false}
use Rattle.std.specs.Prelude.{IfOk, ◌==◌}
use Rattle.std.proofs.lemmas.Result.{IfOk-weaker}
use Rattle.net_base.specs.IpNumbers.{icmpv4_number}
use Rattle.net_base.specs.Refusals.{RefusesExactly, refused_if}
use Rattle.ip_translation.specs.FragmentsToIpv6 as specs
use Rattle.ip_translation.specs.HeadersToIpv6.{protocol}
use Rattle.ip_translation.specs.PacketsToIpv6 as packets
use Rattle.ip_translation.specs.declared.packet_translation_error.PacketTranslationError.TheVariants.{IcmpFragment}
use Rattle.ip_translation.proofs.RuleLemmas.{last_of_two}
use Rattle.ip_translation.proofs.fragment_to_ipv6.translate_message_of_part.Goals as goal

pub returns-then-is_later-clause-refused : goal.returns-then-is_later-clause-refused
returns-then-is_later-clause-refused c =
    let header : List ℕ = c.args.header.now in
    let message : List ℕ = c.args.message.now in
    let room : ℕ = length c.args.buffer.now in
    let later : specs.is_later header ≡ true = sym c.is_later.ensures ∙ c.if-is_later.true in
    let other : refused_if (protocol header == icmpv4_number) IcmpFragment ≡ None =
    ap (λ number. refused_if (number == icmpv4_number) IcmpFragment) (sym c.protocol.ensures)
    ∙ c.in_ok-check_protocol_of_part.ensures.refused in
    subst (RefusesExactly c.copy_part.result)
    (sym (
    last_of_two (refused_if (protocol header == icmpv4_number) IcmpFragment)
    (if specs.is_later header then specs.space_refusal (length message) room else specs.first_refusal (protocol header) message room) other
    ∙ ap (λ test. if test then specs.space_refusal (length message) room else specs.first_refusal (protocol header) message room) later))
    c.copy_part.ensures.refused

pub returns-then-is_later-clause-written : goal.returns-then-is_later-clause-written
returns-then-is_later-clause-written c =
    let header : List ℕ = c.args.header.now in
    let message : List ℕ = c.args.message.now in
    let later : specs.is_later header ≡ true = sym c.is_later.ensures ∙ c.if-is_later.true in
    subst (λ test. IfOk c.copy_part.result (λ len. c.copy_part.new.buffer ≡ (c.args.front.now
    ++ (if test then message else packets.updated_message c.args.prefixes.now header message)) ++ drop len c.args.buffer.now))
    (sym later) c.copy_part.ensures.written

pub returns-then-is_later-clause-alike : goal.returns-then-is_later-clause-alike
returns-then-is_later-clause-alike c =
    let header : List ℕ = c.args.header.now in
    let message : List ℕ = c.args.message.now in
    let later : specs.is_later header ≡ true = sym c.is_later.ensures ∙ c.if-is_later.true in
    IfOk-weaker c.copy_part.result (λ len. len ≡ 48 + length message)
    (λ _. specs.is_later header ≡ false → packets.IsAcceptedAlike c.args.prefixes.now header message
    (packets.updated_message c.args.prefixes.now header message))
    (λ _ _ first. absurd (true≢false (sym later ∙ first)))
    c.copy_part.ensures.len

pub returns-clause-refused : goal.returns-clause-refused
returns-clause-refused c =
    let header : List ℕ = c.args.header.now in
    let message : List ℕ = c.args.message.now in
    let room : ℕ = length c.args.buffer.now in
    let first : specs.is_later header ≡ false = sym c.is_later.ensures ∙ c.if-is_later.false in
    let other : refused_if (protocol header == icmpv4_number) IcmpFragment ≡ None =
    ap (λ number. refused_if (number == icmpv4_number) IcmpFragment) (sym c.protocol.ensures)
    ∙ c.in_ok-check_protocol_of_part.ensures.refused in
    subst (RefusesExactly c.translate_first_part.result)
    (sym (
    last_of_two (refused_if (protocol header == icmpv4_number) IcmpFragment)
    (if specs.is_later header then specs.space_refusal (length message) room else specs.first_refusal (protocol header) message room) other
    ∙ ap (λ test. if test then specs.space_refusal (length message) room else specs.first_refusal (protocol header) message room) first))
    c.translate_first_part.ensures.refused

pub returns-clause-written : goal.returns-clause-written
returns-clause-written c =
    let header : List ℕ = c.args.header.now in
    let message : List ℕ = c.args.message.now in
    let first : specs.is_later header ≡ false = sym c.is_later.ensures ∙ c.if-is_later.false in
    subst (λ test. IfOk c.translate_first_part.result (λ len. c.translate_first_part.new.buffer ≡ (c.args.front.now
    ++ (if test then message else packets.updated_message c.args.prefixes.now header message)) ++ drop len c.args.buffer.now))
    (sym first) c.translate_first_part.ensures.written

pub returns-clause-alike : goal.returns-clause-alike
returns-clause-alike c =
    let header : List ℕ = c.args.header.now in
    let message : List ℕ = c.args.message.now in
    IfOk-weaker c.translate_first_part.result
    (λ _. packets.IsAcceptedAlike c.args.prefixes.now header message (packets.updated_message c.args.prefixes.now header message))
    (λ _. specs.is_later header ≡ false → packets.IsAcceptedAlike c.args.prefixes.now header message
    (packets.updated_message c.args.prefixes.now header message))
    (λ _ alike _. alike)
    c.translate_first_part.ensures.alike
