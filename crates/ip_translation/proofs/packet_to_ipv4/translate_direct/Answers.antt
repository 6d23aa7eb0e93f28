use Rattle.std.proofs.Common.{◌≡◌, true, false, sym, ◌∙◌, true≢false}
use Rattle.std.proofs.lemmas.Result.{IfOk-weaker}
use Rattle.ip_translation.specs.Fragments.{is_later, is_part}
use Rattle.ip_translation.specs.PacketsToIpv4 as specs
use Rattle.ip_translation.proofs.packet_to_ipv4.translate_direct.Goals as goal

pub returns-then-is_part-clause-alike : goal.returns-then-is_part-clause-alike
returns-then-is_part-clause-alike c =
    let part : is_part c.args.fields.flags_and_offset ≡ true = sym c.is_part.ensures ∙ c.if-is_part.true in
    IfOk-weaker c.translate_part.result
    (λ _. is_later c.args.fields.flags_and_offset ≡ false → specs.IsAcceptedAlike c.args.prefixes.now c.args.header.now c.args.message.now
    (specs.updated_message c.args.prefixes.now c.args.header.now c.args.message.now))
    (λ _. specs.IsPacketAlike c.args.prefixes.now c.args.header.now c.args.fields.flags_and_offset c.args.message.now)
    (λ _ alike. record { whole = λ whole. absurd (true≢false (sym part ∙ whole)); first = λ _ first. alike first })
    c.translate_part.ensures.alike

pub returns-clause-alike : goal.returns-clause-alike
returns-clause-alike c =
    let whole : is_part c.args.fields.flags_and_offset ≡ false = sym c.is_part.ensures ∙ c.if-is_part.false in
    IfOk-weaker c.translate_whole.result
    (λ _. specs.AreAcceptedAlike c.args.prefixes.now c.args.header.now c.args.message.now)
    (λ _. specs.IsPacketAlike c.args.prefixes.now c.args.header.now c.args.fields.flags_and_offset c.args.message.now)
    (λ _ alike. record { whole = λ _. alike; first = λ part _. absurd (true≢false (sym part ∙ whole)) })
    c.translate_whole.ensures.alike
