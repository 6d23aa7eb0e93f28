use Rattle.std.proofs.Common.{◌≡◌, List, ℕ, false, sym, ◌∙◌, true≢false}
use Rattle.std.proofs.lemmas.Result.{IfOk-weaker}
use Rattle.net_base.specs.IpHeaders.{ipv4_is_fragment}
use Rattle.ip_translation.specs.FragmentsToIpv6 as parts
use Rattle.ip_translation.specs.PacketsToIpv6 as specs
use Rattle.ip_translation.proofs.packet_translation.translate_plain.Goals as goal

pub returns-clause-alike : goal.returns-clause-alike
returns-clause-alike c =
    let header : List ℕ = c.args.header.now in
    let message : List ℕ = specs.message_after header c.args.packet.now in
    let whole : ipv4_is_fragment header ≡ false = c.requires.whole in
    IfOk-weaker c.translate_in_place.result
    (λ _. specs.AreAcceptedAlike c.args.prefixes.now header message)
    (λ _. parts.IsPacketAlike c.args.prefixes.now header message)
    (λ _ alike. record { whole = λ _. alike; first = λ part _. absurd (true≢false (sym part ∙ whole)) })
    c.translate_in_place.ensures.alike
