use Rattle.std.proofs.Common.{◌≡◌, ◌∙◌, ap, false, refl, rules, Some, sym, true}
use Rattle.etherparse_transport.specs.Ipv4Translations.{ipv4_refusal, ipv4_translated}
use Rattle.translator.specs.Reasons.{is_ipv4_nothing}
use Rattle.translator.proofs.PacketLemmas.{ipv4_nothing_by, ipv4_stays, reason_rules}
use Rattle.translator.proofs.ipv4_packet.translate_ipv4_packet.Goals as goal

pub returns-in_err-new : goal.returns-in_err-new
returns-in_err-new c = ipv4_stays c.args.table.now c.args.packet.now _ _ _ c.in_err-new.ensures.refused refl (search rules)

pub returns-then-eq : goal.returns-then-eq
returns-then-eq c =
    let nothing : is_ipv4_nothing c.in_ok-new.new ≡ true =
    sym (ipv4_nothing_by c.in_ok-new.new c.default.result (search rules) (search rules) (search rules) (search rules))
    ∙ sym c.eq.ensures ∙ c.if-eq.true in
    let given = sym (ap is_ipv4_nothing c.in_ok-new.ensures.given) ∙ nothing in
    (reason_rules _ _ _ true _ _ c.in_ok-new.ensures.refused given refl, given, refl)

pub returns-in-Ok : goal.returns-in-Ok
returns-in-Ok c =
    let some : is_ipv4_nothing c.in_ok-new.new ≡ false =
    sym (ipv4_nothing_by c.in_ok-new.new c.default.result (search rules) (search rules) (search rules) (search rules))
    ∙ sym c.eq.ensures ∙ c.if-eq.false in
    let given = sym (ap is_ipv4_nothing c.in_ok-new.ensures.given) ∙ some in (
      reason_rules _ _ _ false _ _ c.in_ok-new.ensures.refused given
          (sym (ap (λ new. ipv4_refusal new c.args.packet.now) c.in_ok-new.ensures.given) ∙ c.in-Ok.ensures.refused),
      given,
      c.in-Ok.ensures.translated ∙ ap (λ new. ipv4_translated new c.args.packet.now) c.in_ok-new.ensures.given,
    )

pub returns-in-Err : goal.returns-in-Err
returns-in-Err c =
    let some : is_ipv4_nothing c.in_ok-new.new ≡ false =
    sym (ipv4_nothing_by c.in_ok-new.new c.default.result (search rules) (search rules) (search rules) (search rules))
    ∙ sym c.eq.ensures ∙ c.if-eq.false in
    let given = sym (ap is_ipv4_nothing c.in_ok-new.ensures.given) ∙ some in (
      reason_rules _ _ _ false _ _ c.in_ok-new.ensures.refused given
          (sym (ap (λ new. ipv4_refusal new c.args.packet.now) c.in_ok-new.ensures.given) ∙ c.in-Err.ensures.refused)
          ∙ sym (ap Some c.of.ensures),
      c.in-Err.ensures.unchanged,
    )
