use Rattle.std.proofs.Common.{◌≡◌, ◌++◌, ◌+◌, List, ℕ, take, rules, refl, sym, subst, ◌∙◌, arith}
use Rattle.std.specs.Prelude.{◌↔◌}
use Rattle.net_base.specs.Bytes.{IsBytes}
use Rattle.net_base.specs.StoredChecksum.{with_checksum}
use Rattle.word_sum.specs.Checksum.{IsAllOnes, total}
use Rattle.ip_translation.proofs.MessageLemmas as messages
use Rattle.ip_translation.proofs.updated_message.write_updated_udp.Goals as goal

pub returns-clause-alike : goal.returns-clause-alike
returns-clause-alike c = λ some old new turned len count missing short counted.
    let message : List ℕ = c.args.packet.now in
    let fits : IsBytes message = λ place. (c.type_inv.packet place).fits in
    let before : ℕ = total (old len) in
    let after : ℕ = total (new len) in
    let checksum : ℕ = c.apply_udp-checksum.result in
    let stored : c.store_checksum.new.message ≡ with_checksum 6 message checksum = search rules in
    subst (λ translated. (IsAllOnes (after + total (take count translated ++ missing)))
    ↔ (IsAllOnes (before + total (take count message ++ missing)))) (sym stored)
    (messages.alike before after 6 checksum count message missing fits refl (search rules) counted (omega (arith, c.requires.there))
    (λ rest.
    subst (λ old. (IsAllOnes (after + rest + checksum)) ↔ (IsAllOnes (before + rest + old))) c.number.ensures
    (c.apply_udp-checksum.ensures.verifies (before + rest) (after + rest) (turned.turns len rest short)
    (λ none. some (sym c.number.ensures ∙ none)))))
