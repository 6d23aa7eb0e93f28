use Rattle.std.proofs.Common.{◌≡◌, ◌++◌, ◌+◌, ◌%◌, List, ℕ, take, rules, refl, sym, ap, subst, ◌∙◌, arith}
use Rattle.std.specs.Prelude.{◌↔◌}
use Rattle.net_base.specs.Bytes.{IsBytes}
use Rattle.net_base.specs.StoredChecksum.{with_checksum}
use Rattle.word_sum.specs.Checksum.{IsAllOnes, total}
use Rattle.word_sum.proofs.ChecksumChangeLemmas.{verifies_alike}
use Rattle.ip_translation.specs.PacketsToIpv6 as specs
use Rattle.ip_translation.proofs.MessageLemmas as messages
use Rattle.ip_translation.proofs.updated_message.write_updated_tcp.Goals as goal

pub returns-clause-alike : goal.returns-clause-alike
returns-clause-alike c = λ old new turned len count missing short counted.
    let message : List ℕ = c.args.segment.now in
    let fits : IsBytes message = λ place. (c.type_inv.segment place).fits in
    let before : ℕ = total (old len) in
    let after : ℕ = total (new len) in
    let checksum : ℕ = c.apply-checksum.result in
    let stored : c.store_checksum.new.message ≡ with_checksum 16 message checksum = search rules in
    subst (λ translated. (IsAllOnes (after + total (take count translated ++ missing)))
    ↔ (IsAllOnes (before + total (take count message ++ missing)))) (sym stored)
    (messages.alike before after 16 checksum count message missing fits refl (search rules) counted (omega (arith, c.requires.there))
    (λ rest.
    verifies_alike (before + rest) (after + rest) (specs.tcp_checksum message) checksum
    (c.apply-checksum.ensures.remainder (before + rest) (after + rest) (turned.turns len rest short)
    ∙ ap (λ old. (before + rest + old) % 65535) c.number.ensures)
    (λ none. omega (arith, none, turned.old_some len)) (λ none. omega (arith, none, turned.new_some len))))
