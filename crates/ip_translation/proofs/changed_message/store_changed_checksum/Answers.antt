use Rattle.std.proofs.Common.{◌≡◌, ◌+◌, ◌<◌, List, ℕ, rules, sym, ap, ◌∙◌, arith}
use Rattle.net_base.specs.StoredChecksum.{with_checksum}
use Rattle.word_sum.specs.Checksum.{folded, total}
use Rattle.ip_translation.specs.EchoMessages as specs
use Rattle.ip_translation.proofs.EchoLemmas as echo
use Rattle.ip_translation.proofs.changed_message.store_changed_checksum.Goals as goal

pub returns-clause-alike : goal.returns-clause-alike
returns-clause-alike c =
    let message : List ℕ = c.args.message.now in
    let changed : List ℕ = c.args.changed.now in
    let checksum : ℕ = c.changed_checksum-checksum.result in
    let small : checksum < 65536 = search rules in
    let stored : c.store_checksum.new.message ≡ with_checksum 2 changed checksum = search rules in
    let before : ℕ = specs.total_without_checksum message + total c.args.old.now + specs.icmp_checksum message in
    let after : ℕ = specs.total_without_checksum changed + total c.args.new.now + checksum in
    let was : total c.args.old.now + total message ≡ before = omega (arith, echo.message_total message c.requires.there) in
    let is : total c.args.new.now + total c.store_checksum.new.message ≡ after =
    omega (arith, ap total stored, echo.stored_total changed checksum c.requires.new_there small) in
    let iff = echo.both_accepted before after c.changed_checksum-checksum.ensures.remainder
    (λ none. c.requires.some (omega (arith, none)))
    (λ none. c.requires.new_some (omega (arith, none))) in (
      λ ones. ap folded was ∙ iff.0 (sym (ap folded is) ∙ ones),
      λ ones. ap folded is ∙ iff.1 (sym (ap folded was) ∙ ones),
    )
