use Rattle.std.proofs.Common.{◌≡◌, ◌+◌, ◌*◌, ◌<◌, ◌≤◌, List, ℕ, drop, length, slice_index, rules, sym, ap, ◌∙◌, arith}
use Rattle.net_base.specs.StoredChecksum.{with_checksum}
use Rattle.word_sum.specs.Checksum.{folded, total}
use Rattle.ip_translation.specs.EchoMessages as specs
use Rattle.ip_translation.proofs.EchoLemmas as echo
use Rattle.ip_translation.proofs.echo_translation.write_echo.Goals as goal

pub returns-clause-alike : goal.returns-clause-alike
returns-clause-alike c = λ some.
    let message : List ℕ = c.args.message.now in
    let type : ℕ = c.args.type_u8 in
    let checksum : ℕ = c.echo_checksum-checksum.result in
    let rest : ℕ = total (drop 4 message) in
    let there : 4 ≤ length message = omega (arith, c.requires.there) in
    let small : checksum < 65536 = search rules in
    let stored : c.store_checksum.new.message ≡ with_checksum 2 (specs.with_type type message) checksum = search rules in
    let before : ℕ = total c.args.old.now + (specs.type_and_code message + rest + specs.icmp_checksum message) in
    let sum : ℕ = type * 256 + slice_index message 1 + rest in
    let after : ℕ = total c.args.new.now + (sum + checksum) in
    let was : total c.args.old.now + total message ≡ before = omega (arith, echo.message_total message there) in
    let is : total c.args.new.now + total c.store_checksum.new.message ≡ after =
    omega (arith, ap total stored, echo.translated_total message type checksum there small) in
    let iff = echo.both_accepted before after (c.echo_checksum-checksum.ensures.remainder rest)
    (λ none. some (was ∙ none))
    (echo.some_sum c.args.new.now sum checksum c.requires.new c.echo_checksum-checksum.ensures.some) in (
      λ ones. ap folded was ∙ iff.0 (sym (ap folded is) ∙ ones),
      λ ones. ap folded is ∙ iff.1 (sym (ap folded was) ∙ ones),
    )
