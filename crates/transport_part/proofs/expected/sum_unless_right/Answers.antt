use Rattle.std.proofs.Common.{◌≡◌, ℕ, ◌+◌, ◌-◌, ◌<◌, ◌∙◌, ap, sym, arith, rules}
use Rattle.net_base.specs.Bytes.{be_number}
use Rattle.net_base.specs.StoredChecksum.{with_checksum}
use Rattle.word_sum.specs.Checksum.{complement, folded, total}
use Rattle.word_sum.specs.SumValue.{sum_value}
use Rattle.word_sum.proofs.ChecksumLemmas.{folded-add, folded-lt}
use Rattle.transport_part.proofs.VerdictLemmas.{stored_in_sum, taken_out}
use Rattle.transport_part.proofs.expected.sum_unless_right.Goals as goal

pub returns-then-ones_complement-eq0 : goal.returns-then-ones_complement-eq0
returns-then-ones_complement-eq0 c =
    let n = sum_value c.args.pseudo_header + total (with_checksum c.args.place c.args.packet.now 0) in
    let stored = be_number c.args.packet.now c.args.place 2 in
    let sum = c.add_slice-sum.ensures.sum ∙ stored_in_sum (sum_value c.args.pseudo_header) c.args.place c.args.packet.now c.requires.there
    c.requires.even in
    let tested : c.ones_complement.result ≡ complement (folded (n + stored)) = c.ones_complement.ensures ∙ ap complement sum in
    folded-add n stored ∙ omega (arith, tested, c.if-ones_complement-eq0.true, folded-lt (n + stored))

pub returns : goal.returns
returns c =
    let n : ℕ = sum_value c.args.pseudo_header + total (with_checksum c.args.place c.args.packet.now 0) in
    let stored : ℕ = be_number c.args.packet.now c.args.place 2 in
    let sum = c.add_slice-sum.ensures.sum ∙ stored_in_sum (sum_value c.args.pseudo_header) c.args.place c.args.packet.now c.requires.there
    c.requires.even in
    let tested : c.ones_complement.result ≡ complement (folded (n + stored)) = c.ones_complement.ensures ∙ ap complement sum in
    let small : stored < 65536 = search (rules, arith) in
    let is_stored : c.from_be_bytes-stored.result ≡ stored = search (rules, arith) in
    let other : total c.to_be_bytes.result ≡ 65535 - stored = rw c.to_be_bytes.ensures (omega (arith, is_stored, small)) in (
      c.add_2bytes.ensures ∙ taken_out n stored _ _ sum other small (omega (arith, c.requires.some)),
      λ ones. c.if-ones_complement-eq0.false (omega (arith, tested, sym (folded-add n stored) ∙ ones)),
    )
