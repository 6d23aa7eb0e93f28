use Rattle.std.proofs.Common.{[], length, refl, sym, arith}
use Rattle.word_sum.proofs.ChecksumLemmas.{folded-none}
use Rattle.transport_part.proofs.VerdictLemmas.{not_valid, stored_passes, verifies_expected, zero_fails}
use Rattle.transport_part.proofs.verdict.icmpv4_verdict.Goals as goal

pub sum_but_checksum-sum-requires : goal.sum_but_checksum-sum-requires
sum_but_checksum-sum-requires c = omega (arith, c.slice.ensures.long)

pub returns-then-is_all_ones_with : goal.returns-then-is_all_ones_with
returns-then-is_all_ones_with c =
    let header = rw c.slice.ensures.bytes at c.slice.ensures.long in
    let sum = rw c.slice.ensures.bytes at c.sum_but_checksum-sum.ensures in
    ((stored_passes (length c.args.message.now) (λ n. []) 2 c.args.message.now _ _ _
    (omega (arith, header)) (omega arith) (omega arith) (sym (folded-none 0 refl)) sum c.checksum.ensures).0
    (c.is_all_ones_with.ensures.0 c.if-is_all_ones_with.true)).1

pub returns : goal.returns
returns c =
    let header = rw c.slice.ensures.bytes at c.slice.ensures.long in
    let sum = rw c.slice.ensures.bytes at c.sum_but_checksum-sum.ensures in
    let passes = stored_passes (length c.args.message.now) (λ n. []) 2 c.args.message.now _ _ _
    (omega (arith, header)) (omega arith) (omega arith) (sym (folded-none 0 refl)) sum c.checksum.ensures in (
      λ valid. not_valid c.is_all_ones_with.result c.if-is_all_ones_with.false c.is_all_ones_with.ensures (passes.1 (omega arith, valid)),
      (verifies_expected (length c.args.message.now) (λ n. []) 2 c.args.message.now _ _ _
          (omega (arith, header)) (omega arith) (omega arith) (sym (folded-none 0 refl)) sum c.ones_complement.ensures).1,
      λ most valid. zero_fails (λ n. []) 2 c.args.message.now _ _ _ (omega (arith, header)) (sym (folded-none 0 refl)) sum
          c.ones_complement.ensures most valid,
    )
