use Rattle.std.proofs.Common.{◌≡◌, ◌∙◌, ◌+◌, ◌*◌, ap, arith, length, refl, rules, sym}
use Rattle.std.specs.Int.{from_bool}
use Rattle.word_sum.specs.Checksum.{folded, total}
use Rattle.word_sum.proofs.ChecksumLemmas.{folded-add}
use Rattle.word_sum.proofs.NumberLemmas.{carried-fits, folded-add_alike, folded_carried, folded_le_8, folded_times_256, total-front}
use Rattle.word_sum.proofs.checksum.Sum16BitWords.add_block.Goals as goal

pub loop-chunk-init : goal.loop-chunk-init
loop-chunk-init g c = record {
  summed = rw c.as_slice-rest.ensures (ap folded (omega arith) ∙ sym (folded-add (c.args.self.word * 256) (total c.args.block.now)));
  fits = omega arith;
  whole = search rules;
}

pub loop-chunk-preserved : goal.loop-chunk-preserved
loop-chunk-preserved g c =
    let word = c.loop-chunk.word in
    let carry = c.loop-chunk.carry in
    let number = c.from_le_bytes.result in
    let low = c.add_with_carry-sum.result.0 in
    let carried = c.add_with_carry-sum.result.1 in
    let chunk = c.in-Some.chunk.now in
    let others = c.in-Some.others.now in
    let cases = c.in-Some.ensures.cases in
    let eight : length chunk ≡ 8 = search rules in
    let words : folded (number * 256) ≡ folded (total chunk) = rw c.from_le_bytes.ensures (folded_le_8 chunk eight) in
    let whole = total-front 8 chunk others c.loop-chunk.rest.now refl cases.0 cases.1 (omega arith) in
    record {
      summed =
          folded-add_alike _ _ (total others) (total others)
          (folded_times_256 (low + from_bool carried) (word + from_bool carry + number)
          (folded_carried word number low carry carried c.add_with_carry-sum.ensures))
          refl
          ∙ ap folded (omega arith)
          ∙ folded-add_alike ((word + from_bool carry) * 256 + total others) ((word + from_bool carry) * 256 + total others) (number * 256)
          (total chunk) refl words
          ∙ ap folded (omega arith)
          ∙ c.loop-chunk.invariant.summed;
      fits = carried-fits word number low carry carried c.loop-chunk.invariant.fits (omega arith)
          (omega arith) c.add_with_carry-sum.ensures;
      whole = omega arith;
    }
