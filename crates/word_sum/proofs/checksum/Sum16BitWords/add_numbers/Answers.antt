use Rattle.std.proofs.Common.{◌≡◌, ◌∙◌, ap, arith, refl}
use Rattle.word_sum.specs.Checksum.{folded, total}
use Rattle.word_sum.specs.SumValue.{sum_value}
use Rattle.word_sum.proofs.NumberLemmas.{folded_block}
use Rattle.word_sum.proofs.checksum.Sum16BitWords.add_numbers.Goals as goal

pub loop-block-preserved : goal.loop-block-preserved
loop-block-preserved c =
    let cases = c.in-Some.ensures.cases in
    let same : sum_value c.add_block-block_sum.result ≡ folded (total c.in-Some.block.now) =
    c.add_block-block_sum.ensures ∙ ap folded (omega (arith, c.new.ensures)) in
    record {
      summed =
          rw c.add_number-sum.ensures
          (folded_block 128 (sum_value c.loop-block.sum) c.add_block-block_sum.result.word c.in-Some.block.now c.in-Some.others.now
          c.loop-block.rest.now refl cases.0 cases.1 (omega arith) same
          ∙ c.loop-block.invariant.summed);
      whole = omega arith;
    }

pub returns : goal.returns
returns c = c.add_short.ensures ∙ c.loop-block.invariant.summed
