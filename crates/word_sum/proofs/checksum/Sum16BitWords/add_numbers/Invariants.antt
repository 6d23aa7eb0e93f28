use Rattle.std.proofs.Common.{◌≡◌, ◌+◌, ◌%◌, length}
use Rattle.word_sum.specs.Checksum.{folded, total}
use Rattle.word_sum.specs.SumValue.{sum_value}
use Rattle.word_sum.proofs.checksum.Sum16BitWords.add_numbers.Given as goal

-- the total is the sum of the added bytes and the bytes that are left
abbrev pub invariant-loop-block : goal.invariant-loop-block
invariant-loop-block l = record {
  summed : folded (sum_value l.sum + total l.rest) ≡ folded (sum_value l.fn.self + total l.numbers);
  whole : length l.rest % 8 ≡ 0;
}

abbrev pub decreases-loop-block : goal.decreases-loop-block
decreases-loop-block l = length l.rest
