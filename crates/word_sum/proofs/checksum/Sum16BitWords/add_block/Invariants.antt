use Rattle.std.proofs.Common.{◌≡◌, ◌+◌, ◌*◌, ◌%◌, ◌<◌, ◌^◌, length}
use Rattle.std.specs.Int.{from_bool}
use Rattle.word_sum.specs.Checksum.{folded, total}
use Rattle.word_sum.specs.SumValue.{sum_value}
use Rattle.word_sum.proofs.checksum.Sum16BitWords.add_block.Given as goal

-- the total is the sum of the word, its carry and the bytes that are left, and the carry can be added to the word
abbrev pub invariant-loop-chunk : goal.invariant-loop-chunk
invariant-loop-chunk g l = record {
  summed : folded ((l.word + from_bool l.carry) * 256 + total l.rest) ≡ folded (sum_value l.fn.self + total l.block);
  fits : l.word + from_bool l.carry < 2 ^ 64;
  whole : length l.rest % 8 ≡ 0;
}

abbrev pub decreases-loop-chunk : goal.decreases-loop-chunk
decreases-loop-chunk g l = length l.rest
