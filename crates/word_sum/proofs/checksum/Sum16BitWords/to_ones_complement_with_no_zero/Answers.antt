-- With these answers, the check refuses a wrong body of this function sooner. The right body passes without them.
use Rattle.std.proofs.Common.{rules}
use Rattle.word_sum.proofs.checksum.Sum16BitWords.to_ones_complement_with_no_zero.Goals as goal

pub returns-in-0 : goal.returns-in-0
returns-in-0 c = search rules
