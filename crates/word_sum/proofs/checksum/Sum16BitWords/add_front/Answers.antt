use Rattle.std.proofs.Common.{arith}
use Rattle.word_sum.specs.SumValue.{sum_value}
use Rattle.word_sum.proofs.NumberLemmas.{folded_front}
use Rattle.word_sum.proofs.checksum.Sum16BitWords.add_front.Goals as goal

pub returns-in-Some-clause-sum : goal.returns-in-Some-clause-sum
returns-in-Some-clause-sum g c =
    let cases = c.in-Some.ensures.cases in
    rw c.add_block.ensures
    (folded_front g.row.N (sum_value c.args.self) c.in-Some.block.now c.in-Some.others.now c.args.numbers.now (omega arith) cases.0 cases.1
    (omega arith))
