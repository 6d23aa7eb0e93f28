use Rattle.std.proofs.Common.{arith, refl}
use Rattle.word_sum.specs.SumValue.{sum_value}
use Rattle.word_sum.proofs.NumberLemmas.{folded_front}
use Rattle.word_sum.proofs.checksum.Sum16BitWords.add_up_to_7bytes.Goals as goal

pub returns-in-Some : goal.returns-in-Some
returns-in-Some c =
    let cases = c.in-Some.ensures.cases in
    rw (c.add_up_to_3bytes.ensures, c.add_4bytes.ensures)
    (folded_front 4 (sum_value c.args.self) c.in-Some.words.now c.in-Some.others.now c.args.bytes.now refl cases.0 cases.1 (omega arith))
