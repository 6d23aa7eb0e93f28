use Rattle.std.proofs.Common.{◌%◌, arith, length, refl}
use Rattle.word_sum.specs.SumValue.{sum_value}
use Rattle.word_sum.proofs.NumberLemmas.{folded_back}
use Rattle.word_sum.proofs.checksum.Sum16BitWords.add_bytes.Goals as goal

pub returns-in-Some : goal.returns-in-Some
returns-in-Some c =
    let cases = c.in-Some.ensures.cases in
    rw (c.add_numbers.ensures, c.add_end.ensures)
    (folded_back (length c.args.slice.now % 8) (sum_value c.args.self) _ c.in-Some.last.now c.args.slice.now (omega arith) cases.0
    (omega arith) cases.1.same refl)
