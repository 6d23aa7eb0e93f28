use Rattle.std.proofs.Common.{◌+◌, ◌*◌, ap, arith}
use Rattle.word_sum.specs.Checksum.{folded}
use Rattle.word_sum.specs.SumValue.{sum_value}
use Rattle.word_sum.proofs.ChecksumLemmas.{folded-add_nothing, folded_twice, total_three}
use Rattle.word_sum.proofs.checksum.Sum16BitWords.add_up_to_3bytes.Goals as goal

pub returns-in-len3 : goal.returns-in-len3
returns-in-len3 c =
    let words = total_three c.args.bytes.now (omega arith) in
    rw (c.add_2bytes-in-len3-2.ensures, c.add_2bytes-in-len3.ensures, folded_twice)
    (ap (λ n. folded (sum_value c.args.self + n)) (omega arith))

pub returns-in_default : goal.returns-in_default
returns-in_default c = folded-add_nothing (c.args.self.word * 256) c.args.bytes.now c.in_default.len_below
