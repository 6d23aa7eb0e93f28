use Rattle.std.proofs.Common.{◌≡◌, ◌+◌, ap, length, rules, sym}
use Rattle.word_sum.specs.Checksum.{folded}
use Rattle.word_sum.specs.SumValue.{sum_value}
use Rattle.word_sum.proofs.ChecksumLemmas.{folded_twice}
use Rattle.word_sum.proofs.NumberLemmas.{total_sixteen}
use Rattle.word_sum.proofs.checksum.Sum16BitWords.add_16bytes.Goals as goal

pub returns : goal.returns
returns c =
    let sixteen : length c.args.value ≡ 16 = search rules in
    rw (c.add_8bytes-2.ensures, c.add_8bytes.ensures, folded_twice)
    (ap (λ n. folded (sum_value c.args.self + n)) (sym (total_sixteen c.args.value sixteen)))
