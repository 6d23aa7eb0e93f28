use Rattle.std.proofs.Common.{◌*◌, ◌≡◌, ◌∙◌, ◌+◌, ap, arith}
use Rattle.word_sum.specs.Checksum.{folded, total}
use Rattle.word_sum.specs.SumValue.{sum_value}
use Rattle.word_sum.proofs.ChecksumLemmas.{folded-lt}
use Rattle.word_sum.proofs.checksum_change.sum_of_both.Goals as goal

pub returns : goal.returns
returns c =
    let fits = folded-lt (c.args.second.word * 256) in
    let second : total c.to_be_bytes.result ≡ sum_value c.args.second = rw (c.to_be_bytes.ensures, c.value_of.ensures) (omega arith) in
    c.add_2bytes.ensures ∙ ap (λ n. folded (sum_value c.args.first + n)) second
