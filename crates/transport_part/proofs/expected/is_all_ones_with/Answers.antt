use Rattle.std.proofs.Common.{◌≡◌, ◌+◌, ◌∙◌, ap, arith}
use Rattle.net_base.proofs.DetectionLemmas.{complement_tested}
use Rattle.word_sum.specs.Checksum.{complement, folded, total}
use Rattle.word_sum.specs.SumValue.{sum_value}
use Rattle.transport_part.proofs.expected.is_all_ones_with.Goals as goal

pub returns : goal.returns
returns c =
    let stored : total c.to_be_bytes.result ≡ c.args.stored = rw c.to_be_bytes.ensures (omega arith) in
    let sum = c.add_2bytes.ensures ∙ ap (λ n. folded (sum_value c.args.sum + n)) stored in
    complement_tested (sum_value c.args.sum + c.args.stored) c.ones_complement.result (c.ones_complement.ensures ∙ ap complement sum)
