use Rattle.std.proofs.Common.{◌+◌, ◌∙◌, ap}
use Rattle.net_base.proofs.DetectionLemmas.{complement_tested}
use Rattle.word_sum.specs.Checksum.{complement, total}
use Rattle.word_sum.specs.SumValue.{sum_value}
use Rattle.tcp_part.proofs.header_checksum.sums_up.Goals as goal

pub returns : goal.returns
returns c =
    complement_tested (sum_value c.args.pseudo_header + total c.args.segment.now) c.ones_complement.result
    (c.ones_complement.ensures ∙ ap complement c.add_slice.ensures.sum)
