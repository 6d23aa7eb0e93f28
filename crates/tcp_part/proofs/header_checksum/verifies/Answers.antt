use Rattle.std.proofs.Common.{◌≡◌, ◌+◌, ◌++◌, sym, ap, ◌∙◌}
use Rattle.net_base.proofs.DetectionLemmas.{complement_tested}
use Rattle.word_sum.specs.Checksum.{complement, folded, total}
use Rattle.word_sum.specs.SumValue.{sum_value}
use Rattle.word_sum.proofs.ChecksumLemmas.{folded_twice, total-append}
use Rattle.tcp_part.proofs.header_checksum.verifies.Goals as goal

pub returns : goal.returns
returns c = λ even.
    let pseudo_header = sum_value c.args.pseudo_header in
    let whole : total (c.args.header.now ++ c.args.payload.now) ≡ total c.args.header.now + total c.args.payload.now =
    total-append c.args.header.now c.args.payload.now even in
    complement_tested (pseudo_header + total (c.args.header.now ++ c.args.payload.now)) c.ones_complement.result
    (c.ones_complement.ensures
    ∙ ap complement (c.add_slice-2.ensures.sum
    ∙ ap (λ n. folded (n + total c.args.payload.now)) c.add_slice.ensures.sum
    ∙ folded_twice pseudo_header (total c.args.header.now) (total c.args.payload.now)
    ∙ ap (λ n. folded (pseudo_header + n)) (sym whole)))
