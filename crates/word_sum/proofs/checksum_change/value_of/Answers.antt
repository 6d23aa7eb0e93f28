use Rattle.std.proofs.Common.{◌*◌, arith}
use Rattle.word_sum.proofs.ChecksumLemmas.{folded-lt}
use Rattle.word_sum.proofs.checksum_change.value_of.Goals as goal

pub returns : goal.returns
returns c =
    let fits = folded-lt (c.args.sum.word * 256) in
    rw c.ones_complement.ensures (omega arith)
