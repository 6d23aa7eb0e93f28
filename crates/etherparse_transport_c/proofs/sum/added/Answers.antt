use Rattle.std.proofs.Common.{◌+◌, arith}
use Rattle.word_sum.specs.Checksum.{total}
use Rattle.word_sum.proofs.ChecksumLemmas.{folded-lt}
use Rattle.etherparse_transport_c.proofs.sum.added.Goals as goal

pub returns : goal.returns
returns c =
    rw (c.ones_complement.ensures, c.add_slice.ensures.sum, c.sum_of.ensures)
    (omega (arith, folded-lt (c.args.value + total c.args.bytes.now)))
