use Rattle.std.proofs.Common.{◌∙◌, ◌<◌, ap, arith, rules}
use Rattle.word_sum.specs.Checksum.{folded}
use Rattle.word_sum.proofs.ChecksumLemmas.{folded-small}
use Rattle.etherparse_transport_c.proofs.sum.sum_of.Goals as goal

pub returns : goal.returns
returns c =
    let fits : c.args.value < 65536 = search rules in
    rw (c.add_2bytes.ensures, c.to_be_bytes.ensures, c.new.ensures) (ap folded (omega arith) ∙ folded-small c.args.value fits)
