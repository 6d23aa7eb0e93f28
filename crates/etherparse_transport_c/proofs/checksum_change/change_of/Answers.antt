use Rattle.std.proofs.Common.{◌∙◌, ◌<◌, ap, arith, rules}
use Rattle.word_sum.specs.Checksum.{folded}
use Rattle.word_sum.proofs.ChecksumLemmas.{folded-small}
use Rattle.etherparse_transport_c.proofs.checksum_change.change_of.Goals as goal

pub returns-clause-removed : goal.returns-clause-removed
returns-clause-removed c =
    let fits : c.args.change.removed < 65536 = search rules in
    rw (c.replace_2bytes.ensures.removed, c.to_be_bytes.ensures, c.new.ensures.removed)
    (ap folded (omega arith) ∙ folded-small c.args.change.removed fits)

pub returns-clause-added : goal.returns-clause-added
returns-clause-added c =
    let fits : c.args.change.added < 65536 = search rules in
    rw (c.replace_2bytes.ensures.added, c.to_be_bytes-2.ensures, c.new.ensures.added)
    (ap folded (omega arith) ∙ folded-small c.args.change.added fits)
