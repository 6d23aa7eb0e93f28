use Rattle.word_sum.proofs.ChecksumChangeLemmas.{is_extended, replaces}
use Rattle.word_sum.proofs.checksum_change.ChecksumChange.replace_slice.Goals as goal

pub returns-clause-extends : goal.returns-clause-extends
returns-clause-extends c =
    is_extended c.args.self record { removed = c.add_slice.result; added = c.add_slice-2.result } c.args.old.now c.args.new.now
    c.add_slice.ensures.sum c.add_slice-2.ensures.sum

pub returns-clause-replaces : goal.returns-clause-replaces
returns-clause-replaces c =
    replaces c.args.self record { removed = c.add_slice.result; added = c.add_slice-2.result } c.args.old.now c.args.new.now
    (returns-clause-extends c)
