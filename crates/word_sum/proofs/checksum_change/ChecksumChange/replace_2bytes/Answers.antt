use Rattle.word_sum.proofs.ChecksumChangeLemmas.{is_extended, replaces}
use Rattle.word_sum.proofs.checksum_change.ChecksumChange.replace_2bytes.Goals as goal

pub returns-clause-extends : goal.returns-clause-extends
returns-clause-extends c =
    is_extended c.args.self record { removed = c.add_2bytes.result; added = c.add_2bytes-2.result } c.args.old c.args.new
    c.add_2bytes.ensures c.add_2bytes-2.ensures

pub returns-clause-replaces : goal.returns-clause-replaces
returns-clause-replaces c =
    replaces c.args.self record { removed = c.add_2bytes.result; added = c.add_2bytes-2.result } c.args.old c.args.new
    (returns-clause-extends c)
