use Rattle.word_sum.specs.ChecksumChange.{added_value, removed_value}
use Rattle.word_sum.proofs.ChecksumChangeLemmas.{folded_joined}
use Rattle.word_sum.proofs.checksum_change.ChecksumChange.and.Goals as goal

pub returns-clause-joins : goal.returns-clause-joins
returns-clause-joins c packet between changed turns turns_too =
    rw (c.sum_of_both.ensures, c.sum_of_both-2.ensures)
    (folded_joined packet (added_value c.args.self) between (removed_value c.args.self) (added_value c.args.other) changed
    (removed_value c.args.other)
    turns turns_too)
