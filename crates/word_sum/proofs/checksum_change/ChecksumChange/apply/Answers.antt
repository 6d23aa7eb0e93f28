use Rattle.std.proofs.Common.{◌*◌, ◌∙◌, ap, arith}
use Rattle.word_sum.specs.Checksum.{complement}
use Rattle.word_sum.specs.ChecksumChange.{added_value, removed_value}
use Rattle.word_sum.proofs.ChecksumLemmas.{folded-lt}
use Rattle.word_sum.proofs.ChecksumChangeLemmas.{updated_iff, updated_remainder, updated_reversed_iff, updated_verifies_iff, updated_zeros}
use Rattle.word_sum.proofs.checksum_change.ChecksumChange.apply.Goals as goal

pub returns-clause-equation : goal.returns-clause-equation
returns-clause-equation c = c.ones_complement.ensures ∙ ap complement c.updated_sum.ensures

pub returns-clause-updated : goal.returns-clause-updated
returns-clause-updated c packet changed turns =
    updated_iff packet changed c.args.checksum (removed_value c.args.self) (added_value c.args.self) _
    (folded-lt (c.args.self.removed.word * 256)) turns (returns-clause-equation c)

pub returns-clause-zeros : goal.returns-clause-zeros
returns-clause-zeros c packet changed turns =
    updated_zeros packet changed c.args.checksum (removed_value c.args.self) (added_value c.args.self) _
    (folded-lt (c.args.self.removed.word * 256)) turns (returns-clause-equation c)

pub returns-clause-remainder : goal.returns-clause-remainder
returns-clause-remainder c packet changed turns =
    updated_remainder packet changed c.args.checksum (removed_value c.args.self) (added_value c.args.self) _
    (folded-lt (c.args.self.removed.word * 256)) (omega arith) turns (returns-clause-equation c)

pub returns-clause-verifies : goal.returns-clause-verifies
returns-clause-verifies c packet changed turns =
    updated_verifies_iff packet changed c.args.checksum (removed_value c.args.self) (added_value c.args.self) _
    (folded-lt (c.args.self.removed.word * 256)) (omega arith) turns (returns-clause-equation c)

pub returns-clause-reversed : goal.returns-clause-reversed
returns-clause-reversed c =
    updated_reversed_iff c.args.checksum (removed_value c.args.self) (added_value c.args.self) _ (omega arith)
    (folded-lt (c.args.self.removed.word * 256)) (folded-lt (c.args.self.added.word * 256)) (returns-clause-equation c)
