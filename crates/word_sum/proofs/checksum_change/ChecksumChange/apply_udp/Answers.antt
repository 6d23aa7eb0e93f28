use Rattle.std.proofs.Common.{◌*◌, ◌≡◌, ◌==◌, ◌∙◌, ap, arith, false}
use Rattle.std.proofs.lemmas.Bool.Decides.{nat_tests}
use Rattle.word_sum.specs.Checksum.{complement, zero_as_all_ones}
use Rattle.word_sum.specs.ChecksumChange.{added_value, removed_value}
use Rattle.word_sum.proofs.ChecksumLemmas.{folded-lt}
use Rattle.word_sum.proofs.ChecksumChangeLemmas.{updated_udp_iff, updated_udp_remainder, updated_udp_reversed, updated_udp_verifies_iff}
use Rattle.word_sum.proofs.checksum_change.ChecksumChange.apply_udp.Goals as goal

pub returns-clause-equation : goal.returns-clause-equation
returns-clause-equation c =
    let some : (c.args.checksum == 0) ≡ false = grind (arith, nat_tests) in
    rw some (c.to_ones_complement_with_no_zero.ensures ∙ ap (λ sum. zero_as_all_ones (complement sum)) c.updated_sum.ensures)

pub returns-clause-updated : goal.returns-clause-updated
returns-clause-updated c packet changed turns =
    updated_udp_iff packet changed c.args.checksum (removed_value c.args.self) (added_value c.args.self) _
    (folded-lt (c.args.self.removed.word * 256)) (omega arith) turns (returns-clause-equation c)

pub returns-clause-remainder : goal.returns-clause-remainder
returns-clause-remainder c packet changed turns =
    updated_udp_remainder packet changed c.args.checksum (removed_value c.args.self) (added_value c.args.self) _
    (folded-lt (c.args.self.removed.word * 256)) (omega arith) turns (returns-clause-equation c)

pub returns-clause-verifies : goal.returns-clause-verifies
returns-clause-verifies c packet changed turns =
    updated_udp_verifies_iff packet changed c.args.checksum (removed_value c.args.self) (added_value c.args.self) _
    (folded-lt (c.args.self.removed.word * 256)) (omega arith) turns (returns-clause-equation c)

pub returns-clause-reversed : goal.returns-clause-reversed
returns-clause-reversed c =
    updated_udp_reversed c.args.checksum (removed_value c.args.self) (added_value c.args.self) _ (omega arith)
    (folded-lt (c.args.self.removed.word * 256)) (folded-lt (c.args.self.added.word * 256)) (returns-clause-equation c)
