use Rattle.std.proofs.Common.{None, rules}
use Rattle.capture_copy.proofs.BlockEndLemmas.{ends_below}
use Rattle.capture_copy.proofs.PassingLemmas.{one_given, passes_one, passes_to_first_error, passes_to_on}
use Rattle.capture_copy.specs.Blocks.{blocks_of}
use Rattle.capture_copy.proofs.blocks.copy_blocks.Goals as goal

pub returns-clause-passes : goal.returns-clause-passes
returns-clause-passes g c =
    λ left consumed.
    passes_to_on _ c.copy_others.result _ _ _ _ _ _ _ _ _ _ _ _
    (passes_one _ _ _ _ _ _ _ _ _ (one_given (blocks_of (g.V.Visitor.visits c.args.visitor.now)) c.in_ok-outcome.outcome _ _ _ _ _ _ _ _
    (c.in_ok-outcome.ensures.passes left consumed) c.count_if.ensures.counted)).0
    c.copy_others.ensures.passes

pub returns-in_err-outcome-clause-passes : goal.returns-in_err-outcome-clause-passes
returns-in_err-outcome-clause-passes g c =
    λ left consumed.
    passes_to_first_error (blocks_of (g.V.Visitor.visits c.args.visitor.now)) _ _ _ _ _ _ _ _ _ _
    (c.in_err-outcome.ensures.passes left consumed c.args.counts.now) (search rules)

-- what the input contained is not needed here
pub returns-in_err-outcome-clause-enough : goal.returns-in_err-outcome-clause-enough
returns-in_err-outcome-clause-enough g c =
    ends_below _ (g.V.Visitor.is_enough c.args.visitor.now) _ _ _ None _ _ _ _ _
    c.requires.below (c.in_err-outcome.ensures.passes None tt c.args.counts.now) (search rules)
