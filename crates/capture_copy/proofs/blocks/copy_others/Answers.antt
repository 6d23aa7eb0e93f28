use Rattle.std.proofs.Common.{◌∙◌, ◌≤◌, arith, inr, length, rules, sym}
use Rattle.capture_copy.proofs.BlockEndLemmas.{ends_below}
use Rattle.capture_copy.proofs.PassingLemmas.{ends_by_number, passes_any, passes_more, passes_nothing, passes_on, passes_on_to_error}
use Rattle.capture_copy.proofs.VisitLemmas.{none_below}
use Rattle.capture_copy.specs.Blocks.{blocks_of}
use Rattle.capture_copy.proofs.blocks.copy_others.Goals as goal

pub loop-block-init : goal.loop-block-init
loop-block-init g c = record { passes = (passes_nothing _ _ _ _ _, omega arith); holds = λ held. held }

pub returns-then-is_enough-clause-passes : goal.returns-then-is_enough-clause-passes
returns-then-is_enough-clause-passes g c = c.loop-block.invariant.passes.0

pub returns-then-is_enough-clause-enough : goal.returns-then-is_enough-clause-enough
returns-then-is_enough-clause-enough g c = sym c.is_enough.ensures ∙ c.if-is_enough.true

pub returns-in_err-is_block-clause-passes : goal.returns-in_err-is_block-clause-passes
returns-in_err-is_block-clause-passes g c =
    passes_on_to_error _ _ _ _ _ _ _ _ _ _ _ _ _ _ _ c.loop-block.invariant.passes.0 c.in_err-is_block.ensures.passes (search rules)

pub returns-in_err-is_block-clause-enough : goal.returns-in_err-is_block-clause-enough
returns-in_err-is_block-clause-enough g c =
    ends_below _ (g.V.Visitor.is_enough c.args.visitor.now) _ _ _ _ _ _ _ _ _
    (sym c.is_enough.ensures ∙ c.if-is_enough.false) c.in_err-is_block.ensures.passes (search rules)

pub returns-in_err-is_block-clause-holds : goal.returns-in_err-is_block-clause-holds
returns-in_err-is_block-clause-holds g c =
    λ held. c.in_err-is_block.ensures.holds (sym c.is_enough.ensures ∙ c.if-is_enough.false) (c.loop-block.invariant.holds held)

pub returns-then-not-is_block-clause-passes : goal.returns-then-not-is_block-clause-passes
returns-then-not-is_block-clause-passes g c =
    passes_on _ _ _ _ _ _ _ _ _ _ _ _ _ c.loop-block.invariant.passes.0 (passes_any _ _ _ _ _ _ _ _ _ _ c.in_ok-is_block.ensures.passes)

pub returns-then-not-is_block-clause-enough : goal.returns-then-not-is_block-clause-enough
returns-then-not-is_block-clause-enough g c =
    none_below (blocks_of (g.V.Visitor.visits c.args.visitor.now)) (g.V.Visitor.is_enough c.args.visitor.now) _ _ _ _ _ _ _ _ _
    (sym c.is_enough.ensures ∙ c.if-is_enough.false) c.in_ok-is_block.ensures.passes (search rules)

pub returns-then-not-is_block-clause-holds : goal.returns-then-not-is_block-clause-holds
returns-then-not-is_block-clause-holds g c =
    λ held. c.in_ok-is_block.ensures.holds (sym c.is_enough.ensures ∙ c.if-is_enough.false) (c.loop-block.invariant.holds held)

pub loop-block-preserved : goal.loop-block-preserved
loop-block-preserved g c =
    let more = passes_more _ _ _ _ _ _ _ _ _ _ _ _ _ _ c.loop-block.invariant.passes.0 c.in_ok-is_block.ensures.passes (search rules) in
    record {
      passes = (more.0, omega (arith, more.1, c.loop-block.invariant.passes.1));
      holds = λ held. c.in_ok-is_block.ensures.holds (sym c.is_enough.ensures ∙ c.if-is_enough.false)
          (c.loop-block.invariant.holds held);
    }

-- after the last number the limit of blocks is reached
pub returns-clause-passes : goal.returns-clause-passes
returns-clause-passes g c =
    let passes = c.loop-block.invariant.passes.0 in
    let many : (g.V.Visitor.visits c.args.visitor.now).max_parts ≤ length passes.parts =
    omega (arith, c.loop-block.invariant.passes.1, c.loop-block-test.false, c.max_parts-block-end.ensures) in
    inr (ends_by_number _ _ _ _ _ _ _ _ _ passes many)
