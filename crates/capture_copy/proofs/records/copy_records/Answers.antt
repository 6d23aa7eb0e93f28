use Rattle.std.proofs.Common.{◌∙◌, ◌≤◌, arith, inr, length, refl, rules, sym}
use Rattle.capture_copy.proofs.PassingLemmas.{ends_by_number, passes_any, passes_more, passes_nothing, passes_on, passes_on_to_error}
use Rattle.capture_copy.proofs.VisitLemmas.{ends_below, none_below, still_enough}
use Rattle.capture_copy.specs.Records.{records_of}
use Rattle.capture_copy.proofs.records.copy_records.Goals as goal

pub loop-record-init : goal.loop-record-init
loop-record-init g c = record { passes = (passes_nothing _ _ _ _ _, omega arith); none = λ enough. refl; holds = λ held. held }

pub returns-then-is_enough-clause-passes : goal.returns-then-is_enough-clause-passes
returns-then-is_enough-clause-passes g c = c.loop-record.invariant.passes.0

pub returns-then-is_enough-clause-enough : goal.returns-then-is_enough-clause-enough
returns-then-is_enough-clause-enough g c = sym c.is_enough.ensures ∙ c.if-is_enough.true

pub returns-in_err-is_record-clause-passes : goal.returns-in_err-is_record-clause-passes
returns-in_err-is_record-clause-passes g c =
    passes_on_to_error _ _ _ _ _ _ _ _ _ _ _ _ _ _ _ c.loop-record.invariant.passes.0 c.in_err-is_record.ensures.passes (search rules)

pub returns-in_err-is_record-clause-enough : goal.returns-in_err-is_record-clause-enough
returns-in_err-is_record-clause-enough g c =
    ends_below _ (g.V.Visitor.is_enough c.args.visitor.now) _ _ _ _ _ _ _ _ _
    (sym c.is_enough.ensures ∙ c.if-is_enough.false) c.in_err-is_record.ensures.passes (search rules)

pub returns-in_err-is_record-clause-none : goal.returns-in_err-is_record-clause-none
returns-in_err-is_record-clause-none g c =
    λ enough. absurd (still_enough (g.V.Visitor.is_enough c.args.visitor.now) _ _ c.loop-record.invariant.none
    (sym c.is_enough.ensures ∙ c.if-is_enough.false) enough)

pub returns-in_err-is_record-clause-holds : goal.returns-in_err-is_record-clause-holds
returns-in_err-is_record-clause-holds g c =
    λ held. c.in_err-is_record.ensures.holds (sym c.is_enough.ensures ∙ c.if-is_enough.false) (c.loop-record.invariant.holds held)

pub returns-then-not-is_record-clause-passes : goal.returns-then-not-is_record-clause-passes
returns-then-not-is_record-clause-passes g c =
    passes_on _ _ _ _ _ _ _ _ _ _ _ _ _ c.loop-record.invariant.passes.0 (passes_any _ _ _ _ _ _ _ _ _ _ c.in_ok-is_record.ensures.passes)

pub returns-then-not-is_record-clause-enough : goal.returns-then-not-is_record-clause-enough
returns-then-not-is_record-clause-enough g c =
    none_below (records_of (g.V.Visitor.visits c.args.visitor.now)) (g.V.Visitor.is_enough c.args.visitor.now) _ _ _ _ _ _ _ _ _
    (sym c.is_enough.ensures ∙ c.if-is_enough.false) c.in_ok-is_record.ensures.passes (search rules)

pub returns-then-not-is_record-clause-none : goal.returns-then-not-is_record-clause-none
returns-then-not-is_record-clause-none g c =
    λ enough. absurd (still_enough (g.V.Visitor.is_enough c.args.visitor.now) _ _ c.loop-record.invariant.none
    (sym c.is_enough.ensures ∙ c.if-is_enough.false) enough)

pub returns-then-not-is_record-clause-holds : goal.returns-then-not-is_record-clause-holds
returns-then-not-is_record-clause-holds g c =
    λ held. c.in_ok-is_record.ensures.holds (sym c.is_enough.ensures ∙ c.if-is_enough.false) (c.loop-record.invariant.holds held)

pub loop-record-preserved : goal.loop-record-preserved
loop-record-preserved g c =
    let more = passes_more _ _ _ _ _ _ _ _ _ _ _ _ _ _ c.loop-record.invariant.passes.0 c.in_ok-is_record.ensures.passes (search rules) in
    record {
      passes = (more.0, omega (arith, more.1, c.loop-record.invariant.passes.1));
      none = λ enough. absurd (still_enough (g.V.Visitor.is_enough c.args.visitor.now) _ _ c.loop-record.invariant.none
          (sym c.is_enough.ensures ∙ c.if-is_enough.false) enough);
      holds = λ held. c.in_ok-is_record.ensures.holds (sym c.is_enough.ensures ∙ c.if-is_enough.false)
          (c.loop-record.invariant.holds held);
    }

-- after the last number the limit of records is reached
pub returns-clause-passes : goal.returns-clause-passes
returns-clause-passes g c =
    let passes = c.loop-record.invariant.passes.0 in
    let many : (g.V.Visitor.visits c.args.visitor.now).max_parts ≤ length passes.parts =
    omega (arith, c.loop-record.invariant.passes.1, c.loop-record-test.false, c.max_parts-record-end.ensures) in
    inr (ends_by_number _ _ _ _ _ _ _ _ _ passes many)
