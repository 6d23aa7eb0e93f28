use Rattle.std.proofs.Common.{[], Err, inl, refl, rules, subst, take}
use Rattle.std.proofs.KnownBytes.{Appends-nil, Consumes-nil}
use Rattle.std.specs.Io.KnownBytes.{Consumes}
use Rattle.capture_copy.proofs.BlockEndLemmas.{next_to_read_error}
use Rattle.capture_copy.proofs.PartLemmas.{front_none}
use Rattle.capture_copy.proofs.PassingLemmas.{any_to_end, one_given}
use Rattle.capture_copy.specs.Blocks.{blocks_of}
use Rattle.capture_copy.proofs.blocks.copy_next.Goals as goal

pub returns-in_err-len-clause-passes : goal.returns-in_err-len-clause-passes
returns-in_err-len-clause-passes g c =
    let error = c.in_err-len.field-0.0 in
    let visits = g.V.Visitor.visits c.args.visitor.now in
    any_to_end (blocks_of visits) _ error _ _ _ _ _ _ _ _
    (next_to_read_error {A = Unit {0}} visits (Err error) error c.args.blocks.now c.args.blocks.now _ _ _ _ _ _ [] []
    c.in_err-len.ensures.failed (Consumes-nil _) (Appends-nil _) (front_none _ _) (inl refl) refl) (search rules)

pub returns-then-len-eq0-clause-passes : goal.returns-then-len-eq0-clause-passes
returns-then-len-eq0-clause-passes g c = (
  refl,
  subst (λ n. Consumes (g.R.Read.remaining c.args.copier.now.input) (g.R.Read.remaining c.read_into.new.input)
      (take n c.read_into.new.buffer)) c.if-len-eq0.true
      c.in_ok-len.ensures.consumed,
  refl,
  refl,
)

pub returns-in_err-outcome-clause-passes : goal.returns-in_err-outcome-clause-passes
returns-in_err-outcome-clause-passes g c =
    any_to_end (blocks_of (g.V.Visitor.visits c.args.visitor.now)) _ _ _ _ _ _ _ _ _ _
    (c.in_err-outcome.ensures.passes _ c.in_ok-len.ensures.consumed c.args.counts.now) (search rules)

pub returns-clause-passes : goal.returns-clause-passes
returns-clause-passes g c =
    one_given (blocks_of (g.V.Visitor.visits c.args.visitor.now)) c.in_ok-outcome.outcome _ _ _ _ _ _ _ _
    (c.in_ok-outcome.ensures.passes _ c.in_ok-len.ensures.consumed)
    c.count_if.ensures.counted
