use Rattle.std.proofs.Common.{◌≡◌, ◌≤◌, length, true}
use Rattle.capture_copy.specs.Passing.{Passes}
use Rattle.capture_copy.specs.Records.{records_of}
use Rattle.capture_copy.proofs.records.copy_records.Given as goal

-- the records read so far were passed, each iteration passed a record, and none was counted if enough packets were read before
abbrev pub invariant-loop-record : goal.invariant-loop-record
invariant-loop-record g l = record {
  passes : (passes : Passes (records_of (g.V.Visitor.visits l.visitor)) l.initial.records l.records
      (g.R.Read.remaining l.initial.copier.input) (g.R.Read.remaining l.copier.input)
      (g.W.Write.contents l.initial.copier.output) (g.W.Write.contents l.copier.output) l.initial.counts l.counts)
      × (l._record ≤ length passes.parts);
  none : g.V.Visitor.is_enough l.visitor l.initial.counts ≡ true → l.counts ≡ l.initial.counts;
  holds : g.V.Visitor.holds l.visitor l.initial.counts → g.V.Visitor.holds l.visitor l.counts;
}
