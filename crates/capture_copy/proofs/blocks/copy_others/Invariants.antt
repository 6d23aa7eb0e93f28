use Rattle.std.proofs.Common.{◌≤◌, length}
use Rattle.capture_copy.specs.Passing.{Passes}
use Rattle.capture_copy.specs.Blocks.{blocks_of}
use Rattle.capture_copy.proofs.blocks.copy_others.Given as goal

-- the blocks read so far were passed, and each iteration passed a block
abbrev pub invariant-loop-block : goal.invariant-loop-block
invariant-loop-block g l = record {
  passes : (passes : Passes (blocks_of (g.V.Visitor.visits l.visitor)) l.initial.blocks l.blocks
      (g.R.Read.remaining l.initial.copier.input) (g.R.Read.remaining l.copier.input)
      (g.W.Write.contents l.initial.copier.output) (g.W.Write.contents l.copier.output) l.initial.counts l.counts)
      × (l._block ≤ length passes.parts);
  holds : g.V.Visitor.holds l.visitor l.initial.counts → g.V.Visitor.holds l.visitor l.counts;
}
