use Rattle.std.proofs.Common.{◌-◌, ◌≤◌}
use Rattle.capture_copy.specs.Copies.{Copies}
use Rattle.capture_copy.proofs.copier.Copier.copy.Given as goal

-- at most as many bytes were copied as requested
abbrev pub invariant-loop-copied : goal.invariant-loop-copied
invariant-loop-copied g l = record {
  within : l.copied ≤ l.count;
  copies : Copies (g.R.Read.remaining l.initial.self.input) (g.R.Read.remaining l.self.input) (g.W.Write.contents l.initial.self.output)
      (g.W.Write.contents l.self.output) l.copied;
}

abbrev pub decreases-loop-copied : goal.decreases-loop-copied
decreases-loop-copied g l = l.count - l.copied
