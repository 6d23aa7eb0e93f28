use Rattle.std.proofs.Common.{take}
use Rattle.std.specs.Io.KnownBytes.{Appends}
use Rattle.std.specs.List.{flat_map}
use Rattle.translator.specs.Outcomes.{all_reasons, counted_line}
use Rattle.translator.proofs.counts.Counts.write_reasons.Given as goal

-- the lines so far were written
abbrev pub invariant-loop-reason : goal.invariant-loop-reason
invariant-loop-reason g l =
    Appends (g.W.Write.contents l.initial.output) (g.W.Write.contents l.output)
    (flat_map (counted_line l.self) (take l.reason-index all_reasons))
