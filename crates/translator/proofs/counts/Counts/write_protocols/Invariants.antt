use Rattle.std.proofs.Common.{◌≡◌, ◌+◌, ℕ, List, Option, length}
use Rattle.std.specs.Io.KnownBytes.{Appends}
use Rattle.translator.specs.Outcomes.{protocol_lines}
use Rattle.translator.proofs.counts.Counts.write_protocols.Given as goal

-- with the lines that are left, all lines are written
abbrev pub invariant-loop-left : goal.invariant-loop-left
invariant-loop-left g l =
    ((after : Option (List ℕ)) → Appends (g.W.Write.contents l.output) after (protocol_lines l.number l.left)
    → Appends (g.W.Write.contents l.initial.output) after (protocol_lines 0 l.self.by_protocol))
    × (l.number + length l.left ≡ 256)

abbrev pub decreases-loop-left : goal.decreases-loop-left
decreases-loop-left g l = length l.left
