use Rattle.std.proofs.Common.{◌+◌, ◌-◌, ◌≤◌, length}
use Rattle.capture_packet.proofs.MplsLemmas.{IsLeft}
use Rattle.capture_packet.proofs.link.mpls.stack_at.Given as goal

abbrev pub invariant-loop-label : goal.invariant-loop-label
invariant-loop-label l = (l.label + 4 ≤ length l.frame) × IsLeft l.frame l.fn.other l.fn.place l.label

abbrev pub decreases-loop-label : goal.decreases-loop-label
decreases-loop-label l = length l.frame - l.label
