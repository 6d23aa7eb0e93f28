use Rattle.std.proofs.Common.{◌↔◌, length}
use Rattle.capture_summary.specs.Choice.{HasAny, IsOfProtocol}
use Rattle.capture_summary.proofs.choice.has_any_protocol.Given as goal

-- a place that matches is among those that are left
abbrev pub invariant-loop-left : goal.invariant-loop-left
invariant-loop-left l = HasAny (IsOfProtocol l.content) l.fn.protocols ↔ HasAny (IsOfProtocol l.content) l.left

abbrev pub decreases-loop-left : goal.decreases-loop-left
decreases-loop-left l = length l.left
