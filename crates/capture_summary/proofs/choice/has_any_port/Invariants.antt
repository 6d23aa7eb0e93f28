use Rattle.std.proofs.Common.{◌↔◌, length}
use Rattle.capture_summary.specs.Choice.{HasAny, HasPort}
use Rattle.capture_summary.proofs.choice.has_any_port.Given as goal

-- if one of the ports matches, one of the places that are left matches
abbrev pub invariant-loop-left : goal.invariant-loop-left
invariant-loop-left l = HasAny (HasPort l.content) l.fn.ports ↔ HasAny (HasPort l.content) l.left

abbrev pub decreases-loop-left : goal.decreases-loop-left
decreases-loop-left l = length l.left
