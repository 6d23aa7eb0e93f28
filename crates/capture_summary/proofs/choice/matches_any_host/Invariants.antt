use Rattle.std.proofs.Common.{◌↔◌, length}
use Rattle.capture_summary.specs.Choice.{HasAny, MatchesOn}
use Rattle.capture_summary.proofs.choice.matches_any_host.Given as goal

-- if one of the hosts matches, one of the places that are left matches
abbrev pub invariant-loop-left : goal.invariant-loop-left
invariant-loop-left l = HasAny (MatchesOn l.side l.packet) l.fn.hosts ↔ HasAny (MatchesOn l.side l.packet) l.left

abbrev pub decreases-loop-left : goal.decreases-loop-left
decreases-loop-left l = length l.left
