use Rattle.std.proofs.Common.{◌≡◌, length}
use Rattle.capture_arguments.specs.Unknown.{has_unknown_letter}
use Rattle.capture_arguments.proofs.unknown.has_unknown_letter.Given as goal

-- the first letter that decides is among the letters that are left
abbrev pub invariant-loop-left : goal.invariant-loop-left
invariant-loop-left l = has_unknown_letter l.letters ≡ has_unknown_letter l.left

abbrev pub decreases-loop-left : goal.decreases-loop-left
decreases-loop-left l = length l.left
