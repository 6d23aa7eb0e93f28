use Rattle.std.proofs.Common.{◌↔◌, length}
use Rattle.capture_arguments.specs.DateTimes.{AreDigits}
use Rattle.capture_arguments.proofs.date_time.are_digits.Given as goal

-- all bytes are digits if and only if those that are left are digits
abbrev pub invariant-loop-left : goal.invariant-loop-left
invariant-loop-left l = AreDigits l.fn.bytes ↔ AreDigits l.left

abbrev pub decreases-loop-left : goal.decreases-loop-left
decreases-loop-left l = length l.left
