use Rattle.std.proofs.Common.{◌≡◌, ◌+◌, ◌*◌, ◌≤◌, length}
use Rattle.capture_arguments.specs.DateTimes.{AreDigits, sum_of_digits}
use Rattle.capture_arguments.proofs.date_time.sum_of_digits.Given as goal

-- the sum of the digits before this place, and the digits that are left; the sum is below a second by at least ten units
abbrev pub invariant-loop-left : goal.invariant-loop-left
invariant-loop-left l =
    AreDigits l.left × (l.sum + sum_of_digits l.unit l.left ≡ sum_of_digits 100000000 l.fn.digits) × (l.sum + 10 * l.unit ≤ 1000000000)

abbrev pub decreases-loop-left : goal.decreases-loop-left
decreases-loop-left l = length l.left
