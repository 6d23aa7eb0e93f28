use Rattle.std.proofs.Common.{◌≡◌, length, map}
use Rattle.capture_arguments.specs.Filters.{has_filter}
use Rattle.capture_arguments.proofs.filters.has_filter.Given as goal

-- if one of the names begins like a filter, one of the names that are left does
abbrev pub invariant-loop-left : goal.invariant-loop-left
invariant-loop-left l = has_filter (map (λ name. name.now) l.fn.names) ≡ has_filter (map (λ name. name.now) l.left)

abbrev pub decreases-loop-left : goal.decreases-loop-left
decreases-loop-left l = length l.left
