use Rattle.std.proofs.Common.{List, ℕ, Option, length, map}
use Rattle.std.specs.declared.io.Error.{Error}
use Rattle.capture_report.specs.FilterNames.{FindsFilter}
use Rattle.capture_report.proofs.filters.missing_filter.Given as goal

-- what is found among the names that are left is found among all names
abbrev pub invariant-loop-left : goal.invariant-loop-left
invariant-loop-left g l =
    (found : Option (List ℕ × Error)) → FindsFilter (g.S.FileSystem.describes l.system) (map (λ name. name.now) l.left) found
    → FindsFilter (g.S.FileSystem.describes l.system) (map (λ name. name.now) l.fn.names) found

abbrev pub decreases-loop-left : goal.decreases-loop-left
decreases-loop-left g l = length l.left
