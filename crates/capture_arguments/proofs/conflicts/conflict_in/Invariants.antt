use Rattle.std.proofs.Common.{◌≡◌, ◌&&◌, length, map}
use Rattle.std.specs.Prelude.{find}
use Rattle.clap.specs.Words.{found_of, rows_of}
use Rattle.capture_arguments.specs.Conflicts.{conflict_in, is_given}
use Rattle.capture_arguments.proofs.conflicts.conflict_in.Given as goal

-- the first pair whose options are both given is among the pairs that are left
abbrev pub invariant-loop-left : goal.invariant-loop-left
invariant-loop-left l =
    let rows = rows_of (found_of l.matches) in
    conflict_in rows ≡ find (λ pair. is_given rows pair.0 && is_given rows pair.1) (map (λ pair. (pair.0.now, pair.1.now)) l.left)

abbrev pub decreases-loop-left : goal.decreases-loop-left
decreases-loop-left l = length l.left
