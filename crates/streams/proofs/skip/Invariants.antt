use Rattle.std.proofs.Common.{◌≡◌, ◌-◌, ◌≤◌, ℕ, List, length}
use Rattle.std.specs.Io.KnownBytes.{Consumes}
use Rattle.streams.proofs.skip.Given as goal

-- the number of bytes read is the counted number
abbrev pub invariant-loop-skipped : goal.invariant-loop-skipped
invariant-loop-skipped g l =
    (bytes : List ℕ)
    × (length bytes ≡ l.skipped)
    × Consumes (g.R.Read.remaining l.initial.input) (g.R.Read.remaining l.input) bytes
    × (l.skipped ≤ l.count)

abbrev pub decreases-loop-skipped : goal.decreases-loop-skipped
decreases-loop-skipped g l = l.count - l.skipped
