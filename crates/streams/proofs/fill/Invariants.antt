use Rattle.std.proofs.Common.{length, take, ◌-◌, ◌≤◌}
use Rattle.std.specs.Io.KnownBytes.{Consumes}
use Rattle.streams.proofs.fill.Given as goal

-- the front of the buffer is the bytes that were read
abbrev pub invariant-loop-filled : goal.invariant-loop-filled
invariant-loop-filled g l =
    (l.filled ≤ length l.buffer)
    × Consumes (g.R.Read.remaining l.initial.input) (g.R.Read.remaining l.input) (take l.filled l.buffer)

abbrev pub decreases-loop-filled : goal.decreases-loop-filled
decreases-loop-filled g l = length l.initial.buffer - l.filled
