use Rattle.std.proofs.Common.{◌≡◌, drop, take}
use Rattle.timeline.specs.Counts.{sum_of}
use Rattle.timeline.specs.Timelines.{shown_intervals}
use Rattle.capture_text.proofs.timeline_table.row_at.Given as goal

-- the sum of the intervals so far
abbrev pub invariant-loop-step : goal.invariant-loop-step
invariant-loop-step l = l.row ≡ sum_of (take l.step (drop l.begin (shown_intervals l.timeline)))
