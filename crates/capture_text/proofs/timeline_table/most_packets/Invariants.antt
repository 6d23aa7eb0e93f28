use Rattle.std.proofs.Common.{◌≡◌, take}
use Rattle.capture_text.specs.TimelineText as specs
use Rattle.timeline.specs.Intervals.{merged}
use Rattle.timeline.specs.Timelines.{shown_intervals}
use Rattle.capture_text.proofs.timeline_table.most_packets.Given as goal

-- the greatest number of packets in the rows so far
abbrev pub invariant-loop-place : goal.invariant-loop-place
invariant-loop-place l = l.most ≡ specs.most_packets (take l.place (merged l.size (shown_intervals l.timeline)))
