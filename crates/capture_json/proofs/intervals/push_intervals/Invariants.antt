use Rattle.std.proofs.Common.{◌≡◌, map, take}
use Rattle.capture_json.specs.JsonTimeline.{interval_data}
use Rattle.capture_json.specs.Tokens.{tokens_in, with_items}
use Rattle.timeline.specs.Timelines.{shown_intervals}
use Rattle.capture_json.proofs.intervals.push_intervals.Given as goal

-- the intervals so far were written
abbrev pub invariant-loop-place : goal.invariant-loop-place
invariant-loop-place l =
    tokens_in l.line ≡ with_items (map interval_data (take l.place (shown_intervals l.timeline))) (tokens_in l.initial.line)
