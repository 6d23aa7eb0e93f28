use Rattle.std.proofs.Common.{◌≡◌, ℕ, ◌<◌, length}
use Rattle.std.specs.Prelude.{slice_index_or}
use Rattle.timeline.specs.Counts.{no_packets}
use Rattle.timeline.specs.Timelines.{shown_intervals}
use Rattle.report_page.specs.Charts.{page_counts, timeline_in}
use Rattle.report_page.proofs.chart.show_intervals.Given as goal

-- the intervals so far are written
abbrev pub invariant-loop-place : goal.invariant-loop-place
invariant-loop-place l =
    (length l.intervals ≡ 256)
    × ((other : ℕ) → other < l.place → slice_index_or l.intervals other (page_counts no_packets)
    ≡ page_counts (slice_index_or (shown_intervals (timeline_in l.bins)) other no_packets))
