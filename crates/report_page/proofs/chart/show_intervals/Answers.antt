use Rattle.std.proofs.Common.{◌∙◌, ap, arith, length-set}
use Rattle.report_page.proofs.ChartLemmas.{one_shown}
use Rattle.report_page.specs.Charts.{page_counts, timeline_in}
use Rattle.timeline.specs.Timelines.{shown_intervals}
use Rattle.report_page.proofs.chart.show_intervals.Goals as goal

-- one more interval
pub loop-place-preserved : goal.loop-place-preserved
loop-place-preserved c =
    let (len, before) = c.loop-place.invariant in
    let intervals = c.loop-place.intervals in
    let place = c.loop-place.place in (
      length-set intervals place c.page_counts.result ∙ len,
      one_shown (shown_intervals (timeline_in c.args.bins.now)) intervals place (omega (arith, len, c.loop-place-test.true))
          c.page_counts.result (c.page_counts.ensures ∙ ap page_counts c.interval.ensures) before,
    )
