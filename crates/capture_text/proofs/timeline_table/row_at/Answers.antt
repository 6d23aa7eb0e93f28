use Rattle.std.proofs.Common.{◌<◌, ◌+◌, ◌*◌, ◌∙◌, ap₂, arith, length, sym}
use Rattle.timeline.specs.Counts.{counts_sum}
use Rattle.timeline.specs.Timelines.{shown_intervals}
use Rattle.capture_text.proofs.TimelineTextLemmas.{sum_more}
use Rattle.capture_text.proofs.timeline_table.row_at.Goals as goal

-- another interval is added
pub loop-step-preserved : goal.loop-step-preserved
loop-step-preserved c =
    let intervals = shown_intervals c.args.timeline.now in
    let begin = c.args.place * c.args.size in
    let less : begin + c.loop-step.step < length intervals =
    omega (arith, c.loop-step-test.true, c.min-end.ensures, c.interval_count-count.ensures.value) in
    c.plus-row.ensures ∙ ap₂ counts_sum c.loop-step.invariant c.interval.ensures ∙ sym (sum_more intervals begin c.loop-step.step less)
