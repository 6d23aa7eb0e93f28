use Rattle.std.proofs.Common.{◌≡◌, ◌≤◌, ◌<◌, ◌∙◌, ap, ap₂, arith, length, max, subst, sym, take_all}
use Rattle.std.specs.Int.{div_ceil}
use Rattle.timeline.proofs.MergingLemmas.{length_of_merged}
use Rattle.timeline.specs.Counts.{total}
use Rattle.timeline.specs.Intervals.{merged}
use Rattle.timeline.specs.Timelines.{shown_intervals}
use Rattle.capture_text.specs.TimelineText as specs
use Rattle.capture_text.proofs.TimelineTextLemmas.{greater, most_more}
use Rattle.capture_text.proofs.timeline_table.most_packets.Goals as goal

-- another row is compared
pub loop-place-preserved : goal.loop-place-preserved
loop-place-preserved c =
    let intervals = shown_intervals c.args.timeline.now in
    let count : c.div_ceil-place-end.result ≡ div_ceil (length intervals) c.args.size =
    c.div_ceil-place-end.ensures ∙ ap (λ n. div_ceil n c.args.size) c.interval_count.ensures.value in
    let less : c.loop-place.place < div_ceil (length intervals) c.args.size =
    subst (λ n. c.loop-place.place < n) count c.loop-place-test.true in
    c.max-most.ensures
    ∙ greater c.loop-place.most c.total.result.packets
    ∙ ap₂ max c.loop-place.invariant (ap (λ count. count.packets) c.total.ensures ∙ ap (λ row. (total row).packets) c.row_at.ensures)
    ∙ sym (most_more c.args.size intervals c.loop-place.place less)

pub returns : goal.returns
returns c =
    let intervals = shown_intervals c.args.timeline.now in
    let count : c.div_ceil-place-end.result ≡ div_ceil (length intervals) c.args.size =
    c.div_ceil-place-end.ensures ∙ ap (λ n. div_ceil n c.args.size) c.interval_count.ensures.value in
    let all : length (merged c.args.size intervals) ≤ c.loop-place.place =
    omega (arith, count, c.loop-place-test.false, length_of_merged c.args.size intervals) in
    c.loop-place.invariant ∙ ap specs.most_packets (take_all c.loop-place.place (merged c.args.size intervals) all)
