use Rattle.std.proofs.Common.{◌≡◌, ◌∙◌, ◌*◌, ◌<◌, ap, ap₂, arith, length, subst, sym}
use Rattle.timeline.proofs.MergingLemmas.{length_of_merged, merged_here, place_within}
use Rattle.timeline.specs.Intervals.{merged_at}
use Rattle.timeline.specs.Timelines.{shown_bins}
use Rattle.timeline.proofs.timeline.Timeline.interval.Goals as goal

pub merged_at-requires-clause-place : goal.merged_at-requires-clause-place
merged_at-requires-clause-place c =
    let timeline = c.args.self.now in
    let bins : c.deref.result.now ≡ timeline.bins = c.deref.ensures.value ∙ ap (λ each. each.bins) c.self.view_is in
    let step : c.shown_bins.result ≡ shown_bins timeline = c.shown_bins.ensures.value in
    let count = c.interval_count.ensures.value ∙ length_of_merged (shown_bins timeline) timeline.bins in
    subst (λ items. c.args.place * c.shown_bins.result < length items) (sym bins)
    (subst (λ size. c.args.place * size < length timeline.bins) (sym step)
    (place_within (length timeline.bins) (shown_bins timeline) c.args.place c.interval_count.result
    (subst (λ size. 0 < size) step c.shown_bins.ensures.few.0) count (omega (arith, c.if-place-interval_count.false))))

pub returns : goal.returns
returns c =
    let timeline = c.args.self.now in
    let bins : c.deref.result.now ≡ timeline.bins = c.deref.ensures.value ∙ ap (λ each. each.bins) c.self.view_is in
    c.merged_at.ensures
    ∙ ap₂ (λ size items. merged_at size items c.args.place) c.shown_bins.ensures.value bins
    ∙ sym (merged_here (shown_bins timeline) timeline.bins c.args.place
    (omega (arith, c.if-place-interval_count.false, c.interval_count.ensures.value)))
