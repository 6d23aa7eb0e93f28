use Rattle.std.proofs.Common.{◌≡◌, ◌∙◌, ap, ap₂, subst, sym}
use Rattle.std.proofs.lemmas.Result.{IfOk-weaker}
use Rattle.timeline.proofs.TimelineLemmas.{shown}
use Rattle.timeline.specs.Intervals.{merged}
use Rattle.timeline.specs.Timelines.{AreShown, shown_intervals, shown_width}
use Rattle.timeline.proofs.timeline.Timeline.intervals.Goals as goal

pub returns-clause-shown : goal.returns-clause-shown
returns-clause-shown c =
    let timeline = c.args.self.now in
    let bins : c.deref.result.now ≡ timeline.bins = c.deref.ensures.value ∙ ap (λ each. each.bins) c.self.view_is in
    let same : merged c.shown_bins.result c.deref.result.now ≡ shown_intervals timeline = ap₂ merged c.shown_bins.ensures.value bins in
    IfOk-weaker c.merged.result _ _
    (λ intervals is width packets of.
    subst (λ items. AreShown width timeline.start (shown_width timeline) items packets) (sym (is ∙ same)) (shown width packets timeline of))
    c.merged.ensures
