use Rattle.std.proofs.Common.{◌≡◌, ◌∙◌, ap, ap₂, length, sym}
use Rattle.std.specs.Int.{div_ceil}
use Rattle.timeline.proofs.MergingLemmas.{length_of_merged}
use Rattle.timeline.specs.Timelines.{shown_bins}
use Rattle.timeline.proofs.timeline.Timeline.interval_count.Goals as goal

pub returns-clause-value : goal.returns-clause-value
returns-clause-value c =
    let bins = c.args.self.now.bins in
    let len : c.len.result ≡ length bins =
    c.len.ensures ∙ c.self.inside.bins.ok.0 ∙ ap (λ timeline. length timeline.bins) c.self.view_is in
    c.div_ceil.ensures
    ∙ ap₂ div_ceil len c.shown_bins.ensures.value
    ∙ sym (length_of_merged (shown_bins c.args.self.now) bins)
