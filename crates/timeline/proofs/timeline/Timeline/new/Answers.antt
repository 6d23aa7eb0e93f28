use Rattle.std.proofs.Common.{◌∙◌, [], None, subst, sym}
use Rattle.timeline.proofs.TimelineLemmas.{of_no_packet}
use Rattle.timeline.specs.Timelines.{IsTimelineOf, empty_timeline}
use Rattle.timeline.proofs.timeline.Timeline.new.Goals as goal

pub returns-clause-none : goal.returns-clause-none
returns-clause-none c =
    subst (λ bins. IsTimelineOf None [] (record (empty_timeline None) { bins = bins }))
    (sym (c.in_ok-try_reserve_exact.ensures.items ∙ c.new-bins.ensures.items)) (of_no_packet None)
