use Rattle.std.proofs.Common.{◌∙◌, ◌+◌, ◌*◌, ◌∷◌, ◌++◌, [], ap, map, subst, sym, take}
use Rattle.report_page.proofs.CountingLemmas.{each_event, events_more, none_counted}
use Rattle.report_page.specs.Events.{event_in}
use Rattle.report_page.specs.Spans.{AreCounted}
use Rattle.timeline.specs.Intervals.{IsBefore}
use Rattle.timeline.specs.Timelines.{max_bins}
use Rattle.report_page.proofs.bins.counted.Goals as goal

pub loop-event-init : goal.loop-event-init
loop-event-init c =
    let is = c.no_bins-bins.ensures in (
      none_counted c.args.start c.args.unit c.no_bins-bins.result is,
      ap (λ bins. bins.start) is,
      ap (λ bins. bins.unit) is,
      ap (λ bins. bins.len) is,
    )

-- every packet is before the end of the bins
pub count-requires-clause-reaches : goal.count-requires-clause-reaches
count-requires-clause-reaches c =
    subst (λ unit. IsBefore (c.args.start + max_bins * unit) c.event_in.result.time) (sym c.loop-event.invariant.2)
    (subst (λ event. IsBefore (c.args.start + max_bins * c.args.unit) event.time) (sym c.event_in.ensures)
    (each_event (λ packet. IsBefore (c.args.start + max_bins * c.args.unit) packet.time) c.args.events.now c.loop-event.event-index _
    c.loop-event-test.true c.requires.reaches))

pub loop-event-preserved : goal.loop-event-preserved
loop-event-preserved c =
    let (counted, start, unit, len) = c.loop-event.invariant in
    let more = events_more c.args.events.now c.loop-event.event-index _ c.loop-event-test.true in (
      subst (AreCounted c.args.start c.count.new.bins) (sym more)
          (subst (λ event. AreCounted c.args.start c.count.new.bins
          (map event_in (take c.loop-event.event-index c.args.events.now) ++ event ∷ [])) c.event_in.ensures
          (c.count.ensures.counted _ counted)),
      c.count.ensures.same.0 ∙ start,
      c.count.ensures.same.1 ∙ unit,
      c.count.ensures.same.2 ∙ len,
    )
