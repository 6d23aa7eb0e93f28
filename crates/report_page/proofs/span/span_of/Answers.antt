use Rattle.std.proofs.Common.{map, subst, sym, take}
use Rattle.report_page.proofs.CountingLemmas.{events_more}
use Rattle.report_page.specs.Events.{event_in, no_event}
use Rattle.report_page.specs.Spans.{IsSpanOf}
use Rattle.std.specs.Prelude.{slice_index_or}
use Rattle.report_page.proofs.span.span_of.Goals as goal

-- one more packet
pub loop-event-preserved : goal.loop-event-preserved
loop-event-preserved c =
    let place = c.loop-event.event-index in
    let events = c.args.events.now in
    let more = events_more events place no_event c.loop-event-test.true in (
      subst (λ packets. IsSpanOf packets c.with_time-span.result) (sym more)
          (c.with_time-span.ensures.span (map event_in (take place events)) (event_in (slice_index_or events place no_event))
          (sym c.time_in.ensures.value) c.loop-event.invariant.0),
      c.with_time-span.ensures.bound,
    )
