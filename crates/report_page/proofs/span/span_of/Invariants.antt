use Rattle.std.proofs.Common.{◌<◌, ◌^◌, IfSome, map, take}
use Rattle.report_page.specs.Events.{event_in}
use Rattle.report_page.specs.Spans.{IsSpanOf}
use Rattle.report_page.proofs.span.span_of.Given as goal

-- the span of the packets so far
abbrev pub invariant-loop-event : goal.invariant-loop-event
invariant-loop-event l =
    IsSpanOf (map event_in (take l.event-index l.events)) l.span × IfSome l.span (λ span. span.last < 2 ^ 96)
