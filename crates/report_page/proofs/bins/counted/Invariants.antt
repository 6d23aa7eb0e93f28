use Rattle.std.proofs.Common.{◌≡◌, None, map, take}
use Rattle.report_page.specs.Events.{event_in}
use Rattle.report_page.specs.Spans.{AreCounted}
use Rattle.report_page.proofs.bins.counted.Given as goal

-- the packets so far are counted
abbrev pub invariant-loop-event : goal.invariant-loop-event
invariant-loop-event l =
    AreCounted l.start l.bins (map event_in (take l.event-index l.events))
    × (l.bins.start ≡ None) × (l.bins.unit ≡ l.unit) × (l.bins.len ≡ 0)
