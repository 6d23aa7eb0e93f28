use Rattle.std.proofs.Common.{◌+◌, ◌-◌, ◌/◌, ◌<◌, ap, map, refl, rules, subst, sym}
use Rattle.report_page.proofs.ChartLemmas.{counted_timeline, untimed_before, untimed_timeline}
use Rattle.report_page.specs.Events.{event_in}
use Rattle.report_page.specs.Spans.{IsUnitFor}
use Rattle.report_page.proofs.bins.bins_of.Goals as goal

-- no packet has a time
pub counted-requires-clause-reaches : goal.counted-requires-clause-reaches
counted-requires-clause-reaches c = untimed_before (map event_in c.args.events.now) c.in_default.ensures.span 1280

pub returns-in_default-clause-timeline : goal.returns-in_default-clause-timeline
returns-in_default-clause-timeline c =
    let same = c.counted.ensures.same in
    untimed_timeline (map event_in c.args.events.now) c.in_default.ensures.span c.counted.result same.0 same.1 same.2
    c.counted.ensures.counted

-- the packets have a span
pub returns-clause-timeline : goal.returns-clause-timeline
returns-clause-timeline c =
    let span = c.in-Some.span in
    let offset = span.last - span.start in
    let counted = c.counted-counted.ensures.counted in
    let unit = c.counted-counted.ensures.same.1 in
    counted_timeline (map event_in c.args.events.now) span.start span.last c.in-Some.ensures.span _
    (subst (λ each. 0 < each) (sym unit) c.unit_for-unit.ensures.bound.0)
    (ap (λ each. offset / each + 1) (sym unit)) (search rules)
    (subst (IsUnitFor offset) (sym unit) c.unit_for-unit.ensures.unit)
    (record { contained = counted.contained; older = counted.older; untimed = counted.untimed }) refl
