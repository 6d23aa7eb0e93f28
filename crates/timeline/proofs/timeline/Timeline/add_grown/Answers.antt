use Rattle.std.proofs.Common.{◌≡◌, ◌⊎◌, Some, None, arith, subst, sym}
use Rattle.timeline.proofs.TimelineLemmas.{Widens, from_code}
use Rattle.timeline.specs.contracts.timeline.Timeline.{the_view}
use Rattle.timeline.proofs.timeline.Timeline.add_grown.Goals as goal

pub returns : goal.returns
returns c =
    let widens : Widens c.args.offset c.widen-place.result c.self.inside.unit c.widen-place.new.unit c.self.inside.bins.items
    c.widen-place.new.bins.items = record {
      grows = c.widen-place.ensures.unit.0;
      positive = omega (arith, c.widen-place.ensures.unit.0, c.self.invariant.0);
      is_place = c.widen-place.ensures.place.0;
      within = c.widen-place.ensures.place.1;
      kept = c.widen-place.ensures.kept;
      power = c.widen-place.ensures.power;
      least = c.widen-place.ensures.least;
    } in
    from_code (the_view c.self.inside) c.args.event.now c.args.start c.args.offset c.widen-place.result c.widen-place.new.unit
    c.widen-place.new.bins.items c.count_at.new.bins.items c.requires.timed widens
    c.count_at.ensures.counted c.args.self.now c.self.view_is c.requires.grows
    (subst (λ timeline. (timeline.start ≡ Some c.args.start) ⊎ ((timeline.start ≡ None) × (c.args.offset ≡ 0))) (sym c.self.view_is)
    c.requires.start)
