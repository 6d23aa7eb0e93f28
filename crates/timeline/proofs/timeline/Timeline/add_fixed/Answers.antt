use Rattle.std.proofs.Common.{◌≡◌, ◌⊎◌, Some, None, arith, refl, subst, sym}
use Rattle.timeline.proofs.TimelineLemmas.{fixed_code, later_code}
use Rattle.timeline.specs.contracts.timeline.Timeline.{the_view}
use Rattle.timeline.proofs.timeline.Timeline.add_fixed.Goals as goal

-- the packet is later than all intervals
pub returns-then-place : goal.returns-then-place
returns-then-place c =
    later_code (the_view c.self.inside) c.args.event.now c.args.start c.args.offset _ c.requires.timed c.self.invariant.0 refl
    c.add.new.self c.args.self.now c.self.view_is c.requires.fixed c.if-place.true c.add.ensures
    (subst (λ timeline. (timeline.start ≡ Some c.args.start) ⊎ ((timeline.start ≡ None) × (c.args.offset ≡ 0))) (sym c.self.view_is)
    c.requires.start)

-- the packet is in an interval
pub returns : goal.returns
returns c =
    fixed_code (the_view c.self.inside) c.args.event.now c.args.start c.args.offset _ c.requires.timed c.self.invariant.0 refl
    c.count_at.new.bins.items c.args.self.now c.self.view_is c.requires.fixed (omega (arith, c.if-place.false))
    c.count_at.ensures.counted
    (subst (λ timeline. (timeline.start ≡ Some c.args.start) ⊎ ((timeline.start ≡ None) × (c.args.offset ≡ 0))) (sym c.self.view_is)
    c.requires.start)
