use Rattle.std.proofs.Common.{ℕ, ◌-◌, ◌*◌, ◌^◌, ◌≤◌, ◌<◌}
use Rattle.timeline.specs.Intervals.{IsPowerOfTen}
use Rattle.report_page.proofs.span.unit_for.Given as goal

-- the unit is a power of ten, and no less power of ten suffices
abbrev pub invariant-loop-unit : goal.invariant-loop-unit
invariant-loop-unit l = record {
  positive : 0 < l.unit;
  bound : l.unit < 2 ^ 96;
  power : IsPowerOfTen l.unit;
  least : (other : ℕ) → IsPowerOfTen other → l.offset < 1280 * other → l.unit ≤ other;
}

abbrev pub decreases-loop-unit : goal.decreases-loop-unit
decreases-loop-unit l = l.offset - l.unit
