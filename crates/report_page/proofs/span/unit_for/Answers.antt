use Rattle.std.proofs.Common.{◌*◌, ◌≤◌, arith}
use Rattle.report_page.proofs.SpanLemmas.{unit_reaches}
use Rattle.timeline.proofs.WidthLemmas.{power_least, power_one, power_ten, too_small, wide_enough}
use Rattle.report_page.proofs.span.unit_for.Goals as goal

pub loop-unit-init : goal.loop-unit-init
loop-unit-init c = record {
  positive = omega arith;
  bound = omega arith;
  power = power_one;
  least = λ other is before. power_least other is;
}

-- the unit does not suffice, so each power of ten that does is at least ten times as large
pub loop-unit-preserved : goal.loop-unit-preserved
loop-unit-preserved c =
    let loop = c.loop-unit.invariant in
    let small : 1280 * c.loop-unit.unit ≤ c.args.offset = too_small _ _ c.loop-unit-test.true in
    record {
      positive = omega (arith, loop.positive);
      bound = omega (arith, small, c.requires);
      power = power_ten c.loop-unit.unit loop.power;
      least = λ other is before.
          wide_enough c.args.offset c.loop-unit.unit other loop.power is (loop.least other is before) small before;
    }

pub loop-unit-smaller : goal.loop-unit-smaller
loop-unit-smaller c =
    let small : 1280 * c.loop-unit.unit ≤ c.args.offset = too_small _ _ c.loop-unit-test.true in
    omega (arith, small, c.loop-unit.invariant.positive)

pub returns-clause-unit : goal.returns-clause-unit
returns-clause-unit c =
    let loop = c.loop-unit.invariant in
    record {
      power = loop.power;
      reaches = unit_reaches c.args.offset c.loop-unit.unit loop.positive c.loop-unit-test.false;
      least = loop.least;
    }
