use Rattle.std.proofs.Common.{◌≤◌, arith, refl, rules}
use Rattle.report_page.proofs.CountingLemmas.{bin_within, count_older, count_timed, count_untimed}
use Rattle.report_page.proofs.bins.count.Goals as goal

-- a packet without a time
pub returns-in_default-clause-counted : goal.returns-in_default-clause-counted
returns-in_default-clause-counted c packets are =
    count_untimed c.args.start c.args.bins.now packets c.args.event.now c.counts_of_one-one.result c.plus-bins.result
    c.counts_of_one-one.ensures are c.in_default.is c.plus-bins.ensures

-- a packet that is older than the start
pub returns-then-time-start-clause-counted : goal.returns-then-time-start-clause-counted
returns-then-time-start-clause-counted c packets are =
    count_older c.args.start c.args.bins.now packets c.args.event.now c.counts_of_one-one.result c.plus-bins-then-time-start.result
    c.counts_of_one-one.ensures are c.in-Some.time c.in-Some.is c.if-time-start.true c.plus-bins-then-time-start.ensures

-- a packet in a bin
pub returns-clause-counted : goal.returns-clause-counted
returns-clause-counted c packets are =
    let from_start : c.args.start ≤ c.in-Some.time = omega (arith, c.if-time-start.false) in
    count_timed c.args.start c.args.bins.now packets c.args.event.now c.counts_of_one-one.result c.plus.result
    c.counts_of_one-one.ensures are c.in-Some.time c.in-Some.is _ c.requires.unit from_start refl (search rules) c.plus.ensures
    (bin_within c.args.start c.args.bins.now.unit c.in-Some.time c.args.event.now.time c.requires.unit c.in-Some.is from_start
    c.requires.reaches)
