use Rattle.std.proofs.Common.{◌∙◌, arith, rules}
use Rattle.report_page.proofs.ChartLemmas.{interval_is, interval_past}
use Rattle.report_page.proofs.chart.interval.Goals as goal

pub returns-then-place-size : goal.returns-then-place-size
returns-then-place-size c =
    interval_past c.args.bins.now c.bins_in_interval-size.result c.args.place (search rules) c.requires.len
    c.bins_in_interval-size.ensures.value c.bins_in_interval-size.ensures.few.0 c.if-place-size.true

pub returns : goal.returns
returns c =
    c.merged_at.ensures
    ∙ interval_is c.args.bins.now c.bins_in_interval-size.result c.args.place (search rules) c.requires.len
    c.bins_in_interval-size.ensures.value c.bins_in_interval-size.ensures.few.0 (omega (arith, c.if-place-size.false))
