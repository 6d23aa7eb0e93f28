use Rattle.std.proofs.Common.{◌∙◌, ◌*◌, ◌%◌, ◌/◌, ◌^◌, ap, rules}
use Rattle.report_page.proofs.ChartLemmas.{interval_count, made_same, same_size}
use Rattle.report_page.proofs.chart.page_timeline.Goals as goal

pub returns : goal.returns
returns c =
    let bins = c.args.bins.now in
    let size = c.bins_in_interval-size.result in
    let is_size = c.bins_in_interval-size.ensures.value in
    let positive = c.bins_in_interval-size.ensures.few.0 in
    let start = c.number_or_zero-start.ensures in
    let same = same_size bins size 0 (search rules) c.requires.len is_size positive in
    made_same _ _ _ _ _ _ _ _ _ _ _ _ _ _ _ _
    (c.low_part.ensures ∙ ap (λ n. n % 2 ^ 64) start) (c.high_part.ensures ∙ ap (λ n. n / 2 ^ 64) start)
    (c.low_part-2.ensures ∙ ap (λ n. bins.unit * n % 2 ^ 64) same) (c.high_part-2.ensures ∙ ap (λ n. bins.unit * n / 2 ^ 64) same)
    (c.div_ceil.ensures ∙ interval_count bins size 0 (search rules) c.requires.len is_size positive)
    c.page_counts.ensures c.page_counts-2.ensures c.is_some.ensures
