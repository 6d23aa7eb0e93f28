use Rattle.std.proofs.Common.{◌∙◌, subst}
use Rattle.report_page.proofs.SpanLemmas.{first_span, greater, later_span, untimed_span}
use Rattle.report_page.specs.Spans.{IsSpanOf}
use Rattle.report_page.proofs.span.with_time.Goals as goal

pub returns-in_default-clause-span : goal.returns-in_default-clause-span
returns-in_default-clause-span c packets packet same is = untimed_span packets packet c.args.span (same ∙ c.in_default.is) is

pub returns-in-Some-span-clause-span : goal.returns-in-Some-span-clause-span
returns-in-Some-span-clause-span c packets packet same is =
    later_span packets packet c.in-Some-span.span.start c.in-Some-span.span.last c.in-Some.time c.max.result (same ∙ c.in-Some.is)
    (c.max.ensures ∙ greater c.in-Some-span.span.last c.in-Some.time)
    (subst (IsSpanOf packets) c.in-Some-span.is is)

pub returns-in-None-clause-span : goal.returns-in-None-clause-span
returns-in-None-clause-span c packets packet same is =
    first_span packets packet c.in-Some.time (same ∙ c.in-Some.is) (subst (IsSpanOf packets) c.in-None.is is)
