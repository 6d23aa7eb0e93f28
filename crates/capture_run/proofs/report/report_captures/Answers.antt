use Rattle.std.proofs.Common.{◌∙◌, sym}
use Rattle.capture_run.proofs.RunLemmas.{all_named, unnamed, untold}
use Rattle.capture_run.proofs.report.report_captures.Goals as goal

-- the report of standard input
pub returns-then-is_empty-clause-report : goal.returns-then-is_empty-clause-report
returns-then-is_empty-clause-report g c =
    unnamed _ c.args.reports.parts c.args.sources.now.names.now (λ name. name.now) _ _ _ _ _ c.report_headed.result
    (sym c.is_empty.ensures ∙ c.if-is_empty.true) c.report_headed.ensures.report

pub returns-then-is_empty-clause-errors : goal.returns-then-is_empty-clause-errors
returns-then-is_empty-clause-errors g c =
    untold _ _ _ _ _ g.E.Write.contents c.args.outputs.now.errors c.report_headed.new.outputs.errors c.report_headed.result
    c.report_headed.ensures.errors

-- the report of captures with names
pub returns-else-is_empty-clause-report : goal.returns-else-is_empty-clause-report
returns-else-is_empty-clause-report g c =
    rw (all_named c.args.sources.now.names.now (λ name. name.now) (sym c.is_empty.ensures ∙ c.if-is_empty.false)) at
    c.report_each_capture.ensures.report

pub returns-else-is_empty-clause-errors : goal.returns-else-is_empty-clause-errors
returns-else-is_empty-clause-errors g c =
    rw (all_named c.args.sources.now.names.now (λ name. name.now) (sym c.is_empty.ensures ∙ c.if-is_empty.false)) at
    c.report_each_capture.ensures.errors
