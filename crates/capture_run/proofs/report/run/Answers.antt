use Rattle.std.proofs.Common.{◌∙◌, sym}
use Rattle.capture_run.proofs.RunLemmas.{run_failed, run_result, tells_all, tells_nothing}
use Rattle.capture_file.proofs.ReaderLemmas.{at_error}
use Rattle.capture_run.proofs.report.run.Goals as goal

-- all lines of errors were written
pub returns-in-None-clause-report : goal.returns-in-None-clause-report
returns-in-None-clause-report g c =
    run_result _ c.args.parts c.args.sources.now.names.now (λ name. name.now) c.in_ok-start.start c.in_ok-reports.reports _ _ _ _ _ _
    c.in_ok-start.ensures.parts c.in_ok-start.ensures.summary c.in_ok-start.ensures.status c.in_ok-start.ensures.empty
    c.in_ok-start.ensures.capture c.in_ok-start.ensures.files
    c.in_ok-reports.ensures.parts (sym c.into_unwritten.ensures ∙ c.in-None.is) c.in_ok-reports.ensures.report c.in_ok-status.ensures.text
    c.in_ok-status.ensures.status

-- a line of an error was not written
pub returns-in-Some-clause-errors : goal.returns-in-Some-clause-errors
returns-in-Some-clause-errors g c =
    run_failed _ c.args.parts c.args.sources.now.names.now (λ name. name.now) c.in_ok-start.start _ _
    c.in_ok-start.ensures.parts c.in_ok-start.ensures.summary c.in_ok-start.ensures.status c.in_ok-start.ensures.empty
    c.in_ok-start.ensures.capture c.in_ok-start.ensures.files
    (tells_all _ _ _ _ _ _ _ _ _ _ _ c.in_ok-reports.ensures.report)

-- the summary was not written
pub returns-in_err-status-clause-errors : goal.returns-in_err-status-clause-errors
returns-in_err-status-clause-errors g c =
    at_error _
    (run_failed _ c.args.parts c.args.sources.now.names.now (λ name. name.now) c.in_ok-start.start _ _
    c.in_ok-start.ensures.parts c.in_ok-start.ensures.summary c.in_ok-start.ensures.status c.in_ok-start.ensures.empty
    c.in_ok-start.ensures.capture c.in_ok-start.ensures.files
    (tells_all _ _ _ _ _ _ _ _ _ _ _ c.in_ok-reports.ensures.report))

-- there is no memory for the counts
pub returns-in_err-start-clause-errors : goal.returns-in_err-start-clause-errors
returns-in_err-start-clause-errors g c = at_error _ (tells_nothing _ _ _ _ _ _)
