use Rattle.std.proofs.Common.{◌∙◌, sym}
use Rattle.capture_run.specs.Captures.{Gives, progress_of}
use Rattle.capture_run.proofs.RunLemmas.{headed, left_out}
use Rattle.capture_run.proofs.report.report_headed.Goals as goal

-- the capture is left out
pub returns-then-is_full-clause-report : goal.returns-then-is_full-clause-report
returns-then-is_full-clause-report g c =
    let reports = c.args.reports in
    left_out (Gives (g.O.Open.misses c.args.opener.now) (g.O.Open.opens c.args.opener.now) g.O.Input.Read.remaining) reports.parts
    c.args.capture.now.count c.args.capture.now.place c.args.capture.now.name.now (progress_of reports)
    (g.W.Write.contents c.args.outputs.now.report)
    (g.E.Write.contents c.args.outputs.now.errors) _ (sym c.is_full.ensures ∙ c.if-is_full.true)

-- the text of a capture follows its heading
pub returns-clause-report : goal.returns-clause-report
returns-clause-report g c =
    let reports = c.args.reports in
    headed (Gives (g.O.Open.misses c.args.opener.now) (g.O.Open.opens c.args.opener.now) g.O.Input.Read.remaining) reports.parts
    c.args.capture.now.count c.args.capture.now.place c.args.capture.now.name.now (progress_of reports)
    (g.W.Write.contents c.args.outputs.now.report)
    (g.W.Write.contents c.write_heading_if_any.new.output) (g.W.Write.contents c.report_capture.new.outputs.report)
    (g.E.Write.contents c.args.outputs.now.errors) (g.E.Write.contents c.report_capture.new.outputs.errors) c.report_capture.result
    (sym c.is_full.ensures ∙ c.if-is_full.false)
    (rw c.parts.ensures at c.in_ok-write_heading_if_any.ensures) c.report_capture.ensures.report
