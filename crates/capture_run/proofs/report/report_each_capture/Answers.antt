use Rattle.std.proofs.Common.{◌∙◌, [], ap, refl, rules}
use Rattle.std.proofs.KnownBytes.{Appends-nil}
use Rattle.capture_request.proofs.LineLemmas.{writes-nothing}
use Rattle.capture_file.proofs.ReaderLemmas.{at_error}
use Rattle.capture_run.proofs.RunLemmas.{one-more, tells_first}
use Rattle.capture_run.proofs.report.report_each_capture.Goals as goal

-- the state before the first capture
pub loop-place-init : goal.loop-place-init
loop-place-init g c = (
  refl,
  λ none. none,
  record {
    text = [];
    lines = [];
    is_report = (refl, refl, refl);
    appends = Appends-nil (g.W.Write.contents c.args.outputs.now.report);
    tells = writes-nothing (g.E.Write.contents c.args.outputs.now.errors) _;
  },
)

-- the invariant holds after another capture
pub loop-place-preserved : goal.loop-place-preserved
loop-place-preserved g c =
    let (parts, told, written) = c.loop-place.invariant in (
      c.in_ok-reports.ensures.parts ∙ parts,
      λ none. told (c.in_ok-reports.ensures.told none),
      one-more _ c.args.reports.parts c.loop-place.reports.parts _ c.args.sources.now.names.now
          (λ name. name.now) c.loop-place.place _ _ _ _ _ _ _ _ _ _ _ _
          (search rules) parts c.in_ok-reports.ensures.told written c.in_ok-reports.ensures.report,
    )

-- if a capture can't be reported, the lines of errors of the captures before it were written
pub returns-in_err-reports-clause-errors : goal.returns-in_err-reports-clause-errors
returns-in_err-reports-clause-errors g c =
    let (parts, told, written) = c.loop-place.invariant in
    at_error c.from_residual.result
    (rw (ap g.E.Write.contents c.in_err-reports.ensures.errors) (
    tells_first _ c.args.reports.parts _ c.args.sources.now.names.now (λ name. name.now) c.loop-place.place _ _ _ _ _ _ _ written))
