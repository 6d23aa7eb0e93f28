use Rattle.capture_request.specs.ErrorLines.{IsOneLine, IsOpenErrorLine}
use Rattle.capture_report.proofs.OutputLemmas.{not_both, writes_weaker}
use Rattle.capture_report.proofs.unopened.Goals as goal

-- a beginning of the line was written
pub returns-in_err-write_open_error-clause-line : goal.returns-in_err-write_open_error-clause-line
returns-in_err-write_open_error-clause-line g c =
    writes_weaker _ _ _ _ (IsOneLine (IsOpenErrorLine c.args.name.now)) (λ ok. absurd (not_both _ c.from_residual.ensures.0 ok))
    c.write_open_error.ensures
