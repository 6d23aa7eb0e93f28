use Rattle.std.proofs.Common.{◌≡◌, arith, refl, string_bytes}
use Rattle.capture_report.specs.Outputs.{counts_line}
use Rattle.capture_request.proofs.LineLemmas.{writes_one}
use Rattle.capture_report.proofs.OutputLemmas.{loses_line}
use Rattle.capture_report.proofs.write_counts.Goals as goal

-- the line was written, or a beginning of it
pub returns : goal.returns
returns g c =
    writes_one _ _ c.write_whole.result (λ line. line ≡ counts_line c.args.counts.now) (string_bytes c.in_ok-line.line) c.in_ok-line.ensures
    (rw c.as_bytes.ensures.value at c.write_whole.ensures.written) (rw c.as_bytes.ensures.value at c.write_whole.ensures.begun)

-- no memory is left for the line
pub returns-in_err-line : goal.returns-in_err-line
returns-in_err-line g c =
    loses_line _ _ (λ line. line ≡ counts_line c.args.counts.now) (counts_line c.args.counts.now)
    (λ ok. absurd (grind (arith, ok, c.from_residual.ensures))) refl
