use Rattle.std.proofs.Common.{arith, string_bytes}
use Rattle.capture_request.proofs.LineLemmas.{loses_open_error, writes_one}
use Rattle.capture_request.specs.ErrorLines.{IsOpenErrorLine}
use Rattle.capture_request.proofs.capture_error.write_open_error.Goals as goal

-- the line or its beginning was written
pub returns : goal.returns
returns g c =
    writes_one _ _ c.write_whole.result (IsOpenErrorLine c.args.name.now) (string_bytes c.in_ok-line.line) c.in_ok-line.ensures
    (rw c.as_bytes.ensures.value at c.write_whole.ensures.written) (rw c.as_bytes.ensures.value at c.write_whole.ensures.begun)

-- no memory is left for the line
pub returns-in_err-line : goal.returns-in_err-line
returns-in_err-line g c = loses_open_error _ _ c.args.name.now (λ ok. absurd (grind (arith, ok, c.from_residual.ensures)))
