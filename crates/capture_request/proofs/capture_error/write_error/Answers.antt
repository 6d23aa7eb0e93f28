use Rattle.std.proofs.Common.{arith, string_bytes}
use Rattle.std.specs.Option.{option_map}
use Rattle.capture_request.proofs.LineLemmas.{loses_error, writes_one}
use Rattle.capture_request.specs.ErrorLines.{IsErrorText, IsLineOf}
use Rattle.capture_request.specs.Names.{shown_name}
use Rattle.capture_request.proofs.capture_error.write_error.Goals as goal

-- the line or its beginning was written
pub returns : goal.returns
returns g c =
    writes_one _ _ c.write_whole.result (IsLineOf (option_map (λ text. shown_name text.now) c.args.name) (IsErrorText c.args.error.now))
    (string_bytes c.in_ok-line.line) c.in_ok-line.ensures (rw c.as_bytes.ensures.value at c.write_whole.ensures.written)
    (rw c.as_bytes.ensures.value at c.write_whole.ensures.begun)

-- no memory is left for the line
pub returns-in_err-line : goal.returns-in_err-line
returns-in_err-line g c =
    loses_error _ _ (option_map (λ text. shown_name text.now) c.args.name) c.args.error.now
    (λ ok. absurd (grind (arith, ok, c.from_residual.ensures)))
