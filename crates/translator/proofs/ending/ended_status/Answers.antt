use Rattle.std.proofs.Common.{IsOk, rules}
use Rattle.std.specs.Option.{option_map}
use Rattle.translator.specs.Outputs.{IsEndLine}
use Rattle.translator.proofs.OutputLemmas.{not_both, writes_nothing, writes_weaker}
use Rattle.translator.proofs.ending.ended_status.Goals as goal

-- the error of the capture could not be written
pub returns-in_err-write_error-in-Err : goal.returns-in_err-write_error-in-Err
returns-in_err-write_error-in-Err g c = record {
  status = search rules;
  success = search rules;
  failure = search rules;
  line = writes_weaker _ _ (IsOk c.write_error.result) _ (IsEndLine (option_map (λ text. text.now) c.args.name) c.args.ended)
      (λ ok. absurd (not_both _ c.from_residual.ensures.0 ok)) (search rules);
}

-- writing the capture failed
pub returns-in-Err-Write-clause-line : goal.returns-in-Err-Write-clause-line
returns-in-Err-Write-clause-line g c =
    writes_nothing _ _ (IsEndLine (option_map (λ text. text.now) c.args.name) c.args.ended) (search rules)

-- the capture was read to its end
pub returns-in-Ok-clause-line : goal.returns-in-Ok-clause-line
returns-in-Ok-clause-line g c = writes_nothing _ _ (IsEndLine (option_map (λ text. text.now) c.args.name) c.args.ended) (search rules)
