use Rattle.std.specs.Option.{option_map}
use Rattle.translator.specs.ErrorTexts.{IsErrorLine}
use Rattle.translator.proofs.OutputLemmas.{loses_text, not_both, some_line}
use Rattle.translator.proofs.ending.write_error.Goals as goal

-- no memory is left for the line
pub returns-in_err-line : goal.returns-in_err-line
returns-in_err-line g c =
    let name = option_map (λ text. text.now) c.args.name in
    let some = some_line name c.args.error.now in
    loses_text _ _ (IsErrorLine name c.args.error.now) some.0 (not_both _ c.from_residual.ensures.0) some.1
