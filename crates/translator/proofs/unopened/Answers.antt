use Rattle.std.proofs.Common.{[], ◌++◌, codes, refl}
use Rattle.translator.specs.ErrorTexts.{IsOpenErrorLine}
use Rattle.translator.proofs.OutputLemmas.{loses_text, not_both}
use Rattle.translator.proofs.unopened.Goals as goal

-- no memory is left for the line
pub returns-in_err-line-clause-line : goal.returns-in_err-line-clause-line
returns-in_err-line-clause-line g c =
    loses_text _ _ (IsOpenErrorLine c.args.name.now) (codes "translator: " ++ (c.args.name.now ++ (codes ": " ++ ([] ++ codes "\n"))))
    (not_both _ c.from_residual.ensures.0) ([], refl)
