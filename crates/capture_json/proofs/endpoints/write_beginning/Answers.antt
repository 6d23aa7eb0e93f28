use Rattle.std.proofs.Common.{[], ◌∷◌, ◌++◌, ◌∙◌, ap}
use Rattle.std.specs.Prelude.{codes}
use Rattle.json.specs.Print.{print}
use Rattle.json.specs.Token.{end_array}
use Rattle.capture_words.proofs.WrittenLemmas.{written_1}
use Rattle.capture_json.specs.Tokens.{array_begun}
use Rattle.capture_json.proofs.endpoints.write_beginning.Goals as goal

-- the closing bracket, the name, and the opening bracket
pub returns : goal.returns
returns g c =
    written_1 _ _ _ _ _ c.write_part.ensures
    (ap print (c.in_ok-begin_array.ensures
    ∙ ap (array_begun (codes "endpoints")) (c.in_ok-end_array.ensures ∙ ap (λ tokens. tokens ++ end_array ∷ []) c.in_ok-line.ensures)))
