use Rattle.std.proofs.Common.{[], ◌∷◌, ◌++◌, ◌∙◌, ap}
use Rattle.std.specs.Prelude.{codes}
use Rattle.json.specs.Print.{print}
use Rattle.json.specs.Token.{begin_object}
use Rattle.capture_words.proofs.WrittenLemmas.{written_1}
use Rattle.capture_json.specs.JsonSummary.{tables_members}
use Rattle.capture_json.specs.Tokens.{array_begun, with_members}
use Rattle.capture_json.proofs.summary.write_tables.Goals as goal

-- the tables, and the opening bracket
pub returns-in_ok-begin_array-in-Ok : goal.returns-in_ok-begin_array-in-Ok
returns-in_ok-begin_array-in-Ok g c =
    let begun = c.in_ok-begin_item.ensures ∙ ap (λ tokens. tokens ++ begin_object ∷ []) c.in_ok-line.ensures in
    let members = tables_members c.args.capture.now c.args.summary.now in
    written_1 _ _ _ _ _ c.write_part.ensures
    (ap print (c.in_ok-begin_array-in-Ok.ensures
    ∙ ap (array_begun (codes "busiest_conversations")) (c.in-Ok.ensures ∙ ap (with_members members) begun)))
