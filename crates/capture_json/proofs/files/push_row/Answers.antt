use Rattle.std.specs.Prelude.{codes}
use Rattle.std.proofs.Common.{◌∙◌, ◌∷◌, ap}
use Rattle.std.proofs.lemmas.Result.{on_ok_weaker}
use Rattle.serde_json.specs.Data.{string}
use Rattle.capture_json.specs.JsonSummary.{file_count_members}
use Rattle.capture_json.specs.Tokens.{object_ended, put, tokens_in, with_members}
use Rattle.capture_json.proofs.TokensLemmas.{pushed}
use Rattle.capture_json.proofs.files.push_row.Goals as goal

-- the name and the numbers in braces
pub returns : goal.returns
returns c =
    let row = c.args.row.now in
    let numbers = file_count_members row.count in
    on_ok_weaker c.end_object.result
    (λ ended. ended
    ∙ ap object_ended (c.in_ok-put_file_count.ensures
    ∙ ap (with_members numbers) (c.in_ok-put_text.ensures ∙ ap (put (codes "file") (string row.name.now)) c.in_ok-begin_item.ensures))
    ∙ pushed ((codes "file", string row.name.now) ∷ numbers) (tokens_in c.args.line.now))
    c.end_object.ensures
