use Rattle.std.proofs.Common.{◌∙◌, ap}
use Rattle.json.specs.Print.{print}
use Rattle.capture_words.proofs.WrittenLemmas.{written_1}
use Rattle.capture_json.specs.JsonSummary.{endpoint_data}
use Rattle.capture_json.specs.Tokens.{push}
use Rattle.capture_json.proofs.TokensLemmas.{row_is}
use Rattle.capture_json.proofs.endpoints.write_row.Goals as goal

-- the text of the row, without a comma
pub returns-in-Ok : goal.returns-in-Ok
returns-in-Ok g c =
    let row = endpoint_data c.args.endpoint.now in
    written_1 _ _ _ _ _ c.write_part.ensures (ap print (c.in-Ok.ensures ∙ ap (push row) c.in_ok-line.ensures) ∙ row_is row)
