use Rattle.std.specs.Prelude.{codes}
use Rattle.std.proofs.Common.{◌∙◌, ap, map}
use Rattle.std.proofs.lemmas.Result.{on_ok_weaker}
use Rattle.capture_summary.specs.declared.file_table.FileRow.{FileRow}
use Rattle.capture_json.specs.JsonSummary.{file_data}
use Rattle.capture_json.specs.Tokens.{array_ended, tokens_in, with_items}
use Rattle.capture_json.proofs.TokensLemmas.{listed}
use Rattle.capture_json.proofs.files.put_rows.Goals as goal

-- the objects in their array
pub returns : goal.returns
returns c =
    let items = map (λ (row : FileRow). file_data (row.name.now, row.count)) c.args.rows.now in
    on_ok_weaker c.end_array.result
    (λ ended. ended ∙ ap array_ended (c.in_ok-push_rows.ensures ∙ ap (with_items items) c.in_ok-begin_array.ensures)
    ∙ listed (codes "files") items (tokens_in c.args.line.now))
    c.end_array.ensures
