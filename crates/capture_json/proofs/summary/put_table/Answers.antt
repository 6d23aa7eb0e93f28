use Rattle.capture_json.specs.JsonSummary.{row_member}
use Rattle.capture_json.proofs.TokensLemmas.{table_put}
use Rattle.capture_json.proofs.summary.put_table.Goals as goal

-- the rows in their object
pub returns : goal.returns
returns c =
    table_put c.args.name.now row_member (λ row. (row.0.now, row.1)) c.args.rows.now _ _ _ _
    c.in_ok-begin_object.ensures c.in_ok-put_rows.ensures c.in_ok-end_object.ensures
