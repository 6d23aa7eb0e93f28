use Rattle.std.proofs.Common.{rules}
use Rattle.capture_json.specs.JsonSummary.{file_data}
use Rattle.capture_json.proofs.JsonLemmas.{one_more_of}
use Rattle.capture_json.proofs.files.push_rows.Goals as goal

-- the invariant holds after another row
pub loop-row-preserved : goal.loop-row-preserved
loop-row-preserved c =
    one_more_of c.args.rows.now (λ row. file_data (row.name.now, row.count)) _ _ _ _ _ (search rules) c.loop-row.invariant
    c.in_ok-push_row.ensures
