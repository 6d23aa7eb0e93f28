use Rattle.std.proofs.Common.{◌∙◌, refl, rules}
use Rattle.capture_json.proofs.TokensLemmas.{rows_more, same_put}
use Rattle.capture_json.specs.Tokens.{tokens_in}
use Rattle.capture_json.specs.JsonSummary.{row_member}
use Rattle.capture_json.proofs.summary.put_rows.Goals as goal

-- the invariant holds after another row
pub loop-row-preserved : goal.loop-row-preserved
loop-row-preserved c =
    rows_more c.args.rows.now (λ row. row_member (row.0.now, row.1)) _ _ _ _ _ (search rules) c.loop-row.invariant
    (c.in_ok-put_number.ensures ∙ same_put (tokens_in c.loop-row.line) (search rules) refl)
