use Rattle.std.proofs.Common.{◌≡◌, map, take}
use Rattle.capture_json.specs.JsonSummary.{file_data}
use Rattle.capture_json.specs.Tokens.{tokens_in, with_items}
use Rattle.capture_json.proofs.files.push_rows.Given as goal

-- the rows so far were written
abbrev pub invariant-loop-row : goal.invariant-loop-row
invariant-loop-row l =
    tokens_in l.line ≡ with_items (map (λ row. file_data (row.name.now, row.count)) (take l.row-index l.rows)) (tokens_in l.initial.line)
