use Rattle.std.proofs.Common.{◌≡◌, map, take}
use Rattle.capture_json.specs.Tokens.{tokens_in, with_members}
use Rattle.capture_json.specs.JsonSummary.{counts_member}
use Rattle.capture_json.proofs.summary.put_counts.Given as goal

-- the rows so far were written
abbrev pub invariant-loop-row : goal.invariant-loop-row
invariant-loop-row l =
    tokens_in l.line ≡ with_members (map (λ row. counts_member (row.0.now, row.1)) (take l.row-index l.rows)) (tokens_in l.initial.line)
