use Rattle.std.proofs.Common.{◌≡◌, ℕ, List, length}
use Rattle.capture_file.specs.Reading.{ReadsRecords}
use Rattle.capture_file.proofs.classic.laws.count_records.Given as goal

-- the number of records read is the count
abbrev pub invariant-loop-count : goal.invariant-loop-count
invariant-loop-count g l =
    (records : List (List ℕ))
    × ReadsRecords l.fn.order (g.R.Read.remaining l.initial.input) (g.R.Read.remaining l.input) records
    × (l.count ≡ length records)
