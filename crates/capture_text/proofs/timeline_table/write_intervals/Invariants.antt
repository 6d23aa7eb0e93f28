use Rattle.std.proofs.Common.{take}
use Rattle.std.specs.Io.KnownBytes.{Appends}
use Rattle.std.specs.List.{flat_map, range_with_len}
use Rattle.std.proofs.Common.{length}
use Rattle.capture_text.specs.TimelineText.{row_text, rows}
use Rattle.capture_text.proofs.timeline_table.write_intervals.Given as goal

-- the rows so far were written
abbrev pub invariant-loop-place : goal.invariant-loop-place
invariant-loop-place g l =
    Appends (g.W.Write.contents l.initial.output) (g.W.Write.contents l.output)
    (flat_map (row_text l.timeline) (take l.place (range_with_len 0 (length (rows l.timeline)))))
