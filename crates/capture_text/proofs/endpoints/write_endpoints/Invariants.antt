use Rattle.std.proofs.Common.{take}
use Rattle.std.specs.Io.KnownBytes.{Appends}
use Rattle.std.specs.List.{flat_map}
use Rattle.capture_text.specs.SummaryText.{endpoint_row}
use Rattle.capture_text.proofs.endpoints.write_endpoints.Given as goal

-- the rows so far were written
abbrev pub invariant-loop-endpoint : goal.invariant-loop-endpoint
invariant-loop-endpoint g l =
    Appends (g.W.Write.contents l.initial.output) (g.W.Write.contents l.output)
    (flat_map (endpoint_row l.width) (take l.endpoint-index l.endpoints))
