use Rattle.std.proofs.Common.{take}
use Rattle.std.specs.List.{flat_map}
use Rattle.std.specs.Io.KnownBytes.{Appends}
use Rattle.capture_json.specs.JsonSummary.{endpoint_data}
use Rattle.capture_json.specs.Tokens.{later_row}
use Rattle.capture_json.proofs.endpoints.write_rows.Given as goal

-- the rows after the first row were written, up to this one
abbrev pub invariant-loop-endpoint : goal.invariant-loop-endpoint
invariant-loop-endpoint g l =
    Appends (g.W.Write.contents l.initial.output) (g.W.Write.contents l.output)
    (flat_map (later_row endpoint_data) (take l.endpoint-index l.others))
