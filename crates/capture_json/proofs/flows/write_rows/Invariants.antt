use Rattle.std.proofs.Common.{take}
use Rattle.std.specs.List.{flat_map}
use Rattle.std.specs.Io.KnownBytes.{Appends}
use Rattle.capture_json.specs.JsonSummary.{conversation_data}
use Rattle.capture_json.specs.Tokens.{later_row}
use Rattle.capture_json.proofs.flows.write_rows.Given as goal

-- the rows after the first row were written, up to this one
abbrev pub invariant-loop-conversation : goal.invariant-loop-conversation
invariant-loop-conversation g l =
    Appends (g.W.Write.contents l.initial.output) (g.W.Write.contents l.output)
    (flat_map (later_row conversation_data) (take l.conversation-index l.others))
