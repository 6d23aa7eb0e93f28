use Rattle.std.proofs.Common.{take}
use Rattle.std.specs.Io.KnownBytes.{Appends}
use Rattle.std.specs.List.{flat_map}
use Rattle.capture_text.specs.SummaryText.{conversation_row}
use Rattle.capture_text.proofs.tables.write_conversations.Given as goal

-- the rows so far were written
abbrev pub invariant-loop-conversation : goal.invariant-loop-conversation
invariant-loop-conversation g l =
    Appends (g.W.Write.contents l.initial.output) (g.W.Write.contents l.output)
    (flat_map (conversation_row l.width) (take l.conversation-index l.busiest))
