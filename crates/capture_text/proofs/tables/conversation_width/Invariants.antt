use Rattle.std.proofs.Common.{◌≡◌, take}
use Rattle.capture_text.specs.SummaryText as specs
use Rattle.capture_text.proofs.tables.conversation_width.Given as goal

-- the width is the width for the flows so far
abbrev pub invariant-loop-conversation : goal.invariant-loop-conversation
invariant-loop-conversation l = l.width ≡ specs.conversation_width (take l.conversation-index l.conversations)
