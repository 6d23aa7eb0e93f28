-- The map that finds the row of a conversation, and the number of packets.
use Rattle.std.specs.Prelude.{◌≡◌, ℕ, List}
use Rattle.std.specs.HashMap.{get, HashMap}
use Rattle.capture_summary.specs.Conversations.{canonical, is_same_flow}
use Rattle.capture_summary.specs.FlowTable.{FlowTable, packets_counted, place_of}
use Rattle.capture_summary.specs.declared.conversation_count.ConversationCount.{ConversationCount}
use Rattle.capture_summary.specs.declared.flow.Flow.{Flow}

-- The map contains the place of each row, by the canonical direction of the row's conversation. It contains no other conversation.
abbrev pub ArePlaces : {S : Type 0} → HashMap Flow ℕ S → List ConversationCount → Type 0
ArePlaces places rows = (flow : Flow) → get is_same_flow places (canonical flow) ≡ place_of flow rows

-- the map contains the places of the rows of the table, and `packets` is the number of packets in the table
pub record AreFound {S : Type 0} (places : HashMap Flow ℕ S) (packets : ℕ) (table : FlowTable) : Type 0 where
  pub are_places : ArePlaces places table.rows
  pub count : packets ≡ packets_counted table
