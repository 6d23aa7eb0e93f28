-- The table of flows: a row for each conversation, in the order in which the conversations are first seen, and two more counts.
use Rattle.std.specs.Prelude.{ℕ, ◌+◌, if◌then◌else◌, List, [], ◌∷◌, ◌++◌, length, nat_lt, position, slice_index_or, slice_set, sum_by, Option, Some, None}
use Rattle.capture_file.specs.declared.packet_time.PacketTime.{PacketTime}
use Rattle.capture_summary.specs.Conversations.{is_one_conversation, new_row, row_counted, row_packets}
use Rattle.capture_summary.specs.Tables.{counted}
use Rattle.capture_summary.specs.declared.count.Count.{Count}
use Rattle.capture_summary.specs.declared.conversation_count.ConversationCount.{ConversationCount}
use Rattle.capture_summary.specs.declared.flow.Flow.{Flow}

-- The rows, and two more counts. `without_ports` counts the packets without a flow: they have no ports, or an unknown final destination.
-- `without_room` counts the packets of conversations for which the table had no room.
pub record FlowTable : Type 0 where
  pub rows : List ConversationCount
  pub without_ports : Count
  pub without_room : Count

-- the maximum number of conversations with a row
abbrev pub max_conversations : ℕ
max_conversations = 65536

-- the place of the row of the conversation of a flow, if there is one
abbrev pub place_of : Flow → List ConversationCount → Option ℕ
place_of flow rows = position (λ row. is_one_conversation flow row.flow) rows

-- The table after a packet of this flow, of this length in bytes and of this time. If the conversation has a row, the row counts the
-- packet. Otherwise a new row at the end counts
-- the packet. If there is no room for a new row, `without_room` counts the packet.
abbrev pub flow_counted : Flow → ℕ → Option PacketTime → FlowTable → Option ℕ → FlowTable
flow_counted flow len time table (Some place) =
    record table { rows = slice_set table.rows place (row_counted flow len time (slice_index_or table.rows place (new_row flow))) }
flow_counted flow len time table None =
    if nat_lt (length table.rows) max_conversations
    then record table { rows = table.rows ++ row_counted flow len time (new_row flow) ∷ [] }
    else record table { without_room = counted len table.without_room }

-- the table after a packet; `without_ports` counts it if it has no flow
abbrev pub table_counted : Option Flow → ℕ → Option PacketTime → FlowTable → FlowTable
table_counted (Some flow) len time table = flow_counted flow len time table (place_of flow table.rows)
table_counted None len time table = record table { without_ports = counted len table.without_ports }

-- the number of packets in the table
abbrev pub packets_counted : FlowTable → ℕ
packets_counted table = sum_by row_packets table.rows + table.without_ports.packets + table.without_room.packets
