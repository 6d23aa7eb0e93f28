-- The packets that the rows of the table of flows count. A row counts the packets of one conversation, each in its direction, and contains
-- the times of the earliest and of the latest of them.
use Rattle.std.specs.Prelude.{◌≡◌, ℕ, Bool, false, not, ◌&&◌, if◌then◌else◌, List, [], fold, All, Option, Some, None}
use Rattle.std.specs.List.{AllPairs, filter_map}
use Rattle.capture_file.specs.declared.packet_time.PacketTime.{PacketTime}
use Rattle.capture_summary.specs.Conversations.{is_one_conversation, is_same_flow, reversed}
use Rattle.capture_summary.specs.FlowTable.{FlowTable, table_counted}
use Rattle.capture_summary.specs.Tables.{counted, no_packets}
use Rattle.capture_summary.specs.TimeSpans.{span_of}
use Rattle.capture_summary.specs.declared.count.Count.{Count}
use Rattle.capture_summary.specs.declared.conversation_count.ConversationCount.{ConversationCount}
use Rattle.capture_summary.specs.declared.flow.Flow.{Flow}

-- the table without packets
abbrev pub empty_table : FlowTable
empty_table = record { rows = []; without_ports = no_packets; without_room = no_packets }

-- a packet: its flow, its length in bytes, and its time if that is known; it has no flow if it has no ports or an unknown final destination
abbrev pub Seen : Type 0
Seen = Option Flow × ℕ × Option PacketTime

-- the table after these packets, in their order
abbrev pub table_of : List Seen → FlowTable
table_of packets = fold (λ table packet. table_counted packet.0 packet.1 packet.2 table) empty_table packets

-- the packet has a flow, and the flow passes the test
abbrev pub has_flow : (Flow → Bool) → Option Flow → Bool
has_flow test None = false
has_flow test (Some flow) = test flow

-- the count of the packets whose flow passes the test
abbrev pub count_of : (Flow → Bool) → List Seen → Count
count_of test packets = fold (λ count packet. if has_flow test packet.0 then counted packet.1 count else count) no_packets packets

-- a packet goes in the direction of a flow
abbrev pub goes_forward : Flow → Flow → Bool
goes_forward flow packet = is_same_flow packet flow

-- A packet goes in the other direction of a flow. A packet from an address and port to itself goes only in the direction of the flow.
abbrev pub goes_back : Flow → Flow → Bool
goes_back flow packet = not (is_same_flow packet flow) && is_same_flow (reversed packet) flow

-- the known times of the packets of a conversation, from the flow of one of its directions
abbrev pub times_in : Flow → List Seen → List PacketTime
times_in flow packets =
    filter_map (λ packet. if has_flow (λ each. is_one_conversation each flow) packet.0 then packet.2 else None) packets

-- `forward` counts the packets in the direction of the row's flow, and `reverse` counts the packets that go back. `span` contains the
-- earliest and the latest time of all these packets.
pub record CountsBothDirections (packets : List Seen) (row : ConversationCount) : Type 0 where
  pub forward : row.forward ≡ count_of (goes_forward row.flow) packets
  pub reverse : row.reverse ≡ count_of (goes_back row.flow) packets
  pub span : row.span ≡ span_of (times_in row.flow packets)

-- each row counts the packets of its conversation in both directions, and no two rows belong to one conversation
pub record AreConversationsOf (packets : List Seen) (rows : List ConversationCount) : Type 0 where
  pub counts : All (CountsBothDirections packets) rows
  pub apart : AllPairs (λ row later. is_one_conversation row.flow later.flow ≡ false) rows
