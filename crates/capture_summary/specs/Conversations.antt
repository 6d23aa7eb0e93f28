-- Conversations: the packets between two addresses with their ports, in both directions (the Biflow of RFC 5103, section 2).
use Rattle.std.specs.Prelude.{◌≡◌, ◌⊎◌, ℕ, ◌+◌, ◌-◌, ◌^◌, min, Bool, ◌&&◌, ◌||◌, if◌then◌else◌, Option, None}
use Rattle.std.specs.Ordering.{is_gt}
use Rattle.capture_file.specs.declared.packet_time.PacketTime.{PacketTime}
use Rattle.capture_summary.specs.Tables.{counted, no_packets}
use Rattle.capture_summary.specs.TimeSpans.{with_time}
use Rattle.capture_summary.specs.declared.count.Count.{Count}
use Rattle.capture_summary.specs.declared.conversation_count.ConversationCount.{ConversationCount}
use Rattle.capture_summary.specs.declared.flow.Flow.{Flow}
use Rattle.capture_summary.specs.contracts.flow.FlowProtocolPartialEq.TheImpl as protocol_eq
use Rattle.std.specs.contracts.net.socket_addr.SocketAddrOrd.TheImpl as address_ord
use Rattle.std.specs.contracts.net.socket_addr.SocketAddrPartialEq.TheImpl as address_eq

-- two flows are the same: their protocols, their sources and their destinations are equal by `==`
abbrev pub is_same_flow : Flow → Flow → Bool
is_same_flow flow other =
    (protocol_eq.ghosts).eq flow.protocol other.protocol
    && ((address_eq.ghosts).eq flow.source other.source && (address_eq.ghosts).eq flow.destination other.destination)

-- the other direction of a flow
abbrev pub reversed : Flow → Flow
reversed flow = record { protocol = flow.protocol; source = flow.destination; destination = flow.source }

-- two flows belong to one conversation: they are the same, or one is the reverse of the other
abbrev pub IsOneConversation : Flow → Flow → Type 0
IsOneConversation flow other = (other ≡ flow) ⊎ (other ≡ reversed flow)

-- whether two flows belong to one conversation
abbrev pub is_one_conversation : Flow → Flow → Bool
is_one_conversation flow other = is_same_flow flow other || is_same_flow (reversed flow) other

-- the direction from the lower address and port to the higher one
abbrev pub canonical : Flow → Flow
canonical flow = if is_gt ((address_ord.ghosts).cmp flow.source flow.destination) then reversed flow else flow

-- the row of a conversation whose first packet has this flow, before the packet is counted
abbrev pub new_row : Flow → ConversationCount
new_row flow = record { flow = flow; forward = no_packets; reverse = no_packets; span = None }

-- A row after a packet of this flow is counted. If the packet has the flow of the row, `forward` counts it. Otherwise `reverse` counts it.
-- `time` is the time of the packet, or `None` if it is unknown.
abbrev pub row_counted : Flow → ℕ → Option PacketTime → ConversationCount → ConversationCount
row_counted flow len time row =
    if is_same_flow flow row.flow
    then record row { forward = counted len row.forward; span = with_time row.span time }
    else record row { reverse = counted len row.reverse; span = with_time row.span time }

-- the number of packets in a row
abbrev pub row_packets : ConversationCount → ℕ
row_packets row = row.forward.packets + row.reverse.packets

-- the count of both directions; the sums saturate at 2^64 - 1
abbrev pub both : ConversationCount → Count
both row = record {
  packets = min (row.forward.packets + row.reverse.packets) (2 ^ 64 - 1);
  bytes = min (row.forward.bytes + row.reverse.bytes) (2 ^ 64 - 1);
}
