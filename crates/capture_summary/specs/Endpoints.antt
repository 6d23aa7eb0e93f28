-- Endpoints: the addresses of the conversations, each with the count of the packets of its conversations.
use Rattle.std.specs.Prelude.{◌≡◌, ℕ, ◌+◌, ◌-◌, ◌^◌, Bool, ◌||◌, if◌then◌else◌, List, [], ◌∷◌, ◌++◌, filter, fold, length, map, min, sum_by, take, unwrap_or}
use Rattle.std.specs.BTreeMap.{insert_entry, is_at}
use Rattle.std.specs.Map.{lookup}
use Rattle.std.specs.Net.Socket.{socket_ip}
use Rattle.std.specs.Ordering.{is_lt, nat_cmp, ordering_then}
use Rattle.std.specs.contracts.net.ip_addr.IpAddrOrd.TheImpl as address_ord
use Rattle.std.specs.contracts.net.ip_addr.IpAddrPartialEq.TheImpl as address_eq
use Rattle.std.specs.declared.cmp.Ordering.{Ordering}
use Rattle.std.specs.declared.net.ip_addr.IpAddr.{IpAddr}
use Rattle.capture_summary.specs.Conversations.{both, row_packets}
use Rattle.capture_summary.specs.Tables.{no_packets}
use Rattle.capture_summary.specs.Ranking.{IsRanking, ranking_of}
use Rattle.capture_summary.specs.declared.count.Count.{Count}
use Rattle.capture_summary.specs.declared.conversation_count.ConversationCount.{ConversationCount}
use Rattle.capture_summary.specs.declared.endpoint_count.EndpointCount.{EndpointCount}

-- ---- the conversations of an address

-- The order of addresses. Every IPv4 address precedes every IPv6 address. Addresses of one version are in the order of their numbers.
abbrev pub address_order : IpAddr → IpAddr → Ordering
address_order = (address_ord.ghosts).cmp

-- whether two addresses are the same
abbrev pub is_same_address : IpAddr → IpAddr → Bool
is_same_address address other = (address_eq.ghosts).eq address other

-- whether the address is one of the two addresses of a conversation, or both
abbrev pub has_address : IpAddr → ConversationCount → Bool
has_address address row = is_same_address address (socket_ip row.flow.source) || is_same_address address (socket_ip row.flow.destination)

-- the number of bytes of a conversation
abbrev pub row_bytes : ConversationCount → ℕ
row_bytes row = row.forward.bytes + row.reverse.bytes

-- the count of all packets of these conversations; the sums are at most 2^64 - 1
abbrev pub count_of_all : List ConversationCount → Count
count_of_all rows = record { packets = min (sum_by row_packets rows) (2 ^ 64 - 1); bytes = min (sum_by row_bytes rows) (2 ^ 64 - 1) }

-- the endpoint of an address that has these conversations; an address without conversations is no endpoint
abbrev pub endpoint_of : IpAddr → List ConversationCount → List EndpointCount
endpoint_of address [] = []
endpoint_of address (row ∷ rows) = record { address = address; count = count_of_all (row ∷ rows) } ∷ []

-- ---- the order

-- The order of two endpoints. The endpoint with more packets precedes the other. If the numbers of packets are equal, the endpoint with
-- more
-- bytes precedes the other. If these numbers are also equal, the endpoint with the lower address precedes the other.
abbrev pub endpoint_order : EndpointCount → EndpointCount → Ordering
endpoint_order row other =
    ordering_then (nat_cmp other.count.packets row.count.packets)
    (ordering_then (nat_cmp other.count.bytes row.count.bytes) (address_order row.address other.address))

-- the first endpoint precedes the second
abbrev pub is_before : EndpointCount → EndpointCount → Bool
is_before row other = is_lt (endpoint_order row other)

-- ---- the table

-- counts by address, in the order of the addresses
abbrev pub AddressTable : Type 0
AddressTable = List (IpAddr × Count)

-- the sum of two counts; the sums are at most 2^64 - 1
abbrev pub sum_of_counts : Count → Count → Count
sum_of_counts count other = record {
  packets = min (count.packets + other.packets) (2 ^ 64 - 1);
  bytes = min (count.bytes + other.bytes) (2 ^ 64 - 1);
}

-- the table after a count is added at an address
abbrev pub count_added : IpAddr → Count → AddressTable → AddressTable
count_added address count table =
    insert_entry address_order table address (sum_of_counts (unwrap_or (lookup (is_at (address_order address)) table) no_packets) count)

-- the table after a count is added at two addresses; if they are the same, the count is added once
abbrev pub count_added_at_both : IpAddr → IpAddr → Count → AddressTable → AddressTable
count_added_at_both source destination count table =
    if is_same_address source destination then count_added source count table
    else count_added destination count (count_added source count table)

-- the table after the packets of a conversation are added at its addresses
abbrev pub conversation_added : AddressTable → ConversationCount → AddressTable
conversation_added table row = count_added_at_both (socket_ip row.flow.source) (socket_ip row.flow.destination) (both row) table

-- the table of the addresses of these conversations
abbrev pub address_table : List ConversationCount → AddressTable
address_table rows = fold conversation_added [] rows

-- ---- the endpoints

-- a row of the table as an endpoint
abbrev pub endpoint_row : IpAddr × Count → EndpointCount
endpoint_row row = record { address = row.0; count = row.1 }

-- the busiest endpoints of a table, at most `top` endpoints, the busiest first
abbrev pub busiest_in_table : ℕ → AddressTable → List EndpointCount
busiest_in_table top table = take top (ranking_of is_before (map endpoint_row table))

-- the busiest endpoints of these conversations, at most `top` endpoints, the busiest first
abbrev pub busiest_endpoints : ℕ → List ConversationCount → List EndpointCount
busiest_endpoints top rows = busiest_in_table top (address_table rows)

-- `endpoints` contains the busiest endpoints of these conversations, and `left_out` contains the other endpoints. Each address of a
-- conversation is the address of exactly one of all endpoints. This endpoint counts the packets of every conversation that has the address.
-- No other address is the address of an endpoint. There are `top` endpoints, or all endpoints if there are fewer. No endpoint precedes an
-- earlier endpoint.
pub record AreBusiestEndpoints (top : ℕ) (rows : List ConversationCount) (endpoints : List EndpointCount) : Type 0 where
  pub left_out : List EndpointCount
  pub each : (address : IpAddr)
      → filter (λ row. is_same_address address row.address) (endpoints ++ left_out)
      ≡ endpoint_of address (filter (has_address address) rows)
  pub count : length endpoints ≡ min top (length (endpoints ++ left_out))
  pub ranking : IsRanking is_before (endpoints ++ left_out)
