-- The tables of the summary.
use Rattle.std.specs.Prelude.{ℕ, Bool, ◌-◌, ◌^◌, ◌==◌, ◌&&◌, false, if◌then◌else◌, List, [], ◌++◌, fold, length, max, slice_index, codes, decimal, Option, Some, None}
use Rattle.std.specs.Fmt.{format_spec, padded, padded_integral, styled_text}
use Rattle.std.specs.List.{flat_map}
use Rattle.std.specs.Net.Text.{ip_text, socket_text}
use Rattle.capture_summary.specs.declared.verdict_kind.VerdictKind.TheVariants.{Refused}
use Rattle.capture_summary.specs.Conversations.{both}
use Rattle.capture_summary.specs.Endpoints.{busiest_endpoints}
use Rattle.capture_summary.specs.Kinds.{flow_protocol_word, link_rows, protocol_rows, refusal_rows, verdict_place, verdict_rows}
use Rattle.capture_summary.specs.Ranking.{busiest_of, by_packets}
use Rattle.capture_summary.specs.Rates.{rates_of}
use Rattle.capture_summary.specs.SummaryTables.{SummaryTables}
use Rattle.capture_text.specs.TotalsText.{totals_text}
use Rattle.capture_summary.specs.declared.count.Count.{Count}
use Rattle.capture_summary.specs.declared.endpoint_count.EndpointCount.{EndpointCount}
use Rattle.capture_summary.specs.declared.flow.Flow.{Flow}
use Rattle.capture_summary.specs.declared.conversation_count.ConversationCount.{ConversationCount}
use Rattle.capture_summary.specs.declared.rates.Rates.{Rates}
use Rattle.capture_summary.specs.declared.time_span.TimeSpan.{TimeSpan}
use Rattle.capture_words.specs.AbsoluteTime.{absolute_text}
use Rattle.capture_words.specs.Elapsed.{elapsed_text}

-- ---- cells and rows: names are aligned to the left, numbers and their titles are aligned to the right

-- the width of the column of names
abbrev pub name_width : ℕ
name_width = 25

-- a name, aligned to the left in a column of this width
abbrev pub name_cell : ℕ → List ℕ → List ℕ
name_cell width name = styled_text (format_spec 32 1 0 width (2 ^ 64 - 1)) name

-- a title, aligned to the right in a column of this width
abbrev pub title_cell : ℕ → List ℕ → List ℕ
title_cell width title = padded (format_spec 32 3 0 width (2 ^ 64 - 1)) title

-- a number, aligned to the right in a column of this width
abbrev pub number_cell : ℕ → ℕ → List ℕ
number_cell width number = padded_integral (format_spec 32 3 0 width (2 ^ 64 - 1)) false [] (decimal number)

-- the head of a table that counts packets
abbrev pub packets_head : List ℕ → List ℕ
packets_head title = name_cell name_width title ++ (codes " " ++ (title_cell 11 (codes "packets") ++ codes "\n"))

-- a row of a table that counts packets; a row that counts no packet is left out
abbrev pub packets_row : List ℕ × ℕ → List ℕ
packets_row row = if row.1 == 0 then [] else name_cell name_width row.0 ++ (codes " " ++ (number_cell 11 row.1 ++ codes "\n"))

-- the head of a table that counts packets and bytes
abbrev pub counts_head : List ℕ → List ℕ
counts_head title =
    name_cell name_width title
    ++ (codes " " ++ (title_cell 11 (codes "packets") ++ (codes " " ++ (title_cell 17 (codes "bytes") ++ codes "\n"))))

-- a row of a table that counts packets and bytes; a row that counts no packet is left out
abbrev pub counts_row : List ℕ × Count → List ℕ
counts_row row =
    if row.1.packets == 0 then []
    else name_cell name_width row.0 ++ (codes " " ++ (number_cell 11 row.1.packets ++ (codes " "
    ++ (number_cell 17 row.1.bytes ++ codes "\n"))))

-- ---- tables: an empty line precedes each table; `packets` is the number of packets that a table counts; if it is 0, the table is left out

-- a table that counts packets
abbrev pub packets_table : ℕ → List ℕ → List (List ℕ × ℕ) → List ℕ
packets_table packets title rows = if packets == 0 then [] else codes "\n" ++ (packets_head title ++ flat_map packets_row rows)

-- a table that counts packets and bytes
abbrev pub counts_table : ℕ → List ℕ → List (List ℕ × Count) → List ℕ
counts_table packets title rows = if packets == 0 then [] else codes "\n" ++ (counts_head title ++ flat_map counts_row rows)

-- ---- conversations

-- The head of the table: columns for both directions together, for the direction that was seen first, and for the other direction. Then
-- columns for the times of both directions together.
abbrev pub conversations_head : ℕ → List ℕ → List ℕ
conversations_head width title =
    name_cell width title
    ++ (codes "   packets         bytes   packets >       bytes >   packets <       bytes <"
    ++ codes " first packet                duration         bits a second\n")

-- the name of a conversation, from the flow of one of its directions
abbrev pub conversation_name : Flow → List ℕ
conversation_name flow =
    flow_protocol_word flow.protocol ++ codes " " ++ socket_text flow.source ++ codes " <> " ++ socket_text flow.destination

-- the width of the column of names: the length of the longest name of these conversations, but at least the width in the other tables
abbrev pub conversation_width : List ConversationCount → ℕ
conversation_width rows = fold (λ width row. max width (length (conversation_name row.flow))) name_width rows

-- the average number of bits per second; the text is empty if there are no rates
abbrev pub rate_cell : Option Rates → List ℕ
rate_cell None = []
rate_cell (Some rates) = codes " " ++ number_cell 14 rates.bits

-- The times of the packets of a count: the date and time of the earliest, and the time from it to the latest. Then the bits per second in
-- this time. The text is empty if no time is known.
abbrev pub times_cells : Count → Option TimeSpan → List ℕ
times_cells count None = []
times_cells count (Some span) =
    codes " " ++ (absolute_text span.earliest ++ (codes " " ++ (elapsed_text span.earliest span.latest
    ++ rate_cell (rates_of count.packets count.bytes span))))

-- the name of a conversation, the count of both directions, and the count of each direction
abbrev pub conversation_counts : ℕ → ConversationCount → List ℕ
conversation_counts width row =
    name_cell width (conversation_name row.flow) ++ (codes " " ++ (number_cell 9 (both row).packets ++ (codes " "
    ++ (number_cell 13 (both row).bytes ++ (codes " " ++ (number_cell 11 row.forward.packets ++ (codes " "
    ++ (number_cell 13 row.forward.bytes ++ (codes " " ++ (number_cell 11 row.reverse.packets ++ (codes " "
    ++ number_cell 13 row.reverse.bytes)))))))))))

-- the row of a conversation: its counts, and the times of its packets
abbrev pub conversation_row : ℕ → ConversationCount → List ℕ
conversation_row width row = conversation_counts width row ++ (times_cells (both row) row.span ++ codes "\n")

-- A row for packets that are counted in no conversation: packets without ports, or packets of flows for which the summary had no room. If
-- their number is 0, the row is left out.
abbrev pub counted_row : ℕ → List ℕ → Count → List ℕ
counted_row width name count =
    if count.packets == 0 then []
    else name_cell width name ++ (codes " " ++ (number_cell 9 count.packets ++ (codes " " ++ (number_cell 13 count.bytes ++ codes "\n"))))

-- the head and the rows of the table: the busiest conversations, the packets without ports, and the packets of other flows
abbrev pub conversation_rows : List ConversationCount → Count → Count → ℕ → List ℕ
conversation_rows busiest without_ports without_room width =
    codes "\n" ++ (conversations_head width (codes "busiest conversations") ++ (flat_map (conversation_row width) busiest
    ++ (counted_row width (codes "packets without ports") without_ports
    ++ counted_row width (codes "packets of other flows") without_room)))

-- the table of conversations has no rows: there are no conversations, no packets without ports, and no packets of other flows
abbrev pub is_without_rows : List ConversationCount → Count → Count → Bool
is_without_rows busiest without_ports without_room =
    length busiest == 0 && (without_ports.packets == 0 && without_room.packets == 0)

-- the table of conversations; it is left out if it has no rows
abbrev pub conversations_table : List ConversationCount → Count → Count → List ℕ
conversations_table busiest without_ports without_room =
    if is_without_rows busiest without_ports without_room then []
    else conversation_rows busiest without_ports without_room (conversation_width busiest)

-- ---- endpoints

-- the head of the table of endpoints
abbrev pub endpoints_head : ℕ → List ℕ → List ℕ
endpoints_head width title = name_cell width title ++ codes "   packets         bytes\n"

-- the width of the column of addresses: the length of the longest address of these endpoints, but at least the width in the other tables
abbrev pub endpoint_width : List EndpointCount → ℕ
endpoint_width rows = fold (λ width row. max width (length (ip_text row.address))) name_width rows

-- the row of an endpoint: its address, and the count of its packets
abbrev pub endpoint_row : ℕ → EndpointCount → List ℕ
endpoint_row width row =
    name_cell width (ip_text row.address) ++ (codes " " ++ (number_cell 9 row.count.packets ++ (codes " "
    ++ (number_cell 13 row.count.bytes ++ codes "\n"))))

-- The head and the rows of the table: the busiest endpoints, and then the packets that no endpoint counts, in the last two rows of the
-- table of conversations.
abbrev pub endpoint_rows : List EndpointCount → Count → Count → ℕ → List ℕ
endpoint_rows endpoints without_ports without_room width =
    codes "\n" ++ (endpoints_head width (codes "busiest endpoints") ++ (flat_map (endpoint_row width) endpoints
    ++ (counted_row width (codes "packets without ports") without_ports
    ++ counted_row width (codes "packets of other flows") without_room)))

-- the table of endpoints; it is left out if there are no endpoints
abbrev pub endpoints_table : List EndpointCount → Count → Count → List ℕ
endpoints_table endpoints without_ports without_room =
    if length endpoints == 0 then [] else endpoint_rows endpoints without_ports without_room (endpoint_width endpoints)

-- ---- the summary

-- the totals and the tables, with these conversations and endpoints; the rows of protocols are in the order of their numbers of packets
abbrev pub tables_text : List ConversationCount → List EndpointCount → SummaryTables → List ℕ
tables_text conversations endpoints tables =
    totals_text tables ++ (packets_table tables.packets (codes "link type") (link_rows tables.links)
    ++ (counts_table tables.packets (codes "protocol") (by_packets (protocol_rows tables.protocols))
    ++ (packets_table tables.packets (codes "checksum") (verdict_rows tables.verdicts)
    ++ (packets_table (slice_index tables.verdicts (verdict_place Refused)) (codes "refused") (refusal_rows tables.refusals)
    ++ (conversations_table conversations tables.flows.without_ports tables.flows.without_room
    ++ endpoints_table endpoints tables.flows.without_ports tables.flows.without_room)))))

-- the totals and the tables, with the `top` busiest conversations and the `top` busiest endpoints, or all of them if there are fewer
abbrev pub summary_text : ℕ → SummaryTables → List ℕ
summary_text top tables = tables_text (busiest_of top tables.flows.rows) (busiest_endpoints top tables.flows.rows) tables
