-- The summary as a JSON object: the facts of the capture, the totals, and the tables with the names of their rows.
use Rattle.std.specs.Prelude.{ℕ, ◌-◌, ◌^◌, ◌==◌, min, if◌then◌else◌, List, [], ◌∷◌, ◌++◌, map, codes, length, Option, Some, None}
use Rattle.std.specs.Net.Socket.{socket_ip, socket_port}
use Rattle.std.specs.Net.Text.{ip_text}
use Rattle.capture_json.specs.Members.{Member, array_of, object_of, whole_number}
use Rattle.serde_json.specs.Data.{Data, string}
use Rattle.capture_summary.specs.Rates.{average_len, rates_of}
use Rattle.capture_summary.specs.declared.rates.Rates.{Rates}
use Rattle.capture_words.specs.AbsoluteTime.{absolute_text}
use Rattle.capture_summary.specs.Conversations.{both}
use Rattle.capture_summary.specs.Endpoints.{busiest_endpoints}
use Rattle.capture_words.specs.Elapsed.{elapsed_text}
use Rattle.capture_file.specs.declared.reader.capture_reader.CaptureReader.{CaptureReader}
use Rattle.capture_json.specs.JsonCounts.{count_members}
use Rattle.capture_json.specs.JsonFacts.{facts_members}
use Rattle.capture_json.specs.JsonPacket.{ip_protocol_members, json_line, type_member}
use Rattle.capture_json.specs.JsonTimeline.{timeline_member}
use Rattle.capture_json.specs.JsonTimes.{duration_members, instant_members}
use Rattle.capture_summary.specs.Kinds.{flow_proto, flow_protocol_number, link_rows, protocol_rows, refusal_rows, verdict_rows}
use Rattle.capture_json.specs.Words.{with_underscores}
use Rattle.capture_summary.specs.Files.{Files}
use Rattle.capture_summary.specs.Ranking.{busiest_of}
use Rattle.capture_summary.specs.SummaryTables.{SummaryTables}
use Rattle.capture_summary.specs.declared.count.Count.{Count}
use Rattle.capture_summary.specs.declared.endpoint_count.EndpointCount.{EndpointCount}
use Rattle.capture_summary.specs.declared.file_count.FileCount.{FileCount}
use Rattle.capture_summary.specs.declared.flow.Flow.{Flow}
use Rattle.capture_summary.specs.declared.time_span.TimeSpan.{TimeSpan}
use Rattle.capture_summary.specs.declared.conversation_count.ConversationCount.{ConversationCount}

-- ---- the rows of each table under their words; every row is written

-- a row that counts packets
abbrev pub row_member : List ℕ × ℕ → Member
row_member row = (with_underscores row.0, whole_number row.1)

-- a table that counts packets
abbrev pub rows_data : List (List ℕ × ℕ) → Data
rows_data rows = object_of (map row_member rows)

-- a row that counts packets and bytes
abbrev pub counts_member : List ℕ × Count → Member
counts_member row = (with_underscores row.0, object_of (count_members row.1))

-- a table that counts packets and bytes
abbrev pub counts_data : List (List ℕ × Count) → Data
counts_data rows = object_of (map counts_member rows)

-- ---- times

-- The numbers of packets and bits per second. They are left out if the earliest and the latest time are equal. A number of 2^64 or more
-- becomes 2^64 - 1.
abbrev pub rates_members : Option Rates → List Member
rates_members None = []
rates_members (Some rates) =
    (codes "packets_per_second", whole_number (min rates.packets (2 ^ 64 - 1)))
    ∷ (codes "bits_per_second", whole_number (min rates.bits (2 ^ 64 - 1))) ∷ []

-- the times of the earliest and of the latest packet of a count and the time between them, as texts and as numbers, and the rates; no
-- members if no time is known
abbrev pub span_members : Count → Option TimeSpan → List Member
span_members count None = []
span_members count (Some span) =
    (codes "first_packet", string (absolute_text span.earliest))
    ∷ (instant_members (codes "first_packet_seconds") (codes "first_packet_nanoseconds") span.earliest
    ++ (codes "last_packet", string (absolute_text span.latest))
    ∷ (instant_members (codes "last_packet_seconds") (codes "last_packet_nanoseconds") span.latest
    ++ (codes "duration", string (elapsed_text span.earliest span.latest))
    ∷ (duration_members span.earliest span.latest ++ rates_members (rates_of count.packets count.bytes span))))

-- ---- conversations

-- a flow: its protocol, its source and its destination; the members of the protocol are the same as in the line of a packet
abbrev pub flow_members : Flow → List Member
flow_members flow =
    ip_protocol_members (flow_protocol_number flow.protocol) (Some (flow_proto flow.protocol))
    ++ (codes "source", string (ip_text (socket_ip flow.source)))
    ∷ (codes "source_port", whole_number (socket_port flow.source)) ∷ (codes "destination", string (ip_text (socket_ip flow.destination)))
    ∷ (codes "destination_port", whole_number (socket_port flow.destination)) ∷ []

-- a conversation: its flow in the direction that was seen first, the count of all its packets, the count of each direction, and the times
-- of its packets
abbrev pub conversation_members : ConversationCount → List Member
conversation_members row =
    flow_members row.flow ++ (count_members (both row)
    ++ (codes "forward", object_of (count_members row.forward)) ∷ (codes "reverse", object_of (count_members row.reverse))
    ∷ span_members (both row) row.span)

-- a conversation, as an object
abbrev pub conversation_data : ConversationCount → Data
conversation_data row = object_of (conversation_members row)

-- the conversations with the most packets
abbrev pub busiest_member : List ConversationCount → Member
busiest_member busiest = (codes "busiest_conversations", array_of (map conversation_data busiest))

-- the counts of packets that belong to no row: packets without ports, and packets of conversations for which the table had no room
abbrev pub uncounted_members : Count → Count → List Member
uncounted_members without_ports without_room =
    (codes "packets_without_ports", object_of (count_members without_ports))
    ∷ (codes "packets_of_other_flows", object_of (count_members without_room)) ∷ []

-- ---- endpoints

-- an endpoint: its address, and the count of its packets
abbrev pub endpoint_members : EndpointCount → List Member
endpoint_members row = (codes "address", string (ip_text row.address)) ∷ count_members row.count

-- an endpoint, as an object
abbrev pub endpoint_data : EndpointCount → Data
endpoint_data row = object_of (endpoint_members row)

-- the addresses with the most packets
abbrev pub endpoints_member : List EndpointCount → Member
endpoints_member endpoints = (codes "endpoints", array_of (map endpoint_data endpoints))

-- ---- files

-- the numbers of packets and bytes, of packets with a wrong checksum, and of refused packets
abbrev pub file_count_members : FileCount → List Member
file_count_members count =
    count_members count.all ++ (codes "wrong", whole_number count.wrong) ∷ (codes "refused", whole_number count.refused) ∷ []

-- the row of a capture, as an object: its name, and the numbers of its packets
abbrev pub file_data : List ℕ × FileCount → Data
file_data row = object_of ((codes "file", string row.0) ∷ file_count_members row.1)

-- the number of captures without a row, and the numbers of their packets; no members if there is no such capture
abbrev pub others_members : ℕ → FileCount → List Member
others_members other_files others =
    if other_files == 0 then []
    else (codes "other_files", object_of ((codes "files", whole_number other_files) ∷ file_count_members others)) ∷ []

-- the table of files; no members if the table has no rows
abbrev pub files_members : Files → List Member
files_members files =
    if length files.rows == 0 then []
    else (codes "files", array_of (map file_data files.rows)) ∷ others_members files.other_files files.others

-- ---- the summary

-- the average number of bytes of a packet, if there are packets
abbrev pub average_members : Option ℕ → List Member
average_members None = []
average_members (Some bytes) = (codes "bytes_per_packet", whole_number bytes) ∷ []

-- the numbers of packets, bytes and conversations, the average number of bytes, and the times of the packets, if a time is known
abbrev pub totals_members : SummaryTables → List Member
totals_members tables =
    (codes "packets", whole_number tables.packets) ∷ (codes "bytes", whole_number tables.bytes)
    ∷ (average_members (average_len tables.packets tables.bytes)
    ++ (codes "conversations", whole_number (length tables.flows.rows))
    ∷ span_members (record { packets = tables.packets; bytes = tables.bytes }) tables.span)

-- the tables of link types, protocols, checksums and refusals
abbrev pub rows_members : SummaryTables → List Member
rows_members tables =
    (codes "link_types", rows_data (link_rows tables.links)) ∷ (codes "protocols", counts_data (protocol_rows tables.protocols))
    ∷ (codes "checksums", rows_data (verdict_rows tables.verdicts)) ∷ (codes "refusals", rows_data (refusal_rows tables.refusals)) ∷ []

-- the type, the facts of the capture, and the totals
abbrev pub head_members : Option CaptureReader → SummaryTables → List Member
head_members capture tables = type_member (codes "summary") ∷ (facts_members capture ++ totals_members tables)

-- the type, the facts of the capture, the totals, the tables of rows, and the timeline
abbrev pub tables_members : Option CaptureReader → SummaryTables → List Member
tables_members capture tables = head_members capture tables ++ (rows_members tables ++ timeline_member tables.timeline ∷ [])

-- everything after the endpoints: the counts of packets that belong to no row of the conversations, and the table of files
abbrev pub end_members : Files → Count → Count → List Member
end_members files without_ports without_room = uncounted_members without_ports without_room ++ files_members files

-- all members of the summary, with these files, conversations and endpoints
abbrev pub summary_members : Option CaptureReader → Files → List ConversationCount → List EndpointCount → SummaryTables → List Member
summary_members capture files conversations endpoints tables =
    tables_members capture tables ++ busiest_member conversations ∷ endpoints_member endpoints
    ∷ end_members files tables.flows.without_ports tables.flows.without_room

-- the line of the summary, with at most `top` of the busiest conversations, and at most `top` of the busiest endpoints
abbrev pub json_summary : Option CaptureReader → Files → ℕ → SummaryTables → List ℕ
json_summary capture files top tables =
    json_line (summary_members capture files (busiest_of top tables.flows.rows) (busiest_endpoints top tables.flows.rows) tables)
