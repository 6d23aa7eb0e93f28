-- The counts of a summary, and the change by one packet.
use Rattle.std.specs.Prelude.{◌≡◌, ◌≤◌, ℕ, Bool, nat_lt, ◌+◌, ◌-◌, ◌^◌, min, List, [], length, replicate, slice_index, sum, sum_by, Option, Some, None}
use Rattle.capture_summary.specs.Kinds.{link_kind, link_kinds, link_place, refusal_kinds, refusal_place, verdict_kinds, verdict_place}
use Rattle.capture_summary.specs.FlowTable.{FlowTable, packets_counted, table_counted}
use Rattle.capture_summary.specs.Files.{file_counted, no_file_packets}
use Rattle.capture_summary.specs.Events.{event_of}
use Rattle.capture_summary.specs.Tables.{counted_at, counted_len, no_packets, packet_counted_at}
use Rattle.capture_summary.specs.declared.refusal_kind.RefusalKind.{RefusalKind}
use Rattle.capture_summary.specs.declared.verdict_kind.VerdictKind.{VerdictKind}
use Rattle.capture_summary.specs.declared.verdict_kind.VerdictKind.TheVariants.{Refused, Wrong}
use Rattle.capture_summary.specs.TimeSpans.{with_time}
use Rattle.capture_summary.specs.declared.capture_info.CaptureInfo.{CaptureInfo}
use Rattle.capture_summary.specs.declared.count.Count.{Count}
use Rattle.capture_summary.specs.declared.file_count.FileCount.{FileCount}
use Rattle.capture_summary.specs.declared.flow.Flow.{Flow}
use Rattle.capture_summary.specs.declared.time_span.TimeSpan.{TimeSpan}
use Rattle.capture_summary.specs.Protocols.{protocol_kinds, protocol_place}
use Rattle.capture_summary.specs.declared.protocol.Protocol.{Protocol}
use Rattle.timeline.specs.Timelines.{CountsPacket, TimelineBins, empty_timeline}

-- The numbers of packets and bytes, the times of the packets, and the tables in which each packet is counted. `file` counts the packets of
-- the capture that is being read.
pub record SummaryTables : Type 0 where
  pub packets : ℕ
  pub bytes : ℕ
  pub span : Option TimeSpan
  pub protocols : List Count
  pub verdicts : List ℕ
  pub links : List ℕ
  pub refusals : List ℕ
  pub flows : FlowTable
  pub timeline : TimelineBins
  pub file : FileCount

-- the tables without packets; the intervals of the timeline have this fixed width, or a width that grows if no width is given
abbrev pub empty_tables : Option ℕ → SummaryTables
empty_tables width = record {
  packets = 0;
  bytes = 0;
  span = None;
  protocols = replicate (length protocol_kinds) no_packets;
  verdicts = replicate (length verdict_kinds) 0;
  links = replicate (length link_kinds) 0;
  refusals = replicate (length refusal_kinds) 0;
  flows = record { rows = []; without_ports = no_packets; without_room = no_packets };
  timeline = empty_timeline width;
  file = no_file_packets;
}

-- the tables before the first packet of another capture
abbrev pub file_started : SummaryTables → SummaryTables
file_started tables = record tables { file = no_file_packets }

-- Each table except the table of refusals counts each packet once. The table of refusals counts each refused packet once. The packets of
-- the capture that is being read are among the packets of the tables.
pub record IsBalanced (tables : SummaryTables) : Type 0 where
  pub protocols : sum_by (λ count. count.packets) tables.protocols ≡ tables.packets
  pub verdicts : sum tables.verdicts ≡ tables.packets
  pub links : sum tables.links ≡ tables.packets
  pub refusals : sum tables.refusals ≡ slice_index tables.verdicts (verdict_place Refused)
  pub flows : packets_counted tables.flows ≡ tables.packets
  pub file : tables.file.all.packets ≤ tables.packets
  pub faults : tables.file.wrong + tables.file.refused ≤ tables.file.all.packets

-- the table of refusals after a packet; only a refused packet has a kind of refusal, and is counted in this table
abbrev pub refusal_counted : Option RefusalKind → List ℕ → List ℕ
refusal_counted (Some refusal) table = counted_at (refusal_place refusal) table
refusal_counted None table = table

-- One packet was counted in the rows of these kinds and of this flow. `info` is what the capture states about the packet. No other row
-- changed.
pub record CountsRows (before : SummaryTables) (protocol : Protocol) (verdict : VerdictKind) (refusal : Option RefusalKind) (flow : Option Flow) (info : CaptureInfo) (after : SummaryTables) : Type 0 where
  pub packets : after.packets ≡ before.packets + 1
  pub bytes : after.bytes ≡ min (before.bytes + counted_len info.len) (2 ^ 64 - 1)
  pub span : after.span ≡ with_time before.span info.time
  pub protocols : after.protocols ≡ packet_counted_at (counted_len info.len) (protocol_place protocol) before.protocols
  pub verdicts : after.verdicts ≡ counted_at (verdict_place verdict) before.verdicts
  pub links : after.links ≡ counted_at (link_place (link_kind info.link_type)) before.links
  pub refusals : after.refusals ≡ refusal_counted refusal before.refusals
  pub flows : after.flows ≡ table_counted flow (counted_len info.len) info.time before.flows
  pub file : after.file ≡ file_counted verdict (counted_len info.len) before.file

-- One packet was counted: in the rows of these kinds and of this flow, and in the timeline. The rows are a record of their own, since one
-- record of all fields is too large for the search of proofs.
pub record CountsOne (before : SummaryTables) (protocol : Protocol) (verdict : VerdictKind) (refusal : Option RefusalKind) (flow : Option Flow) (info : CaptureInfo) (after : SummaryTables) : Type 0 where
  pub rows : CountsRows before protocol verdict refusal flow info after
  pub timeline : CountsPacket before.timeline (event_of protocol verdict info) after.timeline

-- whether a packet with a wrong checksum, or a refused packet, was counted
abbrev pub has_fault : SummaryTables → Bool
has_fault tables = nat_lt 0 (slice_index tables.verdicts (verdict_place Wrong) + slice_index tables.verdicts (verdict_place Refused))
