-- The timeline of packets in numbers that cross to the page.
use Rattle.std.specs.Prelude.{◌≡◌, ℕ, ◌/◌, ◌%◌, ◌^◌, ◌<◌, false, List, ◌++◌, codes, length, slice_index_or, take, Option, Some, None}
use Rattle.capture_summary.specs.Kinds.{verdict_word}
use Rattle.capture_summary.specs.Protocols.{protocol_word}
use Rattle.capture_summary.specs.declared.protocol.Protocol.TheVariants as protocols
use Rattle.capture_summary.specs.declared.verdict_kind.VerdictKind.TheVariants as verdicts
use Rattle.timeline.specs.Counts.{no_packets, total}
use Rattle.timeline.specs.Timelines.{IsTimelineOf, TimelineBins, max_intervals, shown_intervals, shown_width}
use Rattle.timeline.specs.declared.count.Count.{Count}
use Rattle.timeline.specs.declared.counts.Counts.{Counts}
use Rattle.timeline.specs.declared.event.Event.{Event}
use Rattle.report_page.specs.declared.bins.Bins.{Bins}
use Rattle.report_page.specs.declared.chart.PageCount.{PageCount}
use Rattle.report_page.specs.declared.chart.PageCounts.{PageCounts}
use Rattle.report_page.specs.declared.chart.PageTimeline.{PageTimeline}

-- ---- counts

abbrev pub page_count : Count → PageCount
page_count count = record { packets = count.packets; bytes = count.bytes }

-- the count of all packets, of the packets of each protocol, and of the packets with each fault
abbrev pub page_counts : Counts → PageCounts
page_counts counts = record {
  total = page_count (total counts);
  udp = page_count counts.udp;
  tcp = page_count counts.tcp;
  icmp = page_count counts.icmp;
  other = page_count counts.other;
  wrong = page_count counts.wrong;
  refused = page_count counts.refused;
}

-- The words for these counts, each with a line feed. UDP, TCP and the faults have the words of the rows of the summary.
abbrev pub series_words : List ℕ
series_words =
    protocol_word protocols.Udp ++ codes "\n" ++ protocol_word protocols.Tcp ++ codes "\nICMP\nother\n" ++ verdict_word verdicts.Wrong
    ++ codes "\n" ++ verdict_word verdicts.Refused ++ codes "\n"

-- ---- the timeline

-- the number 1 if there is a value, otherwise 0
abbrev pub is_some : {X : Type 0} → Option X → ℕ
is_some None = 0
is_some (Some value) = 1

-- a number, or 0 if there is none
abbrev pub number_or_zero : Option ℕ → ℕ
number_or_zero None = 0
number_or_zero (Some number) = number

-- A timeline without its intervals. A time and a width have two parts, of 64 bits each.
abbrev pub page_timeline : TimelineBins → PageTimeline
page_timeline timeline = record {
  start_low = number_or_zero timeline.start % 2 ^ 64;
  start_high = number_or_zero timeline.start / 2 ^ 64;
  width_low = shown_width timeline % 2 ^ 64;
  width_high = shown_width timeline / 2 ^ 64;
  count = length (shown_intervals timeline);
  older = page_counts timeline.older;
  untimed = page_counts timeline.untimed;
  has_start = is_some timeline.start;
}

-- The page has the numbers of the timeline of these packets. The width of this timeline grows. `intervals` contains the counts of each
-- interval, in their order, and then counts without packets.
pub record ShowsTimeline (packets : List Event) (page : PageTimeline) (intervals : List PageCounts) : Type 0 where
  pub timeline : TimelineBins
  pub is_timeline : IsTimelineOf None packets timeline
  pub numbers : page ≡ page_timeline timeline
  pub counts : (place : ℕ) → place < max_intervals
      → slice_index_or intervals place (page_counts no_packets) ≡ page_counts (slice_index_or (shown_intervals timeline) place no_packets)

-- ---- the code

-- the timeline with these bins
abbrev pub timeline_in : Bins → TimelineBins
timeline_in bins = record {
  is_fixed = false;
  start = bins.start;
  unit = bins.unit;
  bins = take bins.len bins.all;
  older = bins.older;
  later = no_packets;
  untimed = bins.untimed;
}
