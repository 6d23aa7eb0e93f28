-- The timeline as a member of the summary: the counts of the packets in each interval of time.
use Rattle.std.specs.Prelude.{ℕ, List, [], ◌∷◌, ◌++◌, codes, map, Option, Some, None}
use Rattle.capture_json.specs.JsonCounts.{count_members}
use Rattle.capture_json.specs.JsonTimes.{instant_members, nanoseconds_members, time_at}
use Rattle.capture_json.specs.Members.{Member, array_of, object_of}
use Rattle.capture_summary.specs.declared.count.Count as summary
use Rattle.capture_words.specs.AbsoluteTime.{absolute_text}
use Rattle.serde_json.specs.Data.{Data, null, string}
use Rattle.timeline.specs.Counts.{total}
use Rattle.timeline.specs.Timelines.{TimelineBins, shown_intervals, shown_width}
use Rattle.timeline.specs.declared.count.Count.{Count}
use Rattle.timeline.specs.declared.counts.Counts.{Counts}

-- ---- the counts of an interval

-- a count of the timeline, as a count of the summary
abbrev pub summary_count : Count → summary.Count
summary_count count = record { packets = count.packets; bytes = count.bytes }

-- the packets of one protocol, or with one fault
abbrev pub row_member : List ℕ → Count → Member
row_member name count = (name, object_of (count_members (summary_count count)))

-- the packets and bytes of all packets of an interval, then of each protocol, and then with each fault
abbrev pub interval_members : Counts → List Member
interval_members counts =
    count_members (summary_count (total counts)) ++ row_member (codes "udp") counts.udp ∷ row_member (codes "tcp") counts.tcp
    ∷ row_member (codes "icmp") counts.icmp ∷ row_member (codes "other") counts.other ∷ row_member (codes "wrong") counts.wrong
    ∷ row_member (codes "refused") counts.refused ∷ []

-- the counts of an interval, as an object
abbrev pub interval_data : Counts → Data
interval_data counts = object_of (interval_members counts)

-- ---- the timeline

-- the time at which the first interval begins, as a text and as numbers; if no packet has a time, the only member is `start`, and its value
-- is `null`
abbrev pub start_members : Option ℕ → List Member
start_members None = (codes "start", null) ∷ []
start_members (Some nanoseconds) =
    (codes "start", string (absolute_text (time_at nanoseconds)))
    ∷ instant_members (codes "start_seconds") (codes "start_nanoseconds") (time_at nanoseconds)

-- the counts of the packets in no interval: packets that are older than the start or later than all intervals, and packets without a time
abbrev pub apart_members : TimelineBins → List Member
apart_members timeline =
    (codes "older", interval_data timeline.older) ∷ (codes "later", interval_data timeline.later)
    ∷ (codes "untimed", interval_data timeline.untimed) ∷ []

-- Interval number `n`, from 0 on, begins `n` widths after the start. Intervals without packets are written too. The counts of the packets
-- in no interval come last.
abbrev pub timeline_members : TimelineBins → List Member
timeline_members timeline =
    start_members timeline.start
    ++ (nanoseconds_members (codes "interval_seconds") (codes "interval_nanoseconds") (shown_width timeline)
    ++ (codes "intervals", array_of (map interval_data (shown_intervals timeline))) ∷ apart_members timeline)

-- the timeline, as a member of the summary
abbrev pub timeline_member : TimelineBins → Member
timeline_member timeline = (codes "timeline", object_of (timeline_members timeline))
