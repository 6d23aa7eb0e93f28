-- The timeline of a list of packets.
use Rattle.std.specs.Prelude.{◌≡◌, ◌≤◌, ◌<◌, ℕ, ◌+◌, ◌*◌, Bool, true, false, not, if◌then◌else◌, nat_le, nat_lt, List, [], ◌∷◌, ◌++◌, filter, length, slice_index_or, Option, Some, None}
use Rattle.std.specs.Option.{is_some, option_or, unwrap_or}
use Rattle.timeline.specs.Counts.{counts_of, no_packets}
use Rattle.timeline.specs.Intervals.{AreIntervals, IsLeastWidth, IsPowerOfTen, IsWidth, counts_between, merged}
use Rattle.timeline.specs.declared.counts.Counts.{Counts}
use Rattle.timeline.specs.declared.event.Event.{Event}

-- A timeline has intervals of a width that grows, or of a fixed width. A width that grows is a number of bins. A bin is an interval that is
-- one unit wide, and a unit is a power of ten. A shown interval is one bin, two bins or five bins. A bin of a fixed width is an interval.

-- the greatest number of intervals that are shown if the width grows, and the greatest number of their bins
abbrev pub max_intervals : ℕ
max_intervals = 256

abbrev pub max_bins : ℕ
max_bins = 5 * max_intervals

-- the greatest number of intervals of a fixed width
abbrev pub max_fixed_intervals : ℕ
max_fixed_intervals = 65536

-- the greatest number of bins, if the width is fixed and if it grows
abbrev pub most_bins : Bool → ℕ
most_bins is_fixed = if is_fixed then max_fixed_intervals else max_bins

-- What a timeline contains. `start` is the time of the first packet with a time. `older` counts the packets that are older than this
-- packet. `later` counts the packets that are later than all intervals of a fixed width, and `untimed` counts the packets without a time.
pub record TimelineBins : Type 0 where
  pub is_fixed : Bool
  pub start : Option ℕ
  pub unit : ℕ
  pub bins : List Counts
  pub older : Counts
  pub later : Counts
  pub untimed : Counts

-- the timeline without packets, of this fixed width, or of a width that grows if no width is given
abbrev pub empty_timeline : Option ℕ → TimelineBins
empty_timeline width = record {
  is_fixed = is_some width;
  start = None;
  unit = unwrap_or width 1;
  bins = [];
  older = no_packets;
  later = no_packets;
  untimed = no_packets;
}

-- the first known time
abbrev pub first_time : List Event → Option ℕ
first_time [] = None
first_time (packet ∷ packets) = option_or packet.time (first_time packets)

abbrev pub is_untimed : Option ℕ → Bool
is_untimed None = true
is_untimed (Some time) = false

-- a known time is before the start
abbrev pub is_older : Option ℕ → Option ℕ → Bool
is_older (Some start) (Some time) = nat_lt time start
is_older _ _ = false

-- a known time is at the end of the last interval of a fixed width that can be counted, or after it; no time is if the width grows
abbrev pub is_later : Option ℕ → Option ℕ → Option ℕ → Bool
is_later (Some width) (Some start) (Some time) = nat_le (start + max_fixed_intervals * width) time
is_later _ _ _ = false

-- the packets that are not later than all intervals of this width
abbrev pub not_later : ℕ → ℕ → List Event → List Event
not_later width start packets = filter (λ packet. not (is_later (Some width) (Some start) packet.time)) packets

-- The width grows. The bins contain the packets from the start on. The unit is the least power of ten with which `max_bins` bins suffice.
-- Without a start there are no bins.
abbrev pub HasGrownBins : Option ℕ → ℕ → List Counts → List Event → Type 0
HasGrownBins None unit bins packets = (unit ≡ 1) × (bins ≡ [])
HasGrownBins (Some start) unit bins packets =
    IsLeastWidth IsPowerOfTen max_bins start unit packets × AreIntervals start unit bins packets

-- The width is fixed. The intervals contain the packets from the start on that are not later than all intervals of this width. Without a
-- start there are no intervals.
abbrev pub AreFixed : Option ℕ → ℕ → List Counts → List Event → Type 0
AreFixed None width intervals packets = intervals ≡ []
AreFixed (Some start) width intervals packets = AreIntervals start width intervals (not_later width start packets)

-- the bins of intervals of this fixed width, or of a width that grows if no width is given
abbrev pub HasBins : Option ℕ → Option ℕ → ℕ → List Counts → List Event → Type 0
HasBins None start unit bins packets = HasGrownBins start unit bins packets
HasBins (Some width) start unit bins packets = (unit ≡ width) × AreFixed start width bins packets

-- the timeline of these packets, in their order, with intervals of this fixed width, or of a width that grows if no width is given
pub record IsTimelineOf (width : Option ℕ) (packets : List Event) (timeline : TimelineBins) : Type 0 where
  pub is_fixed : timeline.is_fixed ≡ is_some width
  pub start : timeline.start ≡ first_time packets
  pub bins : HasBins width timeline.start timeline.unit timeline.bins packets
  pub older : timeline.older ≡ counts_of (λ packet. is_older timeline.start packet.time) packets
  pub later : timeline.later ≡ counts_of (λ packet. is_later width timeline.start packet.time) packets
  pub untimed : timeline.untimed ≡ counts_of (λ packet. is_untimed packet.time) packets

-- if the first timeline is the timeline of some packets, the second is the timeline of these packets and one more packet, of the same width
abbrev pub CountsPacket : TimelineBins → Event → TimelineBins → Type 0
CountsPacket before packet after =
    (width : Option ℕ) (packets : List Event) → IsTimelineOf width packets before → IsTimelineOf width (packets ++ packet ∷ []) after

-- ---- what is shown

-- the number of bins in a shown interval of a width that grows, of this number of bins
abbrev pub bins_in_interval : ℕ → ℕ
bins_in_interval bins = if nat_le bins max_intervals then 1 else if nat_le bins (2 * max_intervals) then 2 else 5

-- the number of bins in a shown interval, whether the width is fixed or grows
abbrev pub shown_bins : TimelineBins → ℕ
shown_bins timeline = if timeline.is_fixed then 1 else bins_in_interval (length timeline.bins)

abbrev pub shown_width : TimelineBins → ℕ
shown_width timeline = timeline.unit * shown_bins timeline

abbrev pub shown_intervals : TimelineBins → List Counts
shown_intervals timeline = merged (shown_bins timeline) timeline.bins

-- The shown intervals of these packets, from the start on. A fixed width is the width that is shown, and a width that grows is the least
-- width of the scale with which `max_intervals` intervals suffice. Without a start no interval is shown.
abbrev pub AreShown : Option ℕ → Option ℕ → ℕ → List Counts → List Event → Type 0
AreShown None None shown intervals packets = intervals ≡ []
AreShown None (Some start) shown intervals packets =
    IsLeastWidth IsWidth max_intervals start shown packets × AreIntervals start shown intervals packets
AreShown (Some width) start shown intervals packets = (shown ≡ width) × AreFixed start width intervals packets

-- Intervals of a fixed width. The first interval begins at `start`. Interval number `place` contains exactly the packets whose time is in
-- it. There are at most `max_fixed_intervals` intervals.
pub record ArePlaced (start width : ℕ) (intervals : List Counts) (packets : List Event) : Type 0 where
  pub contained : (place : ℕ) → place < max_fixed_intervals → slice_index_or intervals place no_packets
      ≡ counts_between (start + place * width) (start + (place + 1) * width) packets
  pub few : length intervals ≤ max_fixed_intervals
