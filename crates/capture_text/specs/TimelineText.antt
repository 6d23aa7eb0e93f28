-- The table of the timeline.
use Rattle.std.specs.Prelude.{◌≡◌, ◌≤◌, ℕ, ◌*◌, ◌/◌, ◌%◌, ◌-◌, ◌^◌, ◌==◌, ◌&&◌, Bool, nat_le, if◌then◌else◌, List, [], ◌∷◌, ◌++◌, codes, decimal, find, fold, length, max, min, replicate, slice_index_or, unwrap_or, Option, Some, None}
use Rattle.std.specs.Int.{div_ceil}
use Rattle.std.specs.List.{flat_map, range_with_len}
use Rattle.capture_file.specs.PacketTimes.{nanoseconds_per_second}
use Rattle.capture_text.specs.SummaryText.{name_cell, name_width, number_cell, title_cell}
use Rattle.capture_words.specs.Numbers.{zero_padded}
use Rattle.timeline.specs.Counts.{no_packets, total}
use Rattle.timeline.specs.Intervals.{AreIntervals, merged}
use Rattle.timeline.specs.Timelines.{AreFixed, TimelineBins, shown_intervals, shown_width}
use Rattle.timeline.specs.declared.counts.Counts.{Counts}
use Rattle.timeline.specs.declared.event.Event.{Event}

-- ---- the rows of intervals

-- the greatest number of rows if the width of the intervals grows
abbrev pub max_rows : ℕ
max_rows = 20

-- The number of intervals in a row if their width grows, of this number of intervals: the least of 1, 2, 5, 10 and 20 with which `max_rows`
-- rows suffice. Such a timeline has at most 256 intervals, so 20 intervals in a row always suffice.
abbrev pub intervals_in_row : ℕ → ℕ
intervals_in_row intervals = unwrap_or (find (λ size. nat_le intervals (max_rows * size)) (1 ∷ 2 ∷ 5 ∷ 10 ∷ [])) 20

-- the number of intervals in a row; a row is one interval of a fixed width
abbrev pub row_size : TimelineBins → ℕ
row_size timeline = if timeline.is_fixed then 1 else intervals_in_row (length (shown_intervals timeline))

-- the counts of each row; the last row can contain fewer intervals than the others
abbrev pub rows : TimelineBins → List Counts
rows timeline = merged (row_size timeline) (shown_intervals timeline)

abbrev pub row_width : TimelineBins → ℕ
row_width timeline = shown_width timeline * row_size timeline

-- Rows contain exactly the packets that are in them by their times, from the start on. If the width of the intervals is fixed, a row has
-- this width, and contains no packet that is later than all intervals. If the width grows, there are at most `max_rows` rows. Without a
-- start there are none.
abbrev pub AreRows : Option ℕ → Option ℕ → ℕ → List Counts → List Event → Type 0
AreRows None None width counts packets = counts ≡ []
AreRows None (Some start) width counts packets = (length counts ≤ max_rows) × AreIntervals start width counts packets
AreRows (Some fixed) start width counts packets = (width ≡ fixed) × AreFixed start fixed counts packets

-- the time from the start of the timeline to the beginning of an interval, or the greatest time that 128 bits can contain if it is later
abbrev pub begin_of : TimelineBins → ℕ → ℕ
begin_of timeline interval = min (shown_width timeline * interval) (2 ^ 128 - 1)

-- the greatest number of packets in a row
abbrev pub most_packets : List Counts → ℕ
most_packets counts = fold (λ most row. max most (total row).packets) 0 counts

-- ---- cells

-- a number of nanoseconds as seconds with nine digits after the point, in a column of the width of names
abbrev pub seconds_cell : ℕ → List ℕ
seconds_cell nanoseconds =
    number_cell 15 (nanoseconds / nanoseconds_per_second)
    ++ (codes "." ++ zero_padded 9 (decimal (nanoseconds % nanoseconds_per_second)))

-- the numbers of packets and bytes, of packets with a wrong checksum, and of refused packets
abbrev pub counts_cells : Counts → List ℕ
counts_cells counts =
    codes " " ++ (number_cell 11 (total counts).packets ++ (codes " " ++ (number_cell 17 (total counts).bytes ++ (codes " "
    ++ (number_cell 11 counts.wrong.packets ++ (codes " " ++ number_cell 11 counts.refused.packets))))))

-- the length of a bar: 40 for the row with the most packets, and in proportion for another row, rounded up
abbrev pub bar_len : ℕ → ℕ → ℕ
bar_len most packets = div_ceil (packets * 40) most

-- a bar of `#` (35); a row without packets has none
abbrev pub bar_text : ℕ → ℕ → List ℕ
bar_text most packets = if packets == 0 then [] else codes " " ++ replicate (bar_len most packets) 35

-- ---- rows

-- the row of some intervals: the time at which it begins, its counts, and its bar
abbrev pub interval_row : ℕ → ℕ → Counts → List ℕ
interval_row most begin counts =
    seconds_cell begin ++ (counts_cells counts ++ (bar_text most (total counts).packets ++ codes "\n"))

-- row number `place` of a timeline
abbrev pub row_text : TimelineBins → ℕ → List ℕ
row_text timeline place =
    interval_row (most_packets (rows timeline)) (begin_of timeline (place * row_size timeline))
    (slice_index_or (rows timeline) place no_packets)

-- the rows of all intervals
abbrev pub intervals_text : TimelineBins → List ℕ
intervals_text timeline = flat_map (row_text timeline) (range_with_len 0 (length (rows timeline)))

-- a row for packets that are in no interval; it is left out if there are no such packets
abbrev pub apart_row : List ℕ → Counts → List ℕ
apart_row name counts = if (total counts).packets == 0 then [] else name_cell name_width name ++ (counts_cells counts ++ codes "\n")

-- ---- the table

-- an empty line, and the head of the table
abbrev pub timeline_head : List ℕ
timeline_head =
    codes "\n" ++ (name_cell name_width (codes "timeline, seconds") ++ (codes " " ++ (title_cell 11 (codes "packets") ++ (codes " "
    ++ (title_cell 17 (codes "bytes") ++ (codes " " ++ (title_cell 11 (codes "wrong") ++ (codes " " ++ (title_cell 11 (codes "refused")
    ++ codes "\n")))))))))

-- the table has no rows: there are no intervals, no older packets, no later packets, and no packets without a time
abbrev pub is_without_packets : TimelineBins → Bool
is_without_packets timeline =
    length (shown_intervals timeline) == 0
    && ((total timeline.older).packets == 0 && ((total timeline.later).packets == 0 && (total timeline.untimed).packets == 0))

-- the table, with the packets that are in no interval in its last rows; it is left out if it has no rows
abbrev pub timeline_table : TimelineBins → List ℕ
timeline_table timeline =
    if is_without_packets timeline then []
    else timeline_head ++ (intervals_text timeline ++ (apart_row (codes "older packets") timeline.older
    ++ (apart_row (codes "later packets") timeline.later ++ apart_row (codes "packets without a time") timeline.untimed)))
