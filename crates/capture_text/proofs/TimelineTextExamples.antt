-- Worked examples of the table of the timeline. A wrong definition fails here before its code is written.
use Rattle.std.proofs.Common.{◌≡◌, ◌++◌, ℕ, [], ◌∷◌, None, Some, codes, false, refl, replicate}
use Rattle.std.specs.Char.{encode_utf8}
use Rattle.std.specs.Fmt.{char_count, digits, padded, padded_integral, take_chars}
use Rattle.timeline.specs.Counts.{no_packets}
use Rattle.timeline.specs.Timelines.{TimelineBins, empty_timeline}
use Rattle.timeline.specs.declared.counts.Counts.{Counts}
use Rattle.capture_text.specs.TimelineText.{bar_text, intervals_in_row, row_width, timeline_table}

-- packets of 60 bytes of UDP
abbrev udp : ℕ → ℕ → Counts
udp packets bytes = record no_packets { udp = record { packets = packets; bytes = bytes } }

-- Three packets in the first half second, one of them with a wrong checksum, none in the next, and one after a second. An older packet, and
-- no packet without a time.
abbrev one_second : TimelineBins
one_second = record {
  is_fixed = false;
  start = Some 1700000000000000000;
  unit = 500000000;
  bins = record (udp 3 180) { wrong = record { packets = 1; bytes = 60 } } ∷ no_packets ∷ udp 1 60 ∷ [];
  older = record no_packets { refused = record { packets = 1; bytes = 60 }; other = record { packets = 1; bytes = 60 } };
  later = no_packets;
  untimed = no_packets;
}

table_of_one_second : timeline_table one_second
    ≡ codes "\ntimeline, seconds             packets             bytes       wrong     refused\n"
    ++ (codes "              0.000000000           3               180           1           0 ########################################\n"
    ++ (codes "              0.500000000           0                 0           0           0\n"
    ++ (codes "              1.000000000           1                60           0           0 ##############\n"
    ++ codes "older packets                       1                60           0           1\n")))
unfolding char_count digits encode_utf8 padded padded_integral take_chars
table_of_one_second = refl

-- no table
table_of_no_packets : timeline_table (empty_timeline None) ≡ []
table_of_no_packets = refl

-- 20 rows of one interval each, 11 rows of two, and at most 20 intervals in a row
sizes : (intervals_in_row 20 ≡ 1) × (intervals_in_row 21 ≡ 2) × (intervals_in_row 41 ≡ 5) × (intervals_in_row 200 ≡ 10)
    × (intervals_in_row 201 ≡ 20)
sizes = (refl, refl, refl, refl, refl)

-- 300 bins of a second are 150 intervals of two seconds, in rows of 20 seconds
twenty_seconds : row_width (record (empty_timeline None) { start = Some 0; unit = 1000000000; bins = replicate 300 (udp 1 60) })
    ≡ 20000000000
twenty_seconds = refl

-- 300 intervals of a fixed width of a second are rows of a second
fixed_second : row_width (record (empty_timeline (Some 1000000000)) { start = Some 0; bins = replicate 300 (udp 1 60) }) ≡ 1000000000
fixed_second = refl

-- Intervals of a fixed width of 30 seconds, and two packets that are later.
abbrev half_minutes : TimelineBins
half_minutes = record (empty_timeline (Some 30000000000)) { start = Some 5; bins = udp 2 90 ∷ udp 1 60 ∷ []; later = udp 2 120 }

table_of_half_minutes : timeline_table half_minutes
    ≡ codes "\ntimeline, seconds             packets             bytes       wrong     refused\n"
    ++ (codes "              0.000000000           2                90           0           0 ########################################\n"
    ++ (codes "             30.000000000           1                60           0           0 ####################\n"
    ++ codes "later packets                       2               120           0           0\n"))
unfolding char_count digits encode_utf8 padded padded_integral take_chars
table_of_half_minutes = refl

-- a bar is rounded up
bars : (bar_text 1000 1 ≡ codes " #") × (bar_text 20 3 ≡ codes " ######") × (bar_text 20 0 ≡ [])
bars = (refl, refl, refl)
