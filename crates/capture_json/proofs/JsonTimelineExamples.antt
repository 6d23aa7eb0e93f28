-- Worked examples of the timeline in JSON. A wrong definition fails here before its code is written.
use Rattle.std.proofs.Common.{◌≡◌, ◌+◌, ◌*◌, ◌^◌, ◌++◌, ◌∙◌, ℕ, List, [], ◌∷◌, None, Some, ap, arith, codes, pos, refl, sym, true}
use Rattle.std.specs.Char.{encode_utf8}
use Rattle.std.specs.Fmt.{char_count, digits, padded_integral}
use Rattle.jiff_core.proofs.SignedLemmas.{signed_arith}
use Rattle.jiff_core.specs.Calendar.{IsCivilDate, day_count, days_from_civil, days_of_months, days_of_years}
use Rattle.json.specs.Print.{escape_byte}
use Rattle.serde_json.specs.Written.{compact_text}
use Rattle.timeline.specs.Counts.{no_packets}
use Rattle.timeline.specs.Timelines.{TimelineBins, empty_timeline}
use Rattle.timeline.specs.declared.counts.Counts.{Counts}
use Rattle.capture_words.proofs.AbsoluteTimeLemmas.{has_is, text_is}
use Rattle.capture_words.specs.AbsoluteTime.{date_text, day_text, has_date}
use Rattle.capture_json.specs.JsonTimeline.{interval_data, timeline_member}
use Rattle.capture_json.specs.Members.{object_of}

-- ---- counts

-- a UDP packet of 40 bytes with a wrong checksum, and two TCP packets of 60 bytes
abbrev three : Counts
three = record no_packets {
  udp = record { packets = 1; bytes = 40 };
  tcp = record { packets = 2; bytes = 120 };
  wrong = record { packets = 1; bytes = 40 };
}

abbrev text_of_three : List ℕ
text_of_three =
    codes "{\"packets\":3,\"bytes\":160,\"udp\":{\"packets\":1,\"bytes\":40},\"tcp\":{\"packets\":2,\"bytes\":120},"
    ++ codes "\"icmp\":{\"packets\":0,\"bytes\":0},\"other\":{\"packets\":0,\"bytes\":0},\"wrong\":{\"packets\":1,\"bytes\":40},"
    ++ codes "\"refused\":{\"packets\":0,\"bytes\":0}}"

counts : compact_text (interval_data three) ≡ text_of_three
unfolding digits escape_byte
counts = refl

abbrev text_of_none : List ℕ
text_of_none =
    codes "{\"packets\":0,\"bytes\":0,\"udp\":{\"packets\":0,\"bytes\":0},\"tcp\":{\"packets\":0,\"bytes\":0},"
    ++ codes "\"icmp\":{\"packets\":0,\"bytes\":0},\"other\":{\"packets\":0,\"bytes\":0},\"wrong\":{\"packets\":0,\"bytes\":0},"
    ++ codes "\"refused\":{\"packets\":0,\"bytes\":0}}"

-- ---- timelines

-- no packet has a time
without_times : compact_text (object_of (timeline_member (record (empty_timeline None) { untimed = three }) ∷ []))
    ≡ codes "{\"timeline\":{\"start\":null,\"interval_seconds\":0,\"interval_nanoseconds\":1,\"intervals\":[],\"older\":"
    ++ (text_of_none ++ (codes ",\"later\":" ++ (text_of_none ++ (codes ",\"untimed\":" ++ (text_of_three ++ codes "}}")))))
unfolding digits escape_byte
without_times = refl

-- Packets in the first and in the third interval of a fixed width of ten seconds, and packets that are later than all intervals. The first
-- packet was captured 7 nanoseconds after the beginning of 1970.
abbrev three_intervals : TimelineBins
three_intervals = record (empty_timeline (Some 10000000000)) {
  start = Some (2 ^ 63 * 1000000000 + 7);
  bins = three ∷ no_packets ∷ three ∷ [];
  later = three;
}

day_0 : days_from_civil (pos 1970) 1 1 ≡ pos 0
unfolding day_count days_from_civil days_of_months days_of_years
day_0 = refl

is_date : IsCivilDate (pos 1970) 1 1
is_date = ((omega (arith, signed_arith), omega (arith, signed_arith)), (omega arith, omega arith), (omega arith, omega arith))

with_start : compact_text (object_of (timeline_member three_intervals ∷ []))
    ≡ codes "{\"timeline\":{\"start\":\"1970-01-01T00:00:00.000000007Z\",\"start_seconds\":0,\"start_nanoseconds\":7,"
    ++ (codes "\"interval_seconds\":10,\"interval_nanoseconds\":0,\"intervals\":["
    ++ (text_of_three ++ (codes "," ++ (text_of_none ++ (codes "," ++ (text_of_three
    ++ (codes "],\"older\":" ++ (text_of_none ++ (codes ",\"later\":" ++ (text_of_three ++ (codes ",\"untimed\":"
    ++ (text_of_none ++ codes "}}"))))))))))))
unfolding char_count digits encode_utf8 escape_byte padded_integral
with_start =
    let has : has_date (pos 0) ≡ true = ap has_date (sym day_0) ∙ has_is 1970 1 1 is_date in
    let text : day_text (pos 0) ≡ date_text 1970 1 1 = ap day_text (sym day_0) ∙ text_is 1970 1 1 is_date in
    rw (has, text) refl
