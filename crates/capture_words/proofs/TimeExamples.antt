-- Worked examples of times, so that a wrong definition fails before any code does. 1,600,000,000 seconds after the beginning of 1970 it was
-- 2020-09-13 12:26:40 UTC, according to `date`.
use Rattle.std.proofs.Common.{◌≡◌, ◌∙◌, ℕ, true, None, Some, ap, arith, codes, pos, refl, sym}
use Rattle.std.specs.Char.{encode_utf8}
use Rattle.std.specs.Fmt.{char_count, digits, padded_integral}
use Rattle.jiff_core.proofs.SignedLemmas.{signed_arith}
use Rattle.jiff_core.specs.Calendar.{IsCivilDate, day_count, days_from_civil, days_of_months, days_of_years}
use Rattle.capture_file.specs.declared.packet_time.PacketTime.{PacketTime}
use Rattle.capture_file.specs.declared.pcapng.time_resolution.TimeResolution.TheVariants.{PowerOfTen}
use Rattle.capture_words.proofs.AbsoluteTimeLemmas.{has_is, text_is}
use Rattle.capture_words.specs.AbsoluteTime.{absolute_text, date_text, day_text, has_date}
use Rattle.capture_words.specs.Elapsed.{since_text}

-- the time this number of seconds and microseconds after the beginning of 1970
abbrev pub time : ℕ → ℕ → PacketTime
time seconds microseconds = record { seconds = seconds; fraction = microseconds; resolution = PowerOfTen 6; offset = pos 0 }

-- ---- the time since the first packet

later_packet : since_text (Some (time 1600000000 0)) (Some (time 1600003661 200)) ≡ codes "01:01:01.000200"
unfolding char_count digits encode_utf8 padded_integral
later_packet = refl

older_packet : since_text (Some (time 1600000000 0)) (Some (time 1599999999 999999)) ≡ codes "-00:00:00.000001"
unfolding char_count digits encode_utf8 padded_integral
older_packet = refl

-- a resolution of nanoseconds has nine digits
nine_digits : since_text None (Some (record (time 1600000000 7) { resolution = PowerOfTen 9 })) ≡ codes "00:00:00.000000000"
unfolding char_count digits encode_utf8 padded_integral
nine_digits = refl

unknown_time : since_text (Some (time 1600000000 0)) None ≡ codes "-"
unknown_time = refl

-- ---- the date and time

-- 1,600,000,000 seconds are 18,518 days and 44,800 seconds
day_18518 : days_from_civil (pos 2020) 9 13 ≡ pos 18518
unfolding day_count days_from_civil days_of_months days_of_years
day_18518 = refl

is_date : IsCivilDate (pos 2020) 9 13
is_date = ((omega (arith, signed_arith), omega (arith, signed_arith)), (omega arith, omega arith), (omega arith, omega arith))

date_and_time : absolute_text (time 1600000000 6900) ≡ codes "2020-09-13T12:26:40.006900Z"
unfolding char_count digits encode_utf8 padded_integral
date_and_time =
    let has : has_date (pos 18518) ≡ true = ap has_date (sym day_18518) ∙ has_is 2020 9 13 is_date in
    let text : day_text (pos 18518) ≡ date_text 2020 9 13 = ap day_text (sym day_18518) ∙ text_is 2020 9 13 is_date in
    rw (has, text) refl
