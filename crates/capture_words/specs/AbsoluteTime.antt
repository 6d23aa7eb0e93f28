-- The date and time of day of a packet, in UTC, in the format of RFC 3339.
use Rattle.std.specs.Prelude.{ℕ, zero, suc, ◌+◌, ◌*◌, ◌/◌, ◌%◌, ◌^◌, Bool, ◌&&◌, if◌then◌else◌, ℤ, pos, ◌-ℤ◌, int_le, int_lt, unsigned_abs, List, ◌++◌, codes, decimal}
use Rattle.std.specs.Fmt.{sign_text}
use Rattle.std.specs.Int.{from_bool, int_div_euclid, int_rem_euclid}
use Rattle.jiff_core.specs.Calendar.{days_from_civil}
use Rattle.capture_file.specs.declared.pcapng.time_resolution.TimeResolution.{TimeResolution}
use Rattle.capture_file.specs.declared.packet_time.PacketTime.{PacketTime}
use Rattle.capture_file.specs.PacketTimes.{nanoseconds_of, nanoseconds_per_second}
use Rattle.capture_words.specs.Elapsed.{duration_text, elapsed_of, fraction_text}
use Rattle.capture_words.specs.Numbers.{zero_padded}

-- ---- days

-- the nanoseconds from the beginning of 1970, UTC, to a time
abbrev pub nanoseconds_since_1970 : PacketTime → ℤ
nanoseconds_since_1970 time = pos (nanoseconds_of time) -ℤ pos (2 ^ 63 * nanoseconds_per_second)

-- the nanoseconds in a day; leap seconds are not counted (RFC 3339, appendix D)
abbrev pub nanoseconds_per_day : ℕ
nanoseconds_per_day = 86400 * nanoseconds_per_second

-- the number of the day at this many nanoseconds since 1970: 1 January 1970 is day 0, and earlier days have negative numbers
abbrev pub day_of : ℤ → ℤ
day_of nanoseconds = int_div_euclid nanoseconds (pos nanoseconds_per_day)

-- the nanoseconds since the beginning of the day, at this many nanoseconds since 1970
abbrev pub nanoseconds_of_day : ℤ → ℕ
nanoseconds_of_day nanoseconds = unsigned_abs (int_rem_euclid nanoseconds (pos nanoseconds_per_day))

-- ---- the date of a day: `days_from_civil` maps a year, a month and a day of the month to the number of the day

-- How many of the years (or months) 1, 2, .. up to this number begin on or before this day. `start` maps a year (or month) to its first
-- day.
unfoldable pub begun : (ℕ → ℤ) → ℕ → ℤ → ℕ
begun start zero day = 0
begun start (suc n) day = begun start n day + from_bool (int_le (start (suc n)) day)

-- the year of this day: how many of the years 1 to 9999 begin on or before this day
abbrev pub year_of : ℤ → ℕ
year_of day = begun (λ year. days_from_civil (pos year) 1 1) 9999 day

-- the month of a day in this year: how many months of the year begin on or before the day
abbrev pub month_of : ℕ → ℤ → ℕ
month_of year day = begun (λ month. days_from_civil (pos year) month 1) 12 day

-- the number of a day in this month
abbrev pub day_of_month : ℕ → ℕ → ℤ → ℕ
day_of_month year month day = unsigned_abs (day -ℤ days_from_civil (pos year) month 1) + 1

-- whether the year of a day is from 0 to 9999: RFC 3339, section 5.6, writes years with four digits
abbrev pub has_date : ℤ → Bool
has_date day = int_le (days_from_civil (pos 0) 1 1) day && int_lt day (days_from_civil (pos 10000) 1 1)

-- ---- the text of a date and time

-- a year, month and day, for example `2023-11-14`
abbrev pub date_text : ℕ → ℕ → ℕ → List ℕ
date_text year month day =
    zero_padded 4 (decimal year) ++ (codes "-" ++ (zero_padded 2 (decimal month) ++ (codes "-" ++ zero_padded 2 (decimal day))))

-- the date of the day with this number
abbrev pub day_text : ℤ → List ℕ
day_text day =
    let year = year_of day in
    let month = month_of year day in
    date_text year month (day_of_month year month day)

-- the date and the time of day, for example `2023-11-14T22:13:20.000200Z`
abbrev pub utc_text : TimeResolution → ℤ → List ℕ
utc_text resolution nanoseconds =
    day_text (day_of nanoseconds)
    ++ (codes "T" ++ (duration_text resolution (elapsed_of (nanoseconds_of_day nanoseconds)) ++ codes "Z"))

-- seconds since 1970 and the fraction, for example `1700000000.000200`; a minus sign marks a time before 1970
abbrev pub seconds_text : TimeResolution → ℤ → List ℕ
seconds_text resolution nanoseconds =
    sign_text (int_lt nanoseconds (pos 0)) ++ (decimal (unsigned_abs nanoseconds / nanoseconds_per_second)
    ++ (codes "." ++ fraction_text resolution (unsigned_abs nanoseconds % nanoseconds_per_second)))

-- the date and time of a packet, or its seconds since 1970 if its year is not from 0 to 9999
abbrev pub absolute_text : PacketTime → List ℕ
absolute_text time =
    let nanoseconds = nanoseconds_since_1970 time in
    if has_date (day_of nanoseconds) then utc_text time.resolution nanoseconds else seconds_text time.resolution nanoseconds
