-- A date and time as RFC 3339 writes it (section 5.6), for example `1985-04-12T23:20:50.52Z`. Bytes are named by their places in the text.
use Rattle.std.specs.Prelude.{◌≡◌, ◌⊎◌, ◌<◌, ◌≤◌, ◌+◌, ◌-◌, ◌*◌, ◌/◌, ◌^◌, ◌==◌, ◌||◌, ℕ, Bool, if◌then◌else◌, ℤ, pos, neg_ℤ, ◌+ℤ◌, ◌-ℤ◌, ◌*ℤ◌, List, [], ◌∷◌, drop, length, slice_index, slice_range}
use Rattle.jiff_core.specs.Calendar.{IsDate, days_from_civil}
use Rattle.capture_file.specs.PacketTimes.{nanoseconds_per_second}

-- ---- digits

-- a byte is a decimal digit, `0` (48) to `9` (57)
abbrev pub IsDigit : ℕ → Type 0
IsDigit byte = (48 ≤ byte) × (byte ≤ 57)

-- the number of a digit
abbrev pub digit_of : ℕ → ℕ
digit_of byte = byte - 48

-- two digits begin at this place
abbrev pub HasTwoDigits : List ℕ → ℕ → Type 0
HasTwoDigits text place = IsDigit (slice_index text place) × IsDigit (slice_index text (place + 1))

-- the number of the two digits that begin at this place
abbrev pub two_digits : List ℕ → ℕ → ℕ
two_digits text place = digit_of (slice_index text place) * 10 + digit_of (slice_index text (place + 1))

-- ---- the date, for example `1985-04-12`

-- the year, which has four digits
abbrev pub year_in : List ℕ → ℕ
year_in text = two_digits text 0 * 100 + two_digits text 2

-- the digits of the date and the two `-` (45) between its parts
pub record HasDateForm (text : List ℕ) : Type 0 where
  pub century : HasTwoDigits text 0
  pub year : HasTwoDigits text 2
  pub first_dash : slice_index text 4 ≡ 45
  pub month : HasTwoDigits text 5
  pub second_dash : slice_index text 7 ≡ 45
  pub day : HasTwoDigits text 8

-- the calendar has the date
abbrev pub IsDateIn : List ℕ → Type 0
IsDateIn text = IsDate (pos (year_in text)) (pos (two_digits text 5)) (pos (two_digits text 8))

-- the number of days from 1 January 1970 to the date
abbrev pub day_in : List ℕ → ℤ
day_in text = days_from_civil (pos (year_in text)) (two_digits text 5) (two_digits text 8)

-- ---- the time of day, for example `T23:20:50`

-- a byte is `T` (84), `t` (116) or a space (32)
abbrev pub IsSeparator : ℕ → Type 0
IsSeparator byte = (byte ≡ 84) ⊎ ((byte ≡ 116) ⊎ (byte ≡ 32))

-- the separator, the digits of the time, and the two `:` (58) between its parts; the second of a leap second is 60
pub record HasTimeOfDay (text : List ℕ) : Type 0 where
  pub separator : IsSeparator (slice_index text 10)
  pub hour : HasTwoDigits text 11
  pub first_colon : slice_index text 13 ≡ 58
  pub minute : HasTwoDigits text 14
  pub second_colon : slice_index text 16 ≡ 58
  pub second : HasTwoDigits text 17
  pub hour_in_day : two_digits text 11 < 24
  pub minute_in_hour : two_digits text 14 < 60
  pub second_in_minute : two_digits text 17 ≤ 60

-- the number of seconds since the day began; a leap second counts as the first second of the next minute
abbrev pub seconds_of_day : List ℕ → ℕ
seconds_of_day text = two_digits text 11 * 3600 + two_digits text 14 * 60 + two_digits text 17

-- ---- the offset from UTC at the end, for example `-08:00`

-- a byte is `Z` (90) or `z` (122), which is the offset of UTC
abbrev pub is_zulu : ℕ → Bool
is_zulu byte = byte == 90 || byte == 122

-- the number of bytes of the offset at the end of a text
abbrev pub offset_len : List ℕ → ℕ
offset_len text = if is_zulu (slice_index text (length text - 1)) then 1 else 6

-- the bytes of the offset
abbrev pub offset_part : List ℕ → List ℕ
offset_part text = drop (length text - offset_len text) text

-- an offset of six bytes: `+` (43) or `-` (45), the hours, `:` (58), and the minutes
pub record IsNumericOffset (offset : List ℕ) : Type 0 where
  pub len : length offset ≡ 6
  pub sign : (slice_index offset 0 ≡ 43) ⊎ (slice_index offset 0 ≡ 45)
  pub hour : HasTwoDigits offset 1
  pub colon : slice_index offset 3 ≡ 58
  pub minute : HasTwoDigits offset 4
  pub hour_in_day : two_digits offset 1 < 24
  pub minute_in_hour : two_digits offset 4 < 60

-- the offset is `Z` or `z`, or it has six bytes
abbrev pub IsOffset : List ℕ → Type 0
IsOffset offset = (length offset ≡ 1) ⊎ IsNumericOffset offset

-- the number of seconds in the hours and minutes of an offset of six bytes
abbrev pub offset_size : List ℕ → ℕ
offset_size offset = two_digits offset 1 * 3600 + two_digits offset 4 * 60

-- the number of seconds by which the local time is ahead of UTC; it is negative after `-`
abbrev pub offset_seconds : List ℕ → ℤ
offset_seconds offset =
    if length offset == 1 then pos 0
    else (if slice_index offset 0 == 45 then neg_ℤ (pos (offset_size offset)) else pos (offset_size offset))

-- ---- the fraction of a second, for example `.52`

-- the bytes between the seconds and the offset
abbrev pub fraction_part : List ℕ → List ℕ
fraction_part text = slice_range text 19 (length text - offset_len text)

-- all bytes are digits
abbrev pub AreDigits : List ℕ → Type 0
AreDigits [] = Unit {0}
AreDigits (digit ∷ digits) = IsDigit digit × AreDigits digits

-- there is no fraction, or it is `.` (46) and one to nine digits
abbrev pub IsFraction : List ℕ → Type 0
IsFraction [] = Unit {0}
IsFraction (point ∷ digits) = (point ≡ 46) × ((0 < length digits) × ((length digits ≤ 9) × AreDigits digits))

-- the sum of digits; the first digit counts `unit`, and each further digit counts a tenth of the digit before it
abbrev pub sum_of_digits : ℕ → List ℕ → ℕ
sum_of_digits unit [] = 0
sum_of_digits unit (digit ∷ digits) = digit_of digit * unit + sum_of_digits (unit / 10) digits

-- the number of nanoseconds in a fraction: the first digit counts tenths of a second
abbrev pub fraction_nanoseconds : List ℕ → ℕ
fraction_nanoseconds [] = 0
fraction_nanoseconds (point ∷ digits) = sum_of_digits 100000000 digits

-- ---- the date and time

-- the text is a date and time
pub record IsDateTime (text : List ℕ) : Type 0 where
  pub len : 19 + offset_len text ≤ length text
  pub has_date_form : HasDateForm text
  pub is_date : IsDateIn text
  pub has_time : HasTimeOfDay text
  pub is_fraction : IsFraction (fraction_part text)
  pub is_offset : IsOffset (offset_part text)

-- the number of whole seconds from the beginning of 1970, UTC, to a date and time
abbrev pub seconds_since_1970 : List ℕ → ℤ
seconds_since_1970 text = day_in text *ℤ pos 86400 +ℤ pos (seconds_of_day text) -ℤ offset_seconds (offset_part text)

-- The text is a date and time, and this is its time as a number of nanoseconds, counted from 2^63 seconds before 1970 as `nanoseconds_of`
-- of `capture_file` counts.
pub record ReadsDateTime (text : List ℕ) (nanoseconds : ℕ) : Type 0 where
  pub is_date_time : IsDateTime text
  pub value : pos nanoseconds
      ≡ (seconds_since_1970 text +ℤ pos (2 ^ 63)) *ℤ pos nanoseconds_per_second +ℤ pos (fraction_nanoseconds (fraction_part text))

-- the text is not a date and time
abbrev pub IsNoDateTime : List ℕ → Type 0
IsNoDateTime text = IsDateTime text → ⊥
