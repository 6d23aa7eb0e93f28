-- For dates and times.
use Rattle.std.proofs.Common.{◌≡◌, ◌+◌, ◌^◌, ◌≤◌, ℕ, ℤ, pos, ◌+ℤ◌, ◌-ℤ◌, ◌*ℤ◌, List, length}
use Rattle.capture_file.specs.PacketTimes.{nanoseconds_per_second}
use Rattle.capture_arguments.specs.DateTimes.{HasDateForm, HasTimeOfDay, IsDateIn, IsDateTime, IsFraction, IsOffset, ReadsDateTime, day_in, fraction_nanoseconds, fraction_part, offset_len, offset_part, offset_seconds, seconds_of_day}

-- a text with the parts of a date and time is a date and time
pub has_parts : (text fraction offset : List ℕ) → fraction ≡ fraction_part text → offset ≡ offset_part text
    → 19 + offset_len text ≤ length text → HasDateForm text → IsDateIn text → HasTimeOfDay text → IsFraction fraction → IsOffset offset
    → IsDateTime text
has_parts text fraction offset is_fraction_part is_offset_part len form date time fraction_is offset_is = record {
  len = len;
  has_date_form = form;
  is_date = date;
  has_time = time;
  is_fraction = rw is_fraction_part at fraction_is;
  is_offset = rw is_offset_part at offset_is;
}

-- the time by the parts of a date and time
pub reads_parts : (text fraction offset : List ℕ) (nanoseconds of_day part : ℕ) (day ahead seconds : ℤ) → fraction ≡ fraction_part text
    → offset ≡ offset_part text
    → IsDateTime text → day ≡ day_in text → of_day ≡ seconds_of_day text → ahead ≡ offset_seconds offset
    → seconds ≡ day *ℤ pos 86400 +ℤ pos of_day -ℤ ahead → part ≡ fraction_nanoseconds fraction
    → pos nanoseconds ≡ (seconds +ℤ pos (2 ^ 63)) *ℤ pos nanoseconds_per_second +ℤ pos part
    → ReadsDateTime text nanoseconds
reads_parts text fraction offset nanoseconds of_day part day ahead seconds is_fraction_part is_offset_part date is_day is_time is_ahead is_seconds
    is_part is =
    record {
      is_date_time = date;
      value = rw (is_seconds, is_day, is_time, is_ahead, is_part, is_fraction_part, is_offset_part) at is;
    }
