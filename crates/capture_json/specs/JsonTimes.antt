-- The times of packets, and durations, as numbers: whole seconds, and the nanoseconds after them.
use Rattle.std.specs.Prelude.{ℕ, ◌-◌, ◌/◌, ◌%◌, ◌^◌, if◌then◌else◌, ℤ, pos, int_lt, min, neg_ℤ, unsigned_abs, List, [], ◌∷◌, codes}
use Rattle.std.specs.Int.{int_div_euclid, int_rem_euclid}
use Rattle.capture_file.specs.PacketTimes.{nanoseconds_between, nanoseconds_per_second}
use Rattle.capture_file.specs.declared.packet_time.PacketTime.{PacketTime}
use Rattle.capture_file.specs.declared.pcapng.time_resolution.TimeResolution.TheVariants.{PowerOfTen}
use Rattle.capture_json.specs.Members.{Member, integer, whole_number}
use Rattle.capture_words.specs.AbsoluteTime.{nanoseconds_since_1970}

-- the whole seconds from the beginning of 1970, UTC, to a time, rounded down; they are negative before 1970
abbrev pub seconds_since_1970 : PacketTime → ℤ
seconds_since_1970 time = int_div_euclid (nanoseconds_since_1970 time) (pos nanoseconds_per_second)

-- the nanoseconds after the whole seconds of a time, from 0 to 999,999,999
abbrev pub nanoseconds_of_second : PacketTime → ℕ
nanoseconds_of_second time = unsigned_abs (int_rem_euclid (nanoseconds_since_1970 time) (pos nanoseconds_per_second))

-- the number, limited to the range of a signed number of 64 bits
abbrev pub nearest_long : ℤ → ℤ
nearest_long number =
    if int_lt number (neg_ℤ (pos (2 ^ 63))) then neg_ℤ (pos (2 ^ 63))
    else if int_lt (pos (2 ^ 63 - 1)) number then pos (2 ^ 63 - 1)
    else number

-- A time as two numbers with these names. No time is before -2^63 seconds. A time after 2^63 - 1 seconds is written as 2^63 - 1 seconds.
abbrev pub instant_members : List ℕ → List ℕ → PacketTime → List Member
instant_members seconds nanoseconds time =
    (seconds, integer (nearest_long (seconds_since_1970 time))) ∷ (nanoseconds, whole_number (nanoseconds_of_second time)) ∷ []

-- A number of nanoseconds as two numbers with these names: the whole seconds, at most 2^64 - 1, and the nanoseconds after them.
abbrev pub nanoseconds_members : List ℕ → List ℕ → ℕ → List Member
nanoseconds_members seconds nanoseconds number =
    (seconds, whole_number (min (number / nanoseconds_per_second) (2 ^ 64 - 1)))
    ∷ (nanoseconds, whole_number (number % nanoseconds_per_second)) ∷ []

-- the time between two packets as two numbers
abbrev pub duration_members : PacketTime → PacketTime → List Member
duration_members first last =
    nanoseconds_members (codes "duration_seconds") (codes "duration_nanoseconds") (nanoseconds_between first last)

-- The time at this number of nanoseconds, which are counted from 2^63 seconds before 1970. It is the inverse of `nanoseconds_of`, except
-- that a time after 2^63 - 1 seconds becomes 2^63 - 1 seconds.
abbrev pub time_at : ℕ → PacketTime
time_at number = record {
  seconds = min (number / nanoseconds_per_second) (2 ^ 64 - 1);
  fraction = number % nanoseconds_per_second;
  resolution = PowerOfTen 9;
  offset = neg_ℤ (pos (2 ^ 63));
}
