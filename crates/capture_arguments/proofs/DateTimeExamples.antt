-- The examples of RFC 3339, section 5.8, so that a wrong definition fails before any code does.
use Rattle.std.proofs.Common.{◌≡◌, ◌+◌, ◌*◌, ◌^◌, ℕ, codes, arith, inl, neg_ℤ, pos, refl}
use Rattle.jiff_core.specs.Calendar.{day_count, days_from_civil, days_of_months, days_of_years}
use Rattle.capture_arguments.specs.DateTimes.{IsNoDateTime, ReadsDateTime, fraction_nanoseconds, fraction_part, seconds_since_1970}

-- the number of nanoseconds at this many seconds and nanoseconds after the beginning of 1970
abbrev time_at : ℕ → ℕ → ℕ
time_at seconds nanoseconds = (2 ^ 63 + seconds) * 1000000000 + nanoseconds

-- 20 minutes and 50.52 seconds after the 23rd hour of 12 April 1985
in_utc : ReadsDateTime (codes "1985-04-12T23:20:50.52Z") (time_at 482196050 520000000)
unfolding day_count days_from_civil days_of_months days_of_years
in_utc = record {
  is_date_time = record {
    len = omega arith;
    has_date_form = record {
      century = ((omega arith, omega arith), (omega arith, omega arith));
      year = ((omega arith, omega arith), (omega arith, omega arith));
      first_dash = refl;
      month = ((omega arith, omega arith), (omega arith, omega arith));
      second_dash = refl;
      day = ((omega arith, omega arith), (omega arith, omega arith));
    };
    is_date = ((omega arith, omega arith), (omega arith, omega arith), (omega arith, omega arith));
    has_time = record {
      separator = inl refl;
      hour = ((omega arith, omega arith), (omega arith, omega arith));
      first_colon = refl;
      minute = ((omega arith, omega arith), (omega arith, omega arith));
      second_colon = refl;
      second = ((omega arith, omega arith), (omega arith, omega arith));
      hour_in_day = omega arith;
      minute_in_hour = omega arith;
      second_in_minute = omega arith;
    };
    is_fraction = (refl, (omega arith, (omega arith, ((omega arith, omega arith), ((omega arith, omega arith), tt)))));
    is_offset = inl refl;
  };
  value = refl;
}

-- a time behind UTC by eight hours, which is 20 December in UTC
behind : seconds_since_1970 (codes "1996-12-19T16:39:57-08:00") ≡ pos 851042397
unfolding day_count days_from_civil days_of_months days_of_years
behind = refl

-- a leap second is the first second of 1991
leap_second : seconds_since_1970 (codes "1990-12-31T23:59:60Z") ≡ pos 662688000
unfolding day_count days_from_civil days_of_months days_of_years
leap_second = refl

-- the same leap second in another time zone
leap_second_behind : seconds_since_1970 (codes "1990-12-31T15:59:60-08:00") ≡ pos 662688000
unfolding day_count days_from_civil days_of_months days_of_years
leap_second_behind = refl

-- a time before 1970, and ahead of UTC by 20 minutes
before_1970 : seconds_since_1970 (codes "1937-01-01T12:00:27.87+00:20") ≡ neg_ℤ (pos 1041337173)
unfolding day_count days_from_civil days_of_months days_of_years
before_1970 = refl

fraction_before_1970 : fraction_nanoseconds (fraction_part (codes "1937-01-01T12:00:27.87+00:20")) ≡ 870000000
fraction_before_1970 = refl

-- 1900 was no leap year
no_leap_day : IsNoDateTime (codes "1900-02-29T00:00:00Z")
no_leap_day is = omega (arith, is.is_date.2.1)
