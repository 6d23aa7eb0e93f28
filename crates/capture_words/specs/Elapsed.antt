-- The time between two packets in hours, minutes and seconds, and its text.
use Rattle.std.specs.Prelude.{ℕ, ◌+◌, ◌*◌, ◌/◌, ◌%◌, Bool, if◌then◌else◌, List, ◌++◌, codes, decimal, nat_le, nat_lt, Option, Some, None, unwrap_or}
use Rattle.std.specs.Fmt.{sign_text}
use Rattle.capture_file.specs.PacketTimes.{nanoseconds_between, nanoseconds_of, nanoseconds_per_second}
use Rattle.capture_file.specs.PcapngBodies.{units_per_second}
use Rattle.capture_file.specs.declared.pcapng.time_resolution.TimeResolution.{TimeResolution}
use Rattle.capture_file.specs.declared.packet_time.PacketTime.{PacketTime}
use Rattle.capture_words.specs.Numbers.{zero_padded}
use Rattle.capture_words.specs.declared.time.Elapsed.{Elapsed}

-- a number of nanoseconds as hours, minutes, seconds and nanoseconds
abbrev pub elapsed_of : ℕ → Elapsed
elapsed_of nanoseconds =
    let seconds = nanoseconds / nanoseconds_per_second in
    record {
      hours = seconds / 3600;
      minutes = seconds / 60 % 60;
      seconds = seconds % 60;
      nanoseconds = nanoseconds % nanoseconds_per_second;
    }

-- a duration in hours, minutes, seconds and nanoseconds as a number of nanoseconds
abbrev pub nanoseconds_of_elapsed : Elapsed → ℕ
nanoseconds_of_elapsed elapsed =
    ((elapsed.hours * 60 + elapsed.minutes) * 60 + elapsed.seconds) * nanoseconds_per_second + elapsed.nanoseconds

-- ---- the text of a duration

-- whether the resolution is microseconds or coarser
abbrev pub is_coarse : TimeResolution → Bool
is_coarse resolution = nat_le (units_per_second resolution) 1000000

-- the fraction of a second: six digits of microseconds, or nine digits of nanoseconds if the resolution is finer
abbrev pub fraction_text : TimeResolution → ℕ → List ℕ
fraction_text resolution nanoseconds =
    if is_coarse resolution then zero_padded 6 (decimal (nanoseconds / 1000)) else zero_padded 9 (decimal nanoseconds)

-- a duration as hours, minutes, seconds and the fraction, for example `00:00:01.000200`
abbrev pub duration_text : TimeResolution → Elapsed → List ℕ
duration_text resolution elapsed =
    zero_padded 2 (decimal elapsed.hours) ++ (codes ":" ++ (zero_padded 2 (decimal elapsed.minutes) ++ (codes ":"
    ++ (zero_padded 2 (decimal elapsed.seconds) ++ (codes "." ++ fraction_text resolution elapsed.nanoseconds)))))

-- The time from the first packet to a packet. A minus sign marks a packet that is older than the first packet. The number of digits depends
-- on the resolution of the packet.
abbrev pub elapsed_text : PacketTime → PacketTime → List ℕ
elapsed_text first time =
    sign_text (nat_lt (nanoseconds_of time) (nanoseconds_of first))
    ++ duration_text time.resolution (elapsed_of (nanoseconds_between first time))

-- The time from `first` to a packet. If `first` is `None`, no earlier packet has a known time, and the time is 0. If the time of the packet
-- is unknown, the text is a hyphen.
abbrev pub since_text : Option PacketTime → Option PacketTime → List ℕ
since_text first None = codes "-"
since_text first (Some time) = elapsed_text (unwrap_or first time) time
