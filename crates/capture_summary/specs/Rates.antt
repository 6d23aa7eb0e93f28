-- The averages of a summary: the bytes of a packet, and the rates per second.
use Rattle.std.specs.Prelude.{ℕ, ◌*◌, ◌/◌, ◌==◌, if◌then◌else◌, Option, Some, None}
use Rattle.capture_file.specs.PacketTimes.{nanoseconds_between, nanoseconds_per_second}
use Rattle.capture_summary.specs.declared.rates.Rates.{Rates}
use Rattle.capture_summary.specs.declared.time_span.TimeSpan.{TimeSpan}

-- the average number of bytes of a packet, rounded down, or `None` if there is no packet
abbrev pub average_len : ℕ → ℕ → Option ℕ
average_len packets bytes = if packets == 0 then None else Some (bytes / packets)

-- the amount per second, rounded down; `nanoseconds` is the time in which the whole amount was counted
abbrev pub per_second : ℕ → ℕ → ℕ
per_second amount nanoseconds = amount * nanoseconds_per_second / nanoseconds

-- the numbers of packets and bits per second, or `None` if the earliest and the latest time are equal
abbrev pub rates_of : ℕ → ℕ → TimeSpan → Option Rates
rates_of packets bytes span =
    if nanoseconds_between span.earliest span.latest == 0 then None
    else Some (record {
      packets = per_second packets (nanoseconds_between span.earliest span.latest);
      bits = per_second (bytes * 8) (nanoseconds_between span.earliest span.latest);
    })
