-- Ranges of times.
use Rattle.std.specs.Prelude.{◌≡◌, ◌<◌, ◌≤◌, ℕ, IfSome, Option, Some, None}
use Rattle.capture_file.specs.PacketTimes.{nanoseconds_of}
use Rattle.capture_file.specs.declared.packet_time.PacketTime.{PacketTime}
use Rattle.capture_summary.specs.declared.time_range.TimeRange.{TimeRange}

-- the range of all times
abbrev pub every_time : TimeRange
every_time = record { from = None; to = None }

-- This number of nanoseconds is in the range. The beginning of the range is in the range, and its end is not.
pub record IsTimeIn (range : TimeRange) (nanoseconds : ℕ) : Type 0 where
  pub begun : IfSome range.from (λ from. from ≤ nanoseconds)
  pub not_ended : IfSome range.to (λ to. nanoseconds < to)

-- the time of a packet is in the range; if the time is unknown, the range has neither a beginning nor an end
abbrev pub IsInTimes : TimeRange → Option PacketTime → Type 0
IsInTimes range None = (range.from ≡ None) × (range.to ≡ None)
IsInTimes range (Some time) = IsTimeIn range (nanoseconds_of time)
