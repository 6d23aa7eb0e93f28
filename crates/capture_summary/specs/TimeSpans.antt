-- The times of packets: the earliest and the latest.
use Rattle.std.specs.Prelude.{◌≡◌, ◌≤◌, if◌then◌else◌, nat_lt, List, [], fold, All, Contains, Option, Some, None}
use Rattle.capture_file.specs.declared.packet_time.PacketTime.{PacketTime}
use Rattle.capture_file.specs.PacketTimes.{nanoseconds_of}
use Rattle.capture_summary.specs.declared.time_span.TimeSpan.{TimeSpan}

-- the earlier of two times; if they are equal, the first
abbrev pub earlier : PacketTime → PacketTime → PacketTime
earlier first second = if nat_lt (nanoseconds_of second) (nanoseconds_of first) then second else first

-- the later of two times; if they are equal, the first
abbrev pub later : PacketTime → PacketTime → PacketTime
later first second = if nat_lt (nanoseconds_of first) (nanoseconds_of second) then second else first

-- The earliest and the latest time after another packet. `span` contains the times before this packet, or is `None` if no earlier packet
-- has a time. `time` is the time of the packet, or `None` if it is unknown.
abbrev pub with_time : Option TimeSpan → Option PacketTime → Option TimeSpan
with_time span None = span
with_time None (Some time) = Some (record { earliest = time; latest = time })
with_time (Some span) (Some time) = Some (record { earliest = earlier span.earliest time; latest = later span.latest time })

-- the earliest and the latest of these times, or `None` if there is no time
abbrev pub span_of : List PacketTime → Option TimeSpan
span_of times = fold (λ span time. with_time span (Some time)) None times

-- both ends are among these times; no time is before the earliest or after the latest
pub record IsSpanOf (times : List PacketTime) (span : TimeSpan) : Type 0 where
  pub has_earliest : Contains times span.earliest
  pub has_latest : Contains times span.latest
  pub least : All (λ time. nanoseconds_of span.earliest ≤ nanoseconds_of time) times
  pub greatest : All (λ time. nanoseconds_of time ≤ nanoseconds_of span.latest) times

-- the span is the span of these times; there is none if and only if there is no time
abbrev pub HasSpan : List PacketTime → Option TimeSpan → Type 0
HasSpan times None = times ≡ []
HasSpan times (Some span) = IsSpanOf times span
