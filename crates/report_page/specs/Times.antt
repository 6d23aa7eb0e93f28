-- The capture time of a packet as numbers that cross to the page.
use Rattle.std.specs.Prelude.{ℕ, ◌==◌, Option, Some, None, if◌then◌else◌, pos}
use Rattle.capture_file.specs.declared.packet_time.PacketTime.{PacketTime}
use Rattle.capture_file.specs.declared.pcapng.time_resolution.TimeResolution.{TimeResolution}
use Rattle.capture_file.specs.declared.pcapng.time_resolution.TimeResolution.TheVariants.{PowerOfTen, PowerOfTwo}
use Rattle.report_page.specs.declared.time.PageTime.{PageTime}

-- a time that is not known
abbrev pub unknown : PageTime
unknown = record { seconds = 0; fraction = 0; offset = pos 0; exponent = 0; is_power_of_two = 0; is_known = 0 }

-- the exponent of a resolution
abbrev pub exponent_of : TimeResolution → ℕ
exponent_of (PowerOfTen exponent) = exponent
exponent_of (PowerOfTwo exponent) = exponent

-- 1 if the base of a resolution is two, and 0 if it is ten
abbrev pub base_of : TimeResolution → ℕ
base_of (PowerOfTen exponent) = 0
base_of (PowerOfTwo exponent) = 1

-- a time as numbers
abbrev pub page_time : Option PacketTime → PageTime
page_time None = unknown
page_time (Some time) = record {
  seconds = time.seconds;
  fraction = time.fraction;
  offset = time.offset;
  exponent = exponent_of time.resolution;
  is_power_of_two = base_of time.resolution;
  is_known = 1;
}

-- the resolution with this base and this exponent
abbrev pub resolution_of : ℕ → ℕ → TimeResolution
resolution_of base exponent = if base == 0 then PowerOfTen exponent else PowerOfTwo exponent

-- the time that these numbers state; `time_of (page_time time)` is `time`
abbrev pub time_of : PageTime → Option PacketTime
time_of time =
    if time.is_known == 0 then None
    else Some (record {
      seconds = time.seconds;
      fraction = time.fraction;
      resolution = resolution_of time.is_power_of_two time.exponent;
      offset = time.offset;
    })
