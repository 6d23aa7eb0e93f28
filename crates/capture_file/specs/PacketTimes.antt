-- The time of a packet as a number (draft-ietf-opsawg-pcap, section 5; draft-ietf-opsawg-pcapng, section 4.2).
use Rattle.std.specs.Prelude.{ℕ, suc, ◌+◌, ◌-◌, ◌*◌, ◌/◌, ◌^◌, if◌then◌else◌, ℤ, pos, negsuc, nat_lt}
use Rattle.capture_file.specs.PcapngBodies.{units_per_second}
use Rattle.capture_file.specs.declared.pcapng.time_resolution.TimeResolution.{TimeResolution}
use Rattle.capture_file.specs.declared.packet_time.PacketTime.{PacketTime}

-- the number of nanoseconds in a second
abbrev pub nanoseconds_per_second : ℕ
nanoseconds_per_second = 1000000000

-- a fraction of a second as a number of nanoseconds, rounded down
abbrev pub nanoseconds_in : TimeResolution → ℕ → ℕ
nanoseconds_in resolution fraction = fraction * nanoseconds_per_second / units_per_second resolution

-- the sum of the seconds, the offset and 2^63; the offset is at least -2^63, so the sum is never negative
abbrev pub shifted_seconds : ℕ → ℤ → ℕ
shifted_seconds seconds (pos more) = seconds + 2 ^ 63 + more
shifted_seconds seconds (negsuc less) = seconds + 2 ^ 63 - suc less

-- a time as a number of nanoseconds, counted from 2^63 seconds before 1970; a fraction above a second adds whole seconds
abbrev pub nanoseconds_of : PacketTime → ℕ
nanoseconds_of time =
    shifted_seconds time.seconds time.offset * nanoseconds_per_second + nanoseconds_in time.resolution time.fraction

-- the number of nanoseconds between two times, whichever time is earlier
abbrev pub nanoseconds_between : PacketTime → PacketTime → ℕ
nanoseconds_between first time =
    let begin = nanoseconds_of first in
    let end = nanoseconds_of time in
    if nat_lt end begin then begin - end else end - begin
