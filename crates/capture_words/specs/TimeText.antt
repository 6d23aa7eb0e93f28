-- The time in the line of a packet.
use Rattle.std.specs.Prelude.{ℕ, Bool, if◌then◌else◌, List, codes, Option, Some, None}
use Rattle.capture_file.specs.declared.packet_time.PacketTime.{PacketTime}
use Rattle.capture_words.specs.AbsoluteTime.{absolute_text}
use Rattle.capture_words.specs.Elapsed.{since_text}
use Rattle.capture_words.specs.declared.times.Times.{Times}
use Rattle.capture_words.specs.declared.times.Times.TheVariants as times

-- the time since the first packet, or the date and time; if the time of the packet is unknown, the text is a hyphen
abbrev pub time_text : Times → Option PacketTime → Option PacketTime → List ℕ
time_text times.SinceFirst first time = since_text first time
time_text times.Absolute first None = codes "-"
time_text times.Absolute first (Some time) = absolute_text time

-- how the line of a packet shows its time: as date and time if that is requested, otherwise as the time since the first packet
abbrev pub times_by : Bool → Times
times_by absolute = if absolute then times.Absolute else times.SinceFirst
