-- The end of the report of a capture: when its beginning is refused, how many packets can be counted at most, and the exit status.
use Rattle.std.specs.Prelude.{◌≡◌, ℕ, List, length, Some, Option, Result, Ok, Err}
use Rattle.capture_file.specs.Opening.{ReadsBeginning}
use Rattle.capture_file.specs.declared.classic.capture_header_error.CaptureHeaderError.TheVariants.{CutOff, Magic, Modified, Pcapng, Version}
use Rattle.capture_file.specs.declared.reader.open_error.OpenError.{OpenError}
use Rattle.capture_file.specs.declared.reader.open_error.OpenError.TheVariants as refusals
use Rattle.capture_file.specs.declared.reader.packet_error.PacketError.TheVariants as errors
use Rattle.capture_packet.specs.Frames.{max_packet_len}
use Rattle.capture_request.specs.declared.exit_status.ExitStatus.{ExitStatus}
use Rattle.capture_request.specs.declared.exit_status.ExitStatus.TheVariants.{Failed, NoCapture, Success, Unfinished}
use Rattle.capture_request.specs.declared.capture_error.CaptureError.{CaptureError}
use Rattle.capture_request.specs.declared.capture_error.CaptureError.TheVariants.{Header, Read, ReadHeader, RecordCutOff, Refused, TooManyPackets}
use Rattle.capture_request.specs.declared.reached.Reached.{Reached}

-- the greatest number of packets that can be counted: 2^64 - 2
abbrev pub max_packets : ℕ
max_packets = 18446744073709551614

-- the beginning of a capture with these bytes is refused with this error
abbrev pub IsRefusedCapture : OpenError → List ℕ → Type 0
IsRefusedCapture error bytes =
    (still_left : Option (List ℕ)) × (buffer : List ℕ) × (length buffer ≡ max_packet_len)
    × ReadsBeginning (Some bytes) still_left buffer (Err error)

-- the exit status of a report that ends with this error
abbrev pub exit_status : CaptureError → ExitStatus
exit_status (Header (refusals.Classic Pcapng)) = Unfinished
exit_status (Header (refusals.Classic Modified)) = Unfinished
exit_status (Header (refusals.Classic (Version major minor))) = Unfinished
exit_status (Header (refusals.Classic (CutOff len))) = NoCapture
exit_status (Header (refusals.Classic (Magic magic))) = NoCapture
exit_status (Header (refusals.Pcapng (errors.Block error))) = NoCapture
exit_status (Header (refusals.Pcapng (errors.Body error))) = Unfinished
exit_status (Header (refusals.Pcapng (errors.TooLong type total_len))) = Unfinished
exit_status (Header (refusals.Pcapng (errors.Interfaces max))) = Unfinished
exit_status (RecordCutOff number offset required len) = Unfinished
exit_status (Refused error) = Unfinished
exit_status TooManyPackets = Unfinished
exit_status (ReadHeader error) = Failed
exit_status (Read number offset error) = Failed

-- the exit status of a report that ends with this result
abbrev pub status_of : Result Reached CaptureError → ExitStatus
status_of (Ok reached) = Success
status_of (Err error) = exit_status error
