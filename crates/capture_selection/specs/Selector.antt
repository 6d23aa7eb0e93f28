-- The selection as a visitor of the packets of a capture.
use Rattle.std.specs.Prelude.{◌≡◌, ◌==◌, Bool, true, false, if◌then◌else◌, Some, Result, Ok, Err}
use Rattle.capture_file.specs.CapturePackets.{kept}
use Rattle.capture_file.specs.declared.pcapng.errors.BlockError.TheVariants as block_errors
use Rattle.capture_file.specs.declared.reader.open_error.OpenError.TheVariants.{Pcapng}
use Rattle.capture_file.specs.declared.reader.packet_error.PacketError.TheVariants as packet_errors
use Rattle.capture_copy.specs.Visits.{Visits}
use Rattle.capture_copy.specs.declared.extent.Extent.{Extent}
use Rattle.capture_copy.specs.declared.extent.Extent.TheVariants.{Enough, Whole}
use Rattle.capture_copy.specs.declared.part_error.PartError.{PartError}
use Rattle.capture_copy.specs.declared.part_error.PartError.TheVariants as errors
use Rattle.capture_request.specs.Endings.{max_packets}
use Rattle.capture_request.specs.Report.{IsPacketOf, IsTooLong}
use Rattle.capture_request.specs.declared.capture_error.CaptureError.TheVariants.{Header, Read, RecordCutOff, Refused, TooManyPackets}
use Rattle.capture_request.specs.declared.parts.Parts.{Parts}
use Rattle.capture_request.specs.declared.reached.Reached.{Reached}
use Rattle.capture_request.specs.declared.reached.Reached.TheVariants.{End, Limit}
use Rattle.capture_selection.specs.Outcomes.{HasOutcome, counted}
use Rattle.capture_selection.specs.declared.counts.Counts.{Counts}
use Rattle.capture_selection.specs.declared.outcome.Outcome.{Outcome}
use Rattle.capture_selection.specs.declared.outcome.Outcome.TheVariants.{Excluded, Unlisted, Written}
use Rattle.capture_selection.specs.declared.selection_error.SelectionError.{SelectionError}
use Rattle.capture_selection.specs.declared.selection_error.SelectionError.TheVariants.{Capture, Write}

-- a packet with this outcome is written
abbrev pub is_written : Outcome → Bool
is_written Written = true
is_written Unlisted = false
is_written Excluded = false

-- The selection with these options. Its outcomes are the outcomes of the packets, which are read as the report reads them. No packet is
-- changed.
abbrev pub selection_of : Parts → Visits Outcome Counts
selection_of options = record {
  visits = λ captured frame after outcome. (after ≡ frame)
      × HasOutcome options (IsPacketOf options.choice.udp_tunnels (kept captured frame)) captured.time (Some outcome);
  visits_long = λ required_len time outcome. HasOutcome options (IsTooLong required_len) time (Some outcome);
  is_written = is_written;
  writes_all = false;
  counted = counted;
  max_parts = max_packets;
}

-- the error of the selection if this error ended the copy
abbrev pub selection_error : PartError → SelectionError
selection_error (errors.CutOff place required len) = Capture (RecordCutOff place.number place.offset required len)
selection_error (errors.Refused error) = Capture (Refused error)
selection_error (errors.Read place error) = Capture (Read place.number place.offset error)
selection_error errors.TooManyParts = Capture TooManyPackets
selection_error (errors.Write error) = Write error

-- the result of the selection from a classic capture if this is the result of the copy
abbrev pub selected : Result Extent PartError → Result Reached SelectionError
selected (Ok Whole) = Ok End
selected (Ok Enough) = Ok Limit
selected (Err error) = Err (selection_error error)

-- The error of the selection from a pcapng file if this error ended the copy. If the first block is refused or cut off, it is an error of
-- the header.
abbrev pub block_error : PartError → SelectionError
block_error (errors.CutOff place required len) =
    if place.offset == 0 then Capture (Header (Pcapng (packet_errors.Block (block_errors.CutOff required len))))
    else selection_error (errors.CutOff place required len)
block_error (errors.Refused error) =
    if error.offset == 0 then Capture (Header (Pcapng error.error)) else selection_error (errors.Refused error)
block_error error = selection_error error

-- the result of the selection from a pcapng file if this is the result of the copy
abbrev pub selected_blocks : Result Extent PartError → Result Reached SelectionError
selected_blocks (Ok extent) = selected (Ok extent)
selected_blocks (Err error) = Err (block_error error)
