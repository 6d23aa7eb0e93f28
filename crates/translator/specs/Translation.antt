-- The translation as a visitor of the packets of a capture.
use Rattle.std.specs.Prelude.{◌≡◌, ℕ, true, Result, Ok, Err}
use Rattle.capture_copy.specs.Visits.{Visits}
use Rattle.capture_copy.specs.declared.extent.Extent.{Extent}
use Rattle.capture_copy.specs.declared.part_error.PartError.{PartError}
use Rattle.capture_copy.specs.declared.part_error.PartError.TheVariants as errors
use Rattle.capture_file.specs.declared.pcapng.errors.BlockError.TheVariants as block_errors
use Rattle.capture_file.specs.declared.reader.packet_error.PacketError.TheVariants as packet_errors
use Rattle.translator.specs.Outcomes.{counted}
use Rattle.translator.specs.Packets.{TranslatesCaptured}
use Rattle.translator.specs.declared.capture_error.CaptureError.{CaptureError}
use Rattle.translator.specs.declared.capture_error.CaptureError.TheVariants.{Block, Read, RecordCutOff, TooManyParts, Write}
use Rattle.translator.specs.declared.counts.Counts.{Counts}
use Rattle.translator.specs.declared.done.Done.{Done}
use Rattle.translator.specs.declared.reason.Reason.{Reason}
use Rattle.translator.specs.declared.reason.Reason.TheVariants.{TooLong}
use Rattle.translator.specs.declared.table.Table.{Table}

-- the maximum number of records or blocks that are read: 2^64 - 1
abbrev pub max_parts : ℕ
max_parts = 18446744073709551615

-- The translation by this table. Every packet is written. A packet that does not fit in the buffer is not translated.
abbrev pub translation_of : Table → Visits (Result Done Reason) Counts
translation_of table = record {
  visits = λ captured frame after outcome. TranslatesCaptured table captured.link_type captured.byte_order frame after outcome;
  visits_long = λ required_len time outcome. outcome ≡ Err TooLong;
  is_written = λ outcome. true;
  writes_all = true;
  counted = counted;
  max_parts = max_parts;
}

-- the error of the translation if this error ended the copy of the records
abbrev pub record_error : PartError → CaptureError
record_error (errors.CutOff place required len) = RecordCutOff place.offset required len
record_error (errors.Refused error) = Block error
record_error (errors.Read place error) = Read place.offset error
record_error errors.TooManyParts = TooManyParts
record_error (errors.Write error) = Write error

-- the error of the translation if this error ended the copy of the blocks; only the error for a cut-off block differs from `record_error`
abbrev pub block_error : PartError → CaptureError
block_error (errors.CutOff place required len) =
    Block (record { offset = place.offset; error = packet_errors.Block (block_errors.CutOff required len) })
block_error error = record_error error

-- the result of the translation if this is the result of the copy; `error_of` is the error for an error of the copy
abbrev pub of_copy : (PartError → CaptureError) → Result Extent PartError → Result (Unit {0}) CaptureError
of_copy error_of (Ok extent) = Ok tt
of_copy error_of (Err error) = Err (error_of error)

-- the result of the translation if this is the result of the copy of the records
abbrev pub of_records : Result Extent PartError → Result (Unit {0}) CaptureError
of_records copied = of_copy record_error copied

-- the result of the translation if this is the result of the copy of the blocks
abbrev pub of_blocks : Result Extent PartError → Result (Unit {0}) CaptureError
of_blocks copied = of_copy block_error copied
