-- The selection as a visitor.
use Rattle.std.proofs.Common.{◌≡◌, ◌==◌, ◌≤◌, ◌+◌, ℕ, Bool, Option, Some, None, Result, Ok, Err, false, true, arith, if◌then◌else◌, refl}
use Rattle.std.proofs.lemmas.Bool.Decides.{nat_tests}
use Rattle.capture_copy.specs.Visits.{EndsWithEnough}
use Rattle.capture_copy.specs.declared.extent.Extent.{Extent}
use Rattle.capture_copy.specs.declared.extent.Extent.TheVariants.{Enough, Whole}
use Rattle.capture_copy.specs.declared.part_error.PartError.{PartError}
use Rattle.capture_copy.specs.declared.part_error.PartError.TheVariants.{CutOff, Read, Refused, TooManyParts, Write}
use Rattle.capture_file.specs.declared.pcapng.errors.BlockError.TheVariants as block_errors
use Rattle.capture_file.specs.declared.reader.open_error.OpenError.{OpenError}
use Rattle.capture_file.specs.declared.reader.open_error.OpenError.TheVariants.{Pcapng}
use Rattle.capture_file.specs.declared.reader.packet_error.PacketError.TheVariants as packet_errors
use Rattle.capture_request.specs.declared.capture_error.CaptureError.TheVariants.{Header}
use Rattle.capture_request.specs.Limits.{IsWithin, is_full}
use Rattle.capture_request.specs.declared.reached.Reached.TheVariants.{End}
use Rattle.capture_selection.specs.Captures.{EndsAtLimit}
use Rattle.capture_selection.specs.Selector.{selected, selected_blocks, selection_error}
use Rattle.capture_selection.specs.declared.selection_error.SelectionError.{SelectionError}
use Rattle.capture_selection.specs.declared.selection_error.SelectionError.TheVariants.{Capture}

-- a number of packets is within the limit after another packet, if the limit was not reached before
pub within_one : (limit : Option ℕ) (written now_written : ℕ) → is_full limit written ≡ false → now_written ≤ written + 1
    → IsWithin limit now_written
within_one None written now_written below one = tt
within_one (Some limit) written now_written below one = grind (arith, nat_tests)

-- the requested number of packets was written if and only if enough packets were read
pub limit_of : (limit : Option ℕ) (written : ℕ) (copied : Result Extent PartError) → EndsWithEnough (is_full limit written) copied
    → EndsAtLimit limit written (selected copied)
limit_of limit written (Ok Whole) enough = enough
limit_of limit written (Ok Enough) enough = enough
limit_of limit written (Err (CutOff place required len)) enough = enough
limit_of limit written (Err (Refused error)) enough = enough
limit_of limit written (Err (Read place error)) enough = enough
limit_of limit written (Err TooManyParts) enough = tt
limit_of limit written (Err (Write error)) enough = tt

-- the selection reached the end of the capture only if the copy did
pub whole_of : (copied : Result Extent PartError) → selected copied ≡ Ok End → copied ≡ Ok Whole
whole_of (Ok Whole) is = refl
whole_of (Ok Enough) is = absurd (cc is)
whole_of (Err error) is = absurd (cc is)

-- nothing is stated about errors of the header
limit_if : (limit : Option ℕ) (written : ℕ) (is_first : Bool) (header : OpenError) (error : SelectionError)
    → EndsAtLimit limit written (Err error)
    → EndsAtLimit limit written (Err (if is_first then Capture (Header header) else error))
limit_if limit written true header error ends = tt
limit_if limit written false header error ends = ends

-- the same of a pcapng file
pub limit_of_blocks : (limit : Option ℕ) (written : ℕ) (copied : Result Extent PartError) → EndsWithEnough (is_full limit written) copied
    → EndsAtLimit limit written (selected_blocks copied)
limit_of_blocks limit written (Ok Whole) enough = enough
limit_of_blocks limit written (Ok Enough) enough = enough
limit_of_blocks limit written (Err (CutOff place required len)) enough =
    limit_if limit written (place.offset == 0) (Pcapng (packet_errors.Block (block_errors.CutOff required len)))
    (selection_error (CutOff place required len)) enough
limit_of_blocks limit written (Err (Refused error)) enough =
    limit_if limit written (error.offset == 0) (Pcapng error.error) (selection_error (Refused error)) enough
limit_of_blocks limit written (Err (Read place error)) enough = enough
limit_of_blocks limit written (Err TooManyParts) enough = tt
limit_of_blocks limit written (Err (Write error)) enough = tt

pub whole_of_blocks : (copied : Result Extent PartError) → selected_blocks copied ≡ Ok End → copied ≡ Ok Whole
whole_of_blocks (Ok Whole) is = refl
whole_of_blocks (Ok Enough) is = absurd (cc is)
whole_of_blocks (Err error) is = absurd (cc is)
