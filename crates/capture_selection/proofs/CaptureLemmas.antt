-- The results of a whole selection.
use Rattle.std.proofs.Common.{◌≡◌, ◌==◌, ℕ, Bool, true, false, if◌then◌else◌, List, Option, Result, Ok, Err, inl, inr, refl, subst, sym}
use Rattle.capture_copy.specs.Captures.{PassesCapture}
use Rattle.capture_copy.specs.Records.{first_records, records_of}
use Rattle.capture_copy.specs.declared.extent.Extent.{Extent}
use Rattle.capture_copy.specs.declared.extent.Extent.TheVariants.{Enough, Whole}
use Rattle.capture_copy.specs.declared.part_error.PartError.{PartError}
use Rattle.capture_copy.specs.declared.part_error.PartError.TheVariants as errors
use Rattle.std.specs.declared.io.Error.{Error}
use Rattle.capture_file.specs.declared.classic.capture_header_error.CaptureHeaderError.{CaptureHeaderError}
use Rattle.capture_file.specs.declared.reader.open_error.OpenError.TheVariants.{Classic, Pcapng}
use Rattle.capture_request.specs.declared.capture_error.CaptureError.{CaptureError}
use Rattle.capture_request.specs.declared.capture_error.CaptureError.TheVariants.{Header, Read, ReadHeader, RecordCutOff, Refused, TooManyPackets}
use Rattle.capture_request.specs.declared.reached.Reached.{Reached}
use Rattle.capture_request.specs.declared.parts.Parts.{Parts}
use Rattle.capture_selection.specs.Captures.{SelectsBlocks, SelectsCapture}
use Rattle.capture_selection.specs.Selector.{block_error, selected, selection_of}
use Rattle.capture_selection.specs.declared.counts.Counts.{Counts}
use Rattle.capture_selection.specs.declared.selection_error.SelectionError.{SelectionError}
use Rattle.capture_selection.specs.declared.selection_error.SelectionError.TheVariants.{Capture, Write}

-- the records after the header of a capture were copied, up to a result
selects_copied : (options : Parts) (copied : Result Extent PartError) (left still_left held now_held : Option (List ℕ))
    (counts now_counts : Counts)
    → PassesCapture Extent (records_of (selection_of options)) first_records copied left still_left held now_held counts now_counts
    → SelectsCapture options (selected copied) left still_left held now_held counts now_counts
selects_copied options (Ok Whole) left still_left held now_held counts now_counts passes = inl (Ok Whole, refl, passes)
selects_copied options (Ok Enough) left still_left held now_held counts now_counts passes = inl (Ok Enough, refl, passes)
selects_copied options (Err (errors.CutOff place required len)) left still_left held now_held counts now_counts passes =
    inl (Err (errors.CutOff place required len), refl, passes)
selects_copied options (Err (errors.Refused error)) left still_left held now_held counts now_counts passes =
    inl (Err (errors.Refused error), refl, passes)
selects_copied options (Err (errors.Read place error)) left still_left held now_held counts now_counts passes =
    inl (Err (errors.Read place error), refl, passes)
selects_copied options (Err errors.TooManyParts) left still_left held now_held counts now_counts passes =
    inl (Err errors.TooManyParts, refl, passes)
selects_copied options (Err (errors.Write error)) left still_left held now_held counts now_counts passes = tt

-- the same of the result that follows from the result of the copy
pub selects_capture : (options : Parts) (result : Result Reached SelectionError) (copied : Result Extent PartError)
    (left still_left held now_held : Option (List ℕ)) (counts now_counts : Counts)
    → result ≡ selected copied
    → PassesCapture Extent (records_of (selection_of options)) first_records copied left still_left held now_held counts now_counts
    → SelectsCapture options result left still_left held now_held counts now_counts
selects_capture options result copied left still_left held now_held counts now_counts is passes =
    subst (λ given. SelectsCapture options given left still_left held now_held counts now_counts) (sym is)
    (selects_copied options copied left still_left held now_held counts now_counts passes)

-- an error is one of two errors
either : (is_first : Bool) (header error given : SelectionError) → (given ≡ header → ⊥) → (given ≡ error → ⊥)
    → given ≡ (if is_first then header else error) → ⊥
either true header error given no_header no_error is = no_header is
either false header error given no_header no_error is = no_error is

no_classic : (error : PartError) (refused : CaptureHeaderError) → Capture (Header (Classic refused)) ≡ block_error error → ⊥
no_classic (errors.CutOff place required len) refused is =
    either (place.offset == 0) _ _ _ (λ same. cc same) (λ same. cc same) is
no_classic (errors.Refused error) refused is = either (error.offset == 0) _ _ _ (λ same. cc same) (λ same. cc same) is
no_classic (errors.Read place error) refused is = cc is
no_classic errors.TooManyParts refused is = cc is
no_classic (errors.Write error) refused is = cc is

no_unread : (error : PartError) (read : Error) → Capture (ReadHeader read) ≡ block_error error → ⊥
no_unread (errors.CutOff place required len) read is = either (place.offset == 0) _ _ _ (λ same. cc same) (λ same. cc same) is
no_unread (errors.Refused error) read is = either (error.offset == 0) _ _ _ (λ same. cc same) (λ same. cc same) is
no_unread (errors.Read place error) read is = cc is
no_unread errors.TooManyParts read is = cc is
no_unread (errors.Write error) read is = cc is

-- the copy of the blocks of a file does not end with this error
no_blocks : (options : Parts) (error : CaptureError) (left still_left held now_held : Option (List ℕ)) (counts now_counts : Counts)
    → ((given : PartError) → Capture error ≡ block_error given → ⊥)
    → SelectsBlocks options (Err (Capture error)) left still_left held now_held counts now_counts → ⊥
no_blocks options error left still_left held now_held counts now_counts none (inl (Ok Whole, is, passes)) = cc is
no_blocks options error left still_left held now_held counts now_counts none (inl (Ok Enough, is, passes)) = cc is
no_blocks options error left still_left held now_held counts now_counts none (inl (Err given, is, passes)) =
    none given (cc is)
no_blocks options error left still_left held now_held counts now_counts none (inr (begins, full, nothing, is)) = cc is

-- blocks of a pcapng file, up to a result
pub selects_blocks : (options : Parts) (result : Result Reached SelectionError) (left still_left held now_held : Option (List ℕ))
    (counts now_counts : Counts)
    → SelectsBlocks options result left still_left held now_held counts now_counts
    → SelectsCapture options result left still_left held now_held counts now_counts
selects_blocks options (Ok done) left still_left held now_held counts now_counts selects = inr selects
selects_blocks options (Err (Write error)) left still_left held now_held counts now_counts selects = tt
selects_blocks options (Err (Capture (Read number offset error))) left still_left held now_held counts now_counts selects = inr selects
selects_blocks options (Err (Capture (RecordCutOff number offset required len))) left still_left held now_held counts now_counts selects =
    inr selects
selects_blocks options (Err (Capture (Refused error))) left still_left held now_held counts now_counts selects = inr selects
selects_blocks options (Err (Capture TooManyPackets)) left still_left held now_held counts now_counts selects = inr selects
selects_blocks options (Err (Capture (Header (Pcapng error)))) left still_left held now_held counts now_counts selects = selects
selects_blocks options (Err (Capture (Header (Classic error)))) left still_left held now_held counts now_counts selects =
    absurd (no_blocks options (Header (Classic error)) left still_left held now_held counts now_counts
    (λ given. no_classic given error) selects)
selects_blocks options (Err (Capture (ReadHeader error))) left still_left held now_held counts now_counts selects =
    absurd (no_blocks options (ReadHeader error) left still_left held now_held counts now_counts (λ given. no_unread given error) selects)
