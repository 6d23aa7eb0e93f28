-- The selection of a whole capture.
use Rattle.std.specs.Prelude.{◌≡◌, ◌⊎◌, ℕ, true, List, ⊤, Option, Result, Ok, Err}
use Rattle.capture_copy.specs.Captures.{IsNoPcapng, IsPcapng, PassesCapture, PassesFile}
use Rattle.capture_copy.specs.Records.{first_records, records_of}
use Rattle.capture_copy.specs.declared.extent.Extent.{Extent}
use Rattle.capture_copy.specs.declared.part_error.PartError.{PartError}
use Rattle.capture_file.specs.Reading.{RefusesHeader}
use Rattle.capture_file.specs.declared.reader.open_error.OpenError.TheVariants.{Classic, Pcapng}
use Rattle.capture_request.specs.declared.capture_error.CaptureError.TheVariants.{Header, ReadHeader}
use Rattle.capture_request.specs.declared.reached.Reached.{Reached}
use Rattle.capture_request.specs.declared.reached.Reached.TheVariants.{Limit}
use Rattle.capture_request.specs.Limits.{EndsByLimit, is_full}
use Rattle.capture_request.specs.declared.parts.Parts.{Parts}
use Rattle.capture_selection.specs.Selector.{selected, selected_blocks, selection_of}
use Rattle.capture_selection.specs.declared.counts.Counts.{Counts}
use Rattle.capture_selection.specs.declared.selection_error.SelectionError.{SelectionError}
use Rattle.capture_selection.specs.declared.selection_error.SelectionError.TheVariants.{Capture, Write}

-- The selection of a classic capture up to this result. Its header was copied, and then its records were copied or left out. The result of
-- this copy, as `selected` states it, is the result of the selection.
abbrev pub SelectsRecords : Parts → Result Reached SelectionError → Option (List ℕ) → Option (List ℕ) → Option (List ℕ) → Option (List ℕ)
    → Counts → Counts → Type 0
SelectsRecords options result left still_left held now_held counts now_counts =
    (copied : Result Extent PartError) × (result ≡ selected copied)
    × PassesCapture Extent (records_of (selection_of options)) first_records copied left still_left held now_held counts now_counts

-- nothing was written, and no packet was counted
abbrev pub SelectsNothing : Option (List ℕ) → Option (List ℕ) → Counts → Counts → Type 0
SelectsNothing held now_held counts now_counts = (now_held ≡ held) × (now_counts ≡ counts)

-- The selection of a pcapng file up to this result. Its blocks were copied or left out. The result of this copy, as `selected_blocks`
-- states it, is the result of the selection. If the requested number of packets was reached before the file, nothing was written.
abbrev pub SelectsBlocks : Parts → Result Reached SelectionError → Option (List ℕ) → Option (List ℕ) → Option (List ℕ) → Option (List ℕ)
    → Counts → Counts → Type 0
SelectsBlocks options result left still_left held now_held counts now_counts =
    ((copied : Result Extent PartError) × (result ≡ selected_blocks copied)
    × PassesFile (selection_of options) copied left still_left held now_held counts now_counts)
    ⊎ (IsPcapng left × (is_full options.limit counts.written ≡ true) × SelectsNothing held now_held counts now_counts
    × (result ≡ Ok Limit))

-- The selection of a capture up to this result. If the header of a classic capture is refused or can't be read, nothing was written. A
-- pcapng file does not cause an error for the header of a classic capture. If a write failed, nothing is stated.
abbrev pub SelectsCapture : Parts → Result Reached SelectionError → Option (List ℕ) → Option (List ℕ) → Option (List ℕ) → Option (List ℕ)
    → Counts → Counts → Type 0
SelectsCapture options (Err (Capture (Header (Classic error)))) left still_left held now_held counts now_counts =
    RefusesHeader left still_left error × IsNoPcapng left
    × SelectsNothing held now_held counts now_counts
SelectsCapture options (Err (Capture (Header (Pcapng error)))) left still_left held now_held counts now_counts =
    SelectsBlocks options (Err (Capture (Header (Pcapng error)))) left still_left held now_held counts now_counts
SelectsCapture options (Err (Capture (ReadHeader error))) left still_left held now_held counts now_counts =
    SelectsNothing held now_held counts now_counts
SelectsCapture options (Err (Write error)) left still_left held now_held counts now_counts = ⊤
SelectsCapture options result left still_left held now_held counts now_counts =
    SelectsRecords options result left still_left held now_held counts now_counts
    ⊎ SelectsBlocks options result left still_left held now_held counts now_counts

-- If the result states that the limit was reached, the requested number of packets was written. Otherwise fewer were written. Nothing
-- is stated about errors of the header, about failed writes, or about too many packets.
abbrev pub EndsAtLimit : Option ℕ → ℕ → Result Reached SelectionError → Type 0
EndsAtLimit limit written (Ok reached) = EndsByLimit limit written (Ok reached)
EndsAtLimit limit written (Err (Capture error)) = EndsByLimit limit written (Err error)
EndsAtLimit limit written (Err (Write error)) = ⊤
