-- The translation of a whole capture.
use Rattle.std.specs.Prelude.{◌≡◌, ◌⊎◌, ℕ, List, ⊤, Option, Result, Ok, Err}
use Rattle.capture_copy.specs.Captures.{IsNoPcapng, PassesCapture, PassesFile}
use Rattle.capture_copy.specs.Records.{first_records, records_of}
use Rattle.capture_copy.specs.declared.extent.Extent.{Extent}
use Rattle.capture_copy.specs.declared.part_error.PartError.{PartError}
use Rattle.capture_file.specs.Reading.{RefusesHeader}
use Rattle.translator.specs.Translation.{of_blocks, of_records, translation_of}
use Rattle.translator.specs.declared.capture_error.CaptureError.{CaptureError}
use Rattle.translator.specs.declared.capture_error.CaptureError.TheVariants.{Block, Header, Read, RecordCutOff, TooManyParts, Write}
use Rattle.translator.specs.declared.counts.Counts.{Counts}
use Rattle.translator.specs.declared.table.Table.{Table}

-- A classic capture was translated up to this result. Its header was copied, and then its records were copied with translated packets. The
-- result of this copy, as `of_records` states it, is the result of the translation.
abbrev pub TranslatesRecords : Table → Result (Unit {0}) CaptureError → Option (List ℕ) → Option (List ℕ) → Option (List ℕ)
    → Option (List ℕ)
    → Counts → Counts → Type 0
TranslatesRecords table result left still_left held now_held counts now_counts =
    (copied : Result Extent PartError) × (result ≡ of_records copied)
    × PassesCapture Extent (records_of (translation_of table)) first_records copied left still_left held now_held counts now_counts

-- A pcapng file was translated up to this result. Its blocks were copied with translated packets. The result of this copy, as `of_blocks`
-- states it, is the result of the translation. If the first block is refused or cut off, nothing was written. This follows from
-- `IsBlockEnd` and `writes_front` in capture_copy.
abbrev pub TranslatesBlocks : Table → Result (Unit {0}) CaptureError → Option (List ℕ) → Option (List ℕ) → Option (List ℕ) → Option (List ℕ)
    → Counts → Counts → Type 0
TranslatesBlocks table result left still_left held now_held counts now_counts =
    (copied : Result Extent PartError) × (result ≡ of_blocks copied)
    × PassesFile (translation_of table) copied left still_left held now_held counts now_counts

-- a capture of one of the two formats was translated up to this result
abbrev pub TranslatesEither : Table → Result (Unit {0}) CaptureError → Option (List ℕ) → Option (List ℕ) → Option (List ℕ) → Option (List ℕ)
    → Counts
    → Counts → Type 0
TranslatesEither table result left still_left held now_held counts now_counts =
    TranslatesRecords table result left still_left held now_held counts now_counts
    ⊎ TranslatesBlocks table result left still_left held now_held counts now_counts

-- nothing was written, and no packet was counted
abbrev pub TranslatesNothing : Option (List ℕ) → Option (List ℕ) → Counts → Counts → Type 0
TranslatesNothing held now_held counts now_counts = (now_held ≡ held) × (now_counts ≡ counts)

-- A capture was translated up to this result. Nothing was written if the header of a classic capture is refused, or if the first bytes of
-- the capture can't be read. If a write failed, nothing is stated.
abbrev pub TranslatesCapture : Table → Result (Unit {0}) CaptureError → Option (List ℕ) → Option (List ℕ) → Option (List ℕ)
    → Option (List ℕ) → Counts
    → Counts → Type 0
TranslatesCapture table (Ok given) left still_left held now_held counts now_counts =
    TranslatesEither table (Ok given) left still_left held now_held counts now_counts
TranslatesCapture table (Err (Header error)) left still_left held now_held counts now_counts =
    IsNoPcapng left × RefusesHeader left still_left error × TranslatesNothing held now_held counts now_counts
TranslatesCapture table (Err (Read offset error)) left still_left held now_held counts now_counts =
    ((offset ≡ 0) × TranslatesNothing held now_held counts now_counts)
    ⊎ TranslatesEither table (Err (Read offset error)) left still_left held now_held counts now_counts
TranslatesCapture table (Err (RecordCutOff offset required_len len)) left still_left held now_held counts now_counts =
    TranslatesRecords table (Err (RecordCutOff offset required_len len)) left still_left held now_held counts now_counts
TranslatesCapture table (Err (Block error)) left still_left held now_held counts now_counts =
    TranslatesBlocks table (Err (Block error)) left still_left held now_held counts now_counts
TranslatesCapture table (Err TooManyParts) left still_left held now_held counts now_counts =
    TranslatesEither table (Err TooManyParts) left still_left held now_held counts now_counts
TranslatesCapture table (Err (Write error)) left still_left held now_held counts now_counts = ⊤
