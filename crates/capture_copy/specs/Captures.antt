-- The beginning of a capture, which determines its format, and the copy of a whole capture in either format.
use Rattle.std.specs.Prelude.{◌≡◌, true, false, List, ℕ, take, ⊤, Option, IfSome, Result, Ok, Err}
use Rattle.std.specs.Io.KnownBytes.{Appends, Consumes}
use Rattle.capture_file.specs.Opening.{SaysHeader}
use Rattle.capture_file.specs.Pcapng.{is_section_header}
use Rattle.capture_file.specs.Reading.{RefusesHeader}
use Rattle.capture_file.specs.declared.classic.capture_header.CaptureHeader.{CaptureHeader}
use Rattle.capture_file.specs.declared.classic.capture_header_error.CaptureHeaderError.{CaptureHeaderError}
use Rattle.capture_numbers.specs.Blocks.{min_block_len}
use Rattle.capture_copy.specs.Blocks.{IsFileStart, blocks_of}
use Rattle.capture_copy.specs.Passing.{Format, PassesTo}
use Rattle.capture_copy.specs.Visits.{Visits}
use Rattle.capture_copy.specs.declared.blocks.Blocks.{Blocks}
use Rattle.capture_copy.specs.declared.copier.CopyError.{CopyError}
use Rattle.capture_copy.specs.declared.copier.CopyError.TheVariants.{Read, Write}
use Rattle.capture_copy.specs.declared.extent.Extent.{Extent}
use Rattle.capture_copy.specs.declared.part_error.PartError.{PartError}

-- the first 12 bytes of an input, if they are known, begin with the type of a section header block; no block is shorter than 12 bytes
abbrev pub IsPcapng : Option (List ℕ) → Type 0
IsPcapng left = IfSome left (λ all. is_section_header (take min_block_len all) ≡ true)

-- the first 12 bytes of an input, if they are known, do not begin with the type of a section header block
abbrev pub IsNoPcapng : Option (List ℕ) → Type 0
IsNoPcapng left = IfSome left (λ all. is_section_header (take min_block_len all) ≡ false)

-- the header of a classic capture was read, and its bytes were written unchanged
pub record CopiesHeader (header : CaptureHeader) (left still_left held now_held : Option (List ℕ)) : Type 0 where
  pub bytes : List ℕ
  pub says : SaysHeader bytes (Ok header)
  pub consumed : Consumes left still_left bytes
  pub appended : Appends held now_held bytes

-- The header of a classic capture was copied, or the call failed. If the header is refused or reading failed, nothing was written. If
-- writing failed, nothing is stated.
abbrev pub BeginsCapture : Result (Result CaptureHeader CaptureHeaderError) CopyError → Option (List ℕ) → Option (List ℕ) → Option (List ℕ)
    → Option (List ℕ) → Type 0
BeginsCapture (Ok (Ok header)) left still_left held now_held = CopiesHeader header left still_left held now_held
BeginsCapture (Ok (Err error)) left still_left held now_held = RefusesHeader left still_left error × (now_held ≡ held)
BeginsCapture (Err (Read error)) left still_left held now_held = now_held ≡ held
BeginsCapture (Err (Write error)) left still_left held now_held = ⊤

-- A classic capture was copied up to this result: first its header, and then its records, as `PassesTo` states. `first` determines the
-- state before the first record from the header.
pub record PassesCapture (A : Type 0) (format : Format) (first : CaptureHeader → format.State) (result : Result A format.Error)
    (left still_left held now_held : Option (List ℕ)) (counts now_counts : format.Counts) : Type 0 where
  pub header : CaptureHeader
  pub middle : Option (List ℕ)
  pub then_held : Option (List ℕ)
  pub copies : CopiesHeader header left middle held then_held
  pub after : format.State
  pub passes : PassesTo format result (first header) after middle still_left then_held now_held counts now_counts

-- A pcapng file was copied up to this result, block by block. The file begins with the type of a section header block.
pub record PassesFile {Outcome Counts : Type 0} (visits : Visits Outcome Counts) (result : Result Extent PartError)
    (left still_left held now_held : Option (List ℕ)) (counts now_counts : Counts) : Type 0 where
  pub is_pcapng : IsPcapng left
  pub start : Blocks
  pub is_start : IsFileStart start
  pub after : Blocks
  pub passes : PassesTo (blocks_of visits) result start after left still_left held now_held counts now_counts
