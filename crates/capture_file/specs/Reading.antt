-- Reading a classic capture from a stream: its header and its records. The statements compare the bytes that are left in the stream before
-- and after a read.
use Rattle.std.specs.Prelude.{◌≡◌, ◌≢◌, ℕ, ◌+◌, ◌<◌, ◌≤◌, if◌then◌else◌, nat_lt, List, [], length, take, drop, Option, Some, None, IfSome, Result, Ok, Err}
use Rattle.std.specs.List.{AllByRecursion, concat}
use Rattle.std.specs.Io.KnownBytes.{Consumes, IsAtEnd}
use Rattle.capture_file.specs.Classic.{IsHeaderOf, IsPartial, IsRecord, capture_header_len, header_refusal, record_header, record_header_len, record_len}
use Rattle.capture_numbers.specs.declared.byte_order.ByteOrder.{ByteOrder}
use Rattle.capture_file.specs.declared.classic.capture_header.CaptureHeader.{CaptureHeader}
use Rattle.capture_file.specs.declared.classic.capture_header_error.CaptureHeaderError.{CaptureHeaderError}
use Rattle.capture_file.specs.declared.classic.read.NextRecord.{NextRecord}
use Rattle.capture_file.specs.declared.classic.read.NextRecord.TheVariants.{CutOff, End, TooLong, Whole}
use Rattle.capture_file.specs.declared.classic.record_header.RecordHeader.{RecordHeader}

-- ---- the header

-- 24 bytes were read and accepted, and they contain this header
pub record GivesHeader (left still_left : Option (List ℕ)) (header : CaptureHeader) : Type 0 where
  pub bytes : List ℕ
  pub has_len : length bytes ≡ capture_header_len
  pub consumed : Consumes left still_left bytes
  pub accepted : header_refusal bytes ≡ None
  pub is_header : IsHeaderOf bytes header

-- The first 24 bytes are refused with this error. If the input has fewer than 24 bytes, all its bytes are refused.
pub record RefusesHeader (left still_left : Option (List ℕ)) (error : CaptureHeaderError) : Type 0 where
  pub bytes : List ℕ
  pub first : IfSome left (λ all. bytes ≡ take capture_header_len all)
  pub consumed : Consumes left still_left bytes
  pub refused : header_refusal bytes ≡ Some error

-- the header of a capture was read, and is accepted or refused
abbrev pub ReadsHeader : Option (List ℕ) → Option (List ℕ) → Result CaptureHeader CaptureHeaderError → Type 0
ReadsHeader left still_left (Ok header) = GivesHeader left still_left header
ReadsHeader left still_left (Err error) = RefusesHeader left still_left error

-- ---- a record

-- The least length of a record that begins with these bytes. It is the length of the record's header if the header is incomplete, otherwise
-- the length of the record.
abbrev pub required_len : ByteOrder → List ℕ → ℕ
required_len order bytes = if nat_lt (length bytes) record_header_len then record_header_len else record_len order bytes

-- The bytes that were read determine the next item. The item is a record with its captured bytes at the front of the buffer, or a record
-- that is longer than the buffer. If no bytes were read, the item is the end of the input. If the record is incomplete, the item is
-- `CutOff`.
abbrev pub IsNext : ByteOrder → List ℕ → List ℕ → NextRecord → Type 0
IsNext order bytes buffer (Whole header) =
    IsRecord order bytes × (header ≡ record_header order bytes) × (header.captured_len ≤ length buffer)
    × (take header.captured_len buffer ≡ drop record_header_len bytes)
IsNext order bytes buffer (TooLong header) =
    IsRecord order bytes × (header ≡ record_header order bytes) × (length buffer < header.captured_len)
IsNext order bytes buffer End = bytes ≡ []
IsNext order bytes buffer (CutOff required len) =
    (bytes ≢ []) × IsPartial order bytes × (required ≡ required_len order bytes) × (len ≡ length bytes)

-- if the next item is the end of the capture or a record that is cut off, the input is at its end
abbrev pub IsLast : NextRecord → Option (List ℕ) → Type 0
IsLast End still_left = IsAtEnd still_left
IsLast (CutOff required len) still_left = IsAtEnd still_left
IsLast other still_left = Unit {0}

-- these bytes were read, and they determine the next item
pub record ReadsNext (order : ByteOrder) (left still_left : Option (List ℕ)) (buffer : List ℕ) (next : NextRecord) : Type 0 where
  pub bytes : List ℕ
  pub consumed : Consumes left still_left bytes
  pub is_next : IsNext order bytes buffer next
  pub is_last : IsLast next still_left

-- The captured bytes of a record were read, after its header. If the input has fewer bytes than that, all its bytes were read.
abbrev pub IsCaptured : RecordHeader → List ℕ → List ℕ → NextRecord → Type 0
IsCaptured header bytes buffer (Whole same) =
    (same ≡ header) × (length bytes ≡ header.captured_len) × (header.captured_len ≤ length buffer)
    × (take header.captured_len buffer ≡ bytes)
IsCaptured header bytes buffer (TooLong same) =
    (same ≡ header) × (length bytes ≡ header.captured_len) × (length buffer < header.captured_len)
IsCaptured header bytes buffer End = ⊥
IsCaptured header bytes buffer (CutOff required len) =
    (length bytes < header.captured_len) × (required ≡ record_header_len + header.captured_len) × (len ≡ record_header_len + length bytes)

-- these bytes were read after the header of a record, and they determine the next item
pub record ReadsCaptured (header : RecordHeader) (left still_left : Option (List ℕ)) (buffer : List ℕ) (next : NextRecord) : Type 0 where
  pub bytes : List ℕ
  pub consumed : Consumes left still_left bytes
  pub is_captured : IsCaptured header bytes buffer next
  pub is_last : IsLast next still_left

-- reading failed within a record, after a part of the record was read
pub record FailsInRecord (order : ByteOrder) (left still_left : Option (List ℕ)) : Type 0 where
  pub bytes : List ℕ
  pub consumed : Consumes left still_left bytes
  pub partial : IsPartial order bytes

-- these records were read in their order
pub record ReadsRecords (order : ByteOrder) (left still_left : Option (List ℕ)) (records : List (List ℕ)) : Type 0 where
  pub each : AllByRecursion (IsRecord order) records
  pub consumed : Consumes left still_left (concat records)
