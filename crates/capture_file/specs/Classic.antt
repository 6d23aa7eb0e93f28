-- The classic format of a capture file (draft-ietf-opsawg-pcap, sections 4 and 5): the header, the records, and the division of a file into
-- records.
use Rattle.std.specs.Prelude.{◌≡◌, ℕ, ◌+◌, ◌%◌, ◌<◌, ◌≤◌, ◌==◌, ◌||◌, ◌&&◌, ◌⊎◌, not, nat_le, nat_lt, ok_or, Bool, if◌then◌else◌, Result, List, [], ◌∷◌, ◌++◌, length, take, Option, Some, None, is_none}
use Rattle.std.specs.List.{AllByRecursion, concat}
use Rattle.std.specs.Option.{option_map, option_or}
use Rattle.std.specs.Map.{lookup}
use Rattle.net_base.specs.Bytes.{be_number}
use Rattle.net_base.specs.Refusals.{first_of, refused_if}
use Rattle.capture_numbers.specs.Blocks.{section_header_type}
use Rattle.capture_numbers.specs.declared.byte_order.ByteOrder.{ByteOrder}
use Rattle.capture_numbers.specs.declared.byte_order.ByteOrder.TheVariants.{BigEndian, LittleEndian}
use Rattle.capture_numbers.specs.LinkTypes.{link_type_with}
use Rattle.capture_numbers.specs.Numbers.{number_at, short_at}
use Rattle.capture_file.specs.declared.classic.capture_header.CaptureHeader.{CaptureHeader}
use Rattle.capture_file.specs.declared.classic.capture_header_error.CaptureHeaderError.{CaptureHeaderError}
use Rattle.capture_file.specs.declared.classic.capture_header_error.CaptureHeaderError.TheVariants.{CutOff, Magic, Modified, Pcapng, Version}
use Rattle.capture_numbers.specs.declared.link_type.LinkType.{LinkType}
use Rattle.capture_file.specs.declared.classic.record_header.RecordHeader.{RecordHeader}
use Rattle.capture_file.specs.declared.classic.record_header.Resolution.{Resolution}
use Rattle.capture_file.specs.declared.classic.record_header.Resolution.TheVariants.{Microseconds, Nanoseconds}

-- ---- the header of a capture (section 4)

-- the length of the header
abbrev pub capture_header_len : ℕ
capture_header_len = 24

-- the magic numbers, and the resolution that each of them means
abbrev pub magic_numbers : List (ℕ × Resolution)
magic_numbers = (0xA1B2C3D4, Microseconds) ∷ (0xA1B23C4D, Nanoseconds) ∷ []

-- the resolution that this magic number means, or `None` if it is not a magic number
abbrev pub resolution_with : ℕ → Option Resolution
resolution_with magic = lookup (λ number. magic == number) magic_numbers

-- the link type with this number, or the number itself if the link type is unknown
abbrev pub link_type_or_number : ℕ → Result LinkType ℕ
link_type_or_number number = ok_or (link_type_with number) number

-- the number of the link type: the low 16 bits of bytes 20 to 23
abbrev pub link_number : ByteOrder → List ℕ → ℕ
link_number order bytes = number_at order bytes 20 % 65536

-- The header of the capture that begins with these bytes. In the byte order of the header, bytes 0 to 3 are the magic number of its
-- resolution. Bytes 16 to 19 are the snap length, and the low 16 bits of bytes 20 to 23 are the number of the link type. If this link type
-- is unknown, the header contains the number.
pub record IsHeaderOf (bytes : List ℕ) (header : CaptureHeader) : Type 0 where
  pub resolution : resolution_with (number_at header.byte_order bytes 0) ≡ Some header.resolution
  pub snap_len : header.snap_len ≡ number_at header.byte_order bytes 16
  pub link_type : header.link_type ≡ link_type_or_number (link_number header.byte_order bytes)

-- this byte order, and the resolution that the first four bytes state in it; `None` if they are not a magic number in this byte order
abbrev pub form_in : ByteOrder → List ℕ → Option (ByteOrder × Resolution)
form_in order bytes = option_map (λ resolution. (order, resolution)) (resolution_with (number_at order bytes 0))

-- The byte order in which the first four bytes are a magic number, and the resolution that this number means. `None` if these bytes are not
-- a magic number in either byte order.
abbrev pub form_of : List ℕ → Option (ByteOrder × Resolution)
form_of bytes = option_or (form_in BigEndian bytes) (form_in LittleEndian bytes)

-- the magic number of the modified format of older Linux systems, whose records have longer headers (libpcap)
abbrev pub modified_magic : ℕ
modified_magic = 0xA1B2CD34

-- the error for a file whose first four bytes are none of the magic numbers in `magic_numbers`
abbrev pub magic_error : List ℕ → CaptureHeaderError
magic_error bytes =
    if number_at BigEndian bytes 0 == modified_magic || number_at LittleEndian bytes 0 == modified_magic then Modified
    else Magic (be_number bytes 0 4)

-- a file of this version can be read: the major version is 2, and the minor version is at least 4
abbrev pub is_version_read : ℕ → ℕ → Bool
is_version_read major minor = major == 2 && nat_le 4 minor

-- The error for a version that can't be read. Without a magic number the result is `None`, since `magic_error` refuses the bytes.
abbrev pub version_refusal : Option (ByteOrder × Resolution) → List ℕ → Option CaptureHeaderError
version_refusal None bytes = None
version_refusal (Some form) bytes =
    refused_if (not (is_version_read (short_at form.0 bytes 4) (short_at form.0 bytes 6)))
    (Version (short_at form.0 bytes 4) (short_at form.0 bytes 6))

-- The error that refuses the header of a capture, if there is one. If several errors apply, the first one counts. The first check refuses a
-- pcapng file, which begins with the type of a section header block.
abbrev pub header_refusal : List ℕ → Option CaptureHeaderError
header_refusal bytes = first_of (
    refused_if (be_number bytes 0 4 == section_header_type) Pcapng
    ∷ refused_if (nat_lt (length bytes) capture_header_len) (CutOff (length bytes))
    ∷ refused_if (is_none (form_of bytes)) (magic_error bytes)
    ∷ version_refusal (form_of bytes) bytes
    ∷ [])

-- ---- the records (section 5)

-- the length of a record header
abbrev pub record_header_len : ℕ
record_header_len = 16

-- the record header at the front of these bytes
abbrev pub record_header : ByteOrder → List ℕ → RecordHeader
record_header order bytes = record {
  time = record { seconds = number_at order bytes 0; fraction = number_at order bytes 4 };
  captured_len = number_at order bytes 8;
  original_len = number_at order bytes 12;
}

-- the length of the record at the front of these bytes: the length of the record's header plus the captured length
abbrev pub record_len : ByteOrder → List ℕ → ℕ
record_len order bytes = record_header_len + number_at order bytes 8

-- the bytes are exactly one record
abbrev pub IsRecord : ByteOrder → List ℕ → Type 0
IsRecord order bytes = length bytes ≡ record_len order bytes

-- the bytes do not begin with a whole record: they end within the header of a record, or within its captured bytes
abbrev pub IsPartial : ByteOrder → List ℕ → Type 0
IsPartial order bytes = (length bytes < record_header_len) ⊎ (length bytes < record_len order bytes)

-- The bytes consist of these records, one after the other, and a rest that does not begin with a whole record.
pub record IsReading (order : ByteOrder) (bytes : List ℕ) (records : List (List ℕ)) (rest : List ℕ) : Type 0 where
  pub whole : bytes ≡ concat records ++ rest
  pub each : AllByRecursion (IsRecord order) records
  pub partial : IsPartial order rest

-- After a cut, only the first `cut` bytes are left. `cut_records` are the records that end at or before the cut. If there is a next record,
-- it ends after the cut.
pub record AreBeforeCut (cut : ℕ) (records cut_records : List (List ℕ)) : Type 0 where
  pub count : ℕ
  pub first : cut_records ≡ take count records
  pub within : length (concat cut_records) ≤ cut
  pub next : count < length records → cut < length (concat (take (count + 1) records))
