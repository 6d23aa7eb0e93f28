-- The records of a classic capture as parts (draft-ietf-opsawg-pcap, section 5).
use Rattle.std.specs.Prelude.{◌≡◌, ◌≢◌, ◌<◌, ◌≤◌, ◌++◌, ◌⊎◌, ℕ, List, [], drop, length, take, Some, None}
use Rattle.capture_file.specs.Classic.{IsPartial, IsRecord, capture_header_len, record_header, record_header_len, record_len}
use Rattle.capture_file.specs.Packets.{classic_time, offset_after_record, packet_of_record}
use Rattle.capture_file.specs.Reading.{required_len}
use Rattle.capture_file.specs.declared.classic.capture_header.CaptureHeader.{CaptureHeader}
use Rattle.capture_file.specs.declared.classic.record_header.RecordHeader.{RecordHeader}
use Rattle.capture_file.specs.declared.packet_time.PacketTime.{PacketTime}
use Rattle.capture_numbers.specs.declared.byte_order.ByteOrder.{ByteOrder}
use Rattle.capture_copy.specs.Parts.{WritesFront, format_of}
use Rattle.capture_copy.specs.Passing.{Format, Part, one_more}
use Rattle.capture_copy.specs.Visits.{Visits, written_if}
use Rattle.capture_copy.specs.declared.copier.TheConstants.{BUFFER_LEN}
use Rattle.capture_copy.specs.declared.part_error.PartError.{PartError}
use Rattle.capture_copy.specs.declared.part_error.PartError.TheVariants.{CutOff, Read, Refused, TooManyParts, Write}
use Rattle.capture_copy.specs.declared.records.Records.{Records}

-- ---- whole records

-- the captured length in the header of the record that begins with these bytes
abbrev pub captured_len : CaptureHeader → List ℕ → ℕ
captured_len capture bytes = (record_header capture.byte_order bytes).captured_len

-- the time in the header of the record that begins with these bytes
abbrev pub record_time : CaptureHeader → List ℕ → PacketTime
record_time capture bytes = classic_time capture.resolution (record_header capture.byte_order bytes).time

-- The packet of a record was visited. The captured bytes of the record follow its header. If the packet is written, the header is written
-- as it was read, and after it the bytes that the visitor left.
pub record VisitsRecord {Outcome Counts : Type 0} (visits : Visits Outcome Counts) (capture : CaptureHeader) (part : Part Outcome) : Type 0 where
  pub after : List ℕ
  pub outcome : Outcome
  pub visited : visits.visits (packet_of_record capture (record_header capture.byte_order part.read)) (drop record_header_len part.read)
      after outcome
  pub is_written : part.written ≡ written_if (visits.is_written outcome) (take record_header_len part.read ++ after)
  pub has_outcome : part.outcome ≡ Some outcome

-- The packet of a record does not fit in the buffer. If the packet is written, the record is written as it was read.
pub record VisitsLongRecord {Outcome Counts : Type 0} (visits : Visits Outcome Counts) (capture : CaptureHeader) (part : Part Outcome) : Type 0 where
  pub outcome : Outcome
  pub visited : visits.visits_long (captured_len capture part.read) (Some (record_time capture part.read)) outcome
  pub is_written : part.written ≡ written_if (visits.is_written outcome) part.read
  pub has_outcome : part.outcome ≡ Some outcome

-- the record that begins with these bytes has more captured bytes than fit in the buffer
abbrev pub IsLongRecord : CaptureHeader → List ℕ → Type 0
IsLongRecord capture bytes = BUFFER_LEN < captured_len capture bytes

-- exactly one record of this capture was read, and its packet was visited
pub record IsRecordPart {Outcome Counts : Type 0} (visits : Visits Outcome Counts) (capture : CaptureHeader) (part : Part Outcome) : Type 0 where
  pub is_record : IsRecord capture.byte_order part.read
  pub visited : ((captured_len capture part.read ≤ BUFFER_LEN) × VisitsRecord visits capture part)
      ⊎ (IsLongRecord capture part.read × VisitsLongRecord visits capture part)

-- ---- places

-- the state after a record with this header; both numbers of its place are at most 2^64 - 1
abbrev pub passed : Records → RecordHeader → Records
passed records header = record {
  header = records.header;
  place = record { number = one_more records.place.number; offset = offset_after_record records.place.offset header };
}

-- the state after the record that begins with these bytes
abbrev pub records_after : Records → List ℕ → Records
records_after records bytes = passed records (record_header records.header.byte_order bytes)

-- the state before the first record of a capture; the record begins after the header of the capture
abbrev pub first_records : CaptureHeader → Records
first_records header = record { header = header; place = record { number = 1; offset = capture_header_len } }

-- ---- ends within a record

-- The bytes begin with a record, and end within it. `len` is their number. `required` is the length of the record, or of its header if the
-- header is incomplete.
abbrev pub IsCutRecord : ByteOrder → List ℕ → ℕ → ℕ → Type 0
IsCutRecord order bytes required len =
    (bytes ≢ []) × IsPartial order bytes × (required ≡ required_len order bytes) × (len ≡ length bytes)

-- the bytes are a record or its first bytes
abbrev pub IsRecordFront : ByteOrder → List ℕ → Type 0
IsRecordFront order bytes = (length bytes < record_header_len) ⊎ (length bytes ≤ record_len order bytes)

-- the packet of the record is not counted, and this was written for the first bytes of the record
abbrev pub EndsRecord : {Outcome Counts : Type 0} → Visits Outcome Counts → CaptureHeader → Part Outcome → Type 0
EndsRecord visits capture part =
    (part.outcome ≡ None) × WritesFront visits.writes_all (IsLongRecord capture part.read) part.read part.written

-- this error ended the copy within a record
abbrev pub IsRecordEnd : {Outcome Counts : Type 0} → Visits Outcome Counts → Records → Part Outcome → PartError → Type 0
IsRecordEnd visits records part (CutOff place required len) =
    (place ≡ records.place) × EndsRecord visits records.header part × IsCutRecord records.header.byte_order part.read required len
IsRecordEnd visits records part (Read place error) =
    (place ≡ records.place) × EndsRecord visits records.header part × IsRecordFront records.header.byte_order part.read
IsRecordEnd visits records part (Refused error) = ⊥
IsRecordEnd visits records part TooManyParts = ⊥
IsRecordEnd visits records part (Write error) = ⊥

-- the format of classic captures whose packets are visited
abbrev pub records_of : {Outcome Counts : Type 0} → Visits Outcome Counts → Format
records_of visits = format_of visits Records
    (λ before part after. (after ≡ records_after before part.read) × IsRecordPart visits before.header part)
    (IsRecordEnd visits)
