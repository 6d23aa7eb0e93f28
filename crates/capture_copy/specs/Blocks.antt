-- The blocks of a pcapng file as parts (draft-ietf-opsawg-pcapng, section 3.1).
use Rattle.std.specs.Prelude.{◌≡◌, ◌≢◌, ◌+◌, ◌-◌, ◌<◌, ◌≤◌, ◌++◌, ◌⊎◌, ◌==◌, ℕ, Bool, true, false, if◌then◌else◌, List, [], drop, length, replicate, slice_range, take, Option, Some, None, Result, Ok, Err}
use Rattle.std.specs.Option.{is_some}
use Rattle.std.specs.Io.KnownBytes.{Appends, Consumes, IsAtEnd}
use Rattle.capture_file.specs.Packets.{IsWithin}
use Rattle.capture_file.specs.Pcapng.{IsBlock, block_header, block_len, block_refusal, is_section_header}
use Rattle.capture_file.specs.PcapngSteps.{is_description, is_packet, offset_after}
use Rattle.capture_file.specs.Sections.{TakesBlock}
use Rattle.capture_numbers.specs.Blocks.{body_at, section_header_len, trailer_len}
use Rattle.capture_numbers.specs.Numbers.{number_at}
use Rattle.capture_numbers.specs.declared.byte_order.ByteOrder.{ByteOrder}
use Rattle.capture_numbers.specs.declared.byte_order.ByteOrder.TheVariants.{BigEndian}
use Rattle.capture_file.specs.declared.pcapng.block.BlockHeader.{BlockHeader}
use Rattle.capture_file.specs.declared.pcapng.errors.BlockError.{BlockError}
use Rattle.capture_file.specs.declared.pcapng.errors.BlockError.TheVariants as block_errors
use Rattle.capture_file.specs.declared.reader.captured_packet.CapturedPacket.{CapturedPacket}
use Rattle.capture_file.specs.declared.reader.packet_error.PacketError.{PacketError}
use Rattle.capture_file.specs.declared.reader.packet_error.PacketError.TheVariants as errors
use Rattle.capture_file.specs.declared.reader.pcapng_reader.Section.{Section}
use Rattle.capture_copy.specs.Parts.{IsReadError, IsWriteError, WritesFront, format_of}
use Rattle.capture_copy.specs.Passing.{Format, Part, one_more}
use Rattle.capture_copy.specs.Visits.{Visits, is_written_with, written_if}
use Rattle.capture_copy.specs.declared.blocks.Blocks.{Blocks}
use Rattle.capture_copy.specs.declared.copier.TheConstants.{BUFFER_LEN}
use Rattle.capture_copy.specs.declared.part_error.PartError.{PartError}
use Rattle.capture_copy.specs.declared.part_error.PartError.TheVariants.{CutOff, Read, Refused, TooManyParts, Write}
use Rattle.capture_copy.specs.declared.place.Place.{Place}

-- ---- the copy of a block without a packet

-- the offset of the field for the section's length, in a section header block (section 4.1)
abbrev pub section_len_at : ℕ
section_len_at = 16

-- the offset of the options in a section header block (section 4.1)
abbrev pub section_options_at : ℕ
section_options_at = body_at + section_header_len

-- the number -1 in eight bytes, which means that the length of the section is not specified (section 4.1)
abbrev pub not_specified : List ℕ
not_specified = replicate 8 255

-- What is written for a block without a packet. If a packet may be left out, the length of its section may change. So the copy of a section
-- header block does not specify a length. The copy of every other block is the block itself.
abbrev pub copy_of : Bool → List ℕ → List ℕ
copy_of true block = block
copy_of false block =
    if is_section_header block then take section_len_at block ++ (not_specified ++ drop section_options_at block) else block

-- ---- whole blocks

-- The packet in a block was visited. In `copy`, the bytes `after` are in the place of the captured bytes.
pub record VisitsPacket {Outcome Counts : Type 0} (visits : Visits Outcome Counts) (packet : CapturedPacket) (block copy : List ℕ)
    (outcome : Option Outcome) : Type 0 where
  pub within : IsWithin (length block) packet
  pub after : List ℕ
  pub given : Outcome
  pub visited : visits.visits packet (slice_range block packet.start (packet.start + packet.captured_len)) after given
  pub is_copy : copy ≡ take packet.start block ++ (after ++ drop (packet.start + packet.captured_len) block)
  pub has_outcome : outcome ≡ Some given

-- the packet in a block was visited, if the block contains one
abbrev pub VisitsTaken : {Outcome Counts : Type 0} → Visits Outcome Counts → Option CapturedPacket → List ℕ → List ℕ → Option Outcome
    → Type 0
VisitsTaken visits None block copy outcome = (copy ≡ copy_of visits.writes_all block) × (outcome ≡ None)
VisitsTaken visits (Some packet) block copy outcome = VisitsPacket visits packet block copy outcome

-- the body of the block that begins with these bytes
abbrev pub block_body : ByteOrder → List ℕ → List ℕ
block_body section block = slice_range block body_at (block_len section block - trailer_len)

-- what the section `before` reads from a block, and the section after it
abbrev pub TakesFrom : Section → List ℕ → Section → Result (Option CapturedPacket) PacketError → Type 0
TakesFrom before block after taken =
    TakesBlock before (block_header before.byte_order block) (block_body before.byte_order block) after taken

-- A block that fits in the buffer was read, and its packet was visited. The copy of the block is written, unless its packet is left out.
pub record VisitsBlock {Outcome Counts : Type 0} (visits : Visits Outcome Counts) (before : Section) (part : Part Outcome)
    (after : Section) : Type 0 where
  pub taken : Option CapturedPacket
  pub takes : TakesFrom before part.read after (Ok taken)
  pub copy : List ℕ
  pub visited : VisitsTaken visits taken part.read copy part.outcome
  pub is_written : part.written ≡ written_if (is_written_with visits part.outcome) copy

-- this error refuses a block with this header, which does not fit in the buffer, because later packets can't be read without it
abbrev pub IsTooLong : BlockHeader → PacketError → Type 0
IsTooLong header error = (is_description header.block_type ≡ true) × (error ≡ errors.TooLong header.block_type header.total_len)

-- The outcome of a block that does not fit in the buffer. The time of its packet is unknown. A block of another type than a packet block
-- contains no packet. If later packets can't be read without the block, the block is refused.
abbrev pub HasLongOutcome : {Outcome Counts : Type 0} → Visits Outcome Counts → BlockHeader → Result (Option Outcome) PacketError → Type 0
HasLongOutcome visits header (Ok (Some outcome)) =
    (is_description header.block_type ≡ false) × (is_packet header.block_type ≡ true)
    × visits.visits_long header.total_len None outcome
HasLongOutcome visits header (Ok None) = (is_description header.block_type ≡ false) × (is_packet header.block_type ≡ false)
HasLongOutcome visits header (Err error) = IsTooLong header error

-- a block that does not fit in the buffer was written as it was read, unless its packet is left out
pub record VisitsLongBlock {Outcome Counts : Type 0} (visits : Visits Outcome Counts) (before : Section) (part : Part Outcome)
    (after : Section) : Type 0 where
  pub has_outcome : HasLongOutcome visits (block_header before.byte_order part.read) (Ok part.outcome)
  pub same : after ≡ before
  pub is_written : part.written ≡ written_if (is_written_with visits part.outcome) part.read

-- exactly one block was read, and its packet was visited
pub record IsBlockPart {Outcome Counts : Type 0} (visits : Visits Outcome Counts) (before : Section) (part : Part Outcome)
    (after : Section) : Type 0 where
  pub is_block : IsBlock before.byte_order part.read
  pub visited : ((length part.read ≤ BUFFER_LEN) × VisitsBlock visits before part after)
      ⊎ ((BUFFER_LEN < length part.read) × VisitsLongBlock visits before part after)

-- ---- places

-- The place after a block with this header. Both numbers are at most 2^64 - 1.
abbrev pub place_after : Place → BlockHeader → Bool → Place
place_after place header has_packet = record {
  number = if has_packet then one_more place.number else place.number;
  offset = offset_after place.offset header;
}

-- the start of a file; its byte order does not matter, since the section header block states its own
pub record IsFileStart (blocks : Blocks) : Type 0 where
  pub byte_order : blocks.section.byte_order ≡ BigEndian
  pub interfaces : blocks.section.interfaces.items ≡ []
  pub number : blocks.place.number ≡ 1
  pub offset : blocks.place.offset ≡ 0

-- ---- ends within a block

-- The bytes end within a block. `len` is the number of bytes, and `required` is the length of the block, or 12 if its first 12 bytes are
-- incomplete.
abbrev pub IsCutBlock : ByteOrder → List ℕ → ℕ → ℕ → Type 0
IsCutBlock section bytes required len = (bytes ≢ []) × (block_refusal section bytes ≡ Some (block_errors.CutOff required len))

-- For this reason the bytes are no block. They are not cut off.
abbrev pub IsMalformed : ByteOrder → List ℕ → BlockError → Type 0
IsMalformed section bytes (block_errors.CutOff required len) = ⊥
IsMalformed section bytes reason = (bytes ≢ []) × (block_refusal section bytes ≡ Some reason)

-- the bytes are a block that is refused: by the section, or because it does not fit in the buffer
abbrev pub RefusesBlock : Section → List ℕ → PacketError → Type 0
RefusesBlock section block error =
    IsBlock section.byte_order block
    × (((length block ≤ BUFFER_LEN) × (after : Section) × TakesFrom section block after (Err error))
    ⊎ ((BUFFER_LEN < length block) × IsTooLong (block_header section.byte_order block) error))

-- this error refuses the bytes: they are no block, or a block that is refused
abbrev pub IsRefusedBlock : Section → List ℕ → PacketError → Type 0
IsRefusedBlock section bytes error =
    ((reason : BlockError) × IsMalformed section.byte_order bytes reason × (error ≡ errors.Block reason))
    ⊎ RefusesBlock section bytes error

-- If the copy ends within a block at this place: whether its first bytes are written. Nothing is written of the first block of a file.
abbrev pub writes_front : {Outcome Counts : Type 0} → Visits Outcome Counts → Place → Bool
writes_front visits place = if place.offset == 0 then false else visits.writes_all

-- the block that begins with these bytes does not fit in the buffer, and later packets can be read without it
abbrev pub IsLongBlock : ByteOrder → List ℕ → Type 0
IsLongBlock section bytes =
    (BUFFER_LEN < block_len section bytes) × (is_description (block_header section bytes).block_type ≡ false)

-- no packet is counted for the block, and this was written for its first bytes
abbrev pub EndsBlock : {Outcome Counts : Type 0} → Visits Outcome Counts → Blocks → Part Outcome → Type 0
EndsBlock visits blocks part =
    (part.outcome ≡ None)
    × WritesFront (writes_front visits blocks.place) (IsLongBlock blocks.section.byte_order part.read) part.read part.written

-- no bytes, or the first bytes of a block that does not fit in the buffer
abbrev pub IsBlockFront : ByteOrder → List ℕ → Type 0
IsBlockFront section bytes =
    (bytes ≡ []) ⊎ ((BUFFER_LEN < block_len section bytes) × (length bytes < block_len section bytes))

-- this error ended the copy within a block
abbrev pub IsBlockEnd : {Outcome Counts : Type 0} → Visits Outcome Counts → Blocks → Part Outcome → PartError → Type 0
IsBlockEnd visits blocks part (CutOff place required len) =
    (place ≡ blocks.place) × EndsBlock visits blocks part × IsCutBlock blocks.section.byte_order part.read required len
IsBlockEnd visits blocks part (Refused placed) =
    (placed.offset ≡ blocks.place.offset) × EndsBlock visits blocks part × IsRefusedBlock blocks.section part.read placed.error
IsBlockEnd visits blocks part (Read place error) =
    (place ≡ blocks.place) × EndsBlock visits blocks part × IsBlockFront blocks.section.byte_order part.read
IsBlockEnd visits blocks part TooManyParts = ⊥
IsBlockEnd visits blocks part (Write error) = ⊥

-- the format of pcapng files whose packets are visited
abbrev pub blocks_of : {Outcome Counts : Type 0} → Visits Outcome Counts → Format
blocks_of visits = format_of visits Blocks
    (λ before part after.
    (after.place ≡ place_after before.place (block_header before.section.byte_order part.read) (is_some part.outcome))
    × IsBlockPart visits before.section part after.section)
    (IsBlockEnd visits)

-- ---- results

-- the bytes are a whole block, and the section read from it its packet, if it contains one
abbrev pub Takes : Section → List ℕ → Section → Option CapturedPacket → Type 0
Takes before block after taken = (block_refusal before.byte_order block ≡ None) × TakesFrom before block after (Ok taken)

-- this error refuses the bytes: they are no block, or the section refuses the block
abbrev pub IsRefusedBy : Section → List ℕ → PacketError → Type 0
IsRefusedBy before bytes error =
    ((reason : BlockError) × (block_refusal before.byte_order bytes ≡ Some reason) × (error ≡ errors.Block reason))
    ⊎ ((block_refusal before.byte_order bytes ≡ None) × (after : Section) × TakesFrom before bytes after (Err error))

-- the error of the copy if this error refuses the block at this place; a block that is cut off has an error of its own
abbrev pub refused_by : Place → PacketError → PartError
refused_by place (errors.Block (block_errors.CutOff required len)) = CutOff place required len
refused_by place error = Refused (record { offset = place.offset; error = error })

-- these bytes were read, and written if `is_written` is true
pub record ReadsEnd (is_written : Bool) (bytes : List ℕ) (left still_left held now_held : Option (List ℕ)) : Type 0 where
  pub consumed : Consumes left still_left bytes
  pub appended : Appends held now_held (written_if is_written bytes)

-- the file ends within the last field of a block of this length
pub record EndsInLast (total_len : ℕ) (place : Place) (is_written : Bool) (error : PartError)
    (left still_left held now_held : Option (List ℕ)) : Type 0 where
  pub bytes : List ℕ
  pub short : length bytes < trailer_len
  pub reads : ReadsEnd is_written bytes left still_left held now_held
  pub is_error : error ≡ CutOff place total_len (total_len - trailer_len + length bytes)
  pub at_end : IsAtEnd still_left

-- the last field of a block differs from the total length in its header
pub record DiffersAtEnd (header : BlockHeader) (place : Place) (is_written : Bool) (error : PartError)
    (left still_left held now_held : Option (List ℕ)) : Type 0 where
  pub last : List ℕ
  pub four : length last ≡ trailer_len
  pub reads : ReadsEnd is_written last left still_left held now_held
  pub differs : number_at header.byte_order last 0 ≢ header.total_len
  pub is_error : error
      ≡ refused_by place (errors.Block (block_errors.LastLength header.total_len (number_at header.byte_order last 0)))

-- The last field of a block with this header was read, and it repeats the total length of the block. Nothing was written. If the field is
-- cut off or differs, `is_written` states whether its bytes were written. If reading failed, nothing was written.
abbrev pub EndsWithLast : BlockHeader → Place → Bool → Result (List ℕ) PartError → Option (List ℕ) → Option (List ℕ) → Option (List ℕ)
    → Option (List ℕ) → Type 0
EndsWithLast header place is_written (Ok last) left still_left held now_held =
    (length last ≡ trailer_len) × (number_at header.byte_order last 0 ≡ header.total_len) × Consumes left still_left last
    × (now_held ≡ held)
EndsWithLast header place is_written (Err error) left still_left held now_held =
    IsWriteError error
    ⊎ ((IsReadError place error × (now_held ≡ held))
    ⊎ (EndsInLast header.total_len place is_written error left still_left held now_held
    ⊎ DiffersAtEnd header place is_written error left still_left held now_held))
