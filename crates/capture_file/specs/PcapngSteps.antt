-- The packets of a pcapng file in a stream. Blocks are read up to the next packet or an error.
use Rattle.std.specs.Prelude.{◌≡◌, ℕ, zero, suc, ◌+◌, ◌-◌, ◌^◌, ◌==◌, Bool, ◌||◌, if◌then◌else◌, min, List, length, slice_range, Option, Some, None, Result, Ok, Err}
use Rattle.capture_file.specs.BlockTexts.{noted}
use Rattle.capture_file.specs.Packets.{ReadsRecordPacket, long_block}
use Rattle.capture_numbers.specs.Blocks.{body_at, enhanced_packet_type, interface_description_type, obsolete_packet_type, section_header_type, simple_packet_type, trailer_len}
use Rattle.capture_file.specs.PcapngReading.{FailsInBlock, ReadsNextBlock}
use Rattle.capture_file.specs.Sections.{TakesBlock}
use Rattle.capture_file.specs.declared.pcapng.errors.BlockError.{BlockError}
use Rattle.capture_file.specs.declared.pcapng.errors.BlockError.TheVariants.{CutOff}
use Rattle.capture_file.specs.declared.pcapng.block.BlockHeader.{BlockHeader}
use Rattle.capture_file.specs.declared.pcapng.read.NextBlock.{NextBlock}
use Rattle.capture_file.specs.declared.pcapng.read.NextBlock.TheVariants as blocks
use Rattle.capture_file.specs.declared.reader.capture_reader.CaptureReader.{CaptureReader}
use Rattle.capture_file.specs.declared.reader.capture_reader.CaptureReader.TheVariants as readers
use Rattle.capture_file.specs.declared.reader.captured_packet.CapturedPacket.{CapturedPacket}
use Rattle.capture_file.specs.declared.reader.capture_reader.ClassicReader.{ClassicReader}
use Rattle.capture_file.specs.declared.reader.next_packet.NextPacket.{NextPacket}
use Rattle.capture_file.specs.declared.reader.next_packet.NextPacket.TheVariants as packets
use Rattle.capture_file.specs.declared.reader.packet_error.PacketError.{PacketError}
use Rattle.capture_file.specs.declared.reader.packet_error.PacketError.TheVariants as errors
use Rattle.capture_file.specs.declared.reader.pcapng_reader.PcapngReader.{PcapngReader}

-- the item for a refused block at this place
abbrev pub refused_at : ℕ → PacketError → NextPacket
refused_at offset error = packets.Refused (record { offset = offset; error = error })

-- The item after a block was read: the packet of the block, or an error. The item is `None` if the block contains no packet.
abbrev pub next_by_taken : ℕ → Result (Option CapturedPacket) PacketError → Option NextPacket
next_by_taken offset (Ok None) = None
next_by_taken offset (Ok (Some packet)) = Some (packets.Whole packet)
next_by_taken offset (Err error) = Some (refused_at offset error)

-- the item if this error refuses the next bytes as a block; if the block is incomplete, the item is `CutOff`
abbrev pub next_by_refusal : ℕ → BlockError → NextPacket
next_by_refusal offset (CutOff required_len len) = packets.CutOff required_len len
next_by_refusal offset error = refused_at offset (errors.Block error)

-- a block of this type is needed to read the packets after it
abbrev pub is_description : ℕ → Bool
is_description type = type == section_header_type || type == interface_description_type

-- a block of this type contains a packet
abbrev pub is_packet : ℕ → Bool
is_packet type = type == enhanced_packet_type || (type == obsolete_packet_type || type == simple_packet_type)

-- The item after a block that is longer than the buffer. The item is `None` if the block is skipped. Such a block contains no packet, and
-- later packets can be read without it.
abbrev pub next_by_too_long : ℕ → BlockHeader → Option NextPacket
next_by_too_long offset header =
    if is_description header.block_type then Some (refused_at offset (errors.TooLong header.block_type header.total_len))
    else if is_packet header.block_type then Some (packets.TooLong (long_block header))
    else None

-- the place after a block that begins at `offset`, or 2^64 - 1 if the place is greater
abbrev pub offset_after : ℕ → BlockHeader → ℕ
offset_after offset header = min (offset + header.total_len) (2 ^ 64 - 1)

-- The reader and the item after this block was read. The item is `None` if the block contains no packet and is not refused.
abbrev pub IsStep : PcapngReader → List ℕ → NextBlock → PcapngReader → Option NextPacket → Type 0
IsStep before buffer (blocks.Whole header) after next =
    (after.offset ≡ offset_after before.offset header)
    × ((taken : Result (Option CapturedPacket) PacketError)
    × TakesBlock before.section header (slice_range buffer body_at (header.total_len - trailer_len)) after.section taken
    × (next ≡ next_by_taken before.offset taken))
IsStep before buffer (blocks.TooLong header) after next =
    (after.offset ≡ offset_after before.offset header) × (after.section ≡ before.section) × (next ≡ next_by_too_long before.offset header)
IsStep before buffer blocks.End after next = (after ≡ before) × (next ≡ Some packets.End)
IsStep before buffer (blocks.Refused error) after next = (after ≡ before) × (next ≡ Some (next_by_refusal before.offset error))

-- the next block was read
pub record ReadsStep (before : PcapngReader) (left still_left : Option (List ℕ)) (after : PcapngReader) (buffer : List ℕ)
    (next : Option NextPacket) : Type 0 where
  pub block : NextBlock
  pub reads : ReadsNextBlock before.section.byte_order left still_left buffer block
  pub is_step : IsStep before buffer block after next
  pub texts : after.texts ≡ noted block buffer next before.texts

-- `count` blocks were read into a buffer of `room` bytes. None of these blocks contains a packet or is refused.
abbrev pub PassesBlocks : ℕ → ℕ → PcapngReader → Option (List ℕ) → Option (List ℕ) → PcapngReader → Type 0
PassesBlocks room zero before left still_left after = (after ≡ before) × (still_left ≡ left)
PassesBlocks room (suc count) before left still_left after =
    (reader : PcapngReader) × (middle : Option (List ℕ)) × (buffer : List ℕ) × (length buffer ≡ room)
    × PassesBlocks room count before left middle reader × ReadsStep reader middle still_left after buffer None

-- some blocks were skipped, and reading failed within the next block
pub record FailsToPass (room : ℕ) (before : PcapngReader) (left still_left : Option (List ℕ)) (after : PcapngReader) : Type 0 where
  pub count : ℕ
  pub middle : Option (List ℕ)
  pub passed : PassesBlocks room count before left middle after
  pub fails : FailsInBlock after.section.byte_order middle still_left

-- any number of blocks were skipped, possibly none
abbrev pub HasPassed : ℕ → PcapngReader → Option (List ℕ) → PcapngReader → Type 0
HasPassed room before left after = (count : ℕ) × (middle : Option (List ℕ)) × PassesBlocks room count before left middle after

-- blocks were read up to the first block that contains a packet or is refused, or up to the end of the file
pub record ReadsBlockPacket (before : PcapngReader) (left still_left : Option (List ℕ)) (after : PcapngReader) (buffer : List ℕ)
    (next : NextPacket) : Type 0 where
  pub count : ℕ
  pub reader : PcapngReader
  pub middle : Option (List ℕ)
  pub passed : PassesBlocks (length buffer) count before left middle reader
  pub step : ReadsStep reader middle still_left after buffer (Some next)

-- ---- a capture of either format

-- the next item of a classic capture or of a pcapng file was read: a packet, the end of the capture, or an error
abbrev pub ReadsPacket : CaptureReader → Option (List ℕ) → Option (List ℕ) → CaptureReader → List ℕ → NextPacket → Type 0
ReadsPacket (readers.Classic before) left still_left after buffer next =
    (reader : ClassicReader) × (after ≡ readers.Classic reader) × ReadsRecordPacket before left still_left reader buffer next
ReadsPacket (readers.Pcapng before) left still_left after buffer next =
    (reader : PcapngReader) × (after ≡ readers.Pcapng reader) × ReadsBlockPacket before left still_left reader buffer next
