-- The packets of a capture in their order, for both file formats (draft-ietf-opsawg-pcap; draft-ietf-opsawg-pcapng).
use Rattle.std.specs.Prelude.{◌≡◌, ℕ, ◌+◌, ◌<◌, ◌≤◌, if◌then◌else◌, nat_le, List, [], ◌∷◌, ◌++◌, map, drop, length, take, slice_range, Option, Some, None, Ok}
use Rattle.std.specs.List.{AllByRecursion, concat}
use Rattle.capture_file.specs.Classic.{IsHeaderOf, IsReading, IsRecord, capture_header_len, header_refusal, record_header, record_header_len}
use Rattle.capture_file.specs.Opening.{ReadsFirstBlock}
use Rattle.capture_file.specs.Packets.{begins_records, long_record, packet_of_record}
use Rattle.capture_file.specs.PcapngSteps.{FailsToPass, HasPassed, ReadsPacket}
use Rattle.capture_file.specs.Reading.{FailsInRecord, required_len}
use Rattle.capture_numbers.specs.declared.byte_order.ByteOrder.{ByteOrder}
use Rattle.capture_file.specs.declared.classic.capture_header.CaptureHeader.{CaptureHeader}
use Rattle.capture_file.specs.declared.reader.capture_reader.CaptureReader.{CaptureReader}
use Rattle.capture_file.specs.declared.reader.capture_reader.CaptureReader.TheVariants.{Classic, Pcapng}
use Rattle.capture_file.specs.declared.reader.captured_packet.CapturedPacket.{CapturedPacket}
use Rattle.capture_file.specs.declared.reader.next_packet.NextPacket.{NextPacket}
use Rattle.capture_file.specs.declared.reader.next_packet.NextPacket.TheVariants as packets
use Rattle.capture_file.specs.declared.reader.pcapng_reader.PcapngReader.{PcapngReader}
use Rattle.capture_file.specs.declared.reader.next_packet.TooLongPacket.{TooLongPacket}

-- A packet of a capture. If the packet fits in the buffer, `kept` contains what the capture states about it, and its captured bytes. If it
-- is longer than the buffer, `too_long` contains only what the capture states about it.
pub data FilePacket : Type 0 where
  kept : CapturedPacket → List ℕ → FilePacket
  too_long : TooLongPacket → FilePacket

-- the packet in the next item, if the item is a packet; `buffer` contains the captured bytes of a whole packet
abbrev pub packet_in : List ℕ → NextPacket → Option FilePacket
packet_in buffer (packets.Whole packet) = Some (kept packet (slice_range buffer packet.start (packet.start + packet.captured_len)))
packet_in buffer (packets.TooLong packet) = Some (too_long packet)
packet_in buffer other = None

-- the place at which the next record or block begins
abbrev pub offset_of : CaptureReader → ℕ
offset_of (Classic reader) = reader.offset
offset_of (Pcapng reader) = reader.offset

-- The reader `after` is at the start of a record or block. In a pcapng file, blocks that contain no packet may have been skipped since
-- `before`.
abbrev pub Seeks : ℕ → CaptureReader → Option (List ℕ) → CaptureReader → Type 0
Seeks room (Classic before) left after = after ≡ Classic before
Seeks room (Pcapng before) left after = (reader : PcapngReader) × (after ≡ Pcapng reader) × HasPassed room before left reader

-- Reading failed within a record or block, and the reader `after` is at the start of this record or block. In a pcapng file, blocks that
-- contain no packet may have been skipped since `before`.
abbrev pub FailsToRead : ℕ → CaptureReader → Option (List ℕ) → Option (List ℕ) → CaptureReader → Type 0
FailsToRead room (Classic before) left still_left after = (after ≡ Classic before) × FailsInRecord before.header.byte_order left still_left
FailsToRead room (Pcapng before) left still_left after =
    (reader : PcapngReader) × (after ≡ Pcapng reader) × FailsToPass room before left still_left reader

-- if the next item is a record or block that is cut off, the statement holds
abbrev pub IfCutOff : NextPacket → Type 0 → Type 0
IfCutOff (packets.CutOff required_len len) Statement = Statement
IfCutOff other Statement = Unit {0}

-- ---- packets that are read from a stream, into a buffer of `room` bytes

-- one packet was read
pub record ReadsOne (room : ℕ) (before : CaptureReader) (left still_left : Option (List ℕ)) (after : CaptureReader)
    (packet : FilePacket) : Type 0 where
  pub buffer : List ℕ
  pub has_room : length buffer ≡ room
  pub next : NextPacket
  pub reads : ReadsPacket before left still_left after buffer next
  pub gives : packet_in buffer next ≡ Some packet

-- these packets were read in their order
abbrev pub ReadsPackets : ℕ → CaptureReader → Option (List ℕ) → Option (List ℕ) → CaptureReader → List FilePacket → Type 0
ReadsPackets room before left still_left after [] = (after ≡ before) × (still_left ≡ left)
ReadsPackets room before left still_left after (packet ∷ packets) =
    (reader : CaptureReader) × (middle : Option (List ℕ)) × ReadsOne room before left middle reader packet
    × ReadsPackets room reader middle still_left after packets

-- the next item was read, and it is not a packet
pub record EndsWith (room : ℕ) (before : CaptureReader) (left : Option (List ℕ)) (next : NextPacket) : Type 0 where
  pub still_left : Option (List ℕ)
  pub after : CaptureReader
  pub buffer : List ℕ
  pub has_room : length buffer ≡ room
  pub reads : ReadsPacket before left still_left after buffer next
  pub no_packet : packet_in buffer next ≡ None

-- ---- the packets of a file, read into a buffer of `room` bytes

-- the packet of a record of a classic capture; the captured bytes follow the record's header of 16 bytes
abbrev pub record_packet : ℕ → CaptureHeader → List ℕ → FilePacket
record_packet room capture bytes =
    let header = record_header capture.byte_order bytes in
    if nat_le header.captured_len room then kept (packet_of_record capture header) (drop record_header_len bytes)
    else too_long (long_record capture header)

-- the item after the last whole record: the end of the capture if no bytes follow the record, otherwise a record that is cut off
abbrev pub next_after : ByteOrder → List ℕ → NextPacket
next_after order [] = packets.End
next_after order (byte ∷ bytes) = packets.CutOff (required_len order (byte ∷ bytes)) (length (byte ∷ bytes))

-- The first packets after the beginning of a capture are these packets. The beginning is the header of a classic capture, or the first
-- block of a pcapng file.
abbrev pub BeginsWithPackets : ℕ → CaptureReader → List FilePacket → List ℕ → Type 0
BeginsWithPackets room (Classic reader) packets bytes =
    (records : List (List ℕ)) × (rest : List ℕ) × (bytes ≡ concat records ++ rest)
    × AllByRecursion (IsRecord reader.header.byte_order) records
    × (packets ≡ map (record_packet room reader.header) records)
BeginsWithPackets room (Pcapng reader) packets bytes =
    (still_left : Option (List ℕ)) × (after : CaptureReader) × ReadsPackets room (Pcapng reader) (Some bytes) still_left after packets

-- The bytes after the beginning of a capture contain these packets, and then this item. In a classic capture each packet is a record, and
-- the rest after the records does not begin with a whole record. In a pcapng file the packets are read block by block.
abbrev pub HasPackets : ℕ → CaptureReader → List ℕ → List FilePacket → NextPacket → Type 0
HasPackets room (Classic reader) bytes packets next =
    let order = reader.header.byte_order in
    (records : List (List ℕ)) × (rest : List ℕ) × IsReading order bytes records rest
    × (packets ≡ map (record_packet room reader.header) records) × (next ≡ next_after order rest)
HasPackets room (Pcapng reader) bytes packets next =
    (still_left : Option (List ℕ)) × (after : CaptureReader) × ReadsPackets room (Pcapng reader) (Some bytes) still_left after packets
    × EndsWith room after still_left next

-- If the bytes after the beginning of a capture begin with the packets `first`, the list of all packets in these bytes begins with `first`
-- too.
abbrev pub AreFirstPackets : ℕ → CaptureReader → List ℕ → Type 0
AreFirstPackets room reader bytes =
    (first packets : List FilePacket) (next : NextPacket) → BeginsWithPackets room reader first bytes
    → HasPackets room reader bytes packets next → (others : List FilePacket) × (packets ≡ first ++ others)

-- ---- a file that was cut

-- the bytes after the beginning of a capture begin with these packets, and the record or block of the last packet ends after `len` bytes
abbrev pub PacketsEndAt : ℕ → CaptureReader → List FilePacket → List ℕ → ℕ → Type 0
PacketsEndAt room (Classic reader) packets bytes len =
    (records : List (List ℕ)) × (rest : List ℕ) × (bytes ≡ concat records ++ rest)
    × AllByRecursion (IsRecord reader.header.byte_order) records × (packets ≡ map (record_packet room reader.header) records)
    × (len ≡ length (concat records))
PacketsEndAt room (Pcapng reader) packets bytes len =
    (rest : List ℕ) × (after : CaptureReader) × ReadsPackets room (Pcapng reader) (Some bytes) (Some rest) after packets
    × (len + length rest ≡ length bytes)

-- A capture was cut: only the first `cut` bytes after its beginning are left. `cut_packets` are the packets whose record or block ends at
-- or before this cut. They are the first packets of the list `packets`.
pub record ArePacketsBeforeCut (room : ℕ) (reader : CaptureReader) (bytes : List ℕ) (cut : ℕ)
    (packets cut_packets : List FilePacket) : Type 0 where
  pub count : ℕ
  pub first : cut_packets ≡ take count packets
  pub within : (len : ℕ) × PacketsEndAt room reader cut_packets bytes len × (len ≤ cut)
  pub next : count < length packets → (len : ℕ) × PacketsEndAt room reader (take (count + 1) packets) bytes len × (cut < len)

-- ---- the beginning of a file

-- the first 24 bytes are an accepted header of a classic capture
pub record BeginsWith (header : CaptureHeader) (bytes : List ℕ) : Type 0 where
  pub accepted : header_refusal (take capture_header_len bytes) ≡ None
  pub is_header : IsHeaderOf (take capture_header_len bytes) header

-- the bytes are the beginning of a capture, followed by `rest`; this reader reads the packets in `rest`
abbrev pub Begins : ℕ → CaptureReader → List ℕ → List ℕ → Type 0
Begins room (Classic reader) bytes rest =
    BeginsWith reader.header bytes × (reader ≡ begins_records reader.header) × (rest ≡ drop capture_header_len bytes)
Begins room (Pcapng reader) bytes rest =
    (buffer : List ℕ) × (length buffer ≡ room) × ReadsFirstBlock (Some bytes) (Some rest) buffer (Ok reader)

-- The beginning of a capture was read from an input. The first `Option` contains the bytes of the input before the read, and the second
-- contains the bytes after the read. If the first `Option` is `None`, the bytes are unknown, and the statement holds.
abbrev pub BeginsInput : ℕ → CaptureReader → Option (List ℕ) → Option (List ℕ) → Type 0
BeginsInput room reader None still_left = Unit {0}
BeginsInput room reader (Some bytes) None = ⊥
BeginsInput room reader (Some bytes) (Some rest) = Begins room reader bytes rest
