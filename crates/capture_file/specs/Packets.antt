-- The packets of a capture in one form for both file formats (draft-ietf-opsawg-pcap, section 5; draft-ietf-opsawg-pcapng, section 4).
use Rattle.std.specs.Prelude.{◌≡◌, ℕ, ◌+◌, ◌-◌, ◌^◌, ◌/◌, ◌%◌, ◌==◌, ◌≤◌, if◌then◌else◌, min, pos, List, length, Option, Some, None}
use Rattle.std.specs.Option.{option_map}
use Rattle.capture_file.specs.Classic.{capture_header_len, link_type_or_number, record_header_len}
use Rattle.capture_numbers.specs.Blocks.{body_at, simple_captured_at, simple_packet_type, timed_captured_at}
use Rattle.capture_file.specs.PcapngBodies.{units_per_second}
use Rattle.capture_file.specs.Reading.{ReadsNext}
use Rattle.capture_file.specs.declared.classic.capture_header.CaptureHeader.{CaptureHeader}
use Rattle.capture_file.specs.declared.classic.read.NextRecord.{NextRecord}
use Rattle.capture_file.specs.declared.classic.read.NextRecord.TheVariants as records
use Rattle.capture_file.specs.declared.classic.record_header.RecordHeader.{RecordHeader}
use Rattle.capture_file.specs.declared.classic.record_header.Resolution.{Resolution}
use Rattle.capture_file.specs.declared.classic.record_header.Resolution.TheVariants.{Microseconds, Nanoseconds}
use Rattle.capture_file.specs.declared.classic.record_header.Time.{Time}
use Rattle.capture_file.specs.declared.pcapng.block.BlockHeader.{BlockHeader}
use Rattle.capture_file.specs.declared.pcapng.block_body.PacketBlock.{PacketBlock}
use Rattle.capture_file.specs.declared.pcapng.interface_description.InterfaceDescription.{InterfaceDescription}
use Rattle.capture_file.specs.declared.pcapng.time_resolution.TimeResolution.{TimeResolution}
use Rattle.capture_file.specs.declared.pcapng.time_resolution.TimeResolution.TheVariants.{PowerOfTen}
use Rattle.capture_file.specs.declared.reader.captured_packet.CapturedPacket.{CapturedPacket}
use Rattle.capture_file.specs.declared.reader.capture_reader.ClassicReader.{ClassicReader}
use Rattle.capture_file.specs.declared.reader.next_packet.NextPacket.{NextPacket}
use Rattle.capture_file.specs.declared.reader.next_packet.NextPacket.TheVariants as packets
use Rattle.capture_file.specs.declared.packet_time.PacketTime.{PacketTime}
use Rattle.capture_file.specs.declared.reader.next_packet.TooLongPacket.{TooLongPacket}

-- ---- times

-- the resolution of a classic capture as a power of ten
abbrev pub power_of_ten : Resolution → TimeResolution
power_of_ten Microseconds = PowerOfTen 6
power_of_ten Nanoseconds = PowerOfTen 9

-- the time of a record of a classic capture
abbrev pub classic_time : Resolution → Time → PacketTime
classic_time resolution time =
    record { seconds = time.seconds; fraction = time.fraction; resolution = power_of_ten resolution; offset = pos 0 }

-- the time of a packet with this timestamp; the resolution and the time offset of its interface determine the time
abbrev pub timestamp_time : InterfaceDescription → ℕ → PacketTime
timestamp_time interface timestamp = record {
  seconds = timestamp / units_per_second interface.time_resolution;
  fraction = timestamp % units_per_second interface.time_resolution;
  resolution = interface.time_resolution;
  offset = interface.time_offset;
}

-- ---- a classic capture

-- the reader after the header of a capture; the first record begins after 24 bytes
abbrev pub begins_records : CaptureHeader → ClassicReader
begins_records capture = record { header = capture; offset = capture_header_len }

-- the packet of a record; its captured bytes are at the front of the buffer
abbrev pub packet_of_record : CaptureHeader → RecordHeader → CapturedPacket
packet_of_record capture header = record {
  link_type = capture.link_type;
  byte_order = capture.byte_order;
  time = Some (classic_time capture.resolution header.time);
  start = 0;
  captured_len = header.captured_len;
  original_len = header.original_len;
  interface = None;
}

-- the packet of a record that is longer than the buffer
abbrev pub long_record : CaptureHeader → RecordHeader → TooLongPacket
long_record capture header = record {
  link_type = Some capture.link_type;
  time = Some (classic_time capture.resolution header.time);
  required_len = header.captured_len;
  original_len = Some header.original_len;
}

-- the next item of a capture, given the result of reading the next record
abbrev pub next_by_record : CaptureHeader → NextRecord → NextPacket
next_by_record capture (records.Whole header) = packets.Whole (packet_of_record capture header)
next_by_record capture (records.TooLong header) = packets.TooLong (long_record capture header)
next_by_record capture records.End = packets.End
next_by_record capture (records.CutOff required_len len) = packets.CutOff required_len len

-- the place after a record that begins at `offset`, or 2^64 - 1 if the place is greater
abbrev pub offset_after_record : ℕ → RecordHeader → ℕ
offset_after_record offset header = min (offset + (record_header_len + header.captured_len)) (2 ^ 64 - 1)

-- the place of the reader after this item; the place does not change at the end of the input, or if the record is cut off
abbrev pub offset_by_record : ℕ → NextRecord → ℕ
offset_by_record offset (records.Whole header) = offset_after_record offset header
offset_by_record offset (records.TooLong header) = offset_after_record offset header
offset_by_record offset other = offset

-- the next record was read, and `next` is the item of this record
pub record ReadsRecordPacket (before : ClassicReader) (left still_left : Option (List ℕ)) (after : ClassicReader) (buffer : List ℕ)
    (next : NextPacket) : Type 0 where
  pub next_record : NextRecord
  pub reads : ReadsNext before.header.byte_order left still_left buffer next_record
  pub is : next ≡ next_by_record before.header next_record
  pub header : after.header ≡ before.header
  pub offset : after.offset ≡ offset_by_record before.offset next_record

-- ---- a pcapng file

-- the place of the captured bytes in a packet block of this type
abbrev pub packet_start : ℕ → ℕ
packet_start type = if type == simple_packet_type then body_at + simple_captured_at else body_at + timed_captured_at

-- A packet that was captured on this interface, which has this number in its section. The byte order of the packet is the byte order of its
-- block. The whole block is at the front of the buffer.
abbrev pub interface_packet : BlockHeader → ℕ → InterfaceDescription → Option ℕ → ℕ → ℕ → CapturedPacket
interface_packet header number interface timestamp captured_len original_len = record {
  link_type = link_type_or_number interface.link_type;
  byte_order = header.byte_order;
  time = option_map (timestamp_time interface) timestamp;
  start = packet_start header.block_type;
  captured_len = captured_len;
  original_len = original_len;
  interface = Some number;
}

-- the packet in a packet block; the packet was captured on this interface, and the whole block is at the front of the buffer
abbrev pub packet_of_block : BlockHeader → InterfaceDescription → PacketBlock → CapturedPacket
packet_of_block header interface packet =
    interface_packet header packet.interface interface packet.timestamp (length packet.captured.now) packet.original_len

-- the packet in a block that is longer than the buffer; only the length of the block is known
abbrev pub long_block : BlockHeader → TooLongPacket
long_block header = record { link_type = None; time = None; required_len = header.total_len; original_len = None }

-- ---- both file formats

-- the captured bytes of a packet are within the first `len` bytes of the buffer
abbrev pub IsWithin : ℕ → CapturedPacket → Type 0
IsWithin len packet = packet.start + packet.captured_len ≤ len

-- if the next item is a whole packet, its captured bytes are within the first `len` bytes of the buffer
abbrev pub IsNextWithin : ℕ → NextPacket → Type 0
IsNextWithin len (packets.Whole packet) = IsWithin len packet
IsNextWithin len other = Unit {0}
