-- The state of a reader after the packets of a capture. The bytes of the capture determine this state.
use Rattle.std.specs.Prelude.{◌≡◌, ℕ, List, Option, Some}
use Rattle.capture_file.specs.CapturePackets.{EndsWith, FilePacket, ReadsPackets}
use Rattle.capture_file.specs.declared.reader.capture_reader.CaptureReader.{CaptureReader}
use Rattle.capture_file.specs.declared.reader.next_packet.NextPacket.{NextPacket}

-- If two readers start with the same state and read the same packets from the same bytes, their states are equal afterwards. The states are
-- also equal after the item that ends the packets.
pub record LeavesOneReader (room : ℕ) (reader : CaptureReader) (bytes : List ℕ) : Type 0 where
  pub packets : (packets : List FilePacket) (left other_left : Option (List ℕ)) (after other : CaptureReader)
      → ReadsPackets room reader (Some bytes) left after packets → ReadsPackets room reader (Some bytes) other_left other packets
      → after ≡ other
  pub ends : (packets : List FilePacket) (next : NextPacket) (left other_left : Option (List ℕ)) (after other : CaptureReader)
      → ReadsPackets room reader (Some bytes) left after packets → ReadsPackets room reader (Some bytes) other_left other packets
      → (ends : EndsWith room after left next) (other_ends : EndsWith room other other_left next) → ends.after ≡ other_ends.after
