-- A piece of a capture: a head, and bytes of the file after it. A piece is read as a capture of its own.
use Rattle.std.specs.Prelude.{◌≡◌, ℕ, List, length, Option, Some, Ok}
use Rattle.capture_file.specs.CapturePackets.{FilePacket, packet_in}
use Rattle.capture_file.specs.Opening.{ReadsBeginning}
use Rattle.capture_file.specs.PcapngSteps.{ReadsPacket}
use Rattle.capture_file.specs.declared.reader.capture_reader.CaptureReader.{CaptureReader}
use Rattle.capture_file.specs.declared.reader.next_packet.NextPacket.{NextPacket}

-- the first item of a piece was read: the beginning of the piece, and then this item; `buffer` contains the captured bytes of a packet
pub record IsFirstItem (piece buffer : List ℕ) (after : CaptureReader) (next : NextPacket) : Type 0 where
  pub first : CaptureReader
  pub opened : List ℕ
  pub rest : Option (List ℕ)
  pub left : Option (List ℕ)
  pub has_room : length opened ≡ length buffer
  pub begins : ReadsBeginning (Some piece) rest opened (Ok first)
  pub reads : ReadsPacket first rest left after buffer next

-- the first item of a piece is this packet, and `after` is the reader after it
abbrev pub IsFirstPacket : List ℕ → List ℕ → CaptureReader → FilePacket → Type 0
IsFirstPacket piece buffer after packet =
    (next : NextPacket) × IsFirstItem piece buffer after next × (packet_in buffer next ≡ Some packet)
