-- The place of a reader in a file: the start of the next record or block.
use Rattle.std.specs.Prelude.{◌≡◌, ℕ, ◌≤◌, List, drop, length, Option, Some}
use Rattle.capture_file.specs.CapturePackets.{Begins, FilePacket, ReadsPackets, offset_of}
use Rattle.capture_file.specs.PcapngSteps.{PassesBlocks}
use Rattle.capture_file.specs.declared.reader.capture_reader.CaptureReader.{CaptureReader}
use Rattle.capture_file.specs.declared.reader.pcapng_reader.PcapngReader.{PcapngReader}

-- the bytes that are left are exactly the bytes of the file from this place on
abbrev pub IsPlace : List ℕ → ℕ → Option (List ℕ) → Type 0
IsPlace file place left = (place ≤ length file) × (left ≡ Some (drop place file))

-- The offset of a reader is its place in the file: after the beginning of the file, after each packet, and after each skipped block.
pub record OffsetsArePlaces (room : ℕ) (file : List ℕ) : Type 0 where
  pub begins : (reader : CaptureReader) (rest : List ℕ) → Begins room reader file rest → IsPlace file (offset_of reader) (Some rest)
  pub packets : (reader after : CaptureReader) (left still_left : Option (List ℕ)) (packets : List FilePacket)
      → IsPlace file (offset_of reader) left → ReadsPackets room reader left still_left after packets
      → IsPlace file (offset_of after) still_left
  pub blocks : (reader after : PcapngReader) (left still_left : Option (List ℕ)) (count : ℕ) → IsPlace file reader.offset left
      → PassesBlocks room count reader left still_left after → IsPlace file after.offset still_left
