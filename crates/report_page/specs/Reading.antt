-- The rows of a piece: its packets are read in their order, and each fills one row.
use Rattle.std.specs.Prelude.{◌≡◌, ◌⊎◌, ◌≤◌, ℕ, Bool, List, [], ◌∷◌, length, take, Option, Some, None, Err, Ok}
use Rattle.capture_file.specs.CapturePackets.{FilePacket, ReadsOne, offset_of}
use Rattle.capture_file.specs.Opening.{ReadsBeginning}
use Rattle.capture_file.specs.PcapngSteps.{ReadsPacket}
use Rattle.capture_file.specs.declared.reader.capture_reader.CaptureReader.{CaptureReader}
use Rattle.capture_file.specs.declared.reader.capture_reader.CaptureReader.TheVariants as readers
use Rattle.capture_file.specs.declared.reader.next_packet.NextPacket.{NextPacket}
use Rattle.capture_file.specs.declared.reader.next_packet.NextPacket.TheVariants as packets
use Rattle.capture_file.specs.declared.reader.open_error.OpenError.{OpenError}
use Rattle.capture_packet.specs.declared.packet.Packet.{Packet}
use Rattle.capture_request.specs.Report.{IsPacketOf, info_of}
use Rattle.report_page.specs.Lines.{is_set}
use Rattle.report_page.specs.Rows.{IsRowOf}
use Rattle.report_page.specs.declared.row.PageRow.{PageRow}
use Rattle.report_page.specs.declared.rows.PageEnd.{PageEnd}
use Rattle.report_page.specs.declared.rows.Stop.{Stop}
use Rattle.report_page.specs.declared.rows.Stop.TheVariants as stops

-- ---- rows

-- the next packet was read, and this is its row
pub record ReadsRow (room : ℕ) (udp_tunnels : Bool) (before : CaptureReader) (left still_left : Option (List ℕ)) (after : CaptureReader)
    (row : PageRow) : Type 0 where
  pub captured : FilePacket
  pub reads : ReadsOne room before left still_left after captured
  pub packet : Packet
  pub is_packet : IsPacketOf udp_tunnels captured packet
  pub is_row : IsRowOf (offset_of after) (info_of captured) packet row

-- packets were read in their order, and these are their rows
abbrev pub ReadsRows : ℕ → Bool → CaptureReader → Option (List ℕ) → Option (List ℕ) → CaptureReader → List PageRow → Type 0
ReadsRows room udp_tunnels before left still_left after [] = (after ≡ before) × (still_left ≡ left)
ReadsRows room udp_tunnels before left still_left after (row ∷ rows) =
    (reader : CaptureReader) × (middle : Option (List ℕ)) × ReadsRow room udp_tunnels before left middle reader row
    × ReadsRows room udp_tunnels reader middle still_left after rows

-- ---- the end of the rows

-- why there is no row for an item, or `None` if the item is a packet
abbrev pub stop_of : NextPacket → Option Stop
stop_of (packets.Whole packet) = None
stop_of (packets.TooLong packet) = None
stop_of packets.End = Some stops.End
stop_of (packets.CutOff required_len len) = Some (stops.CutOff required_len len)
stop_of (packets.Refused error) = Some stops.Refused

-- the next item was read, and it is not a packet; or reading it failed
abbrev pub StopsWith : ℕ → CaptureReader → Option (List ℕ) → Option (List ℕ) → CaptureReader → Stop → Type 0
StopsWith room before left still_left after stops.Failed = Unit {0}
StopsWith room before left still_left after stop =
    (buffer : List ℕ) × (length buffer ≡ room) × (next : NextPacket) × ReadsPacket before left still_left after buffer next
    × (stop_of next ≡ Some stop)

-- the number of a stop
abbrev pub status_of : Stop → ℕ
status_of stops.End = 1
status_of (stops.CutOff required_len len) = 2
status_of stops.Refused = 3
status_of stops.Failed = 5

-- the required length that a stop states
abbrev pub required_of : Stop → ℕ
required_of (stops.CutOff required_len len) = required_len
required_of stop = 0

-- the present length that a stop states
abbrev pub len_of : Stop → ℕ
len_of (stops.CutOff required_len len) = len
len_of stop = 0

-- 1 for a pcapng file, and 0 for a classic capture
abbrev pub format_of : CaptureReader → ℕ
format_of (readers.Classic reader) = 0
format_of (readers.Pcapng reader) = 1

-- the end after this number of rows
abbrev pub end_at : CaptureReader → ℕ → Stop → PageEnd
end_at reader count stop = record {
  count = count;
  offset = offset_of reader;
  required_len = required_of stop;
  len = len_of stop;
  status = status_of stop;
  is_pcapng = format_of reader;
}

-- the end if every row was filled
abbrev pub full_at : CaptureReader → ℕ → PageEnd
full_at reader count = record (end_at reader count stops.End) { status = 0 }

-- Rows were filled until every row was filled, or until no packet followed. `end` states how many rows were filled.
pub record FillsRows (room : ℕ) (udp_tunnels : Bool) (before : CaptureReader) (left still_left : Option (List ℕ)) (after : CaptureReader)
    (rows : List PageRow) (end : PageEnd) : Type 0 where
  pub reader : CaptureReader
  pub middle : Option (List ℕ)
  pub within : end.count ≤ length rows
  pub reads : ReadsRows room udp_tunnels before left middle reader (take end.count rows)
  pub ends : ((end ≡ full_at reader (length rows)) × (after ≡ reader) × (still_left ≡ middle))
      ⊎ ((stop : Stop) × StopsWith room reader middle still_left after stop × (end ≡ end_at after end.count stop))

-- ---- a piece

-- the end if the beginning of a piece is refused
abbrev pub at_beginning : PageEnd
at_beginning = record { count = 0; offset = 0; required_len = 0; len = 0; status = 4; is_pcapng = 0 }

-- the end if reading the beginning of a piece fails
abbrev pub failed_at_beginning : PageEnd
failed_at_beginning = record at_beginning { status = 5 }

-- The rows of a piece were filled. The status states whether its beginning was refused, or could not be read.
abbrev pub ReadsPiece : List ℕ → ℕ → ℕ → List PageRow → List PageRow → PageEnd → Type 0
ReadsPiece piece room udp_tunnels before rows end =
    ((reader : CaptureReader) × (opened : List ℕ) × (length opened ≡ room) × (rest : Option (List ℕ))
    × ReadsBeginning (Some piece) rest opened (Ok reader)
    × (still_left : Option (List ℕ)) × (after : CaptureReader)
    × FillsRows room (is_set udp_tunnels) reader rest still_left after rows end)
    ⊎ (((error : OpenError) × (opened : List ℕ) × (rest : Option (List ℕ)) × ReadsBeginning (Some piece) rest opened (Err error)
    × (end ≡ at_beginning) × (rows ≡ before)) ⊎ ((end ≡ failed_at_beginning) × (rows ≡ before)))
