-- Packets and rows that were read, one after the other.
use Rattle.std.proofs.Common.{◌≡◌, ℕ, Bool, List, [], ◌∷◌, ◌++◌, ◌+◌, Option, None, Some, IfSome, length, refl, subst}
use Rattle.std.specs.Prelude.{slice_range}
use Rattle.capture_file.specs.declared.reader.captured_packet.CapturedPacket.{CapturedPacket}
use Rattle.capture_file.specs.CapturePackets.{FilePacket, ReadsOne, packet_in}
use Rattle.capture_file.specs.PcapngSteps.{ReadsPacket}
use Rattle.capture_file.specs.declared.reader.next_packet.NextPacket.{NextPacket}
use Rattle.capture_file.specs.declared.reader.capture_reader.CaptureReader.{CaptureReader}
use Rattle.report_page.specs.Pieces.{IsFirstItem}
use Rattle.report_page.specs.Reading.{ReadsRow, ReadsRows}
use Rattle.report_page.specs.declared.row.PageRow.{PageRow}

-- rows that are read after other rows
pub rows_append : (room : ℕ) (udp : Bool) (a b c : CaptureReader) (left middle still_left : Option (List ℕ)) (rows others : List PageRow)
    → ReadsRows room udp a left middle b rows → ReadsRows room udp b middle still_left c others
    → ReadsRows room udp a left still_left c (rows ++ others)
rows_append room udp a b c left middle still_left [] others read more =
    subst (λ r. ReadsRows room udp r left still_left c others) read.0
    (subst (λ l. ReadsRows room udp b l still_left c others) read.1 more)
rows_append room udp a b c left middle still_left (row ∷ rows) others read more =
    (read.0, read.1, read.2, rows_append room udp read.0 b c read.1 middle still_left rows others read.3 more)

-- a row that is read after other rows
pub rows_push : (room : ℕ) (udp : Bool) (a b c : CaptureReader) (left middle still_left : Option (List ℕ)) (rows : List PageRow)
    (row : PageRow)
    → ReadsRows room udp a left middle b rows → ReadsRow room udp b middle still_left c row
    → ReadsRows room udp a left still_left c (rows ++ row ∷ [])
rows_push room udp a b c left middle still_left rows row read one =
    rows_append room udp a b c left middle still_left rows (row ∷ []) read (c, still_left, one, (refl, refl))

-- the item that was read, under another name
pub reads_as : (before after : CaptureReader) (left still_left : Option (List ℕ)) (buffer : List ℕ) (read next : NextPacket)
    → read ≡ next → ReadsPacket before left still_left after buffer read → ReadsPacket before left still_left after buffer next
reads_as before after left still_left buffer read next is reads = subst (ReadsPacket before left still_left after buffer) is reads

-- an item that was read is one packet
pub reads_one : (room : ℕ) (before after : CaptureReader) (left still_left : Option (List ℕ)) (buffer : List ℕ) (read next : NextPacket)
    (packet : FilePacket)
    → length buffer ≡ room → read ≡ next → ReadsPacket before left still_left after buffer read
    → packet_in buffer next ≡ Some packet → ReadsOne room before left still_left after packet
reads_one room before after left still_left buffer read next packet has_room is reads gives = record {
  buffer = buffer;
  has_room = has_room;
  next = next;
  reads = reads_as before after left still_left buffer read next is reads;
  gives = gives;
}

-- what follows for a value, if there is one
pub some_follows : {A : Type 0} (value : Option A) (P Q : A → Type 0) → ((a : A) → P a → Q a) → IfSome value P → IfSome value Q
some_follows None P Q follows holds = holds
some_follows (Some a) P Q follows holds = follows a holds

-- the first item of a piece, under another name
pub item_as : (piece buffer : List ℕ) (after : CaptureReader) (read next : NextPacket)
    → read ≡ next → IsFirstItem piece buffer after read → IsFirstItem piece buffer after next
item_as piece buffer after read next is item = subst (IsFirstItem piece buffer after) is item

-- the captured bytes of a packet that was read into a buffer
abbrev pub frame_of : List ℕ → CapturedPacket → List ℕ
frame_of buffer packet = slice_range buffer packet.start (packet.start + packet.captured_len)
