-- The texts of the errors that end a capture.
use Rattle.std.specs.Prelude.{◌≡◌, ◌⊎◌, ℕ, List, ◌++◌, codes, decimal, min, ◌+◌, ◌-◌, ◌^◌, length, Option, Some, Err}
use Rattle.capture_file.specs.Opening.{ReadsBeginning}
use Rattle.capture_file.specs.declared.reader.capture_reader.CaptureReader.{CaptureReader}
use Rattle.capture_file.specs.declared.reader.next_packet.NextPacket.TheVariants.{Refused}
use Rattle.capture_file.specs.declared.reader.open_error.OpenError.{OpenError}
use Rattle.capture_file.specs.declared.reader.packet_error.PlacedPacketError.{PlacedPacketError}
use Rattle.report_page.specs.Pieces.{IsFirstItem}
use Rattle.report_page.specs.declared.end_text.PageCut.{PageCut}
use Rattle.report_page.specs.declared.end_text.PagePlace.{PagePlace}

-- the text for a capture that ends within this record or block
abbrev pub cut_off_text : PageCut → List ℕ
cut_off_text cut =
    codes "At byte "
    ++ (decimal cut.offset ++ (codes " of the capture, in or before packet " ++ (decimal cut.number
    ++ (codes ": The record or block has at least " ++ (decimal cut.required_len ++ (codes " bytes, and " ++ (decimal cut.len
    ++ codes " are left.")))))))

-- the beginning of a piece is refused, or its first item; the buffer for a packet has `room` bytes
abbrev pub IsRefused : List ℕ → ℕ → Type 0
IsRefused piece room =
    ((error : OpenError) × (opened : List ℕ) × (length opened ≡ room) × (rest : Option (List ℕ))
    × ReadsBeginning (Some piece) rest opened (Err error))
    ⊎ ((buffer : List ℕ) × (length buffer ≡ room) × (reader : CaptureReader) × (error : PlacedPacketError)
    × IsFirstItem piece buffer reader (Refused error))

-- an error with its place in the file, for an error with its place in the piece; the place is at most 2^64 - 1
abbrev pub moved : PagePlace → PlacedPacketError → PlacedPacketError
moved place refused = record refused { offset = min (place.offset + (refused.offset - place.head_len)) (2 ^ 64 - 1) }
