-- The facts of a capture, as the summary of the report states them.
use Rattle.std.specs.Prelude.{◌≡◌, ℕ, List, Some}
use Rattle.capture_file.specs.declared.reader.capture_reader.CaptureReader.{CaptureReader}
use Rattle.capture_file.specs.declared.reader.next_packet.NextPacket.{NextPacket}
use Rattle.capture_words.specs.FactsText.{facts_text}
use Rattle.report_page.specs.Pieces.{IsFirstItem}

-- these are the facts of the capture after the first item of a piece
abbrev pub AreFacts : List ℕ → List ℕ → Type 0
AreFacts piece facts =
    (buffer : List ℕ) × (reader : CaptureReader) × (next : NextPacket) × IsFirstItem piece buffer reader next
    × (facts ≡ facts_text (Some reader))
