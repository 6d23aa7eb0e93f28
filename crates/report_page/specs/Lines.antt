-- The line of the first packet of a piece, as the report writes it.
use Rattle.std.specs.Prelude.{◌≡◌, ℕ, ◌==◌, Bool, true, false, List, ◌++◌, codes, length, if◌then◌else◌}
use Rattle.capture_file.specs.CapturePackets.{FilePacket, kept, too_long}
use Rattle.capture_file.specs.PacketTexts.{no_packet_texts, texts_of}
use Rattle.capture_file.specs.declared.reader.capture_reader.CaptureReader.{CaptureReader}
use Rattle.capture_file.specs.declared.reader.packet_texts.PacketTexts.{PacketTexts}
use Rattle.capture_packet.specs.declared.packet.Packet.{Packet}
use Rattle.capture_request.specs.Report.{IsPacketOf, info_of}
use Rattle.capture_summary.specs.Kinds.{verdict_kind, verdict_word}
use Rattle.capture_summary.specs.Protocols.{content_protocol, protocol_word}
use Rattle.capture_text.specs.PacketLine.{IsLine}
use Rattle.capture_words.specs.declared.times.Times.{Times}
use Rattle.capture_words.specs.declared.times.Times.TheVariants as times
use Rattle.report_page.specs.Pieces.{IsFirstPacket}
use Rattle.report_page.specs.Times.{time_of}
use Rattle.report_page.specs.declared.line.PageLine.{PageLine}

-- a flag of the page is set if its number is not 0
abbrev pub is_set : ℕ → Bool
is_set flag = if flag == 0 then false else true

-- how a line shows its time
abbrev pub times_of : ℕ → Times
times_of flag = if flag == 0 then times.SinceFirst else times.Absolute

-- the texts in the line of a packet that was read last
abbrev pub shown_texts : CaptureReader → FilePacket → PacketTexts
shown_texts reader (kept packet frame) = texts_of reader packet.interface
shown_texts reader (too_long packet) = no_packet_texts

-- This is the line of the first packet of a piece. The buffer for a packet has `room` bytes.
pub record IsFirstLine (piece : List ℕ) (room : ℕ) (request : PageLine) (line : List ℕ) : Type 0 where
  pub buffer : List ℕ
  pub has_room : length buffer ≡ room
  pub reader : CaptureReader
  pub captured : FilePacket
  pub is_first : IsFirstPacket piece buffer reader captured
  pub packet : Packet
  pub is_packet : IsPacketOf (is_set request.opens_udp_tunnels) captured packet
  pub is_line : IsLine (times_of request.is_absolute) (is_set request.is_verbose) request.number (shown_texts reader captured)
      (time_of request.first) (info_of captured).time (info_of captured).len packet line

-- the words for the verdict and the protocol of a packet, each with a line feed
abbrev pub words_of : Packet → List ℕ
words_of packet =
    verdict_word (verdict_kind packet.verdict) ++ (codes "\n" ++ (protocol_word (content_protocol packet.content) ++ codes "\n"))

-- these are the words for the first packet of a piece
pub record AreFirstWords (piece : List ℕ) (room udp_tunnels : ℕ) (words : List ℕ) : Type 0 where
  pub buffer : List ℕ
  pub has_room : length buffer ≡ room
  pub reader : CaptureReader
  pub captured : FilePacket
  pub is_first : IsFirstPacket piece buffer reader captured
  pub packet : Packet
  pub is_packet : IsPacketOf (is_set udp_tunnels) captured packet
  pub are_words : words ≡ words_of packet
