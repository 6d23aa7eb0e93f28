-- The text of a packet in a report.
use Rattle.std.specs.Prelude.{◌≡◌, ◌⊎◌, ℕ, List, [], Bool, MatchBool, Option}
use Rattle.capture_packet.specs.declared.packet.Packet.{Packet}
use Rattle.capture_summary.specs.Choice.{IsChosen}
use Rattle.capture_summary.specs.declared.capture_info.CaptureInfo.{CaptureInfo}
use Rattle.capture_request.specs.Lines.{has_line}
use Rattle.capture_file.specs.declared.packet_time.PacketTime.{PacketTime}
use Rattle.capture_file.specs.declared.reader.packet_texts.PacketTexts.{PacketTexts}
use Rattle.capture_json.specs.JsonPacket.{IsJsonLine}
use Rattle.capture_text.specs.PacketLine.{IsLine}
use Rattle.capture_request.specs.declared.parts.Format.{Format}
use Rattle.capture_request.specs.declared.parts.Format.TheVariants as formats
use Rattle.capture_request.specs.declared.parts.Parts.{Parts}
use Rattle.capture_words.specs.declared.times.Times.{Times}

-- The line of a packet in a format. A line of text contains the details and the comments only if it is verbose. A line of JSON always
-- contains them.
abbrev pub IsLineIn : Format → Times → Bool → ℕ → PacketTexts → Option PacketTime → CaptureInfo → Packet → List ℕ → Type 0
IsLineIn formats.Text times verbose number texts first info packet line =
    IsLine times verbose number texts first info.time info.len packet line
IsLineIn formats.Json times verbose number texts first info packet line =
    IsJsonLine times number texts first info.time info.len packet line

-- the text of a chosen packet: its line in the requested format, if it has a line
abbrev pub IsTextOfChosen : Parts → ℕ → PacketTexts → Option PacketTime → CaptureInfo → Packet → List ℕ → Type 0
IsTextOfChosen parts number texts first info packet text =
    MatchBool (has_line parts.lines packet.verdict)
    (IsLineIn parts.format parts.times parts.verbose number texts first info packet text) (text ≡ [])

-- the text of a packet; it is empty if the packet is not chosen
abbrev pub IsTextOf : Parts → ℕ → PacketTexts → Option PacketTime → CaptureInfo → Packet → List ℕ → Type 0
IsTextOf parts number texts first info packet text =
    (IsChosen parts.choice packet info.time × IsTextOfChosen parts number texts first info packet text)
    ⊎ ((IsChosen parts.choice packet info.time → ⊥) × (text ≡ []))

-- `IsPacket` holds for this packet, and this is the text of the packet
pub record IsTextOfOne (IsPacket : Packet → Type 0) (parts : Parts) (number : ℕ) (texts : PacketTexts) (first : Option PacketTime) (info : CaptureInfo) (text : List ℕ) : Type 0 where
  pub packet : Packet
  pub is_packet : IsPacket packet
  pub is_text : IsTextOf parts number texts first info packet text
