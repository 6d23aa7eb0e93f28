-- Laws of the text of the packets of a capture: the text of one more packet follows the text of the packets before it.
use Rattle.std.proofs.Common.{◌≡◌, ◌+◌, ℕ, List, [], ◌∷◌, ◌++◌, ◌∙◌, Option, ap, append-nil, append_assoc, arith, length, refl, subst, sym}
use Rattle.std.proofs.KnownBytes.{Appends-trans}
use Rattle.std.specs.Io.KnownBytes.{Appends}
use Rattle.std.specs.Option.{option_or}
use Rattle.capture_file.specs.CapturePackets.{FilePacket, ReadsOne}
use Rattle.capture_file.specs.declared.packet_time.PacketTime.{PacketTime}
use Rattle.capture_file.specs.declared.reader.capture_reader.CaptureReader.{CaptureReader}
use Rattle.capture_packet.specs.Frames.{max_packet_len}
use Rattle.capture_run.specs.PacketsText.{IsPacketText, ReadsTexts, first_time}
use Rattle.capture_request.specs.Report.{packet_time}
use Rattle.capture_words.specs.Written.{AppendsOne}
use Rattle.capture_request.specs.declared.parts.Parts.{Parts}

-- the texts of some packets, followed by the text of one more packet, are the texts of all these packets
pub text-push : (parts : Parts) (number now : ℕ) (first : Option PacketTime) (a b c : CaptureReader)
    (left middle still_left : Option (List ℕ))
    (packets : List FilePacket) (packet : FilePacket) (text line : List ℕ)
    → ReadsTexts parts number first a left middle b packets text → now ≡ number + length packets
    → ReadsOne max_packet_len b middle still_left c packet → IsPacketText parts now c (first_time first packets) packet line
    → ReadsTexts parts number first a left still_left c (packets ++ packet ∷ []) (text ++ line)
text-push parts number now first a b c left middle still_left [] packet text line is same read one = (
  c,
  still_left,
  line,
  [],
  subst (λ reader. ReadsOne max_packet_len reader left still_left c packet) is.0
      (subst (λ rest. ReadsOne max_packet_len b rest still_left c packet) is.1 read),
  subst (λ n. IsPacketText parts n c first packet line) (omega (arith, same)) one,
  (refl, refl, refl),
  ap (λ t. t ++ line) is.2 ∙ sym (append-nil line),
)
text-push parts number now first a b c left middle still_left (p ∷ ps) packet text line is same read one =
    let (reader, rest, begin, others, is_read, is_text, are_others, whole) = is in (
      reader,
      rest,
      begin,
      others ++ line,
      is_read,
      is_text,
      text-push parts (number + 1) now (option_or first (packet_time p)) reader b c rest middle still_left ps packet others line are_others
          (omega (arith, same)) read one,
      ap (λ t. t ++ line) whole ∙ append_assoc begin others line,
    )

-- after one more packet, the first known time is unchanged; if no time was known, it is the time of this packet
pub first-push : (first : Option PacketTime) (packets : List FilePacket) (packet : FilePacket)
    → first_time first (packets ++ packet ∷ []) ≡ option_or (first_time first packets) (packet_time packet)
first-push first [] packet = refl
first-push first (p ∷ ps) packet = first-push (option_or first (packet_time p)) ps packet

-- the text of another packet was written after the text of the packets before it
pub written-push : (parts : Parts) (now : ℕ) (first : Option PacketTime) (a b c : CaptureReader) (left middle still_left : Option (List ℕ))
    (packets : List FilePacket) (packet : FilePacket) (line : List ℕ) (x y z : Option (List ℕ))
    → AppendsOne x y (λ text. ReadsTexts parts 1 first a left middle b packets text) → now ≡ 1 + length packets
    → ReadsOne max_packet_len b middle still_left c packet → IsPacketText parts now c (first_time first packets) packet line
    → Appends y z line → AppendsOne x z (λ text. ReadsTexts parts 1 first a left still_left c (packets ++ packet ∷ []) text)
written-push parts now first a b c left middle still_left packets packet line x y z before same read one last = (
  before.0 ++ line,
  text-push parts 1 now first a b c left middle still_left packets packet before.0 line before.1 same read one,
  Appends-trans x y z before.0 line before.2 last,
)
