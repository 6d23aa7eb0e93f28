-- The packets that have a line.
use Rattle.std.specs.Prelude.{◌≡◌, ◌⊎◌, ◌==◌, ◌||◌, Bool, true, false, if◌then◌else◌, Option}
use Rattle.capture_file.specs.declared.packet_time.PacketTime.{PacketTime}
use Rattle.capture_summary.specs.Choice.{IsChosen}
use Rattle.capture_request.specs.declared.parts.Lines.{Lines}
use Rattle.capture_request.specs.declared.parts.Lines.TheVariants as lines
use Rattle.capture_request.specs.declared.parts.Parts.{Parts}
use Rattle.capture_packet.specs.declared.packet.Packet.{Packet}
use Rattle.capture_packet.specs.declared.verdict.Verdict.{Verdict}
use Rattle.capture_summary.specs.Kinds.{verdict_kind, verdict_place}
use Rattle.capture_summary.specs.declared.verdict_kind.VerdictKind.{VerdictKind}
use Rattle.capture_summary.specs.declared.verdict_kind.VerdictKind.TheVariants.{Refused, Wrong}

-- a packet with this verdict has a fault: its checksum is wrong, or the packet was refused
abbrev pub is_fault : VerdictKind → Bool
is_fault kind = verdict_place kind == verdict_place Wrong || verdict_place kind == verdict_place Refused

-- whether a chosen packet with this verdict has a line
abbrev pub has_line : Lines → Verdict → Bool
has_line lines.All verdict = true
has_line lines.Wrong verdict = is_fault (verdict_kind verdict)
has_line lines.None verdict = false

-- the packet with this time has no line: it is not chosen, or no packet with its verdict has a line
abbrev pub HasNoLine : Parts → Packet → Option PacketTime → Type 0
HasNoLine parts packet time = (IsChosen parts.choice packet time → ⊥) ⊎ (has_line parts.lines packet.verdict ≡ false)

-- `IsPacket` holds for this packet, which has this time. If this packet has no line, `Statement` holds too.
pub record IfNoLine (IsPacket : Packet → Type 0) (parts : Parts) (time : Option PacketTime) (Statement : Type 0) : Type 0 where
  pub packet : Packet
  pub is_packet : IsPacket packet
  pub holds : HasNoLine parts packet time → Statement

-- which packets have a line, given two flags: only the summary is requested, and only packets with a fault have a line
abbrev pub lines_by : Bool → Bool → Lines
lines_by summary_alone wrong_alone = if summary_alone then lines.None else if wrong_alone then lines.Wrong else lines.All
