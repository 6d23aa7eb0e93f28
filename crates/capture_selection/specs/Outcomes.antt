-- The outcomes of the packets of a capture, and the counts of packets.
use Rattle.std.specs.Prelude.{◌≡◌, true, false, Option, Some}
use Rattle.capture_copy.specs.Passing.{one_more}
use Rattle.capture_file.specs.declared.packet_time.PacketTime.{PacketTime}
use Rattle.capture_packet.specs.declared.packet.Packet.{Packet}
use Rattle.capture_summary.specs.Choice.{IsChosen}
use Rattle.capture_request.specs.Lines.{has_line}
use Rattle.capture_request.specs.declared.parts.Parts.{Parts}
use Rattle.capture_selection.specs.declared.counts.Counts.{Counts}
use Rattle.capture_selection.specs.declared.outcome.Outcome.{Outcome}
use Rattle.capture_selection.specs.declared.outcome.Outcome.TheVariants.{Excluded, Unlisted, Written}

-- The outcome of a packet with this time and these options. `Excluded` means that the packet is not chosen. A chosen packet is `Written` if it has a line
-- in the report, and otherwise `Unlisted`.
abbrev pub IsOutcomeOf : Parts → Packet → Option PacketTime → Outcome → Type 0
IsOutcomeOf options packet time Excluded = IsChosen options.choice packet time → ⊥
IsOutcomeOf options packet time Unlisted = IsChosen options.choice packet time × (has_line options.lines packet.verdict ≡ false)
IsOutcomeOf options packet time Written = IsChosen options.choice packet time × (has_line options.lines packet.verdict ≡ true)

-- this is the outcome of a packet with this time for which `IsPacket` holds
pub record HasOutcome (options : Parts) (IsPacket : Packet → Type 0) (time : Option PacketTime) (outcome : Option Outcome) : Type 0 where
  pub packet : Packet
  pub is_packet : IsPacket packet
  pub given : Outcome
  pub is_outcome : IsOutcomeOf options packet time given
  pub has : outcome ≡ Some given

-- the counts after a packet with this outcome: each packet counts as read, and a written packet also counts as chosen
abbrev pub counted : Counts → Outcome → Counts
counted counts Excluded = record counts { read = one_more counts.read }
counted counts Unlisted = record counts { read = one_more counts.read; chosen = one_more counts.chosen }
counted counts Written =
    record { read = one_more counts.read; chosen = one_more counts.chosen; written = one_more counts.written }
