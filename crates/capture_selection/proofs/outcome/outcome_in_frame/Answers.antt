use Rattle.std.proofs.Common.{refl}
use Rattle.capture_selection.proofs.outcome.outcome_in_frame.Goals as goal

pub returns : goal.returns
returns c = record {
  packet = c.packet_in_frame-packet.result;
  is_packet = c.packet_in_frame-packet.ensures;
  given = c.outcome_of.result;
  is_outcome = c.outcome_of.ensures;
  has = refl;
}
