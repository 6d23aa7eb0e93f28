use Rattle.std.proofs.Common.{refl}
use Rattle.capture_selection.proofs.selector.SelectorVisitor.visit_long.Goals as goal

pub returns : goal.returns
returns c = record {
  packet = c.packet_without_room.result;
  is_packet = c.packet_without_room.ensures;
  given = c.outcome_of.result;
  is_outcome = c.outcome_of.ensures;
  has = refl;
}
