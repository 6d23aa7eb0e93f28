use Rattle.capture_copy.proofs.BlockEndLemmas.{ends_first}
use Rattle.capture_copy.proofs.blocks.copy_block.Goals as goal

pub returns-in-Err : goal.returns-in-Err
returns-in-Err g c = record {
  passes =
      λ left consumed counts.
      ends_first (g.V.Visitor.visits c.args.visitor.now) _ c.args.blocks.now c.in-Err.error left _ _ _ counts c.args.first.now _
      c.refused.ensures consumed c.requires.first c.requires.some c.in-Err.ensures.refused c.writes_front-writes_front.ensures
      c.in_ok-write_if-in-Err.ensures.appends;
}
