use Rattle.std.proofs.Common.{arith}
use Rattle.report_page.proofs.piece.first_item.Goals as goal

-- the beginning was read, and then the item
pub returns-in-Ok-clause-item : goal.returns-in-Ok-clause-item
returns-in-Ok-clause-item c = record {
  first = c.in-Ok-Ok.reader;
  opened = c.read_header.new.buffer;
  rest = _;
  left = _;
  has_room = omega arith;
  begins = rw c.in-Ok-Ok.field-0-is at c.in-Ok-Ok.ensures;
  reads = c.in-Ok.ensures.reads;
}
