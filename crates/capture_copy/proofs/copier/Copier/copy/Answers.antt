use Rattle.std.proofs.Common.{arith, length-take}
use Rattle.capture_copy.proofs.CopyLemmas.{copies_end, copies_more, copies_nothing}
use Rattle.capture_copy.proofs.copier.Copier.copy.Goals as goal

pub loop-copied-init : goal.loop-copied-init
loop-copied-init g c = record { within = omega arith; copies = copies_nothing _ _ }

pub returns-in-Err-clause-copies : goal.returns-in-Err-clause-copies
returns-in-Err-clause-copies g c = record {
  len = c.loop-copied.copied;
  within = c.loop-copied-test.true;
  then_left = _;
  copies = c.loop-copied.invariant.copies;
}

pub returns-then-len-eq0-clause-copies : goal.returns-then-len-eq0-clause-copies
returns-then-len-eq0-clause-copies g c =
    copies_end _ _ _ _ _ _ _ _ c.loop-copied.invariant.copies c.in-Ok.ensures.consumed c.if-len-eq0.true

pub loop-copied-preserved : goal.loop-copied-preserved
loop-copied-preserved g c = record {
  within = omega (
    arith,
    c.loop-copied-test.true,
    c.min-room.ensures,
    c.in-Ok.ensures.len,
    c.fill.auto.buffer,
    length-take c.min-room.result c.loop-copied.self.buffer.now,
  );
  copies = copies_more _ _ _ _ _ _ _ _ _ c.loop-copied.invariant.copies c.in-Ok.ensures.consumed c.in_default.ensures.bytes
      c.in-Ok.ensures.len;
}
