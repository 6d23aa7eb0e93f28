use Rattle.std.proofs.Common.{◌++◌, arith, take, length-append, length-take}
use Rattle.std.proofs.KnownBytes.{Consumes-trans}
use Rattle.streams.proofs.skip.Goals as goal

pub loop-skipped-preserved : goal.loop-skipped-preserved
loop-skipped-preserved g c =
    let (bytes, has_len, consumed, within) = c.loop-skipped.invariant in
    let len = c.in_ok-len.len in
    let read = take len c.read.new.buf in
    let bound = c.in_ok-len.ensures.bound in (
      bytes ++ read,
      omega (arith, length-append bytes read, has_len, bound.1),
      Consumes-trans _ _ _ _ _ consumed c.in_ok-len.ensures.bytes.0,
      omega (
        arith,
        bound.0,
        within,
        c.read.auto.buf,
        length-take c.min-room.result c.loop-skipped.part,
        c.min-room.ensures,
      ),
    )
