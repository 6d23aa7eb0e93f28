use Rattle.std.proofs.Common.{◌-◌, length, sym, subst}
use Rattle.std.specs.Io.KnownBytes.{Consumes}
use Rattle.std.proofs.KnownBytes.{Consumes-trans}
use Rattle.streams.proofs.FillLemmas.{length-written, take-written}
use Rattle.streams.proofs.fill.Goals as goal

pub loop-filled-preserved : goal.loop-filled-preserved
loop-filled-preserved g c =
    let from = c.loop-filled.filled in
    let room = length c.loop-filled.buffer - from in
    let within = c.loop-filled.invariant.0 in
    let fits = c.in_ok-len.ensures.bound.0 in (
      length-written from room c.in_ok-len.len c.loop-filled.buffer c.read.new.buf within fits,
      subst (Consumes _ _) (sym (take-written from room c.in_ok-len.len c.loop-filled.buffer c.read.new.buf within fits))
          (Consumes-trans _ _ _ _ _ c.loop-filled.invariant.1 c.in_ok-len.ensures.bytes.0),
    )
