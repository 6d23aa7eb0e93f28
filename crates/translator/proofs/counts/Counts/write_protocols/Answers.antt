use Rattle.std.proofs.Common.{refl, rules}
use Rattle.std.proofs.lemmas.List.{take_rest}
use Rattle.translator.proofs.CountLemmas.{line_then, no_line}
use Rattle.translator.proofs.counts.Counts.write_protocols.Goals as goal

-- all lines are left
pub loop-left-init : goal.loop-left-init
loop-left-init g c = (λ after lines. rw c.as_slice-left.ensures at lines, rw c.as_slice-left.ensures (search rules))

-- the line of the first protocol that is left was written
pub loop-left-preserved : goal.loop-left-preserved
loop-left-preserved g c = (
  λ after lines. c.loop-left.invariant.0 after
      (line_then _ _ after c.loop-left.number _ c.loop-left.left.now _ c.in-len1-up.len_at_least refl (take_rest c.loop-left.left.now 1)
      c.in_ok-write_protocol.ensures lines),
  search rules,
)

-- no line is left
pub returns : goal.returns
returns g c =
    c.loop-left.invariant.0 (g.W.Write.contents c.loop-left.output)
    (no_line (g.W.Write.contents c.loop-left.output) c.loop-left.number c.loop-left.left.now c.in_default.len_below)
