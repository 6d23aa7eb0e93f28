use Rattle.std.proofs.Common.{◌≡◌, take}
use Rattle.reassembly.specs.Parts.{part_reaches}
use Rattle.reassembly.proofs.part.is_reached.Given as goal

abbrev pub invariant-loop-part : goal.invariant-loop-part
invariant-loop-part l = l.is_reached ≡ part_reaches l.place (take l.part-index l.parts)
