use Rattle.std.proofs.Common.{◌≡◌, take}
use Rattle.std.specs.List.{fold}
use Rattle.reassembly.specs.Waiting.{earlier}
use Rattle.reassembly.proofs.waiting.earliest.Given as goal

abbrev pub invariant-loop-other : goal.invariant-loop-other
invariant-loop-other l = l.time ≡ fold earlier l.first (take l.other-index l.others)
