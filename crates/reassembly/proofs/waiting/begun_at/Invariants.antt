use Rattle.std.proofs.Common.{◌≡◌, false, take}
use Rattle.std.specs.List.{list_any}
use Rattle.reassembly.specs.Waiting.{begun_at}
use Rattle.reassembly.proofs.waiting.begun_at.Given as goal

abbrev pub invariant-loop-other : goal.invariant-loop-other
invariant-loop-other l = (l.index ≡ l.other-index) × (list_any (begun_at l.time) (take l.other-index l.waiting) ≡ false)
