use Rattle.std.proofs.Common.{◌≡◌, false, take}
use Rattle.std.specs.List.{list_any}
use Rattle.reassembly.specs.Waiting.{has_key}
use Rattle.reassembly.proofs.waiting.known_at.Given as goal

abbrev pub invariant-loop-other : goal.invariant-loop-other
invariant-loop-other l = (l.index ≡ l.other-index) × (list_any (has_key l.key) (take l.other-index l.waiting) ≡ false)
