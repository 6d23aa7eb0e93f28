use Rattle.std.proofs.Common.{◌≡◌, take}
use Rattle.std.specs.List.{list_any}
use Rattle.reassembly.specs.Parts.{part_overlaps}
use Rattle.reassembly.proofs.part.is_overlapped.Given as goal

abbrev pub invariant-loop-part : goal.invariant-loop-part
invariant-loop-part l = l.is_overlapped ≡ list_any (part_overlaps l.offset l.end) (take l.part-index l.parts)
