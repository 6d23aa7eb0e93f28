use Rattle.std.proofs.Common.{◌≡◌, ◌++◌, IsUtf8, length, map}
use Rattle.capture_arguments.specs.Chosen.{list_items}
use Rattle.capture_arguments.proofs.chosen.add_items.Given as goal

-- the items that are added, and those that are left
abbrev pub invariant-loop-item : goal.invariant-loop-item
invariant-loop-item g l =
    IsUtf8 l.left
    × (map (λ item. item.now) l.items.items ++ list_items l.left ≡ map (λ item. item.now) l.initial.items.items ++ list_items l.list)

abbrev pub decreases-loop-item : goal.decreases-loop-item
decreases-loop-item g l = length l.left
