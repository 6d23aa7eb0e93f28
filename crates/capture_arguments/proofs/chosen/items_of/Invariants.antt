use Rattle.std.proofs.Common.{◌≡◌, map, take}
use Rattle.std.specs.List.{flat_map}
use Rattle.capture_arguments.specs.Chosen.{list_items}
use Rattle.capture_arguments.proofs.chosen.items_of.Given as goal

-- the items of the lists so far
abbrev pub invariant-loop-list : goal.invariant-loop-list
invariant-loop-list g l =
    map (λ item. item.now) l.items.items ≡ flat_map list_items (map (λ list. list.now) (take l.list-index l.lists))
