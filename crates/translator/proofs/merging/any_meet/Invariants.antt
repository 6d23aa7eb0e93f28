use Rattle.std.proofs.Common.{◌≡◌, length}
use Rattle.std.specs.List.{list_any}
use Rattle.translator.specs.Merging.{meet}
use Rattle.translator.proofs.merging.any_meet.Given as goal

-- the answer for all replacements is the answer for those that are left
abbrev pub invariant-loop-left : goal.invariant-loop-left
invariant-loop-left l = list_any (λ one. list_any (meet one) l.others) l.fn.replacements
    ≡ list_any (λ one. list_any (meet one) l.others) l.left

abbrev pub decreases-loop-left : goal.decreases-loop-left
decreases-loop-left l = length l.left
