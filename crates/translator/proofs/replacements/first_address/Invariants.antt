use Rattle.std.proofs.Common.{◌≡◌, length}
use Rattle.std.specs.List.{find}
use Rattle.translator.specs.Replacements.{is_in}
use Rattle.translator.proofs.replacements.first_address.Given as goal

-- the first match in all replacements is the first match in those that are left
abbrev pub invariant-loop-left : goal.invariant-loop-left
invariant-loop-left l =
    find (λ replacement. is_in replacement.old l.address) l.fn.replacements ≡ find (λ replacement. is_in replacement.old l.address) l.left

abbrev pub decreases-loop-left : goal.decreases-loop-left
decreases-loop-left l = length l.left
