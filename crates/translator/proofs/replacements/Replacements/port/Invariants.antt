use Rattle.std.proofs.Common.{◌≡◌, ◌==◌, length}
use Rattle.std.specs.List.{find}
use Rattle.translator.proofs.replacements.Replacements.port.Given as goal

-- the first match in all replacements is the first match in those that are left
abbrev pub invariant-loop-left : goal.invariant-loop-left
invariant-loop-left l = find (λ replacement. replacement.old == l.port) l.self.ports.items
    ≡ find (λ replacement. replacement.old == l.port) l.left

abbrev pub decreases-loop-left : goal.decreases-loop-left
decreases-loop-left l = length l.left
