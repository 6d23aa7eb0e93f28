use Rattle.std.proofs.Common.{◌≡◌, length, map, string_bytes}
use Rattle.capture_arguments.specs.Unknown.{first_unknown, unknown_option}
use Rattle.capture_arguments.proofs.unknown.unknown_option.Given as goal

-- the first unknown option is the first of the words that are left
abbrev pub invariant-loop-left : goal.invariant-loop-left
invariant-loop-left l = unknown_option (map (λ word. string_bytes word) l.words) ≡ first_unknown (map (λ word. string_bytes word) l.left)

abbrev pub decreases-loop-left : goal.decreases-loop-left
decreases-loop-left l = length l.left
