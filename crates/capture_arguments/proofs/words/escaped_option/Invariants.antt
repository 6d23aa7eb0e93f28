use Rattle.std.proofs.Common.{◌≡◌, length, map, string_bytes}
use Rattle.capture_arguments.specs.Words.{escaped_option, first_escaped_option}
use Rattle.capture_arguments.proofs.words.escaped_option.Given as goal

-- the first escaped option is the first of the words that are left
abbrev pub invariant-loop-left : goal.invariant-loop-left
invariant-loop-left l =
    escaped_option (map (λ word. string_bytes word) l.words) ≡ first_escaped_option (map (λ word. string_bytes word) l.left)

abbrev pub decreases-loop-left : goal.decreases-loop-left
decreases-loop-left l = length l.left
