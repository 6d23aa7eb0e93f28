use Rattle.std.proofs.Common.{◌≡◌, ℕ, List, length, map, string_bytes}
use Rattle.capture_arguments.specs.Words.{AreArguments, max_argument_len, word_of}
use Rattle.capture_arguments.proofs.words.words_of.Given as goal

-- the arguments before this one were read
abbrev pub invariant-loop-place : goal.invariant-loop-place
invariant-loop-place g l =
    (arguments : List (List ℕ))
    × AreArguments (g.A.Arguments.holds l.arguments) 0 arguments
    × (l.place ≡ length arguments)
    × (length l.room ≡ max_argument_len)
    × (map (λ word. string_bytes word) l.words.items ≡ map word_of arguments)
