use Rattle.std.proofs.Common.{◌≡◌, ◌++◌, ℕ, List}
use Rattle.std.specs.Io.KnownBytes.{Appends}
use Rattle.capture_words.specs.TcpText.{AreOptionTexts, listed}
use Rattle.capture_words.proofs.TcpTextLemmas.{is_none}
use Rattle.capture_words.proofs.tcp_options.write_each.Given as goal

-- the texts so far, together with the texts of the rest, are the texts of all options
abbrev pub invariant-loop-option : goal.invariant-loop-option
invariant-loop-option g l =
    (goal.iterator-loop-option g).can_next l.options
    × (goal.iterator-loop-option g).is_finite l.options
    × (texts : List (List ℕ))
    × Appends (g.W.Write.contents l.initial.output) (g.W.Write.contents l.output) (listed texts)
    × (l.is_first ≡ is_none texts)
    × (l.rest ≡ l.options)
    × ((more : List (List ℕ)) → AreOptionTexts l.rest more → AreOptionTexts l.initial.rest (texts ++ more))
