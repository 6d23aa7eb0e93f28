use Rattle.std.proofs.Common.{take}
use Rattle.std.specs.Io.KnownBytes.{Appends}
use Rattle.capture_words.specs.FactsText.{interfaces_text}
use Rattle.capture_words.proofs.facts.write_interfaces.Given as goal

-- the lines so far were written
abbrev pub invariant-loop-number : goal.invariant-loop-number
invariant-loop-number g l =
    Appends (g.W.Write.contents l.initial.output) (g.W.Write.contents l.output) (interfaces_text l.texts 0 (take l.number l.interfaces))
