use Rattle.std.proofs.Common.{take}
use Rattle.std.specs.Io.KnownBytes.{Appends}
use Rattle.std.specs.List.{flat_map}
use Rattle.capture_words.specs.Flags.{flag_text}
use Rattle.capture_words.proofs.flags.write_each.Given as goal

-- the flags so far were written
abbrev pub invariant-loop-flag : goal.invariant-loop-flag
invariant-loop-flag g l =
    Appends (g.W.Write.contents l.initial.output) (g.W.Write.contents l.output)
    (flat_map (λ flag. flag_text (flag.0, flag.1.now)) (take l.flag-index l.flags))
