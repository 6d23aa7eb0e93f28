use Rattle.std.proofs.Common.{◌≡◌, take}
use Rattle.std.specs.List.{list_any}
use Rattle.capture_words.proofs.flags.is_any_set.Given as goal

abbrev pub invariant-loop-flag : goal.invariant-loop-flag
invariant-loop-flag l = l.is_any_set ≡ list_any (λ flag. flag.0) (take l.flag-index l.flags)
