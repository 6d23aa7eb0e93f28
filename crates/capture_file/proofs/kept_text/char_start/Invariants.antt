use Rattle.std.proofs.Common.{◌≡◌, ◌≤◌}
use Rattle.capture_file.specs.Texts as specs
use Rattle.capture_file.proofs.kept_text.char_start.Given as goal

abbrev pub invariant-loop-start : goal.invariant-loop-start
invariant-loop-start l = (l.start ≤ l.fn.place) × (specs.char_start l.text l.fn.place ≡ specs.char_start l.text l.start)

abbrev pub decreases-loop-start : goal.decreases-loop-start
decreases-loop-start l = l.start
