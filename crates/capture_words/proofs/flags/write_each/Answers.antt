use Rattle.std.proofs.Common.{rules}
use Rattle.capture_words.proofs.WrittenLemmas.{each_more}
use Rattle.capture_words.proofs.flags.write_each.Goals as goal

-- the invariant holds after another flag
pub loop-flag-preserved : goal.loop-flag-preserved
loop-flag-preserved g c = each_more c.args.flags.now _ _ _ _ _ _ c.loop-flag.invariant c.in_ok-write_flag.ensures (search rules)
