use Rattle.std.proofs.Common.{rules}
use Rattle.capture_words.proofs.FactsLemmas.{one-more}
use Rattle.capture_words.proofs.facts.write_interfaces.Goals as goal

-- the invariant holds after another interface
pub loop-number-preserved : goal.loop-number-preserved
loop-number-preserved g c =
    one-more c.args.texts.now c.args.interfaces.now c.loop-number.number _ _ _ _ (search rules) c.loop-number.invariant
    c.in_ok-write_described.ensures
