use Rattle.std.proofs.Common.{rules}
use Rattle.translator.proofs.ArgumentLemmas.{adds_next}
use Rattle.translator.proofs.arguments.add_network_values.Goals as goal

-- another value was added
pub loop-value-preserved : goal.loop-value-preserved
loop-value-preserved c =
    adds_next _ _ _ _ _ _ _ (search rules) c.loop-value.invariant c.in-Ok.ensures.reads c.in_ok-add_network-in-Ok.ensures
