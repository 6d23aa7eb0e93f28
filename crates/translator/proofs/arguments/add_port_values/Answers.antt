use Rattle.std.proofs.Common.{refl, rules}
use Rattle.translator.proofs.ArgumentLemmas.{adds_next_port}
use Rattle.translator.proofs.arguments.add_port_values.Goals as goal

-- another value was added
pub loop-value-preserved : goal.loop-value-preserved
loop-value-preserved c =
    adds_next_port _ _ _ _ _ _ _ (search rules) c.loop-value.invariant c.in-Ok.ensures.reads refl refl (search rules)
