use Rattle.std.proofs.Common.{[], ap, sym, unwrap_or}
use Rattle.translator.proofs.ArgumentLemmas.{adds_none}
use Rattle.translator.proofs.arguments.add_networks.Goals as goal

-- the option does not occur
pub returns-in-None : goal.returns-in-None
returns-in-None c = adds_none _ _ (ap (λ found. unwrap_or found []) (sym c.in-None.ensures))
