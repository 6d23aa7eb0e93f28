use Rattle.std.proofs.Common.{[], ap, sym, unwrap_or}
use Rattle.translator.proofs.ArgumentLemmas.{adds_no_ports}
use Rattle.translator.proofs.arguments.add_ports.Goals as goal

-- the option does not occur
pub returns-in-None : goal.returns-in-None
returns-in-None c = adds_no_ports _ _ (ap (λ found. unwrap_or found []) (sym c.in-None.ensures))
