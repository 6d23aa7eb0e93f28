use Rattle.std.proofs.Common.{arith, sym}
use Rattle.capture_summary.proofs.NetworkLemmas.{no_start}
use Rattle.capture_summary.proofs.network.start.Goals as goal

pub returns-in-None : goal.returns-in-None
returns-in-None c = sym (no_start c.args.number c.args.host_bits (omega arith) (omega arith))
