use Rattle.std.proofs.Common.{◌^◌, arith}
use Rattle.capture_summary.proofs.NetworkLemmas.{own_end}
use Rattle.capture_summary.proofs.network.has_zeros_at_end.Goals as goal

pub returns-in-None : goal.returns-in-None
returns-in-None c =
    let same = own_end c.args.number (2 ^ c.args.host_bits) (omega arith) c.in-None.ensures in
    grind (arith, same)
