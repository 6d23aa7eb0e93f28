-- With these answers, the check refuses a wrong body of this function sooner. The right body passes without them.
use Rattle.std.proofs.Common.{rules}
use Rattle.net_base.proofs.ipv4_header_slice.Ipv4HeaderSlicePartialEq.eq.Goals as goal

pub returns-clause-computes : goal.returns-clause-computes
returns-clause-computes c = search rules
