-- With these answers, the check refuses a wrong body of this function sooner. The right body passes without them.
use Rattle.std.proofs.Common.{rules}
use Rattle.net_base.proofs.err.len_error.LenError.add_offset.Goals as goal

pub returns : goal.returns
returns c = search rules
