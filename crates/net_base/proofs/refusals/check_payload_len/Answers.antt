-- With these answers, the check refuses a wrong body of this function sooner. The right body passes without them.
use Rattle.std.proofs.Common.{rules}
use Rattle.net_base.proofs.refusals.check_payload_len.Goals as goal

pub returns-else-len-max_allowed : goal.returns-else-len-max_allowed
returns-else-len-max_allowed c = search rules
