-- With these answers, the check refuses a wrong body of this function sooner. The right body passes without them.
use Rattle.std.proofs.Common.{rules}
use Rattle.ip_part.proofs.extension_headers.headers_after.Goals as goal

pub returns : goal.returns
returns c = search rules
