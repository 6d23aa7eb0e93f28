-- With these answers, the check refuses a wrong body of this function sooner. The right body passes without them.
use Rattle.std.proofs.Common.{rules}
use Rattle.tcp_part.proofs.tcp_header.TcpHeader.set_options.Goals as goal

pub returns-clause-replaced : goal.returns-clause-replaced
returns-clause-replaced c = search rules
