-- With these answers, the check refuses a wrong body of this function sooner. The right body passes without them.
use Rattle.std.proofs.Common.{rules}
use Rattle.tcp_part.proofs.tcp_header_slice.TcpHeaderSlice.to_header.Goals as goal

pub returns-clause-value : goal.returns-clause-value
returns-clause-value c = search rules
