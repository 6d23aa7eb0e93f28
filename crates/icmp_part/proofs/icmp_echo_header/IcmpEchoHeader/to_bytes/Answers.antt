-- With these answers, the check refuses a wrong body of this function sooner. The right body passes without them.
use Rattle.std.proofs.Common.{rules}
use Rattle.icmp_part.proofs.icmp_echo_header.IcmpEchoHeader.to_bytes.Goals as goal

pub returns-clause-written : goal.returns-clause-written
returns-clause-written c = search rules
