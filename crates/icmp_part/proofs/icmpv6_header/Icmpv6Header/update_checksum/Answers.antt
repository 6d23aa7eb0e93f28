-- With these answers, the check refuses a wrong body of this function sooner. The right body passes without them.
use Rattle.std.proofs.Common.{rules}
use Rattle.icmp_part.proofs.icmpv6_header.Icmpv6Header.update_checksum.Goals as goal

pub returns-in_err-self-clause-unchanged : goal.returns-in_err-self-clause-unchanged
returns-in_err-self-clause-unchanged c = search rules
