-- With these answers, the check refuses a wrong body of this function sooner. The right body passes without them.
use Rattle.std.proofs.Common.{rules}
use Rattle.icmp_part.proofs.icmpv6_header.Icmpv6Header.with_checksum.Goals as goal

pub returns-clause-made : goal.returns-clause-made
returns-clause-made c = search rules
