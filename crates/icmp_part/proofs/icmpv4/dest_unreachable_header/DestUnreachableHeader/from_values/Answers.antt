-- With these answers, the check refuses a wrong body of this function sooner. The right body passes without them.
use Rattle.std.proofs.Common.{rules}
use Rattle.icmp_part.proofs.icmpv4.dest_unreachable_header.DestUnreachableHeader.from_values.Goals as goal

pub returns-in-4 : goal.returns-in-4
returns-in-4 c = search rules
