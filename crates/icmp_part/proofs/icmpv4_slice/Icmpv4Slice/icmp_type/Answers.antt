-- With these answers, the check refuses a wrong body of this function sooner. The right body passes without them.
use Rattle.std.proofs.Common.{rules}
use Rattle.icmp_part.proofs.icmpv4_slice.Icmpv4Slice.icmp_type.Goals as goal

pub returns : goal.returns
returns c = search rules
