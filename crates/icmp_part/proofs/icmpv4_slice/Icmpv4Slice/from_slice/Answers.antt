-- With these answers, the check refuses a wrong body of this function sooner. The right body passes without them.
use Rattle.std.proofs.Common.{rules}
use Rattle.std.proofs.Math.Seq.{take-length}
use Rattle.icmp_part.proofs.icmpv4_slice.Icmpv4Slice.from_slice.Goals as goal

pub returns-clause-kept : goal.returns-clause-kept
returns-clause-kept c = search (rules, take-length)
