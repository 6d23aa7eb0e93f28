-- With these answers, the check refuses a wrong body of this function sooner. The right body passes without them.
use Rattle.std.proofs.Common.{rules}
use Rattle.udp_part.proofs.udp_slice.UdpSlice.from_slice_lax.Goals as goal

pub returns-then-length-lt-LEN-clause-kept : goal.returns-then-length-lt-LEN-clause-kept
returns-then-length-lt-LEN-clause-kept c = search rules
