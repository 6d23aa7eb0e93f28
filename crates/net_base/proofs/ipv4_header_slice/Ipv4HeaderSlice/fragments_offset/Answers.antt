use Rattle.std.proofs.Common.{arith}
use Rattle.std.proofs.lemmas.Grind.{common_steps}
use Rattle.net_base.proofs.ipv4_header_slice.Ipv4HeaderSlice.fragments_offset.Goals as goal

pub returns : goal.returns
returns c = grind (arith, common_steps)
