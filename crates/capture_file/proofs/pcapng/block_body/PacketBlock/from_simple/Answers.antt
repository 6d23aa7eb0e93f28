use Rattle.std.proofs.Common.{arith, rules}
use Rattle.capture_file.proofs.pcapng.block_body.PacketBlock.from_simple.Goals as goal

pub returns-clause-read : goal.returns-clause-read
returns-clause-read c = (c.in-Some.first.now.snap_len, grind (arith, c.in-Some.ensures.value), search rules)
