use Rattle.std.proofs.Common.{◌-◌, length}
use Rattle.capture_packet.proofs.LinkLemmas.{IsRead}
use Rattle.capture_packet.proofs.link.tagged_header.Given as goal

abbrev pub invariant-loop-len : goal.invariant-loop-len
invariant-loop-len l = IsRead l.fn.header l.frame l.len l.ether_type

abbrev pub decreases-loop-len : goal.decreases-loop-len
decreases-loop-len l = length l.frame - l.len
