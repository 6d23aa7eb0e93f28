use Rattle.std.proofs.Common.{◌-◌, length}
use Rattle.capture_packet.proofs.NflogLemmas.{IsLeft}
use Rattle.capture_packet.proofs.link.nflog.attributes.Given as goal

abbrev pub invariant-loop-place : goal.invariant-loop-place
invariant-loop-place l = IsLeft l.fn.order l.frame l.place

abbrev pub decreases-loop-place : goal.decreases-loop-place
decreases-loop-place l = length l.frame - l.place
