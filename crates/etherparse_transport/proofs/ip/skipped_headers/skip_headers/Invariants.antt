use Rattle.std.proofs.Common.{◌-◌, ◌≤◌, length}
use Rattle.etherparse_transport.proofs.SkippedHeaderLemmas.{AreReached}
use Rattle.etherparse_transport.proofs.ip.skipped_headers.skip_headers.Given as goal

abbrev pub invariant-loop-header : goal.invariant-loop-header
invariant-loop-header l = AreReached l.skipped l.packet × (40 ≤ l.skipped.len)

abbrev pub decreases-loop-header : goal.decreases-loop-header
decreases-loop-header l = length l.packet - l.skipped.len
