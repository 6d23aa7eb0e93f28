use Rattle.std.proofs.Common.{◌-◌, length}
use Rattle.ip_translation.proofs.SkippedLemmas.{IsReached}
use Rattle.ip_translation.proofs.skipped_headers.skip_headers.Given as goal

abbrev pub invariant-loop-skipped : goal.invariant-loop-skipped
invariant-loop-skipped l = IsReached l.initial.skipped l.skipped l.payload

abbrev pub decreases-loop-skipped : goal.decreases-loop-skipped
decreases-loop-skipped l = length l.payload - l.skipped.len
