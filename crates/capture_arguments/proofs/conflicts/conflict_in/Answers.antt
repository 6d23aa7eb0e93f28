use Rattle.std.proofs.Common.{refl}
use Rattle.capture_arguments.proofs.conflicts.conflict_in.Goals as goal

-- all pairs are left
pub loop-left-init : goal.loop-left-init
loop-left-init c = rw c.as_slice-left.ensures refl
