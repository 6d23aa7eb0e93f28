use Rattle.std.proofs.Common.{refl}
use Rattle.capture_arguments.proofs.chosen.single_in.Goals as goal

-- a port
pub returns-in-Some : goal.returns-in-Some
returns-in-Some c = (rw c.in-Some.is at c.port_in.ensures, refl)

-- no port
pub returns-in-None : goal.returns-in-None
returns-in-None c = λ range is. (rw c.in-None.is at c.port_in.ensures) range.first is.0
