use Rattle.std.proofs.Common.{arith, sym}
use Rattle.capture_arguments.proofs.chosen.port_in.Goals as goal

-- a number of at most 16 bits
pub returns-in-Ok : goal.returns-in-Ok
returns-in-Ok c =
    let spelled = c.in-Ok.ensures.value.0 in
    (spelled.0.0, sym spelled.1, omega (arith, spelled.0.1, spelled.1))

-- any other text
pub returns-in-Err : goal.returns-in-Err
returns-in-Err c = λ port is. c.in-Err.ensures.value.0 (is.0, omega (arith, is.1, is.2))
