use Rattle.std.proofs.Common.{arith}
use Rattle.capture_arguments.proofs.interval.sum_in.Goals as goal

-- there are no whole seconds, or too many
pub returns-in-None : goal.returns-in-None
returns-in-None c = λ nanoseconds is. omega (arith, c.in-None.ensures.value is.0 is.2, is.4)

-- there is no fraction
pub returns-in-None-fraction_in : goal.returns-in-None-fraction_in
returns-in-None-fraction_in c = λ nanoseconds is. absurd (c.in-None-fraction_in.ensures.value is.1 is.3)
