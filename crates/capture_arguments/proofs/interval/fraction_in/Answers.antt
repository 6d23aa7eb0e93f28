use Rattle.std.proofs.Common.{arith}
use Rattle.capture_arguments.proofs.IntervalLemmas.{short_number}
use Rattle.capture_arguments.proofs.interval.fraction_in.Goals as goal

-- a number of at most nine digits fits
pub returns-in-None-clause-value : goal.returns-in-None-clause-value
returns-in-None-clause-value c =
    λ nanoseconds is. omega (arith, c.in-None.ensures is.0 is.2, short_number c.args.text.now is.0 is.1 is.2)
