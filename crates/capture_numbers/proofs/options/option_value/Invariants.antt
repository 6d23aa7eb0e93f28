use Rattle.std.proofs.Common.{length}
use Rattle.ip_part.proofs.OptionsLemmas.{IsSought}
use Rattle.capture_numbers.specs.Options as specs
use Rattle.capture_numbers.proofs.options.option_value.Given as goal

abbrev pub invariant-loop-option : goal.invariant-loop-option
invariant-loop-option l = IsSought (specs.is_option l.fn.order l.fn.code l.fn.len) (specs.pcapng_option l.fn.order) l.options l.rest

abbrev pub decreases-loop-option : goal.decreases-loop-option
decreases-loop-option l = length l.rest
