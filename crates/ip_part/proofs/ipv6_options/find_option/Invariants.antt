use Rattle.std.proofs.Common.{length}
use Rattle.ip_part.specs.Options as specs
use Rattle.ip_part.proofs.OptionsLemmas.{IsSought}
use Rattle.ip_part.proofs.ipv6_options.find_option.Given as goal

abbrev pub invariant-loop-option : goal.invariant-loop-option
invariant-loop-option l = IsSought (specs.is_ipv6_option l.fn.kind l.fn.len) specs.ipv6_option l.options l.rest

abbrev pub decreases-loop-option : goal.decreases-loop-option
decreases-loop-option l = length l.rest
