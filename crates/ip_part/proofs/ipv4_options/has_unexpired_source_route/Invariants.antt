use Rattle.std.proofs.Common.{length}
use Rattle.ip_part.specs.Options as specs
use Rattle.ip_part.proofs.OptionsLemmas.{IsSought}
use Rattle.ip_part.proofs.ipv4_options.has_unexpired_source_route.Given as goal

abbrev pub invariant-loop-option : goal.invariant-loop-option
invariant-loop-option l = IsSought specs.is_unexpired_route specs.ipv4_option l.options l.rest

abbrev pub decreases-loop-option : goal.decreases-loop-option
decreases-loop-option l = length l.rest
