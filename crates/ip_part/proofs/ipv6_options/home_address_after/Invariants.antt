use Rattle.std.proofs.Common.{drop, length}
use Rattle.ip_part.specs.Options as specs
use Rattle.ip_part.proofs.OptionsLemmas.{IsFolded}
use Rattle.ip_part.proofs.ipv6_options.home_address_after.Given as goal

abbrev pub invariant-loop-option : goal.invariant-loop-option
invariant-loop-option l = IsFolded specs.ipv6_option specs.home_address_or l.fn.source l.address (drop 2 l.header) l.rest

abbrev pub decreases-loop-option : goal.decreases-loop-option
decreases-loop-option l = length l.rest
