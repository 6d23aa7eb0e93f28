use Rattle.std.proofs.Common.{length}
use Rattle.ip_part.specs.Options.{is_source_route}
use Rattle.ip_part.proofs.OptionsLemmas.{IsSought}
use Rattle.etherparse_transport.specs.SourceRoutes.{option_or_rest}
use Rattle.etherparse_transport.proofs.ip.source_route.contain_source_route.Given as goal

abbrev pub invariant-loop-option : goal.invariant-loop-option
invariant-loop-option l = IsSought is_source_route option_or_rest l.options l.rest

abbrev pub decreases-loop-option : goal.decreases-loop-option
decreases-loop-option l = length l.rest
