use Rattle.std.proofs.Common.{length}
use Rattle.ip_part.specs.Options.{ipv6_option}
use Rattle.ip_part.proofs.OptionsLemmas.{IsSought}
use Rattle.etherparse_transport.specs.SkippedHeaders.{is_home_address}
use Rattle.etherparse_transport.proofs.ip.skipped_headers.contain_home_address.Given as goal

abbrev pub invariant-loop-option : goal.invariant-loop-option
invariant-loop-option l = IsSought is_home_address ipv6_option l.options l.rest

abbrev pub decreases-loop-option : goal.decreases-loop-option
decreases-loop-option l = length l.rest
