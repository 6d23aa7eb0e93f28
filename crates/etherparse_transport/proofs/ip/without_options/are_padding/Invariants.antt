use Rattle.std.proofs.Common.{◌≡◌, length}
use Rattle.etherparse_transport.specs.EchoReplies.{are_padding}
use Rattle.etherparse_transport.proofs.ip.without_options.are_padding.Given as goal

abbrev pub invariant-loop-kind : goal.invariant-loop-kind
invariant-loop-kind l = are_padding l.options ≡ are_padding l.rest

abbrev pub decreases-loop-kind : goal.decreases-loop-kind
decreases-loop-kind l = length l.rest
