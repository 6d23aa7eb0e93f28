use Rattle.std.proofs.Common.{length}
use Rattle.capture_words.proofs.LinkLayerLemmas.{IsLeft}
use Rattle.capture_words.proofs.icmpv6_fields.link_layer_address_in.Given as goal

-- the address is in the options that are left, if there is one
abbrev pub invariant-loop-rest : goal.invariant-loop-rest
invariant-loop-rest l = IsLeft l.options l.rest

abbrev pub decreases-loop-rest : goal.decreases-loop-rest
decreases-loop-rest l = length l.rest
