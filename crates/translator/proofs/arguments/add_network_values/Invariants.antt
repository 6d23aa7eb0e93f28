use Rattle.std.proofs.Common.{map, take}
use Rattle.translator.specs.Arguments.{AddsNetworks}
use Rattle.translator.proofs.arguments.add_network_values.Given as goal

-- the values before this one were added
abbrev pub invariant-loop-value : goal.invariant-loop-value
invariant-loop-value l = AddsNetworks (map (λ value. value.now) (take l.value-index l.values)) l.initial.replacements l.replacements
