use Rattle.std.proofs.Common.{map, take}
use Rattle.translator.specs.Arguments.{AddsPorts}
use Rattle.translator.proofs.arguments.add_port_values.Given as goal

-- the values before this one were added
abbrev pub invariant-loop-value : goal.invariant-loop-value
invariant-loop-value l = AddsPorts (map (λ value. value.now) (take l.value-index l.values)) l.initial.replacements l.replacements
