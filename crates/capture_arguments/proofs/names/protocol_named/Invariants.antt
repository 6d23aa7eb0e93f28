use Rattle.std.proofs.Common.{Option, length, map}
use Rattle.capture_summary.specs.declared.choice.ChosenProtocol.{ChosenProtocol}
use Rattle.capture_arguments.specs.ProtocolNames.{Names, protocol_rows}
use Rattle.capture_arguments.proofs.names.protocol_named.Given as goal

-- the first row with the name is among the rows that are left
abbrev pub invariant-loop-left : goal.invariant-loop-left
invariant-loop-left l =
    (found : Option ChosenProtocol) → Names (map (λ row. (row.0.now, row.1)) l.left) l.name found → Names protocol_rows l.name found

abbrev pub decreases-loop-left : goal.decreases-loop-left
decreases-loop-left l = length l.left
