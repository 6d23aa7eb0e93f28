use Rattle.std.proofs.Common.{None, refl}
use Rattle.std.proofs.lemmas.List.{take_rest}
use Rattle.capture_arguments.specs.ProtocolNames.{protocol_rows}
use Rattle.capture_arguments.proofs.ChosenLemmas.{first_named, next_named, none_named}
use Rattle.capture_arguments.proofs.names.protocol_named.Goals as goal

-- all rows are left
pub loop-left-init : goal.loop-left-init
unfolding protocol_rows
loop-left-init c = rw c.as_slice-left.ensures (λ found is. is)

-- the first row that is left has another name
pub loop-left-preserved : goal.loop-left-preserved
loop-left-preserved c =
    λ found is. c.loop-left.invariant found
    (next_named c.loop-left.left.now _ c.args.name.now found c.in-len1-up.len_at_least
    (λ same. absurd (cc (c.if-eq_ignore_ascii_case.ensures.test.1 same)))
    (rw (take_rest c.loop-left.left.now 1) at is))

-- the first row that is left has the name
pub returns-then-eq_ignore_ascii_case : goal.returns-then-eq_ignore_ascii_case
returns-then-eq_ignore_ascii_case c =
    c.loop-left.invariant _
    (first_named c.loop-left.left.now _ c.args.name.now _ c.in-len1-up.len_at_least (c.if-eq_ignore_ascii_case.ensures.test.0 refl) refl)

-- no row is left
pub returns : goal.returns
returns c = c.loop-left.invariant None (none_named c.loop-left.left.now c.args.name.now c.in_default.len_below)
