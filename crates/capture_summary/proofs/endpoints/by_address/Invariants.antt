use Rattle.std.proofs.Common.{◌≡◌, ◌++◌, map}
use Rattle.capture_summary.specs.Endpoints.{endpoint_row}
use Rattle.capture_summary.proofs.endpoints.by_address.Given as goal

abbrev pub invariant-loop-address : goal.invariant-loop-address
invariant-loop-address l = l.endpoints.items ++ map endpoint_row l.address-iterator ≡ map endpoint_row l.fn.table.entries
