use Rattle.std.proofs.Common.{◌≡◌, take}
use Rattle.std.specs.BTreeMap.{IsOrdered}
use Rattle.capture_summary.specs.Endpoints.{address_order, address_table}
use Rattle.capture_summary.proofs.endpoints.address_table.Given as goal

abbrev pub invariant-loop-row : goal.invariant-loop-row
invariant-loop-row l = (l.table.entries ≡ address_table (take l.row-index l.rows)) × IsOrdered address_order l.table
