use Rattle.std.proofs.Common.{◌∙◌, ap, subst, sym}
use Rattle.std.proofs.lemmas.Result.{IfOk-weaker}
use Rattle.std.specs.List.Sorted.{IsStrictlySortedBy}
use Rattle.std.specs.Map.{keys_of}
use Rattle.capture_summary.proofs.EndpointRows.{are_busiest_endpoints}
use Rattle.capture_summary.specs.Endpoints.{AreBusiestEndpoints, address_order, busiest_in_table}
use Rattle.capture_summary.proofs.endpoints.busiest.Goals as goal

pub returns-clause-endpoints : goal.returns-clause-endpoints
returns-clause-endpoints c =
    let same = c.in_ok-address_table.ensures.entries in
    let ordered = subst (λ table. IsStrictlySortedBy address_order (keys_of table)) same c.in_ok-address_table.ensures.ordered in
    IfOk-weaker c.in_order.result _ _
    (λ endpoints is.
    subst (AreBusiestEndpoints c.args.top c.args.rows.now) (sym (is ∙ ap (busiest_in_table c.args.top) same))
    (are_busiest_endpoints c.args.top c.args.rows.now ordered))
    c.in_order.ensures
