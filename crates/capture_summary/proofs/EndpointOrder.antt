-- The order of endpoints is total.
use Rattle.std.proofs.lemmas.Cmp.{back_total, nat_cmp_total, on_total, then_total}
use Rattle.std.proofs.lemmas.List.Sorted.{ranks_by}
use Rattle.std.specs.Cmp.{IsStrictWeakOrder, IsTotalOrder}
use Rattle.std.specs.contracts.net.ip_addr.IpAddrOrd.TheImpl.Laws as address_laws
use Rattle.capture_summary.specs.Endpoints.{endpoint_order, is_before}
use Rattle.capture_summary.specs.declared.endpoint_count.EndpointCount.{EndpointCount}

order_total : IsTotalOrder endpoint_order
order_total =
    then_total (on_total (λ (row : EndpointCount). row.count.packets) (back_total nat_cmp_total))
    (then_total (on_total (λ (row : EndpointCount). row.count.bytes) (back_total nat_cmp_total))
    (on_total (λ (row : EndpointCount). row.address) address_laws.total-law))

pub before_weak : IsStrictWeakOrder is_before
before_weak = ranks_by order_total (λ row. row)
