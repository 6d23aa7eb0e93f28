use Rattle.std.proofs.Common.{arith, rules}
use Rattle.capture_summary.proofs.FlowPlacesLemmas.{ArePlaces_push, one_more_row}
use Rattle.capture_summary.specs.contracts.flows.Flows.{the_view}
use Rattle.capture_summary.proofs.flows.Flows.add_row.Goals as goal

pub invariant_of-self-2 : goal.invariant_of-self-2
invariant_of-self-2 c =
    rw (c.in_ok-push.ensures.items, c.in_ok-try_reserve.ensures.items)
    (record {
      are_places = ArePlaces_push c.self.inside.places c.insert.new.self _ _ c.len.result c.args.flow c.canonical.result
          c.self.invariant.are_places (search rules) (search rules) (search rules) c.canonical.ensures c.in_ok-insert.ensures.updates;
      count = one_more_row (the_view c.self.inside) c.self.inside.packets c.add.new.self c.self.invariant.count
          (omega (arith, c.add.ensures.one));
    })
