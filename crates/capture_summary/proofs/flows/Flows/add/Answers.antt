use Rattle.std.proofs.Common.{◌<◌, ◌+◌, ◌∙◌, ap, length, rules, subst, sym}
use Rattle.capture_summary.proofs.FlowPlacesLemmas.{ArePlaces_set, one_in_row, place_within, row_below}
use Rattle.capture_summary.specs.FlowTable.{packets_counted}
use Rattle.capture_summary.specs.contracts.flows.Flows.{the_view}
use Rattle.capture_summary.proofs.flows.Flows.add.Goals as goal

pub index_mut-requires : goal.index_mut-requires
index_mut-requires c =
    let within : c.in-Some-get.place.now < length c.self.inside.counts.items =
    place_within c.self.inside.places c.self.inside.counts.items c.in-Some.flow c.canonical.result c.in-Some-get.place.now
    c.self.invariant.are_places c.canonical.ensures c.in-Some-get.ensures.value in
    search rules

pub add-requires-in-Some-get : goal.add-requires-in-Some-get
add-requires-in-Some-get c =
    let within = place_within c.self.inside.places c.self.inside.counts.items c.in-Some.flow c.canonical.result c.in-Some-get.place.now
    c.self.invariant.are_places c.canonical.ensures c.in-Some-get.ensures.value in
    row_below (the_view c.self.inside) c.in-Some-get.place.now 18446744073709551615 c.index_mut.result.now c.index_mut.ensures.value within
    (subst (λ table. packets_counted table < 18446744073709551615) (sym c.self.view_is) c.requires.room)

pub returns-in-Some-get-clause-counted : goal.returns-in-Some-get-clause-counted
returns-in-Some-get-clause-counted c =
    let within = place_within c.self.inside.places c.self.inside.counts.items c.in-Some.flow c.canonical.result c.in-Some-get.place.now
    c.self.invariant.are_places c.canonical.ensures c.in-Some-get.ensures.value in
    one_in_row (the_view c.self.inside) c.in-Some-get.place.now c.index_mut.result.now c.add-in-Some-get.new.self c.index_mut.ensures.value
    within
    c.add-in-Some-get.ensures.one
    ∙ ap (λ table. packets_counted table + 1) c.self.view_is

pub invariant_of-self-in-Some-get : goal.invariant_of-self-in-Some-get
invariant_of-self-in-Some-get c =
    let within = place_within c.self.inside.places c.self.inside.counts.items c.in-Some.flow c.canonical.result c.in-Some-get.place.now
    c.self.invariant.are_places c.canonical.ensures c.in-Some-get.ensures.value in
    record {
      are_places = ArePlaces_set c.self.inside.places c.self.inside.counts.items c.in-Some-get.place.now c.index_mut.result.now
          c.add-in-Some-get.new.self c.self.invariant.are_places c.index_mut.ensures.value c.add-in-Some-get.ensures.flow;
      count = ap (λ packets. packets + 1) c.self.invariant.count
          ∙ sym (one_in_row (the_view c.self.inside) c.in-Some-get.place.now c.index_mut.result.now c.add-in-Some-get.new.self
          c.index_mut.ensures.value within c.add-in-Some-get.ensures.one);
    }
