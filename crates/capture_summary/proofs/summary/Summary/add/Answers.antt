use Rattle.std.proofs.Common.{ap, refl, rules}
use Rattle.capture_summary.proofs.EventLemmas.{counts_same}
use Rattle.capture_summary.proofs.summary.Summary.add.Goals as goal

pub returns-in-Some-clause-ok : goal.returns-in-Some-clause-ok
returns-in-Some-clause-ok c = record {
  rows = search rules;
  timeline = counts_same _ _ _ _ _ (ap (λ tables. tables.timeline) c.self.view_is) refl c.count_event.ensures;
}

pub returns-in_default-clause-ok : goal.returns-in_default-clause-ok
returns-in_default-clause-ok c = record {
  rows = search rules;
  timeline = counts_same _ _ _ _ _ (ap (λ tables. tables.timeline) c.self.view_is) refl c.count_event.ensures;
}
