use Rattle.std.proofs.Common.{refl}
use Rattle.capture_summary.proofs.EventLemmas.{counts_same}
use Rattle.capture_summary.proofs.event.count_event.Goals as goal

pub returns : goal.returns
returns c = counts_same _ _ _ _ _ refl c.event_of.ensures c.add.ensures
