use Rattle.timeline.proofs.FixedLemmas as lemmas
use Rattle.timeline.proofs.laws.fixed.Goals as goal

pub returns : goal.returns
returns c = lemmas.placed
