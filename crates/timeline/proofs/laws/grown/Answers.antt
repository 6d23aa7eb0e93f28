use Rattle.timeline.proofs.FixedLemmas as lemmas
use Rattle.timeline.proofs.laws.grown.Goals as goal

pub returns : goal.returns
returns c = lemmas.none_later
