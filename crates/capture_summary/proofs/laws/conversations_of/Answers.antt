use Rattle.capture_summary.proofs.CountedPacketsLemmas as lemmas
use Rattle.capture_summary.proofs.laws.conversations_of.Goals as goal

pub returns : goal.returns
returns c = lemmas.conversations_of
