use Rattle.capture_summary.proofs.TimeSpanLemmas as lemmas
use Rattle.capture_summary.proofs.laws.span_of_times.Goals as goal

pub returns : goal.returns
returns c = lemmas.span_of_times
