use Rattle.capture_text.proofs.TimelineTextLaws as lemmas
use Rattle.capture_text.proofs.laws.timeline_rows.Goals as goal

pub returns : goal.returns
returns c = lemmas.rows_of_packets
