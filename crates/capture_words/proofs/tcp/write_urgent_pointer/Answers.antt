use Rattle.capture_words.proofs.WrittenLemmas.{written_1}
use Rattle.capture_words.proofs.tcp.write_urgent_pointer.Goals as goal

pub returns-then-urg : goal.returns-then-urg
returns-then-urg g c = rw (← c.if-urg.ensures) (written_1 _ _ _ _ _ c.write.ensures.bytes (simp c.urgent_pointer.ensures))
