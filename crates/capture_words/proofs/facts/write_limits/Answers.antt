use Rattle.std.proofs.Common.{append_assoc}
use Rattle.capture_words.proofs.WrittenLemmas.{written_2}
use Rattle.capture_words.proofs.facts.write_limits.Goals as goal

pub returns : goal.returns
returns g c = written_2 _ _ _ _ _ _ _ c.in_ok-write.ensures.bytes c.write_resolution.ensures (simp append_assoc)
