use Rattle.std.proofs.Common.{refl}
use Rattle.capture_words.proofs.WrittenLemmas.{written_3}
use Rattle.capture_words.proofs.texts.write_statistics.Goals as goal

pub returns : goal.returns
returns g c = written_3 _ _ _ _ _ _ _ _ _ c.in_ok-write_count.ensures c.in_ok-write_count-2.ensures c.write_count-3.ensures refl
