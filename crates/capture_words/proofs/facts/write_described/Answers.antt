use Rattle.std.proofs.Common.{refl}
use Rattle.capture_words.proofs.WrittenLemmas.{written_2}
use Rattle.capture_words.proofs.facts.write_described.Goals as goal

pub returns : goal.returns
returns g c = written_2 _ _ _ _ _ _ _ c.in_ok-write_interface.ensures c.write_interface_texts.ensures refl
