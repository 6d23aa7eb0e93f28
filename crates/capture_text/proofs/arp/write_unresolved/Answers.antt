use Rattle.std.proofs.Common.{refl}
use Rattle.capture_words.proofs.WrittenLemmas.{written_2}
use Rattle.capture_text.proofs.arp.write_unresolved.Goals as goal

pub returns : goal.returns
returns g c = written_2 _ _ _ _ _ _ _ c.in_ok-write_operation.ensures c.write_cut_off.ensures refl
