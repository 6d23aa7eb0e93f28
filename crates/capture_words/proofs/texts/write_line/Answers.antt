use Rattle.std.proofs.Common.{refl}
use Rattle.capture_words.proofs.WrittenLemmas.{written_2}
use Rattle.capture_words.proofs.texts.write_line.Goals as goal

pub returns : goal.returns
returns g c = written_2 _ _ _ _ _ _ _ c.in_ok-write_shown.ensures c.writeln.ensures.bytes refl
