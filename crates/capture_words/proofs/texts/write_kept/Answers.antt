use Rattle.std.proofs.Common.{append_assoc}
use Rattle.std.proofs.KnownBytes.{Appends-trans}
use Rattle.capture_words.proofs.WrittenLemmas.{written_3}
use Rattle.capture_words.proofs.texts.write_kept.Goals as goal

pub returns : goal.returns
returns g c =
    written_3 _ _ _ _ _ _ _ _ _
    (Appends-trans _ _ _ _ _ c.in_ok-write_numbered.ensures c.in_ok-write_numbered-2.ensures)
    c.in_ok-write_numbered-3.ensures c.write_statistics.ensures (simp append_assoc)
