use Rattle.std.proofs.Common.{append_assoc}
use Rattle.std.proofs.KnownBytes.{Appends-trans}
use Rattle.capture_words.proofs.WrittenLemmas.{written_3}
use Rattle.capture_text.proofs.fragment.write_fragment.Goals as goal

pub returns : goal.returns
returns g c =
    rw c.in-Some.is
    (written_3 _ _ _ _ _ _ _ _ _ (Appends-trans _ _ _ _ _ c.in_ok-write.ensures.bytes c.in_ok-write_identification.ensures)
    c.in_ok-write-2.ensures.bytes c.write_more.ensures (simp append_assoc))
