use Rattle.std.proofs.Common.{refl}
use Rattle.capture_words.proofs.WrittenLemmas.{written_3}
use Rattle.capture_text.proofs.comments.write_comment.Goals as goal

pub returns : goal.returns
returns g c =
    written_3 _ _ _ _ _ _ _ _ _ c.in_ok-write.ensures.bytes c.in_ok-write_shown.ensures c.write-2.ensures.bytes refl
