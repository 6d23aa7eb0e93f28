use Rattle.std.proofs.Common.{refl}
use Rattle.capture_words.proofs.WrittenLemmas.{written_2}
use Rattle.capture_text.proofs.comments.write_comments.Goals as goal

pub returns : goal.returns
returns g c =
    let each = rw c.as_slice.ensures.value at c.in_ok-write_each.ensures in
    written_2 _ _ _ _ _ _ _ each c.write_more.ensures refl
