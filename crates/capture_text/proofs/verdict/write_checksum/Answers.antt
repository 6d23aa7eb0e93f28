use Rattle.std.proofs.Common.{refl}
use Rattle.capture_words.proofs.WrittenLemmas.{written_2}
use Rattle.capture_text.proofs.verdict.write_checksum.Goals as goal

pub returns-in_ok-write_word-in-Wrong : goal.returns-in_ok-write_word-in-Wrong
returns-in_ok-write_word-in-Wrong g c =
    rw c.in-Wrong.is
    (written_2 _ _ _ _ _ _ _ c.in_ok-write_word-in-Wrong.ensures
    (simp (c.laid_out.ensures, c.in_radix.ensures) at c.write.ensures.bytes) refl)
