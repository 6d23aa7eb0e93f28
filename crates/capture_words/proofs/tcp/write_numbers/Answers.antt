use Rattle.capture_words.proofs.WrittenLemmas.{written_1}
use Rattle.capture_words.proofs.tcp.write_numbers.Goals as goal

pub returns : goal.returns
returns g c =
    written_1 _ _ _ _ _ c.write.ensures.bytes
    (simp (c.sequence_number.ensures, c.acknowledgment_number.ensures, c.window_size.ensures))
