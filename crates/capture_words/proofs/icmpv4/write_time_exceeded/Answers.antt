use Rattle.capture_words.proofs.WrittenLemmas.{written_1}
use Rattle.capture_words.proofs.icmpv4.write_time_exceeded.Goals as goal

pub returns : goal.returns
returns g c = written_1 _ _ _ _ _ c.write_named_message.ensures (simp (c.code_u8.ensures.written, c.exceeded_time.ensures))
