use Rattle.std.proofs.Common.{append_assoc}
use Rattle.capture_words.proofs.WrittenLemmas.{written_3}
use Rattle.capture_words.proofs.facts.write_classic.Goals as goal

pub returns : goal.returns
returns g c =
    written_3 _ _ _ _ _ _ _ _ _ c.in_ok-write.ensures.bytes c.in_ok-write_limits.ensures c.writeln.ensures.bytes
    (simp (append_assoc, c.byte_order_word-order.ensures, c.time_resolution.ensures))
