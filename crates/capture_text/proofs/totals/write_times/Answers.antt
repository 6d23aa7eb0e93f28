use Rattle.std.proofs.Common.{append_assoc}
use Rattle.capture_words.proofs.WrittenLemmas.{written_3}
use Rattle.capture_text.proofs.totals.write_times.Goals as goal

pub returns : goal.returns
returns g c =
    rw c.in-Some.is
    (written_3 _ _ _ _ _ _ _ _ _ c.in_ok-write_named_time.ensures c.in_ok-write_named_time-2.ensures c.write_duration_line.ensures
    (simp append_assoc))
