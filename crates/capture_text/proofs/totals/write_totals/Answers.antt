use Rattle.std.proofs.Common.{append_assoc}
use Rattle.std.proofs.KnownBytes.{Appends-trans}
use Rattle.capture_words.proofs.WrittenLemmas.{written_2}
use Rattle.capture_text.proofs.totals.write_totals.Goals as goal

pub returns : goal.returns
returns g c =
    written_2 _ _ _ _ _ _ _
    (Appends-trans _ _ _ _ _ (Appends-trans _ _ _ _ _ c.in_ok-write.ensures.bytes c.in_ok-write_average.ensures)
    c.in_ok-writeln.ensures.bytes)
    c.write_times.ensures
    (simp (
      append_assoc,
      c.packets-packets.ensures.packets,
      c.bytes-bytes.ensures,
      c.average_len.ensures,
      c.counts.ensures.rows,
      c.flows.ensures,
      c.span.ensures,
    ))
