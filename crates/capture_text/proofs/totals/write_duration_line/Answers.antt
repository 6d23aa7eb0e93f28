use Rattle.std.proofs.Common.{append_assoc}
use Rattle.std.proofs.KnownBytes.{Appends-trans}
use Rattle.capture_words.proofs.WrittenLemmas.{written_3}
use Rattle.capture_text.proofs.totals.write_duration_line.Goals as goal

pub returns : goal.returns
returns g c =
    written_3 _ _ _ _ _ _ _ _ _ (Appends-trans _ _ _ _ _ c.in_ok-write.ensures.bytes c.in_ok-write_elapsed.ensures)
    c.in_ok-write_rates.ensures c.writeln.ensures.bytes
    (simp (append_assoc, c.of-rates.ensures, c.packets.ensures.packets, c.bytes.ensures))
