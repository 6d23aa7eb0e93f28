use Rattle.capture_text.proofs.TimelineTextLemmas.{bar_written}
use Rattle.capture_words.proofs.WrittenLemmas.{written_2}
use Rattle.capture_text.proofs.timeline_table.write_bar.Goals as goal

pub returns : goal.returns
returns g c =
    written_2 _ _ _ _ _ _ _ c.in_ok-write.ensures.bytes c.write_all.ensures.bytes
    (bar_written c.args.most c.args.packets c.bar_len.result c.bar_len.ensures.value c.bar_len.ensures.fits c.if-packets-eq0.false)
