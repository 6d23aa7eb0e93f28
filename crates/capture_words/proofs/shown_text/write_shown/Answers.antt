use Rattle.std.proofs.Common.{◌++◌, ap}
use Rattle.capture_words.proofs.WrittenLemmas.{written_2}
use Rattle.capture_words.specs.ShownText.{end_text, shown_bytes}
use Rattle.capture_words.proofs.shown_text.write_shown.Goals as goal

pub returns : goal.returns
returns g c =
    written_2 _ _ _ _ _ _ _ c.in_ok-write_bytes.ensures c.write_end.ensures
    (ap (λ bytes. shown_bytes bytes ++ end_text c.args.text.now.is_cut) c.as_slice.ensures.value)
