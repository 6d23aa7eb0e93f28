use Rattle.capture_words.proofs.ShownLemmas.{shown_other, shown_utf8}
use Rattle.capture_words.proofs.shown_text.write_bytes.Goals as goal
use Rattle.capture_words.proofs.WrittenLemmas.{written_1}

-- bytes that are UTF-8 are shown as a text
pub returns-in-Ok : goal.returns-in-Ok
returns-in-Ok g c =
    written_1 _ _ _ _ _ c.write.ensures.bytes
    (shown_utf8 c.args.bytes.now c.in-Ok.text.now c.in-Ok.ensures.cases.0 c.in-Ok.ensures.cases.1)

-- bytes that are not UTF-8 are shown as escaped bytes
pub returns-in-Err : goal.returns-in-Err
returns-in-Err g c = written_1 _ _ _ _ _ c.write-in-Err.ensures.bytes (shown_other c.args.bytes.now c.in-Err.ensures.cases.0)
