use Rattle.std.proofs.Common.{◌≡◌, ◌∙◌, ap, ap₂, length}
use Rattle.std.specs.Prelude.{decimal}
use Rattle.capture_words.proofs.WrittenLemmas.{written_3}
use Rattle.capture_words.proofs.FactsLemmas.{section_parts}
use Rattle.capture_words.specs.FactsText.{byte_order_word, interfaces_text, pcapng_text, section_text}
use Rattle.capture_words.specs.TextsText.{texts_text}
use Rattle.capture_words.proofs.facts.write_section.Goals as goal

pub returns : goal.returns
returns g c =
    let reader = c.args.reader.now in
    let order = c.byte_order_word-order.result.now in
    let interfaces = c.as_slice-interfaces.result.now in
    let kept = c.as_slice.result.now in
    let same : pcapng_text order reader.texts interfaces kept ≡ section_text reader =
    ap₂ (λ o i. pcapng_text o reader.texts i kept) c.byte_order_word-order.ensures c.as_slice-interfaces.ensures.value
    ∙ ap (pcapng_text (byte_order_word reader.section.byte_order) reader.texts reader.section.interfaces.items) c.as_slice.ensures.value in
    written_3 _ _ _ _ _ _ _ _ _ c.in_ok-writeln.ensures.bytes c.in_ok-write_texts.ensures c.write_interfaces.ensures
    (section_parts order (decimal (length interfaces)) (texts_text reader.texts) (interfaces_text kept 0 interfaces) ∙ same)
