use Rattle.std.proofs.Common.{◌≡◌, ◌+◌, ◌<◌, ℕ, List, length, sym, ap, ◌∙◌, arith, rules}
use Rattle.std.specs.Int.{to_be_bytes, w16}
use Rattle.std.specs.Prelude.{unwrap_or}
use Rattle.word_sum.specs.Checksum.{folded, total}
use Rattle.word_sum.specs.ChecksumChange.{added_value, removed_value}
use Rattle.etherparse_transport.specs.Translations.{and_word, number}
use Rattle.etherparse_transport.proofs.TranslationReading.{number_len}
use Rattle.etherparse_transport.proofs.TranslationSums.{number_after, turns_by_two, word_total}
use Rattle.etherparse_transport.proofs.ip.translated_message.replace_ports.Goals as goal

pub returns-clause-extends : goal.returns-clause-extends
returns-clause-extends c = λ long before after x y turns changes.
    let message : List ℕ = c.args.message.now in
    let between : List ℕ = c.replace_number-change.new.message in
    let source : ℕ = c.unwrap_or-source.result in
    let destination : ℕ = c.unwrap_or-destination.result in
    let old : ℕ = total (to_be_bytes w16 (number 0 message)) in
    let old_too : ℕ = total (to_be_bytes w16 (number 2 message)) in
    let new : ℕ = total (to_be_bytes w16 source) in
    let new_too : ℕ = total (to_be_bytes w16 destination) in
    let kept : number 2 between ≡ number 2 message =
    ap (number 2) c.replace_number-change.ensures.replaced ∙ number_after 0 source 2 message (omega arith) in
    let len : length between ≡ length message = ap length c.replace_number-change.ensures.replaced ∙ number_len 0 source message in
    let removed : removed_value c.replace_number.result ≡ folded (folded (removed_value c.args.addresses + old) + old_too) =
    c.replace_number.ensures.removed (omega (arith, long, len))
    ∙ ap (λ sum. and_word sum (number 2 between)) (c.replace_number-change.ensures.removed (omega (arith, long)))
    ∙ ap (and_word (and_word (removed_value c.args.addresses) (number 0 message))) kept in
    let added : added_value c.replace_number.result ≡ folded (folded (added_value c.args.addresses + new) + new_too) =
    c.replace_number.ensures.added (omega (arith, long, len))
    ∙ ap (λ sum. and_word sum destination) (c.replace_number-change.ensures.added (omega (arith, long))) in
    let first : number 0 message < 65536 = search rules in
    let second : number 2 message < 65536 = search rules in
    ap (λ n. folded ((before + x) + n)) added
    ∙ turns_by_two before (added_value c.args.addresses) after (removed_value c.args.addresses) old old_too new new_too x y turns
    (omega (
      arith,
      changes,
      word_total (number 0 message) first,
      word_total (number 2 message) second,
      word_total source (search rules),
      word_total destination (search rules),
      c.unwrap_or-source.ensures,
      c.unwrap_or-destination.ensures,
      ap (unwrap_or c.args.source_port) c.number.ensures,
      ap (unwrap_or c.args.destination_port) c.number-2.ensures,
    ))
    ∙ sym (ap (λ n. folded ((after + y) + n)) removed)
