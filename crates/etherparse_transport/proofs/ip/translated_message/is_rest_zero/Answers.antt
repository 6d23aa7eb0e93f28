use Rattle.std.proofs.Common.{◌+◌, List, ℕ, take, sym, ap, ◌∙◌}
use Rattle.std.proofs.lemmas.List.{take_rest}
use Rattle.word_sum.specs.Checksum.{total}
use Rattle.etherparse_transport.specs.Translations.{rest_of_message}
use Rattle.etherparse_transport.proofs.TranslationSums.{rest_parts, zero_test}
use Rattle.etherparse_transport.proofs.ip.translated_message.is_rest_zero.Goals as goal

pub returns : goal.returns
returns c =
    let message : List ℕ = c.args.message.now in
    zero_test _ _ _ _ _ _ (rest_of_message message) c.new.ensures c.add_slice.ensures.sum c.add_slice-sum.ensures.sum
    c.ones_complement.ensures
    (rest_parts message c.requires.there ∙ sym (ap (λ bytes. total (take 2 message) + total bytes) (take_rest message 4)))
