use Rattle.std.proofs.Common.{◌≡◌, ◌-◌, ◌∙◌, ap, arith}
use Rattle.word_sum.specs.SumValue.{sum_value}
use Rattle.word_sum.specs.Checksum.{folded}
use Rattle.word_sum.proofs.NumberLemmas.{folded_times_256, swap_bytes-folded}
use Rattle.word_sum.proofs.checksum.Sum16BitWords.ones_complement.Goals as goal

pub returns : goal.returns
returns c =
    let alike : folded c.fold_to_16_bits.result ≡ folded c.args.self.now.word = c.fold_to_16_bits.ensures ∙ c.fold_to_32_bits.ensures in
    let same : c.swap_bytes.result ≡ sum_value c.args.self.now =
    c.swap_bytes.ensures ∙ swap_bytes-folded c.fold_to_16_bits.result (omega arith) ∙ folded_times_256 _ _ alike in
    ap (λ n. 65535 - n) same
