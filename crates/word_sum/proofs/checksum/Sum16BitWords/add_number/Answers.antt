use Rattle.std.proofs.Common.{◌+◌, ◌*◌, ◌^◌, ◌∙◌, ap, refl, arith, sym}
use Rattle.word_sum.specs.Checksum.{folded}
use Rattle.word_sum.proofs.ChecksumLemmas.{folded-add}
use Rattle.word_sum.proofs.NumberLemmas.{folded_carry, folded_times_256}
use Rattle.word_sum.proofs.checksum.Sum16BitWords.add_number.Goals as goal

pub returns : goal.returns
returns c =
    let word = c.args.self.word in
    let number = c.args.number in
    let carried = folded_times_256 _ (word + number) (folded_carry (2 ^ 64) 281479271743489 word number refl (omega arith) (omega arith)) in
    rw c.from.ensures
    (ap (λ sum. folded (sum * 256)) (omega arith) ∙ carried ∙ ap folded (omega arith) ∙ sym (folded-add (word * 256) (number * 256)))
