use Rattle.std.proofs.Common.{◌/◌, ◌%◌, ◌∙◌, ◌^◌, arith, refl}
use Rattle.std.proofs.lemmas.Nat.{and_mask}
use Rattle.word_sum.proofs.NumberLemmas.{folded_carry, folded_halves_32}
use Rattle.word_sum.proofs.checksum.fold_to_16_bits.Goals as goal

pub returns : goal.returns
returns c =
    let number = c.args.number in
    rw (c.from.ensures, and_mask number 16)
    (folded_carry (2 ^ 16) 1 (number / 2 ^ 16) (number % 2 ^ 16) refl (omega arith) (omega arith)
    ∙ folded_halves_32 number)
