use Rattle.std.proofs.Common.{◌/◌, ◌%◌, ◌∙◌, ◌^◌, arith, refl}
use Rattle.std.proofs.lemmas.Nat.{and_mask}
use Rattle.word_sum.proofs.NumberLemmas.{folded_carry, folded_halves_64}
use Rattle.word_sum.proofs.checksum.fold_to_32_bits.Goals as goal

pub returns : goal.returns
returns c =
    let number = c.args.number in
    rw (c.from.ensures, and_mask number 32)
    (folded_carry (2 ^ 32) 65537 (number / 2 ^ 32) (number % 2 ^ 32) refl (omega arith) (omega arith)
    ∙ folded_halves_64 number)
