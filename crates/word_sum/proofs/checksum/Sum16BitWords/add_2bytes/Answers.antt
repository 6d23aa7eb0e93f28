use Rattle.std.proofs.Common.{◌≡◌, length, refl, rules}
use Rattle.word_sum.specs.SumValue.{sum_value}
use Rattle.word_sum.specs.Checksum.{total}
use Rattle.word_sum.proofs.NumberLemmas.{folded-add_alike, folded_le_2}
use Rattle.word_sum.proofs.checksum.Sum16BitWords.add_2bytes.Goals as goal

pub returns : goal.returns
returns c =
    let two : length c.args.value ≡ 2 = search rules in
    rw (c.add_number.ensures, c.from.ensures, c.from_le_bytes.ensures)
    (folded-add_alike (sum_value c.args.self) (sum_value c.args.self) _ (total c.args.value) refl (folded_le_2 c.args.value two))
