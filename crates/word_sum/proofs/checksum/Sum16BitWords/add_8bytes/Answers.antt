use Rattle.std.proofs.Common.{◌≡◌, length, refl, rules}
use Rattle.word_sum.specs.SumValue.{sum_value}
use Rattle.word_sum.specs.Checksum.{total}
use Rattle.word_sum.proofs.NumberLemmas.{folded-add_alike, folded_le_8}
use Rattle.word_sum.proofs.checksum.Sum16BitWords.add_8bytes.Goals as goal

pub returns : goal.returns
returns c =
    let eight : length c.args.value ≡ 8 = search rules in
    rw (c.add_number.ensures, c.from_le_bytes.ensures)
    (folded-add_alike (sum_value c.args.self) (sum_value c.args.self) _ (total c.args.value) refl (folded_le_8 c.args.value eight))
