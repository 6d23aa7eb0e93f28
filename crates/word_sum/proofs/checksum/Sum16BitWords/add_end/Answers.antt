use Rattle.std.proofs.Common.{◌≡◌, ◌-◌, drop, length, refl, rules}
use Rattle.word_sum.specs.Checksum.{total}
use Rattle.word_sum.specs.SumValue.{sum_value}
use Rattle.word_sum.proofs.NumberLemmas.{folded-add_alike, folded_end}
use Rattle.word_sum.proofs.checksum.Sum16BitWords.add_end.Goals as goal

pub returns : goal.returns
returns c =
    let eight : length c.args.bytes.now ≡ 8 = search rules in
    rw (c.add_number.ensures, c.from_le_bytes-number.ensures)
    (folded-add_alike (sum_value c.args.self) (sum_value c.args.self) _ (total (drop (8 - c.args.count) c.args.bytes.now)) refl
    (folded_end c.args.bytes.now c.args.count eight c.requires c.fits-bytes))
