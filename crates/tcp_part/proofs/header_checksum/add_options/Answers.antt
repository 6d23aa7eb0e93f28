use Rattle.std.proofs.Common.{◌≡◌, arith, length, rules}
use Rattle.word_sum.proofs.ChecksumLemmas.{folded-add_nothing}
use Rattle.tcp_part.proofs.header_checksum.add_options.Goals as goal

pub returns-then-is_empty : goal.returns-then-is_empty
returns-then-is_empty c =
    let none : length c.args.options.now ≡ 0 = search rules in
    folded-add_nothing _ c.args.options.now (omega arith)
