use Rattle.std.proofs.Common.{◌≡◌, length, rules}
use Rattle.tcp_part.specs.TcpOptionsReading.{IsPair}
use Rattle.tcp_part.proofs.TcpOptionsFrontLemmas.{four_blocks_alone}
use Rattle.tcp_part.proofs.tcp_raw_option.selective_acknowledgement.Goals as goal

pub returns : goal.returns
returns c =
    let value = c.args.value.now in
    let whole : length value ≡ 32 = search rules in
    let first : IsPair c.pair_at-first.result = search rules in
    let second : IsPair c.pair_at.result = search rules in
    let third : IsPair c.pair_at-2.result = search rules in
    let fourth : IsPair c.pair_at-3.result = search rules in
    record {
      read = four_blocks_alone value _ _ _ _ whole c.pair_at-first.ensures c.pair_at.ensures c.pair_at-2.ensures c.pair_at-3.ensures
          first second third fourth;
    }
