use Rattle.std.proofs.Common.{◌≡◌, ◌+◌, ◌*◌, ◌≤◌, ◌++◌, length, take}
use Rattle.std.specs.List.{AllByRecursion, flat_map}
use Rattle.std.specs.Option.{IfSome}
use Rattle.tcp_part.specs.TcpOptions.{block_bytes, pair}
use Rattle.tcp_part.specs.TcpOptionsReading.{IsPair}
use Rattle.tcp_part.proofs.tcp_option_element.blocks_to_bytes.Given as goal

abbrev pub invariant-loop-block : goal.invariant-loop-block
invariant-loop-block l =
    record {
      written : l.bytes.items ≡ pair l.fn.first ++ flat_map block_bytes (take l.block-index l.more);
      room : length l.bytes.items ≤ 8 + 8 * l.block-index;
      in_range : AllByRecursion (λ block. IfSome block IsPair) (take l.block-index l.more);
    }
