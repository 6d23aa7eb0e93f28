use Rattle.std.proofs.Common.{take}
use Rattle.std.specs.Io.KnownBytes.{Appends}
use Rattle.std.specs.List.{flat_map}
use Rattle.capture_words.specs.TcpText.{other_block_text}
use Rattle.capture_words.proofs.tcp_options.write_other_blocks.Given as goal

-- the blocks so far were written
abbrev pub invariant-loop-block : goal.invariant-loop-block
invariant-loop-block g l =
    Appends (g.W.Write.contents l.initial.output) (g.W.Write.contents l.output) (flat_map other_block_text (take l.block-index l.blocks))
