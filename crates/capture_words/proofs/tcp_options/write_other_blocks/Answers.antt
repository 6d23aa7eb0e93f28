use Rattle.std.proofs.Common.{rules}
use Rattle.capture_words.proofs.WrittenLemmas.{each_more}
use Rattle.capture_words.proofs.tcp_options.write_other_blocks.Goals as goal

-- the invariant holds after another block
pub loop-block-preserved : goal.loop-block-preserved
loop-block-preserved g c =
    each_more c.args.blocks.now _ _ _ _ _ _ c.loop-block.invariant c.in_ok-write_other_block.ensures (search rules)
