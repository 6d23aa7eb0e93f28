use Rattle.std.proofs.Common.{rules}
use Rattle.capture_json.specs.JsonOptions.{other_block}
use Rattle.capture_json.proofs.JsonLemmas.{items_more}
use Rattle.capture_json.proofs.tcp_options.push_other_blocks.Goals as goal

-- the invariant holds after another block
pub loop-block-preserved : goal.loop-block-preserved
loop-block-preserved c =
    items_more c.args.blocks.now other_block _ _ _ _ _ (search rules) c.loop-block.invariant c.in_ok-push_other_block.ensures
