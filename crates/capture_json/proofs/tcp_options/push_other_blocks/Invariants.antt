use Rattle.std.proofs.Common.{◌≡◌, take}
use Rattle.std.specs.List.{flat_map}
use Rattle.capture_json.specs.JsonOptions.{other_block}
use Rattle.capture_json.specs.Tokens.{tokens_in, with_items}
use Rattle.capture_json.proofs.tcp_options.push_other_blocks.Given as goal

-- the blocks so far were written
abbrev pub invariant-loop-block : goal.invariant-loop-block
invariant-loop-block l =
    tokens_in l.line ≡ with_items (flat_map other_block (take l.block-index l.blocks)) (tokens_in l.initial.line)
