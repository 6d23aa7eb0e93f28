use Rattle.std.proofs.Common.{◌∷◌, ◌∙◌, ap}
use Rattle.std.proofs.lemmas.Result.{on_ok_weaker}
use Rattle.std.specs.List.{flat_map}
use Rattle.std.specs.Prelude.{codes}
use Rattle.capture_json.specs.JsonOptions.{block_data, other_block}
use Rattle.capture_json.specs.Tokens.{array_ended, push, tokens_in, with_items}
use Rattle.capture_json.proofs.TokensLemmas.{listed}
use Rattle.capture_json.proofs.tcp_options.put_blocks.Goals as goal

-- the blocks in brackets
pub returns : goal.returns
returns c =
    let first = block_data c.args.first in
    let more = flat_map other_block c.args.more.now in
    on_ok_weaker c.end_array.result
    (λ ended. ended
    ∙ ap array_ended (c.in_ok-push_other_blocks.ensures
    ∙ ap (with_items more) (c.in_ok-push_block.ensures ∙ ap (push first) c.in_ok-begin_array.ensures))
    ∙ listed (codes "selective_acknowledgment") (first ∷ more) (tokens_in c.args.line.now))
    c.end_array.ensures
