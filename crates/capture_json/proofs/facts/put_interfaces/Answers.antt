use Rattle.std.specs.Prelude.{codes}
use Rattle.std.proofs.Common.{◌∙◌, ap}
use Rattle.capture_json.specs.JsonFacts.{interfaces_data}
use Rattle.capture_json.specs.Tokens.{array_ended, tokens_in, with_items}
use Rattle.capture_json.proofs.TokensLemmas.{listed}
use Rattle.capture_json.proofs.facts.put_interfaces.Goals as goal

-- the objects in their array
pub returns : goal.returns
returns c =
    let items = interfaces_data c.args.texts.now 0 c.args.interfaces.now in
    c.in_ok-end_array.ensures
    ∙ ap array_ended (c.in_ok-push_interfaces.ensures ∙ ap (with_items items) c.in_ok-begin_array.ensures)
    ∙ listed (codes "interfaces") items (tokens_in c.args.line.now)
