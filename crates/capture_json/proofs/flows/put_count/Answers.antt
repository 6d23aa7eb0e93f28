use Rattle.std.proofs.Common.{◌∙◌, ap}
use Rattle.std.proofs.lemmas.Result.{on_ok_weaker}
use Rattle.capture_json.specs.JsonCounts.{count_members}
use Rattle.capture_json.specs.Tokens.{object_ended, tokens_in, with_members}
use Rattle.capture_json.proofs.TokensLemmas.{nested}
use Rattle.capture_json.proofs.flows.put_count.Goals as goal

-- the members of the count in braces
pub returns : goal.returns
returns c =
    let members = count_members c.args.count in
    on_ok_weaker c.end_object.result
    (λ ended. ended ∙ ap object_ended (c.in_ok-put_packets_and_bytes.ensures ∙ ap (with_members members) c.in_ok-begin_object.ensures)
    ∙ nested c.args.name.now members (tokens_in c.args.line.now))
    c.end_object.ensures
