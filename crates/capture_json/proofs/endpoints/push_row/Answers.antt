use Rattle.std.proofs.Common.{◌∙◌, ap}
use Rattle.capture_json.specs.JsonSummary.{endpoint_members}
use Rattle.capture_json.specs.Tokens.{object_ended, tokens_in, with_members}
use Rattle.capture_json.proofs.TokensLemmas.{pushed}
use Rattle.capture_json.proofs.endpoints.push_row.Goals as goal

-- the members of the endpoint in braces
pub returns : goal.returns
returns c =
    let members = endpoint_members c.args.row.now in
    c.in_ok-end_object.ensures
    ∙ ap object_ended (c.in_ok-put_endpoint.ensures ∙ ap (with_members members) c.in_ok-begin_item.ensures)
    ∙ pushed members (tokens_in c.args.line.now)
