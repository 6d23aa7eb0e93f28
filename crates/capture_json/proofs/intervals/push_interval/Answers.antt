use Rattle.std.proofs.Common.{◌∙◌, ap}
use Rattle.std.proofs.lemmas.Result.{on_ok_weaker}
use Rattle.capture_json.specs.JsonTimeline.{interval_members}
use Rattle.capture_json.specs.Tokens.{object_ended, tokens_in, with_members}
use Rattle.capture_json.proofs.TokensLemmas.{pushed}
use Rattle.capture_json.proofs.intervals.push_interval.Goals as goal

-- the counts in braces
pub returns : goal.returns
returns c =
    let members = interval_members c.args.counts.now in
    on_ok_weaker c.end_object.result
    (λ ended. ended ∙ ap object_ended (c.in_ok-put_counts.ensures ∙ ap (with_members members) c.in_ok-begin_item.ensures)
    ∙ pushed members (tokens_in c.args.line.now))
    c.end_object.ensures
