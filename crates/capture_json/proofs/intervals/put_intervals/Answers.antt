use Rattle.std.specs.Prelude.{codes}
use Rattle.std.proofs.Common.{◌∙◌, ap, map}
use Rattle.std.proofs.lemmas.Result.{on_ok_weaker}
use Rattle.capture_json.specs.JsonTimeline.{interval_data}
use Rattle.capture_json.specs.Tokens.{array_ended, tokens_in, with_items}
use Rattle.timeline.specs.Timelines.{shown_intervals}
use Rattle.capture_json.proofs.TokensLemmas.{listed}
use Rattle.capture_json.proofs.intervals.put_intervals.Goals as goal

-- the objects in their array
pub returns : goal.returns
returns c =
    let items = map interval_data (shown_intervals c.args.timeline.now) in
    on_ok_weaker c.end_array.result
    (λ ended. ended ∙ ap array_ended (c.in_ok-push_intervals.ensures ∙ ap (with_items items) c.in_ok-begin_array.ensures)
    ∙ listed (codes "intervals") items (tokens_in c.args.line.now))
    c.end_array.ensures
