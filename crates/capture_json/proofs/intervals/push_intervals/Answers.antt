use Rattle.std.proofs.Common.{◌∙◌, ap, rules}
use Rattle.capture_json.specs.JsonTimeline.{interval_data}
use Rattle.capture_json.specs.Tokens.{push, tokens_in}
use Rattle.timeline.specs.Counts.{no_packets}
use Rattle.timeline.specs.Timelines.{shown_intervals}
use Rattle.capture_json.proofs.JsonLemmas.{one_more_of}
use Rattle.capture_json.proofs.intervals.push_intervals.Goals as goal

-- the invariant holds after another interval
pub loop-place-preserved : goal.loop-place-preserved
loop-place-preserved c =
    let intervals = shown_intervals c.args.timeline.now in
    one_more_of intervals interval_data c.loop-place.place no_packets _ _ _ (search rules) c.loop-place.invariant
    (c.in_ok-push_interval.ensures ∙ ap (λ counts. push (interval_data counts) (tokens_in c.loop-place.line)) c.interval.ensures)
