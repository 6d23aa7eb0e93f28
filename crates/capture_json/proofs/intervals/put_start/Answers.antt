use Rattle.std.specs.Prelude.{codes}
use Rattle.std.proofs.Common.{◌∙◌, ap, sym}
use Rattle.serde_json.specs.Data.{string}
use Rattle.capture_words.specs.AbsoluteTime.{absolute_text}
use Rattle.capture_json.specs.JsonTimeline.{start_members}
use Rattle.capture_json.specs.JsonTimes.{instant_members}
use Rattle.capture_json.specs.Tokens.{put, tokens_in, with_members}
use Rattle.capture_json.proofs.intervals.put_start.Goals as goal

-- the date and time, and the numbers
pub returns-in_ok-put_instant-in-Some : goal.returns-in_ok-put_instant-in-Some
returns-in_ok-put_instant-in-Some c =
    let before = tokens_in c.args.line.now in
    let seconds = codes "start_seconds" in
    let nanoseconds = codes "start_nanoseconds" in
    c.in_ok-put_instant-in-Some.ensures
    ∙ ap (with_members (instant_members seconds nanoseconds c.time_at-time.result)) c.in_ok-put_date-in-Some.ensures
    ∙ ap (λ time. with_members (instant_members seconds nanoseconds time) (put (codes "start") (string (absolute_text time)) before))
    c.time_at-time.ensures.value
    ∙ ap (λ start. with_members (start_members start) before) (sym c.in-Some.is)
