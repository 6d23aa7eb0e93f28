use Rattle.std.specs.Prelude.{codes}
use Rattle.std.proofs.Common.{◌∷◌, ◌++◌, ◌∙◌, map, sym}
use Rattle.capture_json.specs.JsonTimeline.{apart_members, interval_data, start_members, timeline_members}
use Rattle.capture_json.specs.JsonTimes.{nanoseconds_members}
use Rattle.capture_json.specs.Members.{array_of}
use Rattle.capture_json.specs.Tokens.{tokens_in}
use Rattle.timeline.specs.Timelines.{shown_intervals, shown_width}
use Rattle.capture_json.proofs.TokensLemmas.{nested_by, with_append}
use Rattle.capture_json.proofs.intervals.put_timeline.Goals as goal

-- the start, the width, the intervals, and the packets in no interval, in braces
pub returns : goal.returns
returns c =
    let timeline = c.args.timeline.now in
    let begun = tokens_in c.begin_object.new.self in
    let others = nanoseconds_members (codes "interval_seconds") (codes "interval_nanoseconds") (shown_width timeline)
    ++ (codes "intervals", array_of (map interval_data (shown_intervals timeline))) ∷ apart_members timeline in
    nested_by (codes "timeline") (timeline_members timeline) (tokens_in c.args.line.now) begun (tokens_in c.put_apart.new.line)
    (tokens_in c.end_object.new.self) c.in_ok-begin_object.ensures
    ((simp (
      c.in_ok-put_apart.ensures,
      c.in_ok-put_intervals.ensures,
      c.in_ok-put_nanoseconds.ensures,
      c.width.ensures,
      c.in_ok-put_start.ensures,
      c.start.ensures,
    ))
    ∙ sym (with_append (start_members timeline.start) others begun))
    c.in_ok-end_object.ensures
