use Rattle.std.proofs.Common.{◌∙◌, ◌++◌, [], ap, append_assoc, codes, if◌then◌else◌, sym}
use Rattle.std.proofs.KnownBytes.{Appends-trans}
use Rattle.capture_text.specs.TimelineText.{apart_row, intervals_text, timeline_head}
use Rattle.capture_words.proofs.WrittenLemmas.{written_3}
use Rattle.capture_text.proofs.timeline_table.write_timeline.Goals as goal

pub returns : goal.returns
returns g c =
    let timeline = c.args.timeline.now in
    written_3 _ _ _ _ _ _ _ _ _ (Appends-trans _ _ _ _ _ (Appends-trans _ _ _ _ _ c.in_ok-write_timeline_head.ensures
    c.in_ok-write_intervals.ensures) c.in_ok-write_apart.ensures)
    c.in_ok-write_apart-2.ensures c.write_apart-3.ensures
    ((simp (append_assoc, c.older.ensures, c.later.ensures, c.untimed.ensures))
    ∙ ap (λ none. if none then [] else timeline_head ++ (intervals_text timeline ++ (apart_row (codes "older packets") timeline.older
    ++ (apart_row (codes "later packets") timeline.later ++ apart_row (codes "packets without a time") timeline.untimed))))
    (sym c.if-is_without_packets.false ∙ c.is_without_packets.ensures))
