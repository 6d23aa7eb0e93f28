use Rattle.std.proofs.Common.{◌≡◌, ◌≤◌, ◌<◌, ◌∙◌, ap, ap₂, arith, length, subst, sym, take_all}
use Rattle.std.proofs.lemmas.List.FromFn.{length-range_with_len}
use Rattle.std.specs.Int.{div_ceil}
use Rattle.std.specs.List.{flat_map, range_with_len}
use Rattle.timeline.proofs.MergingLemmas.{length_of_merged}
use Rattle.timeline.specs.Timelines.{shown_intervals}
use Rattle.capture_text.specs.TimelineText.{row_size, row_text, rows}
use Rattle.capture_text.proofs.TimelineTextLemmas.{row_fits, row_written}
use Rattle.capture_words.proofs.WrittenLemmas.{appended, each_more}
use Rattle.capture_text.proofs.timeline_table.write_intervals.Goals as goal

-- no row has more packets than the row with the longest bar
pub write_interval-requires : goal.write_interval-requires
write_interval-requires g c =
    let intervals = shown_intervals c.args.timeline.now in
    let size = c.row_size-size.result in
    let count : c.div_ceil-place-end.result ≡ div_ceil (length intervals) size =
    c.div_ceil-place-end.ensures ∙ ap (λ n. div_ceil n size) c.interval_count-count.ensures.value in
    row_fits size intervals c.loop-place.place c.most_packets-most.result c.row_at.result c.most_packets-most.ensures c.row_at.ensures
    (subst (λ n. c.loop-place.place < n) count c.loop-place-test.true)

-- the invariant holds after another row
pub loop-place-preserved : goal.loop-place-preserved
loop-place-preserved g c =
    let timeline = c.args.timeline.now in
    let same : c.row_size-size.result ≡ row_size timeline = c.row_size-size.ensures.value in
    let count : c.div_ceil-place-end.result ≡ length (rows timeline) =
    c.div_ceil-place-end.ensures
    ∙ ap₂ div_ceil c.interval_count-count.ensures.value same
    ∙ sym (length_of_merged (row_size timeline) (shown_intervals timeline)) in
    let less : c.loop-place.place < length (rows timeline) = subst (λ n. c.loop-place.place < n) count c.loop-place-test.true in
    each_more (range_with_len 0 (length (rows timeline))) (row_text timeline) c.loop-place.place 0 _ _ _ c.loop-place.invariant
    (appended _ _ _ _ c.in_ok-write_interval.ensures
    (row_written timeline c.row_size-size.result c.most_packets-most.result c.begin_of-begin.result c.loop-place.place
    c.row_at.result same c.most_packets-most.ensures c.begin_of-begin.ensures c.row_at.ensures less))
    (omega (arith, less, length-range_with_len 0 (length (rows timeline))))

pub returns : goal.returns
returns g c =
    let timeline = c.args.timeline.now in
    let same : c.row_size-size.result ≡ row_size timeline = c.row_size-size.ensures.value in
    let count : c.div_ceil-place-end.result ≡ length (rows timeline) =
    c.div_ceil-place-end.ensures
    ∙ ap₂ div_ceil c.interval_count-count.ensures.value same
    ∙ sym (length_of_merged (row_size timeline) (shown_intervals timeline)) in
    let all : length (range_with_len 0 (length (rows timeline))) ≤ c.loop-place.place =
    omega (arith, count, c.loop-place-test.false, length-range_with_len 0 (length (rows timeline))) in
    appended _ _ _ _ c.loop-place.invariant
    (ap (flat_map (row_text timeline)) (take_all c.loop-place.place (range_with_len 0 (length (rows timeline))) all))
