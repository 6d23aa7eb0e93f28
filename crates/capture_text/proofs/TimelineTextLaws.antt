-- The rows of the table of the timeline contain their packets, and the bars have their lengths.
use Rattle.std.proofs.Common.{◌≡◌, ℕ, ◌*◌, ◌≤◌, ◌<◌, Bool, true, false, cond, nat_le, leb-true, List, length, Option, Some, None, ap, arith, refl, subst, sym, lt_of_mul-lt-mul_right}
use Rattle.std.proofs.lemmas.Grind.{div_ceil_times}
use Rattle.std.specs.Int.{div_ceil}
use Rattle.std.specs.Option.{is_some}
use Rattle.std.specs.Prelude.{unwrap_or}
use Rattle.timeline.proofs.MergingLemmas.{length_of_merged, merged_are_intervals}
use Rattle.timeline.proofs.TimelineLemmas.{shown}
use Rattle.timeline.specs.Intervals.{AreIntervals, merged}
use Rattle.timeline.specs.Timelines.{AreShown, IsTimelineOf, TimelineBins, not_later, shown_intervals, shown_width}
use Rattle.timeline.specs.declared.counts.Counts.{Counts}
use Rattle.timeline.specs.declared.event.Event.{Event}
use Rattle.capture_text.specs.TimelineText.{AreRows, bar_len, intervals_in_row, row_width, rows}

-- there are intervals in a row, and 20 rows of them suffice
suffices : (intervals : ℕ) → intervals ≤ 256 → (0 < intervals_in_row intervals) × (intervals ≤ 20 * intervals_in_row intervals)
suffices intervals most = by (nat_le intervals 20) (nat_le intervals 40) (nat_le intervals 100) (nat_le intervals 200) refl refl refl refl
  where
    by : (one two five ten : Bool) → nat_le intervals 20 ≡ one → nat_le intervals 40 ≡ two → nat_le intervals 100 ≡ five
        → nat_le intervals 200 ≡ ten
        → (0 < unwrap_or (cond one (Some 1) (cond two (Some 2) (cond five (Some 5) (cond ten (Some 10) None)))) 20)
        × (intervals ≤ 20 * unwrap_or (cond one (Some 1) (cond two (Some 2) (cond five (Some 5) (cond ten (Some 10) None)))) 20)
    by true two five ten e f g h = (omega arith, omega (arith, leb-true _ _ e))
    by false true five ten e f g h = (omega arith, omega (arith, leb-true _ _ f))
    by false false true ten e f g h = (omega arith, omega (arith, leb-true _ _ g))
    by false false false true e f g h = (omega arith, omega (arith, leb-true _ _ h))
    by false false false false e f g h = (omega arith, omega (arith, most))

-- a number of parts that hold 20 times as many is at most 20
few : (number size : ℕ) → 0 < size → number ≤ 20 * size → div_ceil number size ≤ 20
few number size some enough =
    let product : div_ceil number size * size < 21 * size = omega (arith, enough, (div_ceil_times number size some).1) in
    let less : div_ceil number size < 21 = lt_of_mul-lt-mul_right size product in
    omega (arith, less)

-- the rows of these intervals, whether their width is fixed
abbrev size_of : Bool → List Counts → ℕ
size_of is_fixed intervals = cond is_fixed 1 (intervals_in_row (length intervals))

pub rows_of_packets : (width : Option ℕ) (packets : List Event) (timeline : TimelineBins) → IsTimelineOf width packets timeline
    → AreRows width timeline.start (row_width timeline) (rows timeline) packets
rows_of_packets width packets timeline is =
    let intervals = shown_intervals timeline in
    subst (λ is_fixed. AreRows width timeline.start (shown_width timeline * size_of is_fixed intervals)
    (merged (size_of is_fixed intervals) intervals) packets) (sym is.is_fixed)
    (by width timeline.start (shown_width timeline) intervals (shown width packets timeline is))
  where
    by : (width start : Option ℕ) (shown_width : ℕ) (intervals : List Counts) → AreShown width start shown_width intervals packets
        → AreRows width start (shown_width * size_of (is_some width) intervals) (merged (size_of (is_some width) intervals) intervals)
        packets
    by None None shown_width intervals none = ap (λ each. merged (intervals_in_row (length each)) each) none
    by None (Some start) shown_width intervals are =
        let size = intervals_in_row (length intervals) in
        let enough = suffices (length intervals) (are.1.fewest 256 are.0.suffice) in (
          omega (arith, length_of_merged size intervals, few (length intervals) size enough.0 enough.1),
          merged_are_intervals start shown_width intervals packets are.1 size enough.0,
        )
    by (Some fixed) None shown_width intervals are =
        let same : shown_width * 1 ≡ fixed = omega (arith, are.0) in (same, ap (merged 1) are.1)
    by (Some fixed) (Some start) shown_width intervals are =
        let same : shown_width * 1 ≡ fixed = omega (arith, are.0) in
        let one : fixed * 1 ≡ fixed = omega arith in (
          same,
          subst (λ each. AreIntervals start each (merged 1 intervals) (not_later fixed start packets)) one
              (merged_are_intervals start fixed intervals (not_later fixed start packets) are.1 1 (omega arith)),
        )

-- ---- bars

pub longest_bar : (most packets : ℕ) → packets ≤ most → 0 < most → bar_len most packets ≤ 40
longest_bar most packets within some =
    let product : div_ceil (packets * 40) most * most < 41 * most = omega (arith, within, (div_ceil_times (packets * 40) most some).1) in
    let less : div_ceil (packets * 40) most < 41 = lt_of_mul-lt-mul_right most product in
    omega (arith, less)

pub bar_of_most : (most : ℕ) → 0 < most → bar_len most most ≡ 40
bar_of_most most some =
    let product : 39 * most < div_ceil (most * 40) most * most = omega (arith, some, (div_ceil_times (most * 40) most some).0) in
    let more : 39 < div_ceil (most * 40) most = lt_of_mul-lt-mul_right most product in
    omega (arith, more, longest_bar most most (omega arith) some)

pub some_bar : (most packets : ℕ) → 0 < most → 0 < packets → 0 < bar_len most packets
some_bar most packets some others =
    let product : 0 * most < div_ceil (packets * 40) most * most = omega (arith, others, (div_ceil_times (packets * 40) most some).0) in
    lt_of_mul-lt-mul_right most product
