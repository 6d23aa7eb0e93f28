-- Rows of the table of the timeline.
use Rattle.std.proofs.Common.{Equal, Greater, Less, ◌≡◌, ◌∙◌, ℕ, ◌+◌, ◌*◌, ◌≤◌, ◌<◌, ◌==◌, zero, suc, Bool, true, false, cond, if◌then◌else◌, nat_lt, ltb-true, ltb-false, refl, List, [], ◌∷◌, ◌++◌, ap, arith, codes, drop, fold, get_or, get_or-drop, length, length-drop, max, replicate, sym, take}
use Rattle.std.proofs.lemmas.Grind.{common_steps}
use Rattle.std.proofs.lemmas.List.{take-replicate}
use Rattle.std.proofs.lemmas.List.FromFn.{get_or-range_with_len}
use Rattle.std.proofs.lemmas.List.Sums.{fold_more}
use Rattle.std.specs.Int.{div_ceil}
use Rattle.std.specs.Ordering.{is_lt, nat_cmp, ord_max}
use Rattle.std.specs.List.{range_with_len}
use Rattle.timeline.proofs.MergingLemmas.{length_of_merged, merged_here}
use Rattle.timeline.specs.Counts.{counts_sum, no_packets, sum_of, total}
use Rattle.timeline.specs.Intervals.{merged, merged_at}
use Rattle.timeline.specs.declared.counts.Counts.{Counts}
use Rattle.timeline.specs.Timelines.{TimelineBins, shown_intervals}
use Rattle.capture_text.specs.TimelineText.{bar_len, bar_text, begin_of, interval_row, most_packets, row_size, row_text, rows}

-- the sum of some intervals and one more
pub sum_more : (intervals : List Counts) (begin step : ℕ) → begin + step < length intervals
    → sum_of (take (step + 1) (drop begin intervals))
    ≡ counts_sum (sum_of (take step (drop begin intervals))) (get_or intervals (begin + step) no_packets)
sum_more intervals begin step less =
    fold_more counts_sum no_packets (drop begin intervals) step no_packets (omega (arith, less, length-drop begin intervals))
    ∙ ap (counts_sum (sum_of (take step (drop begin intervals)))) (get_or-drop begin intervals step no_packets)

-- the greater of two numbers, as the code finds it
pub greater : (a b : ℕ) → ord_max nat_cmp a b ≡ max a b
greater a b = by (nat_lt b a) (b == a) refl refl
  where
    by : (less same : Bool) → nat_lt b a ≡ less → (b == a) ≡ same → cond (is_lt (cond less Less (cond same Equal Greater))) a b ≡ max a b
    by true same test other = omega (arith, ltb-true _ _ test)
    by false true test other = omega (arith, ltb-false _ _ test)
    by false false test other = omega (arith, ltb-false _ _ test)

-- the greatest number of packets in some rows and one more
pub most_more : (size : ℕ) (intervals : List Counts) (place : ℕ) → place < div_ceil (length intervals) size
    → most_packets (take (place + 1) (merged size intervals))
    ≡ max (most_packets (take place (merged size intervals))) (total (merged_at size intervals place)).packets
most_more size intervals place less =
    let within : place < length (merged size intervals) = omega (arith, less, length_of_merged size intervals) in
    fold_more (λ most row. max most (total row).packets) 0 (merged size intervals) place no_packets within
    ∙ ap (λ row. max (most_packets (take place (merged size intervals))) (total row).packets) (merged_here size intervals place within)

module _ {X : Type 0} (number : X → ℕ) where
  above_start : (start : ℕ) (xs : List X) → start ≤ fold (λ most x. max most (number x)) start xs
  above_start start [] = omega arith
  above_start start (x ∷ xs) = omega (arith, above_start (max start (number x)) xs)

  above_each : (start : ℕ) (xs : List X) (n : ℕ) (d : X) → n < length xs
      → number (get_or xs n d) ≤ fold (λ most x. max most (number x)) start xs
  above_each start [] n d less = absurd (omega (arith, less))
  above_each start (x ∷ xs) zero d less = omega (arith, above_start (max start (number x)) xs)
  above_each start (x ∷ xs) (suc n) d less = above_each (max start (number x)) xs n d (omega (arith, less))

-- no row has more packets than the greatest number
pub most_is_reached : (size : ℕ) (intervals : List Counts) (place : ℕ) → place < div_ceil (length intervals) size
    → (total (merged_at size intervals place)).packets ≤ most_packets (merged size intervals)
most_is_reached size intervals place less =
    let within : place < length (merged size intervals) = omega (arith, less, length_of_merged size intervals) in
    omega (
      arith,
      above_each (λ row. (total row).packets) 0 (merged size intervals) place no_packets within,
      ap (λ row. (total row).packets) (merged_here size intervals place within),
    )

-- a row has at most as many packets as the longest bar stands for
pub row_fits : (size : ℕ) (intervals : List Counts) (place most : ℕ) (row : Counts) → most ≡ most_packets (merged size intervals)
    → row ≡ merged_at size intervals place → place < div_ceil (length intervals) size → (total row).packets ≤ most
row_fits size intervals place most row is_most is_row less =
    omega (arith, is_most, ap (λ each. (total each).packets) is_row, most_is_reached size intervals place less)

-- the bar of a row with packets
pub bar_written : (most packets len : ℕ) → len ≡ bar_len most packets → len ≤ 40 → (packets ≡ 0 → ⊥)
    → 32 ∷ take len (replicate 40 35) ≡ bar_text most packets
bar_written most packets len is fits some =
    let test : (packets == 0) ≡ false = grind (arith, some, common_steps) in
    ap (λ bar. 32 ∷ bar) (take-replicate len 40 35 fits ∙ ap (λ each. replicate each 35) is)
    ∙ sym (ap (λ none. if none then [] else codes " " ++ replicate (bar_len most packets) 35) test)

-- the row with this number was written
pub row_written : (timeline : TimelineBins) (size most begin place : ℕ) (row : Counts) → size ≡ row_size timeline
    → most ≡ most_packets (merged size (shown_intervals timeline)) → begin ≡ begin_of timeline (place * size)
    → row ≡ merged_at size (shown_intervals timeline) place → place < length (rows timeline)
    → interval_row most begin row ≡ row_text timeline (get_or (range_with_len 0 (length (rows timeline))) place 0)
row_written timeline size most begin place row same is_most is_begin is_row within =
    let intervals = shown_intervals timeline in
    let here : 0 + place ≡ place = omega arith in
    ap (λ each. interval_row each begin row) (is_most ∙ ap (λ each. most_packets (merged each intervals)) same)
    ∙ ap (λ each. interval_row (most_packets (rows timeline)) each row) (is_begin ∙ ap (λ each. begin_of timeline (place * each)) same)
    ∙ ap (interval_row (most_packets (rows timeline)) (begin_of timeline (place * row_size timeline)))
    (is_row ∙ ap (λ each. merged_at each intervals place) same ∙ sym (merged_here (row_size timeline) intervals place within))
    ∙ ap (row_text timeline) (sym (get_or-range_with_len 0 (length (rows timeline)) place 0 within ∙ here))
