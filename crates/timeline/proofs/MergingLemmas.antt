-- Sums of neighboring intervals are intervals of a larger width.
use Rattle.std.proofs.Common.{◌≡◌, ◌∙◌, ℕ, ◌+◌, ◌*◌, ◌≤◌, ◌<◌, zero, suc, Bool, true, false, nat_lt, ltb-true, ltb-false, List, [], length, get_or, take, drop, map, min, set, ◌-◌, ◌++◌, ◌∷◌, refl, sym, ap, ap₂, subst, arith, append_assoc, length-append, length-drop, length-take-le, get_or-drop, drop-drop, take_all, take_at, take-suc, mul-le-mul_right, lt_of_mul-lt-mul_right, mul_assoc, mul_comm}
use Rattle.std.proofs.lemmas.Grind.{div_ceil_times}
use Rattle.std.proofs.lemmas.List.{get_or_past, set_split}
use Rattle.std.proofs.lemmas.List.FromFn.{get_or-map-range_with_len, length-map-range_with_len, map-range_with_len_more}
use Rattle.std.proofs.lemmas.List.Sums.{fold_more}
use Rattle.std.proofs.Math.Seq.{drop-append-add}
use Rattle.std.specs.Int.{div_ceil}
use Rattle.std.specs.List.{range_with_len}
use Rattle.timeline.proofs.IntervalLemmas.{between_beyond, between_empty, between_none, between_split, fits_more}
use Rattle.timeline.specs.Counts.{counts_sum, no_packets, sum_of}
use Rattle.timeline.specs.Intervals.{AreIntervals, Fits, counts_between, merged, merged_at}
use Rattle.timeline.specs.declared.counts.Counts.{Counts}
use Rattle.timeline.specs.declared.event.Event.{Event}

-- take one more, if there is one
more_within : (xs : List Counts) (n : ℕ) → n < length xs → sum_of (take (n + 1) xs)
    ≡ counts_sum (sum_of (take n xs)) (get_or xs n no_packets)
more_within xs n within = fold_more counts_sum no_packets xs n no_packets within

more_past : (xs : List Counts) (n : ℕ) → length xs ≤ n → sum_of (take (n + 1) xs) ≡ sum_of (take n xs)
more_past xs n past = ap sum_of (take_all (n + 1) xs (omega (arith, past)) ∙ sym (take_all n xs past))

later_place : (start width m n : ℕ) → m ≤ n → start + m * width ≤ start + n * width
later_place start width m n order = omega (arith, mul-le-mul_right width order)

module _ (start width : ℕ) (intervals : List Counts) (packets : List Event) (are : AreIntervals start width intervals packets) where
  abbrev between : ℕ → ℕ → Counts
  between m n = counts_between (start + m * width) (start + n * width) packets

  -- one more interval of a sum
  run_more : (place m : ℕ) → sum_of (take m (drop place intervals)) ≡ between place (place + m) → (within : Bool)
      → nat_lt (place + m) (length intervals) ≡ within → sum_of (take (m + 1) (drop place intervals)) ≡ between place (place + (m + 1))
  run_more place m before true test =
      let next : place + m + 1 ≡ place + (m + 1) = omega arith in
      let inside : m < length (drop place intervals) = omega (arith, ltb-true _ _ test, length-drop place intervals) in
      more_within (drop place intervals) m inside
      ∙ ap₂ counts_sum before (get_or-drop place intervals m no_packets ∙ are.contained (place + m)
      ∙ ap (λ n. between (place + m) n) next)
      ∙ sym (between_split (start + place * width) (start + (place + m) * width) (start + (place + (m + 1)) * width) packets
      (later_place start width place (place + m) (omega arith)) (later_place start width (place + m) (place + (m + 1)) (omega arith)))
  run_more place m before false test =
      let past : length intervals ≤ place + m = ltb-false _ _ test in
      let short : length (drop place intervals) ≤ m = omega (arith, past, length-drop place intervals) in
      more_past (drop place intervals) m short
      ∙ before
      ∙ between_beyond (start + place * width) (start + (place + m) * width) (start + (place + (m + 1)) * width) packets
      (later_place start width (place + m) (place + (m + 1)) (omega arith))
      (fits_more start width (length intervals) width (place + m) packets (mul-le-mul_right width past) are.suffice)

  -- the sum of some neighboring intervals counts the packets between their ends
  pub run : (place m : ℕ) → sum_of (take m (drop place intervals)) ≡ between place (place + m)
  run place zero =
      let same : place ≡ place + 0 = omega arith in
      sym (between_empty (start + place * width) packets) ∙ ap (λ n. between place n) same
  run place (suc m) =
      let next : m + 1 ≡ suc m = omega arith in
      subst (λ n. sum_of (take n (drop place intervals)) ≡ between place (place + n)) next
      (run_more place m (run place m) (nat_lt (place + m) (length intervals)) refl)

  module _ (size : ℕ) (positive : 0 < size) where
    abbrev count : ℕ
    count = div_ceil (length intervals) size

    enough : length intervals ≤ count * size
    enough = (div_ceil_times (length intervals) size positive).0

    not_more : count * size < length intervals + size
    not_more = (div_ceil_times (length intervals) size positive).1

    length_merged : length (merged size intervals) ≡ count
    length_merged = length-map-range_with_len (merged_at size intervals) 0 count

    place_times : (place : ℕ) → place * size * width ≡ place * (width * size)
    place_times place = mul_assoc place size width ∙ ap (λ product. place * product) (mul_comm size width)

    reaches : (other : ℕ) → length intervals ≤ other * size → length intervals * width ≤ other * (width * size)
    reaches other order = omega (arith, mul-le-mul_right width order, place_times other)

    merged_suffice : Fits start (width * size) (length (merged size intervals)) packets
    merged_suffice = subst (λ n. Fits start (width * size) n packets) (sym length_merged)
        (fits_more start width (length intervals) (width * size) count packets (reaches count enough) are.suffice)

    merged_fewest : (other : ℕ) → Fits start (width * size) other packets → length (merged size intervals) ≤ other
    merged_fewest other fits =
        let order : length intervals ≤ other * size = are.fewest (other * size)
        (fits_more start (width * size) other width (other * size) packets (omega (arith, place_times other)) fits) in
        let product : count * size < (other + 1) * size = omega (arith, not_more, order) in
        let less : count < other + 1 = lt_of_mul-lt-mul_right size product in
        omega (arith, less, length_merged)

    contained_by : (place : ℕ) (within : Bool) → nat_lt place count ≡ within → get_or (merged size intervals) place no_packets
        ≡ counts_between (start + place * (width * size)) (start + (place + 1) * (width * size)) packets
    contained_by place true test =
        let next : place * size + size ≡ (place + 1) * size = omega arith in
        get_or-map-range_with_len (merged_at size intervals) 0 count place place no_packets (ltb-true _ _ test) (omega arith)
        ∙ run (place * size) size
        ∙ ap₂ (λ begin end. counts_between (start + begin) (start + end) packets) (place_times place)
        (ap (λ product. product * width) next ∙ place_times (place + 1))
    contained_by place false test =
        let past : count ≤ place = ltb-false _ _ test in
        get_or_past (merged size intervals) place no_packets (omega (arith, past, length_merged))
        ∙ sym (between_none (start + place * (width * size)) (start + (place + 1) * (width * size)) packets
        (fits_more start width (length intervals) (width * size) place packets
        (reaches place (omega (arith, enough, mul-le-mul_right size past))) are.suffice))

    -- if each `size` intervals become one, the intervals are `size` times as wide
    pub merged_are_intervals : AreIntervals start (width * size) (merged size intervals) packets
    merged_are_intervals = record {
      contained = λ place. contained_by place (nat_lt place count) refl;
      suffice = merged_suffice;
      fewest = merged_fewest;
    }

-- ---- the code

-- the part that is summed
pub slice_run : (intervals : List Counts) (begin size end : ℕ) → end ≡ min (begin + size) (length intervals) → begin ≤ length intervals
    → take (end - begin) (drop begin intervals) ≡ take size (drop begin intervals)
slice_run intervals begin size end is within = by (nat_lt (length intervals) (begin + size)) refl
  where
    by : (short : Bool) → nat_lt (length intervals) (begin + size) ≡ short
        → take (end - begin) (drop begin intervals) ≡ take size (drop begin intervals)
    by true test =
        let less = ltb-true _ _ test in
        take_all (end - begin) (drop begin intervals) (omega (arith, is, less, within, length-drop begin intervals))
        ∙ sym (take_all size (drop begin intervals) (omega (arith, less, within, length-drop begin intervals)))
    by false test =
        let more = ltb-false _ _ test in
        let same : end - begin ≡ size = omega (arith, is, more) in
        ap (λ n. take n (drop begin intervals)) same

-- an interval of the result begins within the intervals
pub place_within : (len size place number : ℕ) → 0 < size → number ≡ div_ceil len size → place < number → place * size < len
place_within len size place number positive is less =
    let product : suc place * size ≤ number * size = mul-le-mul_right size less in
    let bound : number * size < len + size = subst (λ n. n * size < len + size) (sym is) (div_ceil_times len size positive).1 in
    omega (arith, product, bound)

pub merged_more : (size : ℕ) (intervals : List Counts) (place : ℕ)
    → map (merged_at size intervals) (range_with_len 0 place) ++ merged_at size intervals place ∷ []
    ≡ map (merged_at size intervals) (range_with_len 0 (place + 1))
merged_more size intervals place = sym (map-range_with_len_more (merged_at size intervals) 0 place place (omega arith))

pub length_of_merged : (size : ℕ) (intervals : List Counts) → length (merged size intervals) ≡ div_ceil (length intervals) size
length_of_merged size intervals = length-map-range_with_len (merged_at size intervals) 0 (div_ceil (length intervals) size)

-- an interval of the result
pub merged_here : (size : ℕ) (intervals : List Counts) (place : ℕ) → place < length (merged size intervals)
    → get_or (merged size intervals) place no_packets ≡ merged_at size intervals place
merged_here size intervals place less =
    get_or-map-range_with_len (merged_at size intervals) 0 (div_ceil (length intervals) size) place place no_packets
    (omega (arith, less, length_of_merged size intervals)) (omega arith)

pub merged_short : (bins : List Counts) (most : ℕ) → length bins ≤ most → length (merged 10 bins) ≤ most
merged_short bins most short =
    let bound = (div_ceil_times (length bins) 10 (omega arith)).1 in
    omega (arith, bound, length_of_merged 10 bins, short)

-- the bins of which the first `place` are merged
abbrev pub mixed : ℕ → List Counts → List Counts
mixed place bins = take place (merged 10 bins) ++ drop place bins

module _ (bins : List Counts) (place : ℕ) (less : place < div_ceil (length bins) 10) where
  front_len : length (take place (merged 10 bins)) ≡ place
  front_len = length-take-le place (merged 10 bins) (omega (arith, less, length_of_merged 10 bins))

  below : place * 10 < length bins
  below = place_within (length bins) 10 place (div_ceil (length bins) 10) (omega arith) refl less

  pub mixed_len : length (mixed place bins) ≡ length bins
  mixed_len = omega (arith, length-append (take place (merged 10 bins)) (drop place bins), front_len, length-drop place bins, below)

  mixed_drop : drop (place * 10) (mixed place bins) ≡ drop (place * 10) bins
  mixed_drop =
      let same : place * 10 ≡ length (take place (merged 10 bins)) + place * 9 = omega (arith, front_len) in
      ap (λ n. drop n (mixed place bins)) same
      ∙ drop-append-add (take place (merged 10 bins)) (drop place bins) (place * 9)
      ∙ drop-drop (place * 9) place bins
      ∙ ap (λ n. drop n bins) (omega arith)

  pub mixed_at : merged_at 10 (mixed place bins) place ≡ merged_at 10 bins place
  mixed_at = ap (λ rest. sum_of (take 10 rest)) mixed_drop

  one_more : take (suc place) (merged 10 bins) ≡ take place (merged 10 bins) ++ merged_at 10 bins place ∷ []
  one_more =
      take-suc (merged 10 bins) place no_packets (omega (arith, less, length_of_merged 10 bins))
      ∙ ap (λ counts. take place (merged 10 bins) ++ counts ∷ [])
      (get_or-map-range_with_len (merged_at 10 bins) 0 (div_ceil (length bins) 10) place place no_packets less (omega arith))

  rest_drop : drop (suc place) (mixed place bins) ≡ drop (suc place) bins
  rest_drop =
      let same : suc place ≡ length (take place (merged 10 bins)) + 1 = omega (arith, front_len) in
      let next : place + 1 ≡ suc place = omega arith in
      ap (λ n. drop n (mixed place bins)) same
      ∙ drop-append-add (take place (merged 10 bins)) (drop place bins) 1
      ∙ drop-drop 1 place bins
      ∙ ap (λ n. drop n bins) next

  pub mixed_more : set (mixed place bins) place (merged_at 10 (mixed place bins) place) ≡ mixed (place + 1) bins
  mixed_more =
      let next : suc place ≡ place + 1 = omega arith in
      let joined : (take place (merged 10 bins) ++ merged_at 10 bins place ∷ []) ++ drop (suc place) bins
      ≡ take place (merged 10 bins) ++ merged_at 10 bins place ∷ drop (suc place) bins
      = append_assoc (take place (merged 10 bins)) (merged_at 10 bins place ∷ []) (drop (suc place) bins) in
      ap (set (mixed place bins) place) mixed_at
      ∙ set_split (mixed place bins) place (merged_at 10 bins place) (omega (arith, mixed_len, below))
      ∙ ap₂ (λ front rest. front ++ merged_at 10 bins place ∷ rest)
      (take_at (take place (merged 10 bins)) (drop place bins) place front_len) rest_drop
      ∙ sym joined
      ∙ ap (λ front. front ++ drop (suc place) bins) (sym one_more)
      ∙ ap (λ n. mixed n bins) next

pub mixed_all : (bins : List Counts) (count : ℕ) → count ≡ div_ceil (length bins) 10 → take count (mixed count bins) ≡ merged 10 bins
mixed_all bins count is =
    let len : length (take count (merged 10 bins)) ≡ count = length-take-le count (merged 10 bins) (omega
    (arith, is, length_of_merged 10 bins)) in
    take_at (take count (merged 10 bins)) (drop count bins) count len
    ∙ take_all count (merged 10 bins) (omega (arith, is, length_of_merged 10 bins))
