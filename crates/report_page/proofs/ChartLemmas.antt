-- The timeline with the bins that were counted.
use Rattle.std.proofs.Common.{◌≡◌, ◌≢◌, ◌∙◌, ℕ, ◌+◌, ◌-◌, ◌*◌, ◌/◌, ◌≤◌, ◌<◌, Bool, true, false, nat_lt, ltb-true, ltb-false, List, length, get_or, set, take, drop, min, eqb, eqb-true, get_or-set_same, get_or-set_other, All, Option, Some, None, refl, sym, ap, subst, arith, div-add-mod', div-mul-le_self, mod-lt, mul-le-mul_right, lt_of_mul-lt-mul_right, length-take-le, get_or-take}
use Rattle.std.proofs.lemmas.Bool.{eqb-false}
use Rattle.std.proofs.lemmas.Grind.{div_ceil_times}
use Rattle.std.proofs.lemmas.List.{get_or_past}
use Rattle.std.proofs.lemmas.List.Elements.{All-weaker}
use Rattle.std.specs.Int.{div_ceil}
use Rattle.timeline.proofs.CountLemmas.{counts_agree, counts_none}
use Rattle.timeline.proofs.IntervalLemmas.{between_none}
use Rattle.timeline.proofs.MergingLemmas as lemmas
use Rattle.timeline.proofs.MergingLemmas.{length_of_merged, merged_here}
use Rattle.timeline.proofs.TimelineLemmas.{all_untimed}
use Rattle.timeline.specs.Counts.{counts_of, no_packets}
use Rattle.timeline.specs.Intervals.{AreIntervals, Fits, IsBefore, IsLeastWidth, IsPowerOfTen, counts_between, merged, merged_at}
use Rattle.timeline.specs.Timelines.{HasBins, IsTimelineOf, bins_in_interval, first_time, is_later, is_older, max_bins, shown_intervals}
use Rattle.timeline.specs.declared.counts.Counts.{Counts}
use Rattle.timeline.specs.declared.event.Event.{Event}
use Rattle.report_page.specs.Charts.{page_counts, timeline_in}
use Rattle.report_page.specs.Spans.{AreCounted, IsUnitFor, Reaches}
use Rattle.report_page.specs.declared.bins.Bins.{Bins}
use Rattle.report_page.specs.declared.chart.PageCounts.{PageCounts}
use Rattle.report_page.specs.declared.chart.PageTimeline.{PageTimeline}

-- ---- no packet with a time

module _ (packets : List Event) (none : first_time packets ≡ None) where
  -- any bins reach packets without a time
  pub untimed_before : (end : ℕ) → All (λ packet. IsBefore end packet.time) packets
  untimed_before end k d within = subst (IsBefore end) (sym (all_untimed packets none k d within)) tt

  pub untimed_timeline : (bins : Bins) → bins.start ≡ None → bins.unit ≡ 1 → bins.len ≡ 0 → AreCounted 0 bins packets
      → IsTimelineOf None packets (timeline_in bins)
  untimed_timeline bins start unit len are = record {
    is_fixed = refl;
    start = start ∙ sym none;
    bins = subst (λ begin. HasBins None begin bins.unit (take bins.len bins.all) packets) (sym start)
        (unit, ap (λ n. take n bins.all) len);
    older = are.older
        ∙ counts_agree (λ packet. is_older (Some 0) packet.time) (λ packet. is_older bins.start packet.time) packets
        (λ k d within. older_same (get_or packets k d).time (all_untimed packets none k d within));
    later = sym (counts_none (λ packet. is_later None bins.start packet.time) packets (λ k d within. refl));
    untimed = are.untimed;
  }
    where
      older_same : (time : Option ℕ) → time ≡ None → is_older (Some 0) time ≡ is_older bins.start time
      older_same time is = ap (is_older (Some 0)) is ∙ sym (ap (λ begin. is_older begin time) start)

-- ---- packets from the start on

before_more : (end later : ℕ) → end ≤ later → (time : Option ℕ) → IsBefore end time → IsBefore later time
before_more end later more None before = tt
before_more end later more (Some time) before = omega (arith, more, before)

module _ (packets : List Event) (start last : ℕ) (reaches : Reaches packets start last) where
  -- bins that reach the latest packet reach every packet
  pub all_before : (end : ℕ) → last < end → All (λ packet. IsBefore end packet.time) packets
  all_before end less = All-weaker (λ packet. IsBefore (last + 1) packet.time) (λ packet. IsBefore end packet.time)
      (λ packet. before_more (last + 1) end (omega (arith, less)) packet.time) packets reaches.all

  pub unit_before : (unit : ℕ) → IsUnitFor (last - start) unit → All (λ packet. IsBefore (start + max_bins * unit) packet.time) packets
  unit_before unit is = all_before (start + max_bins * unit) (omega (arith, is.reaches, reaches.order))

  pub least_unit : (unit : ℕ) → IsUnitFor (last - start) unit → IsLeastWidth IsPowerOfTen max_bins start unit packets
  least_unit unit is = record {
    on_scale = is.power;
    suffice = unit_before unit is;
    least = λ other power fits.
        is.least other power (omega (arith, reaches.attained (start + max_bins * other) fits, reaches.order));
  }

  module _ (bins : Bins) (positive : 0 < bins.unit) (len : bins.len ≡ (last - start) / bins.unit + 1) (room : length bins.all ≡ 1280)
      (is : IsUnitFor (last - start) bins.unit) (are : AreCounted start bins packets) where
    latest_low : (bins.len - 1) * bins.unit ≤ last - start
    latest_low = subst (λ n. n * bins.unit ≤ last - start) (omega (arith, len)) (div-mul-le_self (last - start) bins.unit)

    latest_high : last - start < bins.len * bins.unit
    latest_high = subst (λ n. last - start < n * bins.unit) (sym len)
        (omega (arith, div-add-mod' (last - start) bins.unit, mod-lt (last - start) positive))

    few : bins.len ≤ 1280
    few =
        let product : (bins.len - 1) * bins.unit < 1280 * bins.unit = omega (arith, latest_low, is.reaches) in
        let less : bins.len - 1 < 1280 = lt_of_mul-lt-mul_right bins.unit product in
        omega (arith, less, len)

    shown_len : length (take bins.len bins.all) ≡ bins.len
    shown_len = length-take-le bins.len bins.all (omega (arith, few, room))

    contained_by : (place : ℕ) (b : Bool) → nat_lt place bins.len ≡ b → get_or (take bins.len bins.all) place no_packets
        ≡ counts_between (start + place * bins.unit) (start + (place + 1) * bins.unit) packets
    contained_by place true test =
        let less = ltb-true _ _ test in
        get_or-take bins.len bins.all place no_packets less ∙ are.contained place (omega (arith, less, few))
    contained_by place false test =
        let past : bins.len ≤ place = ltb-false _ _ test in
        get_or_past (take bins.len bins.all) place no_packets (omega (arith, past, shown_len))
        ∙ sym (between_none (start + place * bins.unit) (start + (place + 1) * bins.unit) packets
        (all_before (start + place * bins.unit) (omega (arith, latest_high, reaches.order, mul-le-mul_right bins.unit past))))

    pub counted_intervals : AreIntervals start bins.unit (take bins.len bins.all) packets
    counted_intervals = record {
      contained = λ place. contained_by place (nat_lt place bins.len) refl;
      suffice = subst (λ n. Fits start bins.unit n packets) (sym shown_len)
          (all_before (start + bins.len * bins.unit) (omega (arith, latest_high, reaches.order)));
      fewest = λ count fits.
          let end = reaches.attained (start + count * bins.unit) fits in
          let product : (bins.len - 1) * bins.unit < count * bins.unit = omega (arith, latest_low, end, reaches.order) in
          let less : bins.len - 1 < count = lt_of_mul-lt-mul_right bins.unit product in
          omega (arith, less, shown_len, len);
    }

    pub counted_timeline : bins.start ≡ Some start → IsTimelineOf None packets (timeline_in bins)
    counted_timeline started = record {
      is_fixed = refl;
      start = started ∙ sym reaches.first;
      bins = subst (λ begin. HasBins None begin bins.unit (take bins.len bins.all) packets) (sym started)
          (least_unit bins.unit is, counted_intervals);
      older = are.older ∙ ap (λ begin. counts_of (λ packet. is_older begin packet.time) packets) (sym started);
      later = sym (counts_none (λ packet. is_later None bins.start packet.time) packets (λ k d within. refl));
      untimed = are.untimed;
    }

-- ---- what is shown

module _ (all : List Counts) (size place : ℕ) (positive : 0 < size) where
  count_low : length all ≤ div_ceil (length all) size * size
  count_low = (div_ceil_times (length all) size positive).0

  count_high : div_ceil (length all) size * size < length all + size
  count_high = (div_ceil_times (length all) size positive).1

  -- there are not so many intervals
  pub no_interval : length all ≤ place * size → get_or (merged size all) place no_packets ≡ no_packets
  no_interval past =
      let product : div_ceil (length all) size * size < (place + 1) * size = omega (arith, count_high, past) in
      let less : div_ceil (length all) size < place + 1 = lt_of_mul-lt-mul_right size product in
      get_or_past (merged size all) place no_packets (omega (arith, less, length_of_merged size all))

  -- the interval is a sum of bins
  pub one_interval : place * size < length all → get_or (merged size all) place no_packets ≡ merged_at size all place
  one_interval within =
      let product : place * size < div_ceil (length all) size * size = omega (arith, count_low, within) in
      let less : place < div_ceil (length all) size = lt_of_mul-lt-mul_right size product in
      merged_here size all place (omega (arith, less, length_of_merged size all))

module _ (bins : Bins) (size place : ℕ) (room : length bins.all ≡ 1280) (few : bins.len ≤ 1280) (is_size : size ≡ bins_in_interval bins.len)
    (positive : 0 < size) where
  abbrev shown : List Counts
  shown = take bins.len bins.all

  len_of_shown : length shown ≡ bins.len
  len_of_shown = length-take-le bins.len bins.all (omega (arith, few, room))

  pub same_size : size ≡ bins_in_interval (length shown)
  same_size = is_size ∙ ap bins_in_interval (sym len_of_shown)

  pub interval_past : bins.len ≤ place * size → no_packets ≡ get_or (shown_intervals (timeline_in bins)) place no_packets
  interval_past past = subst (λ n. no_packets ≡ get_or (merged n shown) place no_packets) same_size
      (sym (no_interval shown size place positive (omega (arith, past, len_of_shown))))

  pub interval_is : place * size < bins.len → merged_at size shown place ≡ get_or (shown_intervals (timeline_in bins)) place no_packets
  interval_is within = subst (λ n. merged_at size shown place ≡ get_or (merged n shown) place no_packets) same_size
      (sym (one_interval shown size place positive (omega (arith, within, len_of_shown))))

  pub interval_count : div_ceil bins.len size ≡ length (shown_intervals (timeline_in bins))
  interval_count = subst (λ n. div_ceil bins.len size ≡ length (merged n shown)) same_size
      (ap (λ n. div_ceil n size) (sym len_of_shown) ∙ sym (length_of_merged size shown))

-- the part that is summed
pub slice_run : (intervals : List Counts) (begin size end : ℕ) → end ≡ min (begin + size) (length intervals) → begin ≤ length intervals
    → take (end - begin) (drop begin intervals) ≡ take size (drop begin intervals)
slice_run = lemmas.slice_run

-- ---- the numbers of the page

abbrev made : ℕ → ℕ → ℕ → ℕ → ℕ → PageCounts → PageCounts → ℕ → PageTimeline
made start_low start_high width_low width_high count older untimed has_start = record {
  start_low = start_low;
  start_high = start_high;
  width_low = width_low;
  width_high = width_high;
  count = count;
  older = older;
  untimed = untimed;
  has_start = has_start;
}

pub made_same : (a a' b b' c c' d d' e e' : ℕ) (f f' g g' : PageCounts) (h h' : ℕ) → a ≡ a' → b ≡ b' → c ≡ c' → d ≡ d' → e ≡ e' → f ≡ f'
    → g ≡ g' → h ≡ h' → made a b c d e f g h ≡ made a' b' c' d' e' f' g' h'
made_same a a' b b' c c' d d' e e' f f' g g' h h' p q r s t u v w = cc

-- ---- the intervals so far

module _ (shown : List Counts) (intervals : List PageCounts) (place : ℕ) (within : place < length intervals) (after : PageCounts)
    (is : after ≡ page_counts (get_or shown place no_packets))
    (before : (other : ℕ) → other < place → get_or intervals other (page_counts no_packets)
    ≡ page_counts (get_or shown other no_packets)) where
  by_place : (other : ℕ) → other < place + 1 → (b : Bool) → eqb other place ≡ b
      → get_or (set intervals place after) other (page_counts no_packets) ≡ page_counts (get_or shown other no_packets)
  by_place other less true same =
      let is_place : other ≡ place = eqb-true _ _ same in
      subst (λ each. get_or (set intervals place after) each (page_counts no_packets) ≡ page_counts (get_or shown each no_packets))
      (sym is_place) (get_or-set_same intervals place after (page_counts no_packets) within ∙ is)
  by_place other less false same =
      let different : other ≢ place = eqb-false _ _ same in
      get_or-set_other intervals place other after (page_counts no_packets) different ∙ before other (omega (arith, less, different))

  pub one_shown : (other : ℕ) → other < place + 1
      → get_or (set intervals place after) other (page_counts no_packets) ≡ page_counts (get_or shown other no_packets)
  one_shown other less = by_place other less (eqb other place) refl
