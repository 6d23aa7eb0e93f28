-- The bins after one more packet.
use Rattle.std.proofs.Common.{◌≡◌, ◌≢◌, ◌∙◌, ℕ, ◌+◌, ◌-◌, ◌*◌, ◌≤◌, ◌<◌, zero, suc, Bool, true, false, eqb, nat_lt, List, [], ◌∷◌, ◌++◌, length, get_or, replicate, set, take, All, Option, Some, None, refl, sym, ap, subst, arith, ltb-true, ltb-false, eqb-true, length-append, length-set, get_or-set_same, get_or-set_other, take_all, mul-le-mul_right, lt_of_mul-lt-mul_right}
use Rattle.std.proofs.Math.ListN.{get_or-append}
use Rattle.std.proofs.Math.Seq.{get_or-append_right}
use Rattle.std.proofs.lemmas.Bool.{eqb-false}
use Rattle.std.proofs.lemmas.List.{get_or_past, length-replicate}
use Rattle.timeline.proofs.CountLemmas.{push_in, push_out}
use Rattle.timeline.proofs.IntervalLemmas.{between_none, fits_front, fits_last, fits_more, fits_push, is_early, is_inside, is_late}
use Rattle.timeline.proofs.WidthLemmas.{power_least, power_one}
use Rattle.timeline.specs.Counts.{counts_with, no_packets}
use Rattle.timeline.specs.Intervals.{AreIntervals, Fits, IsBefore, IsLeastWidth, IsPowerOfTen, counts_between, is_within}
use Rattle.timeline.specs.Timelines.{max_bins}
use Rattle.timeline.specs.Widening.{CountsAt}
use Rattle.timeline.specs.declared.counts.Counts.{Counts}
use Rattle.timeline.specs.declared.event.Event.{Event}

before_later : (start end : ℕ) (time : Option ℕ) → start ≤ end → IsBefore start time → IsBefore end time
before_later start end None order before = tt
before_later start end (Some time) order before = omega (arith, order, before)

-- ---- a packet that is in no bin

module _ (start width : ℕ) (intervals : List Counts) (packets : List Event) (packet : Event) (early : IsBefore start packet.time) where
  -- a packet before the start changes no interval
  pub early_intervals : AreIntervals start width intervals packets → AreIntervals start width intervals (packets ++ packet ∷ [])
  early_intervals are = record {
    contained = λ place. are.contained place
        ∙ sym (push_out (λ each. is_within (start + place * width) (start + (place + 1) * width) each.time) packets packet
        (is_early (start + place * width) (start + (place + 1) * width) packet.time
        (before_later start (start + place * width) packet.time (omega arith) early)));
    suffice = fits_push start width (length intervals) packets packet are.suffice
        (before_later start (start + length intervals * width) packet.time (omega arith) early);
    fewest = λ count fits. are.fewest count (fits_front start width count packets packet fits);
  }

  pub early_width : IsLeastWidth IsPowerOfTen max_bins start width packets
      → IsLeastWidth IsPowerOfTen max_bins start width (packets ++ packet ∷ [])
  early_width least = record {
    on_scale = least.on_scale;
    suffice = fits_push start width max_bins packets packet least.suffice (before_later start (start + max_bins * width) packet.time
        (omega arith) early);
    least = λ other is fits. least.least other is (fits_front start other max_bins packets packet fits);
  }

-- ---- no packet with a time

module _ (start : ℕ) (packets : List Event) (untimed : All (λ packet. packet.time ≡ None) packets) where
  all_before : (end : ℕ) → All (λ packet. IsBefore end packet.time) packets
  all_before end k d within = subst (IsBefore end) (sym (untimed k d within)) tt

  pub no_intervals : (width : ℕ) → AreIntervals start width [] packets
  no_intervals width = record {
    contained = λ place. sym (between_none (start + place * width) (start + (place + 1) * width) packets (all_before
        (start + place * width)));
    suffice = all_before (start + 0 * width);
    fewest = λ count fits. omega arith;
  }

  pub no_width : IsLeastWidth IsPowerOfTen max_bins start 1 packets
  no_width = record {
    on_scale = power_one;
    suffice = all_before (start + max_bins * 1);
    least = λ other is fits. power_least other is;
  }

-- ---- a packet in a bin

module _ (start old_unit unit place time : ℕ) (bins after : List Counts) (packets : List Event) (packet : Event)
    (timed : packet.time ≡ Some time) (from_start : start ≤ time)
    (low : start + place * unit ≤ time) (high : time < start + (place + 1) * unit)
    (counts : CountsAt place packet bins after) (are : AreIntervals start unit bins packets) where
  inside : is_within (start + place * unit) (start + (place + 1) * unit) packet.time ≡ true
  inside = subst (λ each. is_within (start + place * unit) (start + (place + 1) * unit) each ≡ true) (sym timed)
      (is_inside (start + place * unit) (start + (place + 1) * unit) time low high)

  outside : (other : ℕ) → other ≢ place → (b : Bool) → nat_lt other place ≡ b
      → is_within (start + other * unit) (start + (other + 1) * unit) packet.time ≡ false
  outside other different true test =
      let order : other + 1 ≤ place = omega (arith, ltb-true _ _ test) in
      subst (λ each. is_within (start + other * unit) (start + (other + 1) * unit) each ≡ false) (sym timed)
      (is_late (start + other * unit) (start + (other + 1) * unit) time (omega (arith, low, mul-le-mul_right unit order)))
  outside other different false test =
      let order : place + 1 ≤ other = omega (arith, ltb-false _ _ test, different) in
      subst (λ each. is_within (start + other * unit) (start + (other + 1) * unit) each ≡ false) (sym timed)
      (is_early (start + other * unit) (start + (other + 1) * unit) (Some time) (omega (arith, high, mul-le-mul_right unit order)))

  contained_by : (other : ℕ) (b : Bool) → eqb other place ≡ b → get_or after other no_packets
      ≡ counts_between (start + other * unit) (start + (other + 1) * unit) (packets ++ packet ∷ [])
  contained_by other true same = subst (λ each. get_or after each no_packets
      ≡ counts_between (start + each * unit) (start + (each + 1) * unit) (packets ++ packet ∷ [])) (sym (eqb-true _ _ same))
      (counts.here
      ∙ ap (counts_with packet) (are.contained place)
      ∙ sym (push_in (λ each. is_within (start + place * unit) (start + (place + 1) * unit) each.time) packets packet inside))
  contained_by other false same =
      let different : other ≢ place = eqb-false _ _ same in
      counts.elsewhere other different
      ∙ are.contained other
      ∙ sym (push_out (λ each. is_within (start + other * unit) (start + (other + 1) * unit) each.time) packets packet
      (outside other different (nat_lt other place) refl))

  reaches : IsBefore (start + length after * unit) packet.time
  reaches =
      let order : place + 1 ≤ length after = omega (arith, counts.len) in
      subst (IsBefore (start + length after * unit)) (sym timed) (omega (arith, high, mul-le-mul_right unit order))

  older_reach : Fits start unit (length after) packets
  older_reach =
      let order : length bins ≤ length after = omega (arith, counts.len) in
      fits_more start unit (length bins) unit (length after) packets (mul-le-mul_right unit order) are.suffice

  fewest : (count : ℕ) → Fits start unit count (packets ++ packet ∷ []) → length after ≤ count
  fewest count fits =
      let order = are.fewest count (fits_front start unit count packets packet fits) in
      let before : time < start + count * unit = subst (IsBefore (start + count * unit)) timed
      (fits_last start unit count packets packet fits) in
      let product : place * unit < count * unit = omega (arith, low, before) in
      let less : place < count = lt_of_mul-lt-mul_right unit product in
      omega (arith, order, less, counts.len)

  pub counted_intervals : AreIntervals start unit after (packets ++ packet ∷ [])
  counted_intervals = record {
    contained = λ other. contained_by other (eqb other place) refl;
    suffice = fits_push start unit (length after) packets packet older_reach reaches;
    fewest = fewest;
  }

-- the unit after a packet: it is not below the unit before, and is the least that reaches the packet
module _ (start old_unit unit time : ℕ) (packets : List Event) (packet : Event) (timed : packet.time
    ≡ Some time) (from_start : start ≤ time)
    (old : IsLeastWidth IsPowerOfTen max_bins start old_unit packets) (grows : old_unit ≤ unit) (power : IsPowerOfTen unit)
    (reached : time < start + 1280 * unit)
    (least : (other : ℕ) → IsPowerOfTen other → old_unit ≤ other → time < start + 1280 * other → unit ≤ other) where
  pub counted_width : IsLeastWidth IsPowerOfTen max_bins start unit (packets ++ packet ∷ [])
  counted_width = record {
    on_scale = power;
    suffice = fits_push start unit max_bins packets packet
        (fits_more start old_unit max_bins unit max_bins packets (omega (arith, grows)) old.suffice)
        (subst (IsBefore (start + max_bins * unit)) (sym timed) (omega (arith, reached)));
    least = λ other is fits. least other is (old.least other is (fits_front start other max_bins packets packet fits))
        (subst (IsBefore (start + max_bins * other)) timed (fits_last start other max_bins packets packet fits));
  }

-- ---- the code

get_or_replicate : (m i : ℕ) → get_or (replicate m no_packets) i no_packets ≡ no_packets
get_or_replicate zero i = refl
get_or_replicate (suc m) zero = refl
get_or_replicate (suc m) (suc i) = get_or_replicate m i

get_or_grown : (bins : List Counts) (m k : ℕ) (b : Bool) → nat_lt k (length bins) ≡ b
    → get_or (bins ++ replicate m no_packets) k no_packets ≡ get_or bins k no_packets
get_or_grown bins m k true test = get_or-append bins (replicate m no_packets) no_packets k (ltb-true _ _ test)
get_or_grown bins m k false test =
    let past = ltb-false _ _ test in
    get_or-append_right bins (replicate m no_packets) k no_packets past
    ∙ get_or_replicate m (k - length bins)
    ∙ sym (get_or_past bins k no_packets past)

get_or_any : (bins : List Counts) (k : ℕ) (d e : Counts) → k < length bins → get_or bins k d ≡ get_or bins k e
get_or_any [] k d e within = absurd (omega (arith, within))
get_or_any (counts ∷ bins) zero d e within = refl
get_or_any (counts ∷ bins) (suc k) d e within = get_or_any bins k d e (omega (arith, within))

module _ (place : ℕ) (packet : Event) (bins : List Counts) (item after : Counts) (counts : after ≡ counts_with packet item) where
  -- the bin is there
  pub counts_there : (all : List Counts) → all ≡ bins → place < length bins → item ≡ get_or all place item
      → CountsAt place packet bins (set all place after)
  counts_there all same within is = record {
    len = length-set all place after ∙ ap length same ∙ omega (arith, within);
    here = get_or-set_same all place after no_packets (omega (arith, within, ap length same))
        ∙ counts
        ∙ ap (counts_with packet) (is ∙ get_or_any all place item no_packets (omega (arith, within, ap length same))
        ∙ ap (λ each. get_or each place no_packets) same);
    elsewhere = λ other different. get_or-set_other all place other after no_packets different
        ∙ ap (λ each. get_or each other no_packets) same;
  }

  -- bins are added up to the bin
  pub counts_added : (all : List Counts) (len : ℕ) → len ≡ length bins → len ≤ place
      → all ≡ take (place + 1) bins ++ replicate (place + 1 - len) no_packets → item ≡ get_or all place item
      → CountsAt place packet bins (set all place after)
  counts_added all len len_is short grown is =
      let all_is : all ≡ bins ++ replicate (place + 1 - len) no_packets =
      grown ∙ ap (λ front. front ++ replicate (place + 1 - len) no_packets) (take_all (place + 1) bins (omega (arith, len_is, short))) in
      let total : length all ≡ place + 1 =
      ap length all_is ∙ length-append bins (replicate (place + 1 - len) no_packets)
      ∙ ap (λ n. length bins + n) (length-replicate (place + 1 - len) no_packets) ∙ omega (arith, len_is, short) in
      let bin : (k : ℕ) → get_or all k no_packets ≡ get_or bins k no_packets =
      λ k. ap (λ each. get_or each k no_packets) all_is ∙ get_or_grown bins (place + 1 - len) k (nat_lt k (length bins)) refl in
      record {
        len = length-set all place after ∙ total ∙ omega (arith, len_is, short);
        here = get_or-set_same all place after no_packets (omega (arith, total))
            ∙ counts
            ∙ ap (counts_with packet) (is ∙ get_or_any all place item no_packets (omega (arith, total)) ∙ bin place);
        elsewhere = λ other different. get_or-set_other all place other after no_packets different ∙ bin other;
      }
