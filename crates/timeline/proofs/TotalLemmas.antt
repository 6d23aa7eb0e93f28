-- All counts of a timeline add up to the counts of all packets.
use Rattle.std.proofs.Common.{◌≡◌, ◌∙◌, ℕ, ◌+◌, ◌*◌, ◌≤◌, ◌<◌, Bool, true, false, not, ◌&&◌, ◌||◌, cond, nat_le, nat_lt, List, [], ◌∷◌, filter, length, get_or, All, fold, Option, Some, None, refl, sym, ap, ap₂, subst, arith, take_all}
use Rattle.std.proofs.lemmas.Bool.Decides.{nat_tests}
use Rattle.std.proofs.lemmas.List.Elements.{All-cons, All-head, All-nil, All-tail}
use Rattle.timeline.proofs.CountLemmas.{bit, counts_agree, counts_and_none, counts_filter, counts_none, counts_split, counts_sum_assoc, none_and_counts}
use Rattle.timeline.proofs.MergingLemmas.{run}
use Rattle.timeline.proofs.TimelineLemmas.{all_untimed, shown}
use Rattle.timeline.specs.Counts.{counts_of, counts_sum, no_packets, sum_of}
use Rattle.timeline.specs.Intervals.{AreIntervals, IsBefore, counts_between, is_within}
use Rattle.timeline.specs.Timelines.{AreShown, IsTimelineOf, TimelineBins, is_later, is_older, is_untimed, max_fixed_intervals, not_later, shown_intervals, shown_width}
use Rattle.timeline.specs.declared.counts.Counts.{Counts}
use Rattle.timeline.specs.declared.event.Event.{Event}

-- a sum that begins with two counts
sum_from : (first second : Counts) (others : List Counts)
    → fold counts_sum (counts_sum first second) others ≡ counts_sum first (fold counts_sum second others)
sum_from first second [] = refl
sum_from first second (other ∷ others) =
    ap (λ begin. fold counts_sum begin others) (counts_sum_assoc first second other) ∙ sum_from first (counts_sum second other) others

-- ---- the packets in no interval

late_split : (width start time : Option ℕ) → bit (is_older start time || is_later width start time)
    ≡ bit (is_older start time) + bit (is_later width start time)
late_split None None None = refl
late_split None None (Some time) = refl
late_split None (Some start) None = refl
late_split None (Some start) (Some time) = by (nat_lt time start)
  where
    by : (b : Bool) → bit (b || false) ≡ bit b + 0
    by true = refl
    by false = refl
late_split (Some width) None None = refl
late_split (Some width) None (Some time) = refl
late_split (Some width) (Some start) None = refl
late_split (Some width) (Some start) (Some time) = numbers start (start + max_fixed_intervals * width) time (omega arith)
  where
    numbers : (start end time : ℕ) → start ≤ end → bit (nat_lt time start || nat_le end time) ≡ bit (nat_lt time start) + bit
        (nat_le end time)
    numbers start end time order = grind (arith, nat_tests)

abbrev is_out : Option ℕ → Option ℕ → Option ℕ → Bool
is_out width start time = is_older start time || is_later width start time

untimed_split : (width start time : Option ℕ) → bit (is_out width start time || is_untimed time)
    ≡ bit (is_out width start time) + bit (is_untimed time)
untimed_split None None None = refl
untimed_split (Some width) None None = refl
untimed_split None (Some start) None = refl
untimed_split (Some width) (Some start) None = refl
untimed_split width start (Some time) = by (is_out width start (Some time))
  where
    by : (b : Bool) → bit (b || false) ≡ bit b + 0
    by true = refl
    by false = refl

rest_split : (b : Bool) → bit true ≡ bit b + bit (not b)
rest_split true = refl
rest_split false = refl

-- ---- the packets in the intervals

rest_within : (start end : ℕ) (time : Option ℕ) → IsBefore end time
    → not (is_out None (Some start) time || is_untimed time) ≡ is_within start end time
rest_within start end None before = refl
rest_within start end (Some time) before = numbers start end time before
  where
    numbers : (start end time : ℕ) → time < end → not ((nat_lt time start || false) || false) ≡ (nat_le start time && nat_lt time end)
    numbers start end time before = grind (arith, nat_tests)

rest_kept : (width start end : ℕ) (time : Option ℕ) → (not (is_later (Some width) (Some start) time) ≡ true → IsBefore end time)
    → not (is_out (Some width) (Some start) time || is_untimed time)
    ≡ (not (is_later (Some width) (Some start) time) && is_within start end time)
rest_kept width start end None before = refl
rest_kept width start end (Some time) before = by (nat_le (start + max_fixed_intervals * width) time) before
  where
    or_true : (b : Bool) → not ((b || true) || false) ≡ false
    or_true true = refl
    or_true false = refl

    numbers : (start end time : ℕ) → time < end → not ((nat_lt time start || false) || false) ≡ (nat_le start time && nat_lt time end)
    numbers start end time less = grind (arith, nat_tests)

    by : (late : Bool) → (not late ≡ true → time < end)
        → not ((nat_lt time start || late) || false) ≡ (not late && (nat_le start time && nat_lt time end))
    by true less = or_true (nat_lt time start)
    by false less = numbers start end time (less refl)

rest_none : (width time : Option ℕ) → time ≡ None → not (is_out width None time || is_untimed time) ≡ false
rest_none None None e = refl
rest_none (Some width) None e = refl
rest_none width (Some time) e = cc

-- what holds for the elements that are kept
all_kept : {X : Type 0} (keep : X → Bool) (P : X → Type 0) (xs : List X) → All P (filter keep xs) → All (λ x. keep x ≡ true → P x) xs
all_kept keep P [] all = All-nil (λ x. keep x ≡ true → P x)
all_kept keep P (x ∷ xs) all = by (keep x) refl all (all_kept keep P xs)
  where
    not_both : false ≡ true → ⊥
    not_both f = cc

    by : (b : Bool) → keep x ≡ b → All P (cond b (x ∷ filter keep xs) (filter keep xs))
        → (All P (filter keep xs) → All (λ x. keep x ≡ true → P x) xs) → All (λ x. keep x ≡ true → P x) (x ∷ xs)
    by true e all others = All-cons (λ x. keep x ≡ true → P x) x xs (λ f. All-head P x (filter keep xs) all)
        (others (All-tail P x (filter keep xs) all))
    by false e all others = All-cons (λ x. keep x ≡ true → P x) x xs (λ f. absurd (not_both (sym e ∙ f))) (others all)

module _ (start width : ℕ) (intervals : List Counts) (packets : List Event) (are : AreIntervals start width intervals packets) where
  -- the sum of all intervals counts the packets from the start to their end
  whole_run : sum_of intervals ≡ counts_between start (start + length intervals * width) packets
  whole_run =
      let low : start + 0 * width ≡ start = omega arith in
      let high : start + (0 + length intervals) * width ≡ start + length intervals * width = omega arith in
      let within : length intervals ≤ length intervals = omega arith in
      ap sum_of (sym (take_all (length intervals) intervals within))
      ∙ run start width intervals packets are 0 (length intervals)
      ∙ ap₂ (λ begin end. counts_between begin end packets) low high

module _ (width : Option ℕ) (packets : List Event) (timeline : TimelineBins) (is : IsTimelineOf width packets timeline) where
  abbrev out : Option ℕ → Event → Bool
  out start packet = is_out width start packet.time

  abbrev apart : Option ℕ → Event → Bool
  apart start packet = out start packet || is_untimed packet.time

  abbrev rest : Option ℕ → Event → Bool
  rest start packet = not (apart start packet)

  out_sum : counts_sum timeline.older timeline.later ≡ counts_of (out timeline.start) packets
  out_sum = ap₂ counts_sum is.older is.later
      ∙ sym (counts_split (out timeline.start) (λ packet. is_older timeline.start packet.time)
      (λ packet. is_later width timeline.start packet.time)
      (λ packet. late_split width timeline.start packet.time) packets)

  apart_sum : counts_sum (counts_of (out timeline.start) packets) timeline.untimed ≡ counts_of (apart timeline.start) packets
  apart_sum = ap (counts_sum (counts_of (out timeline.start) packets)) is.untimed
      ∙ sym (counts_split (apart timeline.start) (out timeline.start) (λ packet. is_untimed packet.time)
      (λ packet. untimed_split width timeline.start packet.time) packets)

  no_rest : timeline.start ≡ None → counts_of (rest None) packets ≡ no_packets
  no_rest none =
      let untimed = all_untimed packets (sym is.start ∙ none) in
      counts_none (rest None) packets (λ k d within. rest_none width (get_or packets k d).time (untimed k d within))

  intervals_sum : (fixed : Option ℕ) → width ≡ fixed → (shown_is : ℕ) (intervals : List Counts) (start : Option ℕ)
      → timeline.start ≡ start → AreShown fixed start shown_is intervals packets → sum_of intervals ≡ counts_of (rest start) packets
  intervals_sum None growing shown_is intervals None none shown = ap sum_of shown ∙ sym (no_rest none)
  intervals_sum None growing shown_is intervals (Some start) started shown =
      whole_run start shown_is intervals packets shown.1
      ∙ sym (counts_agree (rest (Some start)) (λ packet. is_within start (start + length intervals * shown_is) packet.time) packets
      (λ k d within.
      subst (λ each. not (is_out each (Some start) (get_or packets k d).time || is_untimed (get_or packets k d).time)
      ≡ is_within start (start + length intervals * shown_is) (get_or packets k d).time) (sym growing)
      (rest_within start (start + length intervals * shown_is) (get_or packets k d).time (shown.1.suffice k d within))))
  intervals_sum (Some fixed) is_fixed shown_is intervals None none shown = ap sum_of shown.1 ∙ sym (no_rest none)
  intervals_sum (Some fixed) is_fixed shown_is intervals (Some start) started shown =
      let end = start + length intervals * fixed in
      let keep = λ (packet : Event). not (is_later (Some fixed) (Some start) packet.time) in
      let kept = all_kept keep (λ packet. IsBefore end packet.time) packets shown.1.suffice in
      whole_run start fixed intervals (not_later fixed start packets) shown.1
      ∙ counts_filter keep (λ packet. is_within start end packet.time) packets
      ∙ sym (counts_agree (rest (Some start)) (λ packet. keep packet && is_within start end packet.time) packets (λ k d within.
      subst (λ each. not (is_out each (Some start) (get_or packets k d).time || is_untimed (get_or packets k d).time)
      ≡ (keep (get_or packets k d) && is_within start end (get_or packets k d).time)) (sym is_fixed)
      (rest_kept fixed start end (get_or packets k d).time (kept k d within))))

  pub totals : sum_of (timeline.older ∷ timeline.later ∷ timeline.untimed ∷ shown_intervals timeline)
      ≡ counts_of (λ packet. true) packets
  totals =
      let intervals = shown_intervals timeline in
      let apart_counts = counts_of (apart timeline.start) packets in
      ap (λ first. fold counts_sum (counts_sum (counts_sum first timeline.later) timeline.untimed) intervals)
      (ap (counts_sum no_packets) is.older ∙ none_and_counts (λ packet. is_older timeline.start packet.time) packets ∙ sym is.older)
      ∙ ap (λ first. fold counts_sum (counts_sum first timeline.untimed) intervals) out_sum
      ∙ ap (λ first. fold counts_sum first intervals) (apart_sum ∙ sym (counts_and_none (apart timeline.start) packets))
      ∙ sum_from apart_counts no_packets intervals
      ∙ ap (counts_sum apart_counts)
      (intervals_sum width refl (shown_width timeline) intervals timeline.start refl (shown width packets timeline is))
      ∙ sym (counts_split (λ packet. true) (apart timeline.start) (rest timeline.start)
      (λ packet. rest_split (apart timeline.start packet)) packets)
