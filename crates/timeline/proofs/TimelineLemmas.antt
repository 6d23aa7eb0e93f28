-- The timeline after one more packet, and what is shown of it.
use Rattle.std.proofs.Common.{◌≡◌, ◌∙◌, ℕ, ◌+◌, ◌-◌, ◌*◌, ◌/◌, ◌≤◌, ◌<◌, ◌⊎◌, inl, inr, Bool, true, false, cond, List, [], ◌∷◌, ◌++◌, length, All, Option, Some, None, refl, sym, ap, subst, arith, lt-ltb, le-ltb, div-mul-le_self, div-add-mod', mod-lt, mul-le-mul_right}
use Rattle.std.proofs.lemmas.List.Elements.{All-cons, All-filter, All-nil}
use Rattle.std.specs.Option.{is_some, option_or, unwrap_or}
use Rattle.timeline.proofs.BinLemmas.{counted_intervals, counted_width, early_intervals, early_width, no_intervals, no_width}
use Rattle.timeline.proofs.CountLemmas.{counts_none, push_in, push_out}
use Rattle.timeline.proofs.LaterLemmas.{is_late, is_not_late, kept_push, late_push, not_late_before}
use Rattle.timeline.proofs.MergingLemmas.{merged_are_intervals}
use Rattle.timeline.proofs.WidthLemmas.{shown_are_intervals, shown_width_is_least}
use Rattle.timeline.specs.Counts.{counts_of, counts_with}
use Rattle.timeline.specs.Intervals.{AreIntervals, IsBefore, IsLeastWidth, IsPowerOfTen, merged}
use Rattle.timeline.specs.Timelines.{AreFixed, AreShown, CountsPacket, HasBins, HasGrownBins, IsTimelineOf, TimelineBins, bins_in_interval, empty_timeline, first_time, is_later, is_older, is_untimed, max_bins, not_later, shown_intervals, shown_width}
use Rattle.timeline.specs.Widening.{CountsAt}
use Rattle.timeline.specs.declared.counts.Counts.{Counts}
use Rattle.timeline.specs.declared.event.Event.{Event}

-- ---- the first time

first_push : (packets : List Event) (packet : Event) → first_time (packets ++ packet ∷ []) ≡ option_or (first_time packets) packet.time
first_push [] packet = or_none packet.time
  where
    or_none : (time : Option ℕ) → option_or time None ≡ time
    or_none None = refl
    or_none (Some time) = refl
first_push (first ∷ packets) packet =
    ap (option_or first.time) (first_push packets packet) ∙ or_assoc first.time (first_time packets) packet.time
  where
    or_assoc : (a b c : Option ℕ) → option_or a (option_or b c) ≡ option_or (option_or a b) c
    or_assoc None b c = refl
    or_assoc (Some a) b c = refl

or_neither : (a b : Option ℕ) → option_or a b ≡ None → (a ≡ None) × (b ≡ None)
or_neither None b e = (refl, e)
or_neither (Some a) b e = cc

pub all_untimed : (packets : List Event) → first_time packets ≡ None → All (λ packet. packet.time ≡ None) packets
all_untimed [] none = All-nil (λ packet. packet.time ≡ None)
all_untimed (packet ∷ packets) none =
    let both = or_neither packet.time (first_time packets) none in
    All-cons (λ each. each.time ≡ None) packet packets both.0 (all_untimed packets both.1)

-- ---- a width that grows is not fixed

clash : {A : Type 0} → false ≡ true → A
clash e = absurd cc

-- ---- no packet

pub of_no_packet : (width : Option ℕ) → IsTimelineOf width [] (empty_timeline width)
of_no_packet None = record { is_fixed = refl; start = refl; bins = (refl, refl); older = refl; later = refl; untimed = refl }
of_no_packet (Some width) = record { is_fixed = refl; start = refl; bins = (refl, refl); older = refl; later = refl; untimed = refl }

-- ---- a packet that is in no bin

bins_early : (width start : Option ℕ) (unit : ℕ) (bins : List Counts) (packets : List Event) (packet : Event)
    → ((begin : ℕ) → start ≡ Some begin → IsBefore begin packet.time) → HasBins width start unit bins packets
    → HasBins width start unit bins (packets ++ packet ∷ [])
bins_early None None unit bins packets packet early has = has
bins_early None (Some start) unit bins packets packet early has = (
  early_width start unit bins packets packet (early start refl) has.0,
  early_intervals start unit bins packets packet
      (early start refl) has.1,
)
bins_early (Some width) None unit bins packets packet early has = has
bins_early (Some width) (Some start) unit bins packets packet early has = (
  has.0,
  subst (AreIntervals start width bins) (sym (kept_push width start packets packet (not_late_before width start packet.time
      (early start refl))))
      (early_intervals start width bins (not_later width start packets) packet (early start refl) has.1),
)

early_not_late : (width start time : Option ℕ) → ((begin : ℕ) → start ≡ Some begin → IsBefore begin time)
    → is_later width start time ≡ false
early_not_late None start time early = refl
early_not_late (Some width) None time early = refl
early_not_late (Some width) (Some start) time early = not_late_before width start time (early start refl)

untimed_not_older : (start time : Option ℕ) → time ≡ None → is_older start time ≡ false
untimed_not_older None None e = refl
untimed_not_older (Some start) None e = refl
untimed_not_older start (Some time) e = cc

untimed_not_late : (width start time : Option ℕ) → time ≡ None → is_later width start time ≡ false
untimed_not_late width start time none = early_not_late width start time (λ begin e. subst (IsBefore begin) (sym none) tt)

or_untimed : (start time : Option ℕ) → time ≡ None → start ≡ option_or start time
or_untimed None None e = refl
or_untimed (Some start) None e = refl
or_untimed start (Some time) e = cc

pub untimed_counted : (timeline : TimelineBins) (packet : Event) → packet.time ≡ None
    → CountsPacket timeline packet (record timeline { untimed = counts_with packet timeline.untimed })
untimed_counted timeline packet none width packets is = record {
  is_fixed = is.is_fixed;
  start = is.start ∙ (or_untimed (first_time packets) packet.time none) ∙ sym (first_push packets packet);
  bins = bins_early width timeline.start timeline.unit timeline.bins packets packet
      (λ begin e. subst (IsBefore begin) (sym none) tt) is.bins;
  older = is.older ∙ sym (push_out (λ each. is_older timeline.start each.time) packets packet
      (untimed_not_older timeline.start packet.time none));
  later = is.later ∙ sym (push_out (λ each. is_later width timeline.start each.time) packets packet
      (untimed_not_late width timeline.start packet.time none));
  untimed = ap (counts_with packet) is.untimed ∙ sym (push_in (λ each. is_untimed each.time) packets packet (ap is_untimed none));
}

first_stays : (packets : List Event) (packet : Event) (start : ℕ) → first_time packets ≡ Some start
    → first_time packets ≡ first_time (packets ++ packet ∷ [])
first_stays packets packet start e =
    e ∙ sym (first_push packets packet ∙ ap (λ first. option_or first packet.time) e)

pub older_counted : (timeline : TimelineBins) (packet : Event) (start time : ℕ) → timeline.start ≡ Some start → packet.time ≡ Some time
    → time < start → CountsPacket timeline packet (record timeline { older = counts_with packet timeline.older })
older_counted timeline packet start time started timed earlier width packets is = record {
  is_fixed = is.is_fixed;
  start = is.start ∙ first_stays packets packet start (sym is.start ∙ started);
  bins = bins_early width timeline.start timeline.unit timeline.bins packets packet early is.bins;
  older = ap (counts_with packet) is.older
      ∙ sym (push_in (λ each. is_older timeline.start each.time) packets packet
      (subst (λ begin. is_older begin packet.time ≡ true) (sym started)
      (subst (λ each. is_older (Some start) each ≡ true) (sym timed) (lt-ltb _ _ earlier))));
  later = is.later ∙ sym (push_out (λ each. is_later width timeline.start each.time) packets packet
      (early_not_late width timeline.start packet.time early));
  untimed = is.untimed ∙ sym (push_out (λ each. is_untimed each.time) packets packet (ap is_untimed timed));
}
  where
    same_start : (begin : ℕ) → Some start ≡ Some begin → time < begin
    same_start begin e = let same : start ≡ begin = cc in omega (arith, earlier, same)

    early : (begin : ℕ) → timeline.start ≡ Some begin → IsBefore begin packet.time
    early begin e = subst (IsBefore begin) (sym timed) (same_start begin (sym started ∙ e))

-- ---- a packet in a bin

-- a packet at the start or after it, whose bin is known
module _ (timeline : TimelineBins) (packet : Event) (start offset unit : ℕ) (after : List Counts) (width : Option ℕ) (packets : List Event)
    (timed : packet.time ≡ Some (start + offset)) (is : IsTimelineOf width packets timeline)
    (early : is_later width (Some start) packet.time ≡ false)
    (has : HasBins width (Some start) unit after (packets ++ packet ∷ [])) where
  not_older : is_older (Some start) packet.time ≡ false
  not_older = subst (λ each. is_older (Some start) each ≡ false) (sym timed) (le-ltb _ _ (omega arith))

  not_untimed : is_untimed packet.time ≡ false
  not_untimed = ap is_untimed timed

  -- a packet after the start
  started_in_bin : timeline.start ≡ Some start
      → IsTimelineOf width (packets ++ packet ∷ []) (record timeline { start = Some start; unit = unit; bins = after })
  started_in_bin started = record {
    is_fixed = is.is_fixed;
    start = sym (first_push packets packet ∙ ap (λ each. option_or each packet.time) (sym is.start ∙ started));
    bins = has;
    older = is.older
        ∙ ap (λ begin. counts_of (λ each. is_older begin each.time) packets) started
        ∙ sym (push_out (λ each. is_older (Some start) each.time) packets packet not_older);
    later = is.later
        ∙ ap (λ begin. counts_of (λ each. is_later width begin each.time) packets) started
        ∙ sym (push_out (λ each. is_later width (Some start) each.time) packets packet early);
    untimed = is.untimed ∙ sym (push_out (λ each. is_untimed each.time) packets packet not_untimed);
  }

  -- the first packet with a time
  first_in_bin : timeline.start ≡ None → offset ≡ 0
      → IsTimelineOf width (packets ++ packet ∷ []) (record timeline { start = Some start; unit = unit; bins = after })
  first_in_bin none zero_offset =
      let first : first_time packets ≡ None = sym is.start ∙ none in
      let untimed = all_untimed packets first in
      let begins : start + offset ≡ start = omega (arith, zero_offset) in
      record {
        is_fixed = is.is_fixed;
        start = sym (first_push packets packet ∙ ap (λ each. option_or each packet.time) first ∙ timed ∙ ap Some begins);
        bins = has;
        older = is.older
            ∙ ap (λ begin. counts_of (λ each. is_older begin each.time) packets) none
            ∙ counts_none (λ each. is_older None each.time) packets (λ k d within. refl)
            ∙ sym (counts_none (λ each. is_older (Some start) each.time) packets
            (λ k d within. ap (is_older (Some start)) (untimed k d within)))
            ∙ sym (push_out (λ each. is_older (Some start) each.time) packets packet not_older);
        later = is.later
            ∙ counts_none (λ each. is_later width timeline.start each.time) packets
            (λ k d within. untimed_not_late width timeline.start _ (untimed k d within))
            ∙ sym (counts_none (λ each. is_later width (Some start) each.time) packets
            (λ k d within. untimed_not_late width (Some start) _ (untimed k d within)))
            ∙ sym (push_out (λ each. is_later width (Some start) each.time) packets packet early);
        untimed = is.untimed ∙ sym (push_out (λ each. is_untimed each.time) packets packet not_untimed);
      }

  in_bin : (timeline.start ≡ Some start) ⊎ ((timeline.start ≡ None) × (offset ≡ 0))
      → IsTimelineOf width (packets ++ packet ∷ []) (record timeline { start = Some start; unit = unit; bins = after })
  in_bin (inl started) = started_in_bin started
  in_bin (inr first) = first_in_bin first.0 first.1

place_low : (offset unit : ℕ) → 0 < unit → offset / unit * unit ≤ offset
place_low offset unit positive = omega (arith, div-mul-le_self offset unit)

place_high : (offset unit : ℕ) → 0 < unit → offset < (offset / unit + 1) * unit
place_high offset unit positive = omega (arith, div-add-mod' offset unit, mod-lt offset positive)

module _ (start offset place unit : ℕ) (positive : 0 < unit) (is_place : place ≡ offset / unit) where
  at_low : start + place * unit ≤ start + offset
  at_low = subst (λ each. start + each * unit ≤ start + offset) (sym is_place) (omega (arith, place_low offset unit positive))

  at_high : start + offset < start + (place + 1) * unit
  at_high = subst (λ each. start + offset < start + (each + 1) * unit) (sym is_place) (omega
      (arith, place_high offset unit positive))

-- ---- a width that grows

-- the bins and the unit before and after a packet at `start + offset`
pub record Widens (offset place old_unit unit : ℕ) (old_bins bins : List Counts) : Type 0 where
  pub grows : old_unit ≤ unit
  pub positive : 0 < unit
  pub is_place : place ≡ offset / unit
  pub within : place < 1280
  pub kept : (start : ℕ) (packets : List Event) → AreIntervals start old_unit old_bins packets → AreIntervals start unit bins packets
  pub power : IsPowerOfTen old_unit → IsPowerOfTen unit
  pub least : IsPowerOfTen old_unit → (other : ℕ) → IsPowerOfTen other → old_unit ≤ other → offset < 1280 * other → unit ≤ other

module _ (timeline : TimelineBins) (packet : Event) (start offset place unit : ℕ) (bins after : List Counts)
    (timed : packet.time ≡ Some (start + offset)) (widens : Widens offset place timeline.unit unit timeline.bins bins)
    (counts : CountsAt place packet bins after) where
  low : start + place * unit ≤ start + offset
  low = at_low start offset place unit widens.positive widens.is_place

  high : start + offset < start + (place + 1) * unit
  high = at_high start offset place unit widens.positive widens.is_place

  -- the bins of packets of which the first is at `start`
  bins_from : (packets : List Event) → IsLeastWidth IsPowerOfTen max_bins start timeline.unit packets
      → AreIntervals start timeline.unit timeline.bins packets → HasGrownBins (Some start) unit after (packets ++ packet ∷ [])
  bins_from packets least are =
      let reached : start + offset < start + 1280 * unit = omega (arith, high, mul-le-mul_right unit widens.within) in (
        counted_width start timeline.unit unit (start + offset) packets packet timed (omega arith) least widens.grows
            (widens.power least.on_scale) reached
            (λ other is order before. widens.least least.on_scale other is order (omega (arith, before))),
        counted_intervals start timeline.unit unit place (start + offset) bins after packets packet timed (omega arith) low high counts
            (widens.kept start packets are),
      )

  grown_bins : (packets : List Event) → IsTimelineOf None packets timeline
      → (timeline.start ≡ Some start) ⊎ ((timeline.start ≡ None) × (offset ≡ 0))
      → HasGrownBins (Some start) unit after (packets ++ packet ∷ [])
  grown_bins packets is (inl started) =
      let has : HasGrownBins (Some start) timeline.unit timeline.bins packets =
      subst (λ begin. HasGrownBins begin timeline.unit timeline.bins packets) started is.bins in
      bins_from packets has.0 has.1
  grown_bins packets is (inr first) =
      let has : HasGrownBins None timeline.unit timeline.bins packets =
      subst (λ begin. HasGrownBins begin timeline.unit timeline.bins packets) first.0 is.bins in
      let untimed = all_untimed packets (sym is.start ∙ first.0) in
      bins_from packets
      (subst (λ each. IsLeastWidth IsPowerOfTen max_bins start each packets) (sym has.0) (no_width start packets untimed))
      (subst (λ each. AreIntervals start each timeline.bins packets) (sym has.0)
      (subst (λ each. AreIntervals start 1 each packets) (sym has.1) (no_intervals start packets untimed 1)))

  -- a packet at the start or after it
  pub from_counted : timeline.is_fixed ≡ false → (timeline.start ≡ Some start) ⊎ ((timeline.start ≡ None) × (offset ≡ 0))
      → CountsPacket timeline packet (record timeline { start = Some start; unit = unit; bins = after })
  from_counted grows cases None packets is =
      in_bin timeline packet start offset unit after None packets timed is refl (grown_bins packets is cases) cases
  from_counted grows cases (Some width) packets is = clash (sym grows ∙ is.is_fixed)

  pub from_code : (before : TimelineBins) → timeline ≡ before → before.is_fixed ≡ false
      → (timeline.start ≡ Some start) ⊎ ((timeline.start ≡ None) × (offset ≡ 0))
      → CountsPacket before packet (record timeline { start = Some start; unit = unit; bins = after })
  from_code before same grows cases =
      subst (λ old. CountsPacket old packet (record timeline { start = Some start; unit = unit; bins = after })) same
      (from_counted (ap (λ each. each.is_fixed) same ∙ grows) cases)

-- ---- a fixed width

module _ (timeline : TimelineBins) (packet : Event) (start offset place : ℕ) (timed : packet.time ≡ Some (start + offset))
    (positive : 0 < timeline.unit) (is_place : place ≡ offset / timeline.unit) where
  fixed_low : start + place * timeline.unit ≤ start + offset
  fixed_low = at_low start offset place timeline.unit positive is_place

  fixed_high : start + offset < start + (place + 1) * timeline.unit
  fixed_high = at_high start offset place timeline.unit positive is_place

  fixed_before : (packets : List Event) (width : ℕ) → IsTimelineOf (Some width) packets timeline
      → (timeline.start ≡ Some start) ⊎ ((timeline.start ≡ None) × (offset ≡ 0))
      → AreIntervals start timeline.unit timeline.bins (not_later timeline.unit start packets)
  fixed_before packets width is (inl started) =
      let are : AreFixed (Some start) width timeline.bins packets =
      subst (λ begin. AreFixed begin width timeline.bins packets) started is.bins.1 in
      subst (λ each. AreIntervals start each timeline.bins (not_later each start packets)) (sym is.bins.0) are
  fixed_before packets width is (inr first) =
      let none : AreFixed None width timeline.bins packets =
      subst (λ begin. AreFixed begin width timeline.bins packets) first.0 is.bins.1 in
      let untimed = all_untimed packets (sym is.start ∙ first.0) in
      subst (λ each. AreIntervals start timeline.unit each (not_later timeline.unit start packets)) (sym none)
      (no_intervals start (not_later timeline.unit start packets)
      (All-filter _ (λ each. each.time ≡ None) packets untimed) timeline.unit)

  pub fixed_code : (after : List Counts) (before : TimelineBins) → timeline ≡ before → before.is_fixed ≡ true → place < 65536
      → CountsAt place packet timeline.bins after → (timeline.start ≡ Some start) ⊎ ((timeline.start ≡ None) × (offset ≡ 0))
      → CountsPacket before packet (record timeline { start = Some start; bins = after })
  fixed_code after before same fixed within counts cases =
      subst (λ old. CountsPacket old packet (record timeline { start = Some start; bins = after })) same counted
    where
      reached : start + offset < start + 65536 * timeline.unit
      reached = omega (arith, fixed_high, mul-le-mul_right timeline.unit within)

      early : is_later (Some timeline.unit) (Some start) packet.time ≡ false
      early = subst (λ each. is_later (Some timeline.unit) (Some start) each ≡ false) (sym timed)
          (is_not_late timeline.unit start (start + offset) reached)

      counted : CountsPacket timeline packet (record timeline { start = Some start; bins = after })
      counted None packets is = clash (sym is.is_fixed ∙ ap (λ each. each.is_fixed) same ∙ fixed)
      counted (Some width) packets is =
          let kept : not_later timeline.unit start (packets ++ packet ∷ []) ≡ not_later timeline.unit start packets ++ packet ∷ [] =
          kept_push timeline.unit start packets packet early in
          let are : AreIntervals start timeline.unit after (not_later timeline.unit start (packets ++ packet ∷ [])) =
          subst (AreIntervals start timeline.unit after) (sym kept)
          (counted_intervals start timeline.unit timeline.unit place (start + offset) timeline.bins after
          (not_later timeline.unit start packets) packet timed (omega arith) fixed_low fixed_high counts
          (fixed_before packets width is cases)) in
          in_bin timeline packet start offset timeline.unit after (Some width) packets timed is
          (subst (λ each. is_later (Some each) (Some start) packet.time ≡ false) is.bins.0 early)
          (is.bins.0, subst (λ each. AreIntervals start each after (not_later each start (packets ++ packet ∷ []))) is.bins.0 are)
          cases

  -- a packet that is later than all intervals
  pub later_code : (counted : Counts) (before : TimelineBins) → timeline ≡ before → before.is_fixed ≡ true → 65536 ≤ place
      → counted ≡ counts_with packet timeline.later → (timeline.start ≡ Some start) ⊎ ((timeline.start ≡ None) × (offset ≡ 0))
      → CountsPacket before packet (record timeline { later = counted })
  later_code counted before same fixed past is_counted cases =
      subst (λ old. CountsPacket old packet (record timeline { later = counted })) same
      (subst (λ counts. CountsPacket timeline packet (record timeline { later = counts })) (sym is_counted) (of_cases cases))
    where
      after : start + 65536 * timeline.unit ≤ start + offset
      after = omega (arith, fixed_low, mul-le-mul_right timeline.unit past)

      late : is_later (Some timeline.unit) (Some start) packet.time ≡ true
      late = subst (λ each. is_later (Some timeline.unit) (Some start) each ≡ true) (sym timed)
          (is_late timeline.unit start (start + offset) after)

      not_older : is_older (Some start) packet.time ≡ false
      not_older = subst (λ each. is_older (Some start) each ≡ false) (sym timed) (le-ltb _ _ (omega arith))

      out_of_bins : (begin : Option ℕ) (width : ℕ) (packets : List Event) → begin ≡ Some start → timeline.unit ≡ width
          → AreFixed begin width timeline.bins packets → AreFixed begin width timeline.bins (packets ++ packet ∷ [])
      out_of_bins begin width packets started unit are =
          let late_width : is_later (Some width) (Some start) packet.time ≡ true =
          subst (λ each. is_later (Some each) (Some start) packet.time ≡ true) unit late in
          subst (λ each. AreFixed each width timeline.bins (packets ++ packet ∷ [])) (sym started)
          (subst (AreIntervals start width timeline.bins) (sym (late_push width start packets packet late_width))
          (subst (λ each. AreFixed each width timeline.bins packets) started are))

      of_started : timeline.start ≡ Some start
          → CountsPacket timeline packet (record timeline { later = counts_with packet timeline.later })
      of_started started None packets is = clash (sym is.is_fixed ∙ ap (λ each. each.is_fixed) same ∙ fixed)
      of_started started (Some width) packets is = record {
        is_fixed = is.is_fixed;
        start = is.start ∙ first_stays packets packet start (sym is.start ∙ started);
        bins = (is.bins.0, out_of_bins timeline.start width packets started is.bins.0 is.bins.1);
        older = is.older ∙ sym (push_out (λ each. is_older timeline.start each.time) packets packet
            (subst (λ begin. is_older begin packet.time ≡ false) (sym started) not_older));
        later = ap (counts_with packet) is.later ∙ sym (push_in (λ each. is_later (Some width) timeline.start each.time) packets packet
            (subst (λ begin. is_later (Some width) begin packet.time ≡ true) (sym started)
            (subst (λ each. is_later (Some each) (Some start) packet.time ≡ true) is.bins.0 late)));
        untimed = is.untimed ∙ sym (push_out (λ each. is_untimed each.time) packets packet (ap is_untimed timed));
      }

      of_cases : (timeline.start ≡ Some start) ⊎ ((timeline.start ≡ None) × (offset ≡ 0))
          → CountsPacket timeline packet (record timeline { later = counts_with packet timeline.later })
      of_cases (inl started) = of_started started
      of_cases (inr first) = absurd (omega (arith, first.1, after, positive))

-- ---- what is shown

-- the number of bins in a shown interval
abbrev step_of : Bool → List Counts → ℕ
step_of is_fixed bins = cond is_fixed 1 (bins_in_interval (length bins))

pub shown : (width : Option ℕ) (packets : List Event) (timeline : TimelineBins) → IsTimelineOf width packets timeline
    → AreShown width timeline.start (shown_width timeline) (shown_intervals timeline) packets
shown width packets timeline is =
    subst (λ fixed. AreShown width timeline.start (timeline.unit * step_of fixed timeline.bins)
    (merged (step_of fixed timeline.bins) timeline.bins) packets) (sym is.is_fixed) (by width timeline.start is.bins)
  where
    by : (width start : Option ℕ) → HasBins width start timeline.unit timeline.bins packets
        → AreShown width start (timeline.unit * step_of (is_some width) timeline.bins)
        (merged (step_of (is_some width) timeline.bins) timeline.bins) packets
    by None None has = ap (λ bins. merged (bins_in_interval (length bins)) bins) has.1
    by None (Some start) has = (
      shown_width_is_least start timeline.unit timeline.bins packets has.0 has.1,
      shown_are_intervals start timeline.unit timeline.bins packets has.0 has.1,
    )
    by (Some fixed) None has =
        let same : timeline.unit * 1 ≡ fixed = omega (arith, has.0) in (same, ap (merged 1) has.1)
    by (Some fixed) (Some start) has =
        let same : timeline.unit * 1 ≡ fixed = omega (arith, has.0) in
        let one : fixed * 1 ≡ fixed = omega arith in (
          same,
          subst (λ each. AreIntervals start each (merged 1 timeline.bins) (not_later fixed start packets)) one
              (merged_are_intervals start fixed timeline.bins (not_later fixed start packets) has.1 1 (omega arith)),
        )

-- ---- the code

-- a time is before the start only if a packet had a time before
pub start_known : (start : Option ℕ) (time begin : ℕ) → begin ≡ unwrap_or start time → time < begin → start ≡ Some begin
start_known None time begin is less = absurd (omega (arith, is, less))
start_known (Some start) time begin is less = ap Some (sym is)

pub start_cases : (start : Option ℕ) (time begin : ℕ) → begin ≡ unwrap_or start time
    → (start ≡ Some begin) ⊎ ((start ≡ None) × (time - begin ≡ 0))
start_cases None time begin is = let none : time - begin ≡ 0 = omega (arith, is) in inr (refl, none)
start_cases (Some start) time begin is = inl (ap Some (sym is))

pub time_after : (time : Option ℕ) (known begin : ℕ) → time ≡ Some known → begin ≤ known → time ≡ Some (begin + (known - begin))
time_after time known begin is order =
    let same : known ≡ begin + (known - begin) = omega (arith, order) in
    is ∙ ap Some same

pub untimed_code : (timeline before : TimelineBins) (packet : Event) (after : Counts) → timeline ≡ before → packet.time ≡ None
    → after ≡ counts_with packet timeline.untimed → CountsPacket before packet (record timeline { untimed = after })
untimed_code timeline before packet after same none is =
    subst (λ old. CountsPacket old packet (record timeline { untimed = after })) same
    (subst (λ counts. CountsPacket timeline packet (record timeline { untimed = counts })) (sym is) (untimed_counted timeline packet none))

pub older_code : (timeline before : TimelineBins) (packet : Event) (after : Counts) (start time : ℕ) → timeline ≡ before
    → timeline.start ≡ Some start → packet.time ≡ Some time → time < start → after ≡ counts_with packet timeline.older
    → CountsPacket before packet (record timeline { older = after })
older_code timeline before packet after start time same started timed earlier is =
    subst (λ old. CountsPacket old packet (record timeline { older = after })) same
    (subst (λ counts. CountsPacket timeline packet (record timeline { older = counts })) (sym is)
    (older_counted timeline packet start time started timed earlier))
