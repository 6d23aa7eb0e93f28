-- Each interval of a fixed width contains exactly the packets whose time is in it.
use Rattle.std.proofs.Common.{◌≡◌, ◌∙◌, ℕ, ◌+◌, ◌*◌, ◌≤◌, ◌<◌, Bool, true, false, not, ◌&&◌, nat_le, nat_lt, List, Option, Some, None, refl, sym, subst, arith, mul-le-mul_right}
use Rattle.std.proofs.lemmas.Bool.Decides.{nat_tests}
use Rattle.std.proofs.lemmas.List.Elements.{All-weaker, filter_passes}
use Rattle.timeline.proofs.CountLemmas.{counts_agree, counts_filter, counts_none}
use Rattle.timeline.proofs.LaterLemmas.{before_end}
use Rattle.timeline.proofs.TimelineLemmas.{shown}
use Rattle.timeline.specs.Counts.{no_packets}
use Rattle.timeline.specs.Intervals.{Fits, IsBefore, counts_between, is_within}
use Rattle.timeline.specs.Timelines.{AreFixed, ArePlaced, IsTimelineOf, TimelineBins, is_later, max_fixed_intervals, not_later, shown_intervals}
use Rattle.timeline.specs.declared.counts.Counts.{Counts}
use Rattle.timeline.specs.declared.event.Event.{Event}

-- a time in an interval is not later than all intervals
kept_within : (width start begin end : ℕ) (time : Option ℕ) → end ≤ start + max_fixed_intervals * width
    → (not (is_later (Some width) (Some start) time) && is_within begin end time) ≡ is_within begin end time
kept_within width start begin end None order = refl
kept_within width start begin end (Some time) order = numbers (start + max_fixed_intervals * width) begin end time order
  where
    numbers : (last begin end time : ℕ) → end ≤ last
        → (not (nat_le last time) && (nat_le begin time && nat_lt time end)) ≡ (nat_le begin time && nat_lt time end)
    numbers last begin end time order = grind (arith, nat_tests)

module _ (start width : ℕ) (packets : List Event) where
  abbrev keep : Event → Bool
  keep packet = not (is_later (Some width) (Some start) packet.time)

  -- the later packets are in no interval
  between_kept : (begin end : ℕ) → end ≤ start + max_fixed_intervals * width
      → counts_between begin end (not_later width start packets) ≡ counts_between begin end packets
  between_kept begin end order =
      counts_filter keep (λ packet. is_within begin end packet.time) packets
      ∙ counts_agree (λ packet. keep packet && is_within begin end packet.time) (λ packet. is_within begin end packet.time) packets
      (λ k d within. kept_within width start begin end _ order)

  kept_before : (packet : Event) → keep packet ≡ true → IsBefore (start + max_fixed_intervals * width) packet.time
  kept_before packet passes = before_end width start packet.time (is_false (is_later (Some width) (Some start) packet.time) passes)
    where
      is_false : (b : Bool) → not b ≡ true → b ≡ false
      is_false true e = sym e
      is_false false e = refl

  all_fit : Fits start width max_fixed_intervals (not_later width start packets)
  all_fit = All-weaker (λ packet. keep packet ≡ true) (λ packet. IsBefore (start + max_fixed_intervals * width) packet.time)
      kept_before (not_later width start packets) (filter_passes keep packets)

  are_placed : (intervals : List Counts) → AreFixed (Some start) width intervals packets → ArePlaced start width intervals packets
  are_placed intervals are = record {
    contained = λ place within. are.contained place
        ∙ between_kept (start + place * width) (start + (place + 1) * width) (omega (arith, mul-le-mul_right width (next place within)));
    few = are.fewest max_fixed_intervals all_fit;
  }
    where
      next : (place : ℕ) → place < max_fixed_intervals → place + 1 ≤ max_fixed_intervals
      next place within = omega (arith, within)

pub placed : (width start : ℕ) (packets : List Event) (timeline : TimelineBins) → IsTimelineOf (Some width) packets timeline
    → timeline.start ≡ Some start → ArePlaced start width (shown_intervals timeline) packets
placed width start packets timeline is started =
    are_placed start width packets (shown_intervals timeline)
    (subst (λ begin. AreFixed begin width (shown_intervals timeline) packets) started (shown (Some width) packets timeline is).1)

-- if the width grows, no packet is later
pub none_later : (packets : List Event) (timeline : TimelineBins) → IsTimelineOf None packets timeline → timeline.later ≡ no_packets
none_later packets timeline is =
    is.later ∙ counts_none (λ packet. is_later None timeline.start packet.time) packets (λ k d within. refl)
