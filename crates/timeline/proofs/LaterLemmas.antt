-- The packets that are not later than all intervals of a fixed width.
use Rattle.std.proofs.Common.{◌≡◌, ◌∙◌, ℕ, ◌+◌, ◌*◌, ◌≤◌, ◌<◌, Bool, true, false, cond, not, nat_le, List, [], ◌∷◌, ◌++◌, append-nil, Option, Some, None, refl, ap, arith}
use Rattle.std.proofs.lemmas.Bool.Decides.{nat_tests}
use Rattle.std.proofs.lemmas.List.Elements.{filter-append}
use Rattle.timeline.specs.Intervals.{IsBefore}
use Rattle.timeline.specs.Timelines.{is_later, max_fixed_intervals, not_later}
use Rattle.timeline.specs.declared.event.Event.{Event}

-- ---- tests of one time

pub is_late : (width start time : ℕ) → start + max_fixed_intervals * width ≤ time → is_later (Some width) (Some start) (Some time) ≡ true
is_late width start time past = at_least (start + max_fixed_intervals * width) time past
  where
    at_least : (end time : ℕ) → end ≤ time → nat_le end time ≡ true
    at_least end time past = grind (arith, nat_tests)

pub is_not_late : (width start time : ℕ) → time < start + max_fixed_intervals * width
    → is_later (Some width) (Some start) (Some time) ≡ false
is_not_late width start time before = less (start + max_fixed_intervals * width) time before
  where
    less : (end time : ℕ) → time < end → nat_le end time ≡ false
    less end time before = grind (arith, nat_tests)

pub not_late_before : (width start : ℕ) (time : Option ℕ) → IsBefore start time → is_later (Some width) (Some start) time ≡ false
not_late_before width start None before = refl
not_late_before width start (Some time) before = is_not_late width start time (omega (arith, before))

-- a packet that is not later is before the end of all intervals
pub before_end : (width start : ℕ) (time : Option ℕ) → is_later (Some width) (Some start) time ≡ false
    → IsBefore (start + max_fixed_intervals * width) time
before_end width start None early = tt
before_end width start (Some time) early = less (start + max_fixed_intervals * width) time early
  where
    less : (end time : ℕ) → nat_le end time ≡ false → time < end
    less end time early = grind (arith, nat_tests, early)

-- ---- one more packet

module _ (width start : ℕ) (packets : List Event) (packet : Event) where
  abbrev keeps : Event → Bool
  keeps each = not (is_later (Some width) (Some start) each.time)

  pub kept_push : is_later (Some width) (Some start) packet.time ≡ false
      → not_later width start (packets ++ packet ∷ []) ≡ not_later width start packets ++ packet ∷ []
  kept_push early =
      filter-append keeps packets (packet ∷ [])
      ∙ ap (λ late. not_later width start packets ++ cond (not late) (packet ∷ []) []) early

  pub late_push : is_later (Some width) (Some start) packet.time ≡ true
      → not_later width start (packets ++ packet ∷ []) ≡ not_later width start packets
  late_push late =
      filter-append keeps packets (packet ∷ [])
      ∙ ap (λ each. not_later width start packets ++ cond (not each) (packet ∷ []) []) late
      ∙ append-nil (not_later width start packets)
