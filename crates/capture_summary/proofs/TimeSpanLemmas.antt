-- The span of times begins at the least time and ends at the greatest.
use Rattle.std.proofs.Common.{◌≡◌, ◌≤◌, Bool, true, false, cond, nat_lt, List, [], ◌∷◌, ◌++◌, refl, sym, subst, arith, append_assoc, append-nil}
use Rattle.std.proofs.lemmas.Bool.{ltb-true, ltb-false}
use Rattle.std.proofs.lemmas.List.Elements.{All-push, Contains-append_left, Contains-append_right}
use Rattle.std.specs.Prelude.{Contains, Option, Some, None, fold}
use Rattle.capture_file.specs.PacketTimes.{nanoseconds_of}
use Rattle.capture_file.specs.declared.packet_time.PacketTime.{PacketTime}
use Rattle.capture_summary.specs.TimeSpans.{HasSpan, earlier, later, span_of, with_time}
use Rattle.capture_summary.specs.declared.time_span.TimeSpan.{TimeSpan}

-- one of two times is among the times after the second of them is added
one_of : (times : List PacketTime) (first time : PacketTime) → Contains times first → (b : Bool)
    → Contains (times ++ time ∷ []) (cond b time first)
one_of times first time within true = Contains-append_right times (time ∷ []) time (0, omega arith, refl)
one_of times first time within false = Contains-append_left times (time ∷ []) first within

-- the earlier of two times is not after either of them
earlier_least : (first time : PacketTime)
    → (nanoseconds_of (earlier first time) ≤ nanoseconds_of first) × (nanoseconds_of (earlier first time) ≤ nanoseconds_of time)
earlier_least first time = by (nat_lt (nanoseconds_of time) (nanoseconds_of first)) refl
  where
    by : (b : Bool) → nat_lt (nanoseconds_of time) (nanoseconds_of first) ≡ b
        → (nanoseconds_of (cond b time first) ≤ nanoseconds_of first) × (nanoseconds_of (cond b time first) ≤ nanoseconds_of time)
    by true e = let less = ltb-true _ _ e in (omega (arith, less), omega arith)
    by false e = let not_less = ltb-false _ _ e in (omega arith, omega (arith, not_less))

-- the later of two times is not before either of them
later_greatest : (first time : PacketTime)
    → (nanoseconds_of first ≤ nanoseconds_of (later first time)) × (nanoseconds_of time ≤ nanoseconds_of (later first time))
later_greatest first time = by (nat_lt (nanoseconds_of first) (nanoseconds_of time)) refl
  where
    by : (b : Bool) → nat_lt (nanoseconds_of first) (nanoseconds_of time) ≡ b
        → (nanoseconds_of first ≤ nanoseconds_of (cond b time first)) × (nanoseconds_of time ≤ nanoseconds_of (cond b time first))
    by true e = let less = ltb-true _ _ e in (omega (arith, less), omega arith)
    by false e = let not_less = ltb-false _ _ e in (omega arith, omega (arith, not_less))

-- the span after another time
span_after : (times : List PacketTime) (span : Option TimeSpan) (time : PacketTime) → HasSpan times span
    → HasSpan (times ++ time ∷ []) (with_time span (Some time))
span_after times None time none =
    subst (λ each. HasSpan (each ++ time ∷ []) (with_time None (Some time))) (sym none) (record {
      has_earliest = (0, omega arith, refl);
      has_latest = (0, omega arith, refl);
      least = All-push (λ each. nanoseconds_of time ≤ nanoseconds_of each) [] time (λ k d within. absurd (omega (arith, within)))
          (omega arith);
      greatest = All-push (λ each. nanoseconds_of each ≤ nanoseconds_of time) [] time (λ k d within. absurd (omega (arith, within)))
          (omega arith);
    })
span_after times (Some span) time is =
    let begin = earlier_least span.earliest time in
    let end = later_greatest span.latest time in
    record {
      has_earliest = one_of times span.earliest time is.has_earliest (nat_lt (nanoseconds_of time) (nanoseconds_of span.earliest));
      has_latest = one_of times span.latest time is.has_latest (nat_lt (nanoseconds_of span.latest) (nanoseconds_of time));
      least = All-push (λ each. nanoseconds_of (earlier span.earliest time) ≤ nanoseconds_of each) times time
          (λ k d within. let before = is.least k d within in omega (arith, begin.0, before)) begin.1;
      greatest = All-push (λ each. nanoseconds_of each ≤ nanoseconds_of (later span.latest time)) times time
          (λ k d within. let before = is.greatest k d within in omega (arith, end.0, before)) end.1;
    }

spans : (before times : List PacketTime) (span : Option TimeSpan) → HasSpan before span
    → HasSpan (before ++ times) (fold (λ so_far time. with_time so_far (Some time)) span times)
spans before [] span is = subst (λ all. HasSpan all span) (sym (append-nil before)) is
spans before (time ∷ times) span is =
    subst (λ all. HasSpan all (fold (λ so_far each. with_time so_far (Some each)) (with_time span (Some time)) times))
    (append_assoc before (time ∷ []) times)
    (spans (before ++ time ∷ []) times (with_time span (Some time)) (span_after before span time is))

pub span_of_times : (times : List PacketTime) → HasSpan times (span_of times)
span_of_times times = spans [] times None refl
