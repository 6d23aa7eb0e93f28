-- The first and the last time of packets, and the unit that reaches them.
use Rattle.std.proofs.Common.{◌≡◌, ◌∙◌, ℕ, ◌+◌, ◌*◌, ◌/◌, ◌≤◌, ◌<◌, max, Bool, true, false, cond, nat_lt, ◌==◌, ltb-true, ltb-false, Less, Equal, Greater, List, [], ◌∷◌, ◌++◌, Option, Some, None, refl, sym, ap, subst, arith, div-add-mod', mod-lt, mul-le-mul_right}
use Rattle.std.proofs.lemmas.List.Elements.{All-push, All-weaker}
use Rattle.std.specs.Option.{option_or}
use Rattle.std.specs.Ordering.{is_lt, nat_cmp, ord_max}
use Rattle.timeline.proofs.IntervalLemmas.{all_front, all_last}
use Rattle.timeline.proofs.TimelineLemmas.{all_untimed}
use Rattle.timeline.specs.Intervals.{IsBefore}
use Rattle.timeline.specs.Timelines.{first_time}
use Rattle.timeline.specs.declared.event.Event.{Event}
use Rattle.report_page.specs.Spans.{IsSpanOf, Reaches}
use Rattle.report_page.specs.declared.span.Span.{Span}

-- ---- the first time

first_push : (packets : List Event) (packet : Event) → first_time (packets ++ packet ∷ []) ≡ option_or (first_time packets) packet.time
first_push [] packet = or_none packet.time
  where
    or_none : (time : Option ℕ) → option_or time None ≡ time
    or_none None = refl
    or_none (Some time) = refl
first_push (first ∷ packets) packet =
    ap (option_or first.time) (first_push packets packet) ∙ or_assoc first.time (first_time packets) packet.time
  where
    or_assoc : (a b c : Option ℕ) → option_or a (option_or b c) ≡ option_or (option_or a b) c
    or_assoc None b c = refl
    or_assoc (Some a) b c = refl

module _ (packets : List Event) (packet : Event) where
  first_stays : (start : ℕ) → first_time packets ≡ Some start → first_time (packets ++ packet ∷ []) ≡ Some start
  first_stays start first = first_push packets packet ∙ ap (λ each. option_or each packet.time) first

  first_is : first_time packets ≡ None → first_time (packets ++ packet ∷ []) ≡ packet.time
  first_is none = first_push packets packet ∙ ap (λ each. option_or each packet.time) none

  -- a packet without a time
  pub untimed_span : (span : Option Span) → packet.time ≡ None → IsSpanOf packets span → IsSpanOf (packets ++ packet ∷ []) span
  untimed_span None none is = first_is is ∙ none
  untimed_span (Some span) none is = record {
    first = first_stays span.start is.first;
    order = is.order;
    all = All-push (λ each. IsBefore (span.last + 1) each.time) packets packet is.all (subst (IsBefore (span.last + 1)) (sym none) tt);
    attained = λ end before. is.attained end (all_front (λ each. IsBefore end each.time) packets packet before);
  }

  before_top : (last top : ℕ) → last ≤ top → (time : Option ℕ) → IsBefore (last + 1) time → IsBefore (top + 1) time
  before_top last top order None before = tt
  before_top last top order (Some time) before = omega (arith, order, before)

  -- a packet after a packet with a time
  pub later_span : (start last time top : ℕ) → packet.time ≡ Some time → top ≡ max last time → Reaches packets start last
      → Reaches (packets ++ packet ∷ []) start top
  later_span start last time top timed is_top is = record {
    first = first_stays start is.first;
    order = omega (arith, is_top, is.order);
    all = All-push (λ each. IsBefore (top + 1) each.time) packets packet
        (All-weaker (λ each. IsBefore (last + 1) each.time) (λ each. IsBefore (top + 1) each.time)
        (λ each. before_top last top (omega (arith, is_top)) each.time) packets is.all)
        (subst (IsBefore (top + 1)) (sym timed) (omega (arith, is_top)));
    attained = λ end before.
        let front = is.attained end (all_front (λ each. IsBefore end each.time) packets packet before) in
        let back : time < end = subst (IsBefore end) timed (all_last (λ each. IsBefore end each.time) packets packet before) in
        omega (arith, is_top, front, back);
  }

  -- the first packet with a time
  pub first_span : (time : ℕ) → packet.time ≡ Some time → first_time packets ≡ None → Reaches (packets ++ packet ∷ []) time time
  first_span time timed none = record {
    first = first_is none ∙ timed;
    order = omega arith;
    all = All-push (λ each. IsBefore (time + 1) each.time) packets packet
        (λ k d within. subst (IsBefore (time + 1)) (sym (all_untimed packets none k d within)) tt)
        (subst (IsBefore (time + 1)) (sym timed) (omega arith));
    attained = λ end before. subst (IsBefore end) timed (all_last (λ each. IsBefore end each.time) packets packet before);
  }

-- the greater of two times
pub greater : (a b : ℕ) → ord_max nat_cmp a b ≡ max a b
greater a b = by (nat_lt b a) (b == a) refl refl
  where
    by : (less same : Bool) → nat_lt b a ≡ less → (b == a) ≡ same → cond (is_lt (cond less Less (cond same Equal Greater))) a b ≡ max a b
    by true same test other = omega (arith, ltb-true _ _ test)
    by false true test other = omega (arith, ltb-false _ _ test)
    by false false test other = omega (arith, ltb-false _ _ test)

-- ---- the unit

pub unit_reaches : (offset unit : ℕ) → 0 < unit → offset / unit < 1280 → offset < 1280 * unit
unit_reaches offset unit positive few =
    let low : offset < (offset / unit + 1) * unit = omega (arith, div-add-mod' offset unit, mod-lt offset positive) in
    omega (arith, low, mul-le-mul_right unit few)
