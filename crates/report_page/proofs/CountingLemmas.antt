-- Packets are counted in bins, one after the other.
use Rattle.std.proofs.Common.{◌≡◌, ◌≢◌, ◌∙◌, ℕ, ◌+◌, ◌-◌, ◌*◌, ◌/◌, ◌^◌, ◌≤◌, ◌<◌, Bool, true, false, ◌&&◌, replicate, zero, suc, eqb, nat_lt, List, [], ◌∷◌, ◌++◌, length, get_or, map, set, take, All, Option, Some, None, refl, sym, ap, ap₂, subst, arith, eqb-true, ltb-true, ltb-false, lt-ltb, le-ltb, get_or-set_same, get_or-set_other, take-suc, div-add-mod', div-mul-le_self, mod-lt, mul-le-mul_right, lt_of_mul-lt-mul_right}
use Rattle.std.proofs.lemmas.Bool.{eqb-false}
use Rattle.std.proofs.lemmas.List.{get_or-map, length-map, map-append}
use Rattle.timeline.proofs.CountLemmas.{push_in, push_out}
use Rattle.timeline.proofs.IntervalLemmas.{is_early, is_inside, is_late}
use Rattle.timeline.specs.Counts.{count_of, count_sum, counted, counted_if, counts_of, counts_sum, counts_with, is_fault, is_transport, no_packets, none}
use Rattle.timeline.specs.Intervals.{IsBefore, is_within}
use Rattle.timeline.specs.Timelines.{is_older, is_untimed}
use Rattle.timeline.specs.declared.count.Count.{Count}
use Rattle.timeline.specs.declared.counts.Counts.{Counts}
use Rattle.timeline.specs.declared.event.Event.{Event}
use Rattle.timeline.specs.declared.event.Fault.{Fault}
use Rattle.timeline.specs.declared.event.Fault.TheVariants.{Wrong, Refused}
use Rattle.timeline.specs.declared.event.Transport.{Transport}
use Rattle.timeline.specs.declared.event.Transport.TheVariants.{Udp, Tcp, Icmp, Other}
use Rattle.report_page.specs.Events.{event_in}
use Rattle.report_page.specs.Spans.{AreCounted, no_bins, of_transport}
use Rattle.report_page.specs.declared.bins.Bins.{Bins}
use Rattle.report_page.specs.declared.event.PageEvent.{PageEvent}

-- ---- the counts of one packet are added

abbrev count : ℕ → ℕ → Count
count packets bytes = record { packets = packets; bytes = bytes }

abbrev counts : Count → Count → Count → Count → Count → Count → Counts
counts udp tcp icmp other wrong refused =
    record { udp = udp; tcp = tcp; icmp = icmp; other = other; wrong = wrong; refused = refused }

counts_same : (a b c d e f a' b' c' d' e' f' : Count) → a ≡ a' → b ≡ b' → c ≡ c' → d ≡ d' → e ≡ e' → f ≡ f'
    → counts a b c d e f ≡ counts a' b' c' d' e' f'
counts_same a b c d e f a' b' c' d' e' f' p q r s t u = cc

one_more : (test : Event → Bool) (packets : List Event) (len : ℕ) (passes : Bool)
    → count_sum (count_of test packets) (counted_if passes len none) ≡ counted_if passes len (count_of test packets)
one_more test packets len true = ap₂ count (omega arith) (omega arith)
one_more test packets len false = ap₂ count (omega arith) (omega arith)

module _ (test : Event → Bool) (packets : List Event) (packet : Event) where
  more_of : (key : Event → Bool)
      → count_sum (count_of (λ each. test each && key each) packets) (counted_if (key packet) packet.len none)
      ≡ counted_if (key packet) packet.len (count_of (λ each. test each && key each) packets)
  more_of key = one_more (λ each. test each && key each) packets packet.len (key packet)

  pub one_counted : counts_sum (counts_of test packets) (counts_with packet no_packets) ≡ counts_with packet (counts_of test packets)
  one_counted = counts_same _ _ _ _ _ _ _ _ _ _ _ _
      (more_of (λ each. is_transport Udp each.transport)) (more_of (λ each. is_transport Tcp each.transport))
      (more_of (λ each. is_transport Icmp each.transport)) (more_of (λ each. is_transport Other each.transport))
      (more_of (λ each. is_fault Wrong each.fault)) (more_of (λ each. is_fault Refused each.fault))

  -- the packet passes the test
  pub added : (before one after : Counts) → before ≡ counts_of test packets → one ≡ counts_with packet no_packets
      → after ≡ counts_sum before one → test packet ≡ true → after ≡ counts_of test (packets ++ packet ∷ [])
  added before one after is one_is sum passes =
      sum ∙ ap₂ counts_sum is one_is ∙ one_counted ∙ sym (push_in test packets packet passes)

-- the counts of one packet, by its length, its protocol and its fault
abbrev parts : ℕ → Transport → Option Fault → Counts
parts len transport fault = record {
  udp = counted_if (is_transport Udp transport) len none;
  tcp = counted_if (is_transport Tcp transport) len none;
  icmp = counted_if (is_transport Icmp transport) len none;
  other = counted_if (is_transport Other transport) len none;
  wrong = counted_if (is_fault Wrong fault) len none;
  refused = counted_if (is_fault Refused fault) len none;
}

-- a packet without a fault is only in the counts of its protocol
pub one_faultless : (packet : Event) → packet.len < 2 ^ 64 → packet.fault ≡ None
    → of_transport packet.transport (count 1 packet.len) ≡ counts_with packet no_packets
one_faultless packet bound is =
    ap (of_transport packet.transport) (ap₂ count (omega arith) (omega (arith, bound))) ∙ by packet.len packet.transport
    ∙ ap (parts packet.len packet.transport) (sym is)
  where
    by : (len : ℕ) (transport : Transport) → of_transport transport (counted len none) ≡ parts len transport None
    by len Udp = refl
    by len Tcp = refl
    by len Icmp = refl
    by len Other = refl

-- ---- one more packet in the bins

module _ (start : ℕ) (bins : Bins) (packets : List Event) (packet : Event) (one after : Counts)
    (one_is : one ≡ counts_with packet no_packets) (are : AreCounted start bins packets) where
  abbrev begin : ℕ → ℕ
  begin place = start + place * bins.unit

  abbrev is_in : ℕ → Event → Bool
  is_in place each = is_within (begin place) (begin (place + 1)) each.time

  pub count_untimed : packet.time ≡ None → after ≡ counts_sum bins.untimed one
      → AreCounted start (record bins { untimed = after }) (packets ++ packet ∷ [])
  count_untimed none sum = record {
    contained = λ place within. are.contained place within
        ∙ sym (push_out (is_in place) packets packet (ap (is_within (begin place) (begin (place + 1))) none));
    older = are.older ∙ sym (push_out (λ each. is_older (Some start) each.time) packets packet (ap (is_older (Some start)) none));
    untimed = added (λ each. is_untimed each.time) packets packet bins.untimed one after are.untimed one_is sum (ap is_untimed none);
  }

  module _ (time : ℕ) (timed : packet.time ≡ Some time) where
    not_untimed : is_untimed packet.time ≡ false
    not_untimed = ap is_untimed timed

    at_time : (test : Option ℕ → Bool) (b : Bool) → test (Some time) ≡ b → test packet.time ≡ b
    at_time test b is = ap test timed ∙ is

    pub count_older : time < start → after ≡ counts_sum bins.older one
        → AreCounted start (record bins { older = after }) (packets ++ packet ∷ [])
    count_older early sum = record {
      contained = λ place within. are.contained place within
          ∙ sym (push_out (is_in place) packets packet (at_time (is_within (begin place) (begin (place + 1))) false
          (is_early (begin place) (begin (place + 1)) (Some time) (omega (arith, early)))));
      older = added (λ each. is_older (Some start) each.time) packets packet bins.older one after are.older one_is sum
          (at_time (is_older (Some start)) true (lt-ltb _ _ early));
      untimed = are.untimed ∙ sym (push_out (λ each. is_untimed each.time) packets packet not_untimed);
    }

    module _ (place : ℕ) (positive : 0 < bins.unit) (from_start : start ≤ time) (is_place : place ≡ (time - start) / bins.unit) where
      low : begin place ≤ time
      low = omega (
        arith,
        from_start,
        subst (λ each. each * bins.unit ≤ time - start) (sym is_place) (div-mul-le_self (time - start) bins.unit),
      )

      high : time < begin (place + 1)
      high =
          let offset : time - start < ((time - start) / bins.unit + 1) * bins.unit =
          omega (arith, div-add-mod' (time - start) bins.unit, mod-lt (time - start) positive) in
          omega (arith, from_start, subst (λ each. time - start < (each + 1) * bins.unit) (sym is_place) offset)

      outside : (other : ℕ) → other ≢ place → (b : Bool) → nat_lt other place ≡ b → is_in other packet ≡ false
      outside other different true test =
          let order : other + 1 ≤ place = omega (arith, ltb-true _ _ test) in
          at_time (is_within (begin other) (begin (other + 1))) false
          (is_late (begin other) (begin (other + 1)) time (omega (arith, low, mul-le-mul_right bins.unit order)))
      outside other different false test =
          let order : place + 1 ≤ other = omega (arith, ltb-false _ _ test, different) in
          at_time (is_within (begin other) (begin (other + 1))) false
          (is_early (begin other) (begin (other + 1)) (Some time) (omega (arith, high, mul-le-mul_right bins.unit order)))

      inside : is_in place packet ≡ true
      inside = at_time (is_within (begin place) (begin (place + 1))) true (is_inside (begin place) (begin (place + 1)) time low high)

      contained_by : length bins.all ≡ 1280 → after ≡ counts_sum (get_or bins.all place no_packets) one → place < 1280
          → (other : ℕ) → other < 1280 → (b : Bool) → eqb other place ≡ b
          → get_or (set bins.all place after) other no_packets ≡ counts_of (is_in other) (packets ++ packet ∷ [])
      contained_by len sum bound other within true same =
          let is : other ≡ place = eqb-true _ _ same in
          subst (λ each. get_or (set bins.all place after) each no_packets ≡ counts_of (is_in each) (packets ++ packet ∷ [])) (sym is)
          (get_or-set_same bins.all place after no_packets (omega (arith, len, bound))
          ∙ added (is_in place) packets packet (get_or bins.all place no_packets) one after (are.contained place bound) one_is sum inside)
      contained_by len sum bound other within false same =
          let different : other ≢ place = eqb-false _ _ same in
          get_or-set_other bins.all place other after no_packets different
          ∙ are.contained other within
          ∙ sym (push_out (is_in other) packets packet (outside other different (nat_lt other place) refl))

      pub count_timed : length bins.all ≡ 1280 → after ≡ counts_sum (get_or bins.all place no_packets) one → place < 1280
          → AreCounted start (record bins { all = set bins.all place after }) (packets ++ packet ∷ [])
      count_timed len sum bound = record {
        contained = λ other within. contained_by len sum bound other within (eqb other place) refl;
        older = are.older ∙ sym (push_out (λ each. is_older (Some start) each.time) packets packet
            (at_time (is_older (Some start)) false (le-ltb _ _ from_start)));
        untimed = are.untimed ∙ sym (push_out (λ each. is_untimed each.time) packets packet not_untimed);
      }

-- the bin of a packet that the bins reach
pub bin_within : (start unit time : ℕ) (stated : Option ℕ) → 0 < unit → stated ≡ Some time → start ≤ time
    → IsBefore (start + 1280 * unit) stated → (time - start) / unit < 1280
bin_within start unit time stated positive timed from_start before =
    let early : time < start + 1280 * unit = subst (IsBefore (start + 1280 * unit)) timed before in
    let product : (time - start) / unit * unit < 1280 * unit = omega (arith, early, from_start, div-mul-le_self (time - start) unit) in
    lt_of_mul-lt-mul_right unit product

-- ---- before the first packet

get_or_replicate : (m i : ℕ) → get_or (replicate m no_packets) i no_packets ≡ no_packets
get_or_replicate zero i = refl
get_or_replicate (suc m) zero = refl
get_or_replicate (suc m) (suc i) = get_or_replicate m i

pub none_counted : (start unit : ℕ) (bins : Bins) → bins ≡ no_bins unit → AreCounted start bins []
none_counted start unit bins is = subst (λ each. AreCounted start each []) (sym is)
    (record { contained = λ place within. get_or_replicate 1280 place; older = refl; untimed = refl })

-- ---- the packets of a loop

pub each_event : (P : Event → Type 0) (events : List PageEvent) (place : ℕ) (d : PageEvent) → place < length events
    → All P (map event_in events) → P (event_in (get_or events place d))
each_event P events place d within all =
    subst P (get_or-map event_in events place d (event_in d) within)
    (all place (event_in d) (omega (arith, within, length-map events event_in)))

pub events_more : (events : List PageEvent) (place : ℕ) (d : PageEvent) → place < length events
    → map event_in (take (place + 1) events) ≡ map event_in (take place events) ++ event_in (get_or events place d) ∷ []
events_more events place d within =
    let next : place + 1 ≡ suc place = omega arith in
    ap (λ n. map event_in (take n events)) next
    ∙ ap (map event_in) (take-suc events place d within)
    ∙ map-append event_in (take place events) (get_or events place d ∷ [])
