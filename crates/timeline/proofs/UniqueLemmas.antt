-- Packets have one timeline.
use Rattle.std.proofs.Common.{◌≡◌, ◌∙◌, ℕ, Bool, List, length, Option, Some, None, sym, ap, subst, arith, ext_get_or}
use Rattle.timeline.specs.Counts.{counts_of, no_packets}
use Rattle.timeline.specs.Intervals.{AreIntervals}
use Rattle.timeline.specs.Timelines.{AreFixed, HasBins, HasGrownBins, IsTimelineOf, TimelineBins, is_later, is_older, not_later}
use Rattle.timeline.specs.declared.counts.Counts.{Counts}
use Rattle.timeline.specs.declared.event.Event.{Event}

intervals_same : (start width : ℕ) (bins others : List Counts) (packets : List Event) → AreIntervals start width bins packets
    → AreIntervals start width others packets → bins ≡ others
intervals_same start width bins others packets are other_are =
    let len : length bins ≡ length others = omega (
      arith,
      are.fewest (length others) other_are.suffice,
      other_are.fewest (length bins) are.suffice,
    ) in
    ext_get_or no_packets bins others len (λ place within. are.contained place ∙ sym (other_are.contained place))

grown_same : (start : Option ℕ) (unit other_unit : ℕ) (bins others : List Counts) (packets : List Event)
    → HasGrownBins start unit bins packets → HasGrownBins start other_unit others packets → (unit ≡ other_unit) × (bins ≡ others)
grown_same None unit other_unit bins others packets has other_has = (has.0 ∙ sym other_has.0, has.1 ∙ sym other_has.1)
grown_same (Some start) unit other_unit bins others packets has other_has =
    let same : unit ≡ other_unit = omega (
      arith,
      has.0.least other_unit other_has.0.on_scale other_has.0.suffice,
      other_has.0.least unit has.0.on_scale has.0.suffice,
    ) in (
      same,
      intervals_same start unit bins others packets has.1
          (subst (λ each. AreIntervals start each others packets) (sym same) other_has.1),
    )

fixed_same : (start : Option ℕ) (width : ℕ) (bins others : List Counts) (packets : List Event) → AreFixed start width bins packets
    → AreFixed start width others packets → bins ≡ others
fixed_same None width bins others packets are other_are = are ∙ sym other_are
fixed_same (Some start) width bins others packets are other_are =
    intervals_same start width bins others (not_later width start packets) are other_are

bins_same : (width start : Option ℕ) (unit other_unit : ℕ) (bins others : List Counts) (packets : List Event)
    → HasBins width start unit bins packets → HasBins width start other_unit others packets → (unit ≡ other_unit) × (bins ≡ others)
bins_same None start unit other_unit bins others packets has other_has =
    grown_same start unit other_unit bins others packets has other_has
bins_same (Some width) start unit other_unit bins others packets has other_has =
    (has.0 ∙ sym other_has.0, fixed_same start width bins others packets has.1 other_has.1)

abbrev made : Bool → Option ℕ → ℕ → List Counts → Counts → Counts → Counts → TimelineBins
made is_fixed start unit bins older later untimed = record {
  is_fixed = is_fixed;
  start = start;
  unit = unit;
  bins = bins;
  older = older;
  later = later;
  untimed = untimed;
}

made_same : (o o' : Bool) (a a' : Option ℕ) (b b' : ℕ) (c c' : List Counts) (d d' e e' f f' : Counts)
    → o ≡ o' → a ≡ a' → b ≡ b' → c ≡ c' → d ≡ d' → e ≡ e' → f ≡ f' → made o a b c d e f ≡ made o' a' b' c' d' e' f'
made_same o o' a a' b b' c c' d d' e e' f f' n p q r s t u = cc

pub unique : (width : Option ℕ) (packets : List Event) (one other : TimelineBins) → IsTimelineOf width packets one
    → IsTimelineOf width packets other → one ≡ other
unique width packets one other is other_is =
    let start : one.start ≡ other.start = is.start ∙ sym other_is.start in
    let has : HasBins width one.start other.unit other.bins packets =
    subst (λ begin. HasBins width begin other.unit other.bins packets) (sym start) other_is.bins in
    let same = bins_same width one.start one.unit other.unit one.bins other.bins packets is.bins has in
    let older : one.older ≡ other.older =
    is.older ∙ ap (λ begin. counts_of (λ packet. is_older begin packet.time) packets) start ∙ sym other_is.older in
    let later : one.later ≡ other.later =
    is.later ∙ ap (λ begin. counts_of (λ packet. is_later width begin packet.time) packets) start ∙ sym other_is.later in
    made_same one.is_fixed other.is_fixed one.start other.start one.unit other.unit one.bins other.bins one.older other.older
    one.later other.later one.untimed other.untimed
    (is.is_fixed ∙ sym other_is.is_fixed) start same.0 same.1 older later (is.untimed ∙ sym other_is.untimed)
