-- Two flows belong to one conversation exactly if they have the same canonical direction.
use mathlib.Core.Bool.{and_comm, or_comm}
use Rattle.std.proofs.Common.{Ordering, Less, Equal, Greater, ◌≡◌, Bool, true, false, true≢false, cond, ◌&&◌, ◌||◌, not, refl, sym, ap, ◌∙◌}
use Rattle.std.proofs.lemmas.Bool.{and_parts}
use Rattle.std.specs.Cmp.{IsEquivalence, IsTotalOrder, Equal-is, alike_right}
use Rattle.std.specs.Ordering.{is_eq, is_gt, ordering_reverse}
use Rattle.std.specs.contracts.net.socket_addr.SocketAddrEq.TheImpl.Laws as address_equal
use Rattle.std.specs.contracts.net.socket_addr.SocketAddrOrd.TheImpl as address_ord
use Rattle.std.specs.contracts.net.socket_addr.SocketAddrOrd.TheImpl.Laws as address_order
use Rattle.std.specs.contracts.net.socket_addr.SocketAddrPartialEq.TheImpl as address_eq
use Rattle.std.specs.declared.net.socket_addr.SocketAddr.{SocketAddr}
use Rattle.capture_summary.specs.Conversations.{canonical, is_one_conversation, is_same_flow, reversed}
use Rattle.capture_summary.specs.CountedPackets.{goes_back, goes_forward}
use Rattle.capture_summary.specs.contracts.flow.FlowEq.TheImpl.Laws.{laws-law}
use Rattle.capture_summary.specs.contracts.flow.FlowProtocolPartialEq.TheImpl as protocol_eq
use Rattle.capture_summary.specs.declared.flow.Flow.{Flow}

-- ---- tests

contradiction : {P : Type 0} (b : Bool) → b ≡ true → b ≡ false → P
contradiction b e f = absurd (true≢false (sym e ∙ f))

exchanged : (p s t : Bool) → (p && (s && t)) ≡ (p && (t && s))
exchanged p s t = ap (λ b. p && b) (and_comm s t)

first_alone : (s t : Bool) → (t ≡ true → s ≡ true) → (s || t) ≡ s
first_alone true t so = refl
first_alone false true so = sym (so refl)
first_alone false false so = refl

second_alone : (s t : Bool) → (s ≡ true → t ≡ true) → (s || t) ≡ t
second_alone true t so = sym (so refl)
second_alone false t so = refl

-- ---- values of an order: x and y of the first order, u and v of the second

module _ {K : Type 0} (same : K → K → Bool) (order : K → K → Ordering) (equal : IsEquivalence same) (total : IsTotalOrder order)
    (ties : (x y : K) → same x y ≡ is_eq (order x y)) where
  tied : (x y : K) → same x y ≡ true → order x y ≡ Equal
  tied x y is = (Equal-is (order x y)).0 (sym (ties x y) ∙ is)

  alike : (x y u v : K) → same x u ≡ true → same y v ≡ true → order x y ≡ order u v
  alike x y u v p q = total.congr x u y (tied x u p) ∙ alike_right total y v u (tied y v q)

  turned_is : (r : Ordering) → is_gt r ≡ false → is_gt (ordering_reverse r) ≡ false → is_eq r ≡ true
  turned_is Less p q = absurd (true≢false q)
  turned_is Equal p q = refl
  turned_is Greater p q = absurd (true≢false p)

  turned_not : {P : Type 0} (r : Ordering) → is_gt r ≡ true → is_gt (ordering_reverse r) ≡ true → P
  turned_not Less p q = absurd (true≢false (sym p))
  turned_not Equal p q = absurd (true≢false (sym p))
  turned_not Greater p q = absurd (true≢false (sym q))

  -- if neither pair is turned, crossed pairs are straight pairs too
  crossed_is : (x y u v : K) → is_gt (order x y) ≡ false → is_gt (order u v) ≡ false → same y u ≡ true → same x v ≡ true
      → (same x u && same y v) ≡ true
  crossed_is x y u v p q crossed_first crossed_second =
      let turned : is_gt (ordering_reverse (order x y)) ≡ false =
      ap is_gt (sym (total.antisymm y x)) ∙ ap is_gt (alike y x u v crossed_first crossed_second) ∙ q in
      let one : same x y ≡ true = ties x y ∙ turned_is (order x y) p turned in
      let first : same x u ≡ true = equal.congr x y u one ∙ crossed_first in
      let second : same y v ≡ true = sym (equal.congr x y v one) ∙ crossed_second in
      ap (λ b. b && same y v) first ∙ second

  -- if both pairs are turned, the pairs are not crossed
  crossed_not : {P : Type 0} (x y u v : K) → is_gt (order x y) ≡ true → is_gt (order u v) ≡ true → same y u ≡ true → same x v ≡ true → P
  crossed_not x y u v p q first second =
      turned_not (order x y) p (ap is_gt (sym (total.antisymm y x)) ∙ ap is_gt (alike y x u v first second) ∙ q)

-- ---- flows

abbrev same : SocketAddr → SocketAddr → Bool
same = (address_eq.ghosts).eq

abbrev order : SocketAddr → SocketAddr → Ordering
order = (address_ord.ghosts).cmp

abbrev is_turned : Flow → Bool
is_turned flow = is_gt (order flow.source flow.destination)

straight : (a b : Flow) → is_same_flow a b ≡ true → (same a.source b.source ≡ true) × (same a.destination b.destination ≡ true)
straight a b e = and_parts _ _ (and_parts ((protocol_eq.ghosts).eq a.protocol b.protocol) _ e).1

protocol_alike : (a b : Flow) → is_same_flow a b ≡ true → (protocol_eq.ghosts).eq a.protocol b.protocol ≡ true
protocol_alike a b e = (and_parts ((protocol_eq.ghosts).eq a.protocol b.protocol) _ e).0

-- two equal flows are both turned, or both not turned
turned_alike : (a b : Flow) → is_same_flow a b ≡ true → is_turned a ≡ is_turned b
turned_alike a b e =
    let parts = straight a b e in
    ap is_gt (alike same order address_equal.laws-law address_order.total-law address_order.matches_eq-law a.source a.destination b.source
    b.destination parts.0 parts.1)

pub one_conversation_is : (a b : Flow) → is_one_conversation a b ≡ is_same_flow (canonical a) (canonical b)
one_conversation_is a b = by (is_turned a) (is_turned b) refl refl
  where
    by : (s t : Bool) → is_turned a ≡ s → is_turned b ≡ t
        → is_one_conversation a b ≡ is_same_flow (cond s (reversed a) a) (cond t (reversed b) b)
    by false false p q = first_alone (is_same_flow a b) (is_same_flow (reversed a) b) (λ e.
        let parts = straight (reversed a) b e in
        ap (λ c. c && (same a.source b.source && same a.destination b.destination)) (protocol_alike (reversed a) b e)
        ∙ crossed_is same order address_equal.laws-law address_order.total-law address_order.matches_eq-law
        a.source a.destination b.source b.destination p q parts.0 parts.1)
    by true true p q =
        first_alone (is_same_flow a b) (is_same_flow (reversed a) b) (λ e.
        let parts = straight (reversed a) b e in
        crossed_not same order address_equal.laws-law address_order.total-law address_order.matches_eq-law
        a.source a.destination b.source b.destination p q parts.0 parts.1)
        ∙ exchanged _ (same a.source b.source) (same a.destination b.destination)
    by true false p q =
        second_alone (is_same_flow a b) (is_same_flow (reversed a) b) (λ e. contradiction (is_turned a) p (turned_alike a b e ∙ q))
    by false true p q =
        second_alone (is_same_flow a b) (is_same_flow (reversed a) b) (λ e. contradiction (is_turned a) (turned_alike a b e ∙ q) p)
        ∙ exchanged _ (same a.destination b.source) (same a.source b.destination)

pub one_conversation_symm : (a b : Flow) → is_one_conversation a b ≡ is_one_conversation b a
one_conversation_symm a b = one_conversation_is a b ∙ laws-law.symm (canonical a) (canonical b) ∙ sym (one_conversation_is b a)

pub one_conversation_congr : (a b c : Flow) → is_one_conversation a b ≡ true → is_one_conversation a c ≡ is_one_conversation b c
one_conversation_congr a b c e =
    one_conversation_is a c
    ∙ laws-law.congr (canonical a) (canonical b) (canonical c) (sym (one_conversation_is a b) ∙ e)
    ∙ sym (one_conversation_is b c)

pub one_conversation_itself : (a : Flow) → is_one_conversation a a ≡ true
one_conversation_itself a = one_conversation_is a a ∙ laws-law.refl (canonical a)

-- a packet goes forward exactly if it goes back after source and destination are exchanged, if the flow has two directions
pub exchanged_back : (flow packet : Flow) → is_same_flow flow (reversed flow) ≡ false
    → goes_back flow (reversed packet) ≡ goes_forward flow packet
exchanged_back flow packet two = by (is_same_flow packet flow) (is_same_flow (reversed packet) flow) refl refl
  where
    by : (s t : Bool) → is_same_flow packet flow ≡ s → is_same_flow (reversed packet) flow ≡ t → (not t && s) ≡ s
    by s false p q = refl
    by false true p q = refl
    by true true p q =
        let reversed_same : is_same_flow (reversed packet) (reversed flow) ≡ true =
        exchanged _ (same packet.destination flow.destination) (same packet.source flow.source) ∙ p in
        contradiction (is_same_flow flow (reversed flow))
        (sym (laws-law.congr (reversed packet) flow (reversed flow) q) ∙ reversed_same) two

-- a packet belongs to the same conversation after source and destination are exchanged
pub exchanged_row : (packet flow : Flow) → is_one_conversation (reversed packet) flow ≡ is_one_conversation packet flow
exchanged_row packet flow = or_comm (is_same_flow (reversed packet) flow) (is_same_flow packet flow)
