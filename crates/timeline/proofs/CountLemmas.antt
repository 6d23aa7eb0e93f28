-- Counts of two parts of some packets add up, and one more packet is counted.
use Rattle.std.proofs.Common.{◌≡◌, ◌∙◌, ℕ, ◌+◌, Bool, true, false, cond, ◌&&◌, List, [], ◌∷◌, ◌++◌, filter, sum_by, count_by, get_or, All, refl, ap, ap₂, arith}
use Rattle.std.proofs.lemmas.List.Elements.{All-head, All-tail}
use Rattle.std.proofs.lemmas.List.Sums.{sum_by-cons, sum_by_push}
use Rattle.timeline.specs.Counts.{count_of, count_sum, counted_if, counts_of, counts_sum, counts_with, is_fault, is_transport, no_packets, none, saturated}
use Rattle.timeline.specs.declared.count.Count.{Count}
use Rattle.timeline.specs.declared.counts.Counts.{Counts}
use Rattle.timeline.specs.declared.event.Event.{Event}
use Rattle.timeline.specs.declared.event.Fault.TheVariants.{Wrong, Refused}
use Rattle.timeline.specs.declared.event.Transport.TheVariants.{Udp, Tcp, Icmp, Other}

abbrev pub bit : Bool → ℕ
bit b = cond b 1 0

abbrev count : ℕ → ℕ → Count
count packets bytes = record { packets = packets; bytes = bytes }

abbrev counts : Count → Count → Count → Count → Count → Count → Counts
counts udp tcp icmp other wrong refused =
    record { udp = udp; tcp = tcp; icmp = icmp; other = other; wrong = wrong; refused = refused }

counts_same : (a b c d e f a' b' c' d' e' f' : Count) → a ≡ a' → b ≡ b' → c ≡ c' → d ≡ d' → e ≡ e' → f ≡ f'
    → counts a b c d e f ≡ counts a' b' c' d' e' f'
counts_same a b c d e f a' b' c' d' e' f' p q r s t u = cc

-- ---- two parts

sum_by_split : {X : Type 0} (f g h : X → ℕ) → ((x : X) → h x ≡ f x + g x) → (xs : List X) → sum_by h xs ≡ sum_by f xs + sum_by g xs
sum_by_split f g h e [] = refl
sum_by_split f g h e (x ∷ xs) =
    omega (arith, sum_by-cons h x xs, sum_by-cons f x xs, sum_by-cons g x xs, e x, sum_by_split f g h e xs)

sum_by_agree : {X : Type 0} (f g : X → ℕ) (xs : List X) → All (λ x. f x ≡ g x) xs → sum_by f xs ≡ sum_by g xs
sum_by_agree f g [] same = refl
sum_by_agree f g (x ∷ xs) same =
    let first : f x ≡ g x = All-head (λ each. f each ≡ g each) x xs same in
    omega (arith, sum_by-cons f x xs, sum_by-cons g x xs, first, sum_by_agree f g xs (All-tail (λ each. f each ≡ g each) x xs same))

saturated_sum : (m n : ℕ) → saturated (m + n) ≡ saturated (saturated m + saturated n)
saturated_sum m n = omega arith

saturated_more : (m n : ℕ) → saturated (m + n) ≡ saturated (saturated m + n)
saturated_more m n = omega arith

weight : (c a b : Bool) (n : ℕ) → bit c ≡ bit a + bit b → cond c n 0 ≡ cond a n 0 + cond b n 0
weight true true true n e = absurd (omega (arith, e))
weight true true false n e = omega arith
weight true false true n e = omega arith
weight true false false n e = absurd (omega (arith, e))
weight false true b n e = absurd (omega (arith, e))
weight false false true n e = absurd (omega (arith, e))
weight false false false n e = refl

both_bits : (c a b k : Bool) → bit c ≡ bit a + bit b → bit (c && k) ≡ bit (a && k) + bit (b && k)
both_bits true true true k e = absurd (omega (arith, e))
both_bits true true false k e = omega arith
both_bits true false true k e = omega arith
both_bits true false false k e = absurd (omega (arith, e))
both_bits false true b k e = absurd (omega (arith, e))
both_bits false false true k e = absurd (omega (arith, e))
both_bits false false false k e = refl

count_split : (c a b : Event → Bool) → ((packet : Event) → bit (c packet) ≡ bit (a packet) + bit (b packet)) → (packets : List Event)
    → count_of c packets ≡ count_sum (count_of a packets) (count_of b packets)
count_split c a b e packets = ap₂ count
    (ap saturated (sum_by_split (λ packet. bit (a packet)) (λ packet. bit (b packet)) (λ packet. bit (c packet)) e packets)
    ∙ saturated_sum (count_by a packets) (count_by b packets))
    (ap saturated (sum_by_split (λ packet. cond (a packet) packet.len 0) (λ packet. cond (b packet) packet.len 0)
    (λ packet. cond (c packet) packet.len 0) (λ packet. weight (c packet) (a packet) (b packet) packet.len (e packet)) packets)
    ∙ saturated_sum (sum_by (λ packet. cond (a packet) packet.len 0) packets) (sum_by (λ packet. cond (b packet) packet.len 0) packets))

module _ (c a b : Event → Bool) (e : (packet : Event) → bit (c packet) ≡ bit (a packet) + bit (b packet)) (packets : List Event) where
  split_by : (key : Event → Bool) → count_of (λ packet. c packet && key packet) packets
      ≡ count_sum (count_of (λ packet. a packet && key packet) packets) (count_of (λ packet. b packet && key packet) packets)
  split_by key = count_split (λ packet. c packet && key packet) (λ packet. a packet && key packet) (λ packet. b packet && key packet)
      (λ packet. both_bits (c packet) (a packet) (b packet) (key packet) (e packet)) packets

  -- each packet that passes the first test passes exactly one of the two others
  pub counts_split : counts_of c packets ≡ counts_sum (counts_of a packets) (counts_of b packets)
  counts_split = counts_same _ _ _ _ _ _ _ _ _ _ _ _
      (split_by (λ packet. is_transport Udp packet.transport)) (split_by (λ packet. is_transport Tcp packet.transport))
      (split_by (λ packet. is_transport Icmp packet.transport)) (split_by (λ packet. is_transport Other packet.transport))
      (split_by (λ packet. is_fault Wrong packet.fault)) (split_by (λ packet. is_fault Refused packet.fault))

module _ (a b : Event → Bool) (packets : List Event) (same : All (λ packet. a packet ≡ b packet) packets) where
  agree_by : (key : Event → Bool) → count_of (λ packet. a packet && key packet) packets
      ≡ count_of (λ packet. b packet && key packet) packets
  agree_by key = ap₂ count
      (ap saturated (sum_by_agree (λ packet. bit (a packet && key packet)) (λ packet. bit (b packet && key packet)) packets
      (λ k d within. ap (λ test. bit (test && key (get_or packets k d))) (same k d within))))
      (ap saturated (sum_by_agree (λ packet. cond (a packet && key packet) packet.len 0) (λ packet. cond
      (b packet && key packet) packet.len 0)
      packets (λ k d within. ap (λ test. cond (test && key (get_or packets k d)) (get_or packets k d).len 0) (same k d within))))

  -- two tests that agree at each of the packets count the same packets
  pub counts_agree : counts_of a packets ≡ counts_of b packets
  counts_agree = counts_same _ _ _ _ _ _ _ _ _ _ _ _
      (agree_by (λ packet. is_transport Udp packet.transport)) (agree_by (λ packet. is_transport Tcp packet.transport))
      (agree_by (λ packet. is_transport Icmp packet.transport)) (agree_by (λ packet. is_transport Other packet.transport))
      (agree_by (λ packet. is_fault Wrong packet.fault)) (agree_by (λ packet. is_fault Refused packet.fault))

sum_by_none : (packets : List Event) → sum_by (λ packet. 0) packets ≡ 0
sum_by_none [] = refl
sum_by_none (packet ∷ packets) =
    let first : sum_by (λ (each : Event). 0) (packet ∷ packets) ≡ 0 + sum_by (λ (each : Event). 0) packets = sum_by-cons
    (λ each. 0) packet packets in
    omega (arith, first, sum_by_none packets)

none_pass : (packets : List Event) → counts_of (λ packet. false) packets ≡ no_packets
none_pass packets =
    let each : count_of (λ packet. false) packets ≡ none = ap₂ count (ap saturated (sum_by_none packets)) (ap saturated
    (sum_by_none packets)) in
    counts_same _ _ _ _ _ _ _ _ _ _ _ _ each each each each each each

-- no packet passes the test
pub counts_none : (test : Event → Bool) (packets : List Event) → All (λ packet. test packet ≡ false) packets → counts_of test packets
    ≡ no_packets
counts_none test packets fails = counts_agree test (λ packet. false) packets fails ∙ none_pass packets

-- ---- some of the packets

sum_by_filter : {X : Type 0} (keep : X → Bool) (f : X → ℕ) (xs : List X) → sum_by f (filter keep xs)
    ≡ sum_by (λ x. cond (keep x) (f x) 0) xs
sum_by_filter keep f [] = refl
sum_by_filter keep f (x ∷ xs) = by (keep x) refl (sum_by_filter keep f xs)
  where
    by : (b : Bool) → keep x ≡ b → sum_by f (filter keep xs) ≡ sum_by (λ each. cond (keep each) (f each) 0) xs
        → sum_by f (cond b (x ∷ filter keep xs) (filter keep xs)) ≡ sum_by (λ each. cond (keep each) (f each) 0) (x ∷ xs)
    by true e others = omega (
      arith,
      sum_by-cons f x (filter keep xs),
      sum_by-cons (λ each. cond (keep each) (f each) 0) x xs,
      ap (λ b. cond b (f x) 0) e,
      others,
    )
    by false e others = omega (
      arith,
      sum_by-cons (λ each. cond (keep each) (f each) 0) x xs,
      ap (λ b. cond b (f x) 0) e,
      others,
    )

cond_both : (k t y : Bool) (n : ℕ) → cond k (cond (t && y) n 0) 0 ≡ cond ((k && t) && y) n 0
cond_both true t y n = refl
cond_both false t y n = refl

module _ (keep test : Event → Bool) (packets : List Event) where
  filter_by : (key : Event → Bool) → count_of (λ packet. test packet && key packet) (filter keep packets)
      ≡ count_of (λ packet. (keep packet && test packet) && key packet) packets
  filter_by key = ap₂ count
      (ap saturated (sum_by_filter keep (λ packet. bit (test packet && key packet)) packets
      ∙ sum_by_agree (λ packet. cond (keep packet) (bit (test packet && key packet)) 0)
      (λ packet. bit ((keep packet && test packet) && key packet)) packets
      (λ k d within. cond_both (keep (get_or packets k d)) (test (get_or packets k d)) (key (get_or packets k d)) 1)))
      (ap saturated (sum_by_filter keep (λ packet. cond (test packet && key packet) packet.len 0) packets
      ∙ sum_by_agree (λ packet. cond (keep packet) (cond (test packet && key packet) packet.len 0) 0)
      (λ packet. cond ((keep packet && test packet) && key packet) packet.len 0) packets
      (λ k d within. cond_both (keep (get_or packets k d)) (test (get_or packets k d)) (key (get_or packets k d))
      (get_or packets k d).len)))

  -- the packets that are kept and pass the test
  pub counts_filter : counts_of test (filter keep packets) ≡ counts_of (λ packet. keep packet && test packet) packets
  counts_filter = counts_same _ _ _ _ _ _ _ _ _ _ _ _
      (filter_by (λ packet. is_transport Udp packet.transport)) (filter_by (λ packet. is_transport Tcp packet.transport))
      (filter_by (λ packet. is_transport Icmp packet.transport)) (filter_by (λ packet. is_transport Other packet.transport))
      (filter_by (λ packet. is_fault Wrong packet.fault)) (filter_by (λ packet. is_fault Refused packet.fault))

-- ---- one more packet

count_push : (test : Event → Bool) (packets : List Event) (packet : Event) (passes : Bool) → test packet ≡ passes
    → count_of test (packets ++ packet ∷ []) ≡ counted_if passes packet.len (count_of test packets)
count_push test packets packet true e = ap₂ count
    (ap saturated (sum_by_push (λ each. bit (test each)) packets packet ∙ ap (λ b. count_by test packets + bit b) e)
    ∙ saturated_more (count_by test packets) 1)
    (ap saturated (sum_by_push (λ each. cond (test each) each.len 0) packets packet
    ∙ ap (λ b. sum_by (λ each. cond (test each) each.len 0) packets + cond b packet.len 0) e)
    ∙ saturated_more (sum_by (λ each. cond (test each) each.len 0) packets) packet.len)
count_push test packets packet false e = ap₂ count
    (ap saturated (sum_by_push (λ each. bit (test each)) packets packet ∙ ap (λ b. count_by test packets + bit b) e ∙ omega arith))
    (ap saturated (sum_by_push (λ each. cond (test each) each.len 0) packets packet
    ∙ ap (λ b. sum_by (λ each. cond (test each) each.len 0) packets + cond b packet.len 0) e ∙ omega arith))

module _ (test : Event → Bool) (packets : List Event) (packet : Event) where
  push_by : (passes : Bool) → test packet ≡ passes → (key : Event → Bool)
      → count_of (λ each. test each && key each) (packets ++ packet ∷ [])
      ≡ counted_if (passes && key packet) packet.len (count_of (λ each. test each && key each) packets)
  push_by passes e key = count_push (λ each. test each && key each) packets packet (passes && key packet) (ap (λ b. b && key packet) e)

  -- the packet passes the test
  pub push_in : test packet ≡ true → counts_of test (packets ++ packet ∷ []) ≡ counts_with packet (counts_of test packets)
  push_in e = counts_same _ _ _ _ _ _ _ _ _ _ _ _
      (push_by true e (λ each. is_transport Udp each.transport)) (push_by true e (λ each. is_transport Tcp each.transport))
      (push_by true e (λ each. is_transport Icmp each.transport)) (push_by true e (λ each. is_transport Other each.transport))
      (push_by true e (λ each. is_fault Wrong each.fault)) (push_by true e (λ each. is_fault Refused each.fault))

  -- the packet does not pass the test
  pub push_out : test packet ≡ false → counts_of test (packets ++ packet ∷ []) ≡ counts_of test packets
  push_out e = counts_same _ _ _ _ _ _ _ _ _ _ _ _
      (push_by false e (λ each. is_transport Udp each.transport)) (push_by false e (λ each. is_transport Tcp each.transport))
      (push_by false e (λ each. is_transport Icmp each.transport)) (push_by false e (λ each. is_transport Other each.transport))
      (push_by false e (λ each. is_fault Wrong each.fault)) (push_by false e (λ each. is_fault Refused each.fault))

-- ---- sums

count_sum_assoc : (a b c : Count) → count_sum (count_sum a b) c ≡ count_sum a (count_sum b c)
count_sum_assoc a b c = ap₂ count (omega arith) (omega arith)

pub counts_sum_assoc : (a b c : Counts) → counts_sum (counts_sum a b) c ≡ counts_sum a (counts_sum b c)
counts_sum_assoc a b c = counts_same _ _ _ _ _ _ _ _ _ _ _ _
    (count_sum_assoc a.udp b.udp c.udp) (count_sum_assoc a.tcp b.tcp c.tcp) (count_sum_assoc a.icmp b.icmp c.icmp)
    (count_sum_assoc a.other b.other c.other) (count_sum_assoc a.wrong b.wrong c.wrong) (count_sum_assoc a.refused b.refused c.refused)

count_and_none : (test : Event → Bool) (packets : List Event) → count_sum (count_of test packets) none ≡ count_of test packets
count_and_none test packets = ap₂ count (omega arith) (omega arith)

-- the counts of some packets, and of no more
pub counts_and_none : (test : Event → Bool) (packets : List Event) → counts_sum (counts_of test packets) no_packets ≡ counts_of test packets
counts_and_none test packets = counts_same _ _ _ _ _ _ _ _ _ _ _ _
    (count_and_none (λ packet. test packet && is_transport Udp packet.transport) packets)
    (count_and_none (λ packet. test packet && is_transport Tcp packet.transport) packets)
    (count_and_none (λ packet. test packet && is_transport Icmp packet.transport) packets)
    (count_and_none (λ packet. test packet && is_transport Other packet.transport) packets)
    (count_and_none (λ packet. test packet && is_fault Wrong packet.fault) packets)
    (count_and_none (λ packet. test packet && is_fault Refused packet.fault) packets)

none_and_count : (test : Event → Bool) (packets : List Event) → count_sum none (count_of test packets) ≡ count_of test packets
none_and_count test packets = ap₂ count (omega arith) (omega arith)

pub none_and_counts : (test : Event → Bool) (packets : List Event) → counts_sum no_packets (counts_of test packets) ≡ counts_of test packets
none_and_counts test packets = counts_same _ _ _ _ _ _ _ _ _ _ _ _
    (none_and_count (λ packet. test packet && is_transport Udp packet.transport) packets)
    (none_and_count (λ packet. test packet && is_transport Tcp packet.transport) packets)
    (none_and_count (λ packet. test packet && is_transport Icmp packet.transport) packets)
    (none_and_count (λ packet. test packet && is_transport Other packet.transport) packets)
    (none_and_count (λ packet. test packet && is_fault Wrong packet.fault) packets)
    (none_and_count (λ packet. test packet && is_fault Refused packet.fault) packets)
