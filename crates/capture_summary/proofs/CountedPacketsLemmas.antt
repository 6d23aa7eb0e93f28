-- The rows of the table count the packets of their conversations.
use Rattle.std.proofs.Common.{◌≡◌, ◌⊎◌, ℕ, ◌<◌, ◌≤◌, Bool, true, false, true≢false, cond, not, ◌&&◌, ◌||◌, List, [], ◌∷◌, ◌++◌, length, set, get_or, inl, inr, refl, sym, ap, subst, ◌∙◌, arith, length-set, append_assoc, append-nil, nat_lt}
use Rattle.capture_file.specs.declared.packet_time.PacketTime.{PacketTime}
use Rattle.std.proofs.lemmas.Bool.{cases_eq, cases_lt, ltb-true, ltb-false}
use Rattle.std.proofs.lemmas.List.{get_or_default, get_or-set_other, get_or-set_same}
use Rattle.std.proofs.lemmas.List.Elements.{All-push, filter_map-append}
use Rattle.std.proofs.lemmas.List.Quantifiers.{all_pairs_push, position-Some}
use Rattle.std.proofs.lemmas.List.Sums.{fails_before_first, fold_push}
use Rattle.std.specs.List.{AllPairs, position_or_len}
use Rattle.std.specs.Option.{option_or}
use Rattle.std.specs.Prelude.{All, Option, Some, None, filter_map, fold, is_some, option_to_list}
use Rattle.capture_summary.proofs.ConversationLemmas.{one_conversation_congr, one_conversation_itself, one_conversation_symm}
use Rattle.capture_summary.proofs.FlowLemmas.{position-alike, position-set, position_push}
use Rattle.capture_summary.specs.Conversations.{is_one_conversation, is_same_flow, new_row, reversed, row_counted}
use Rattle.capture_summary.specs.CountedPackets.{AreConversationsOf, CountsBothDirections, Seen, count_of, empty_table, goes_back, goes_forward, has_flow, table_of, times_in}
use Rattle.capture_summary.specs.FlowTable.{FlowTable, flow_counted, max_conversations, place_of, table_counted}
use Rattle.capture_summary.specs.Tables.{counted, no_packets}
use Rattle.capture_summary.specs.TimeSpans.{span_of, with_time}
use Rattle.capture_summary.specs.declared.conversation_count.ConversationCount.{ConversationCount}
use Rattle.capture_summary.specs.declared.flow.Flow.{Flow}

-- ---- counts

-- the count of packets and of another packet, which passes the test or not
count_more : (test : Flow → Bool) (packets : List Seen) (packet : Seen) (passes : Bool) → has_flow test packet.0 ≡ passes
    → count_of test (packets ++ packet ∷ []) ≡ cond passes (counted packet.1 (count_of test packets)) (count_of test packets)
count_more test packets packet passes is =
    fold_push (λ count sent. cond (has_flow test sent.0) (counted sent.1 count) count) no_packets packets packet
    ∙ ap (λ b. cond b (counted packet.1 (count_of test packets)) (count_of test packets)) is

-- ---- times

-- the span of times and of another time
span_push : (times : List PacketTime) (time : Option PacketTime) → span_of (times ++ option_to_list time) ≡ with_time (span_of times) time
span_push times None = ap span_of (append-nil times)
span_push times (Some time) = fold_push (λ span each. with_time span (Some each)) None times time

-- the span of the packets of a conversation and of another packet, which belongs to the conversation or not
span_more : (flow : Flow) (packets : List Seen) (packet : Seen) (passes : Bool)
    → has_flow (λ each. is_one_conversation each flow) packet.0 ≡ passes
    → span_of (times_in flow (packets ++ packet ∷ []))
    ≡ cond passes (with_time (span_of (times_in flow packets)) packet.2) (span_of (times_in flow packets))
span_more flow packets packet passes is =
    ap span_of (filter_map-append (λ each. cond (has_flow (λ one. is_one_conversation one flow) each.0) each.2 None) packets (packet ∷ []))
    ∙ ap (λ time. span_of (times_in flow packets ++ filter_map (λ each. each) (time ∷ [])))
    (ap (λ b. cond b packet.2 None) is)
    ∙ by passes packet.2
  where
    by : (b : Bool) (time : Option PacketTime) → span_of (times_in flow packets ++ filter_map (λ each. each) (cond b time None ∷ []))
        ≡ cond b (with_time (span_of (times_in flow packets)) time) (span_of (times_in flow packets))
    by true None = span_push (times_in flow packets) None
    by true (Some time) = span_push (times_in flow packets) (Some time)
    by false time = span_push (times_in flow packets) None

-- ---- rows

neither : (s t : Bool) → (s || t) ≡ false → (s ≡ false) × ((not s && t) ≡ false)
neither true t e = absurd (true≢false e)
neither false t e = (refl, e)

-- the counts of a row after a packet of another conversation
row_other : (packets : List Seen) (row : ConversationCount) (flow : Flow) (len : ℕ) (time : Option PacketTime)
    → is_one_conversation flow row.flow ≡ false
    → CountsBothDirections packets row → CountsBothDirections (packets ++ (Some flow, len, time) ∷ []) row
row_other packets row flow len time apart counts =
    let no = neither (is_same_flow flow row.flow) (is_same_flow (reversed flow) row.flow) apart in
    record {
      forward = counts.forward ∙ sym (count_more (goes_forward row.flow) packets (Some flow, len, time) false no.0);
      reverse = counts.reverse ∙ sym (count_more (goes_back row.flow) packets (Some flow, len, time) false no.1);
      span = counts.span ∙ sym (span_more row.flow packets (Some flow, len, time) false apart);
    }

-- the counts of a row after a packet without ports
row_none : (packets : List Seen) (row : ConversationCount) (len : ℕ) (time : Option PacketTime)
    → CountsBothDirections packets row → CountsBothDirections (packets ++ (None, len, time) ∷ []) row
row_none packets row len time counts = record {
  forward = counts.forward ∙ sym (count_more (goes_forward row.flow) packets (None, len, time) false refl);
  reverse = counts.reverse ∙ sym (count_more (goes_back row.flow) packets (None, len, time) false refl);
  span = counts.span ∙ sym (span_more row.flow packets (None, len, time) false refl);
}

-- the counts of a row after a packet of its conversation
row_one : (packets : List Seen) (row : ConversationCount) (flow : Flow) (len : ℕ) (time : Option PacketTime)
    → is_one_conversation flow row.flow ≡ true
    → CountsBothDirections packets row → CountsBothDirections (packets ++ (Some flow, len, time) ∷ []) (row_counted flow len time row)
row_one packets row flow len time one counts = by (is_same_flow flow row.flow) (is_same_flow (reversed flow) row.flow) refl refl one
  where
    back : (s : Bool) → is_same_flow flow row.flow ≡ s → goes_back row.flow flow ≡ (not s && is_same_flow (reversed flow) row.flow)
    back s p = ap (λ b. not b && is_same_flow (reversed flow) row.flow) p

    more_span : with_time row.span time ≡ span_of (times_in row.flow (packets ++ (Some flow, len, time) ∷ []))
    more_span = ap (λ span. with_time span time) counts.span ∙ sym (span_more row.flow packets (Some flow, len, time) true one)

    by : (s t : Bool) → is_same_flow flow row.flow ≡ s → is_same_flow (reversed flow) row.flow ≡ t → (s || t) ≡ true
        → CountsBothDirections (packets ++ (Some flow, len, time) ∷ [])
        (cond s (record row { forward = counted len row.forward; span = with_time row.span time })
        (record row { reverse = counted len row.reverse; span = with_time row.span time }))
    by true t p q e = record {
      forward = ap (counted len) counts.forward ∙ sym (count_more (goes_forward row.flow) packets (Some flow, len, time) true p);
      reverse = counts.reverse ∙ sym (count_more (goes_back row.flow) packets (Some flow, len, time) false (back true p));
      span = more_span;
    }
    by false true p q e = record {
      forward = counts.forward ∙ sym (count_more (goes_forward row.flow) packets (Some flow, len, time) false p);
      reverse = ap (counted len) counts.reverse
          ∙ sym (count_more (goes_back row.flow) packets (Some flow, len, time) true (back false p ∙ q));
      span = more_span;
    }
    by false false p q e = absurd (true≢false (sym e))

row_flow : (flow : Flow) (len : ℕ) (time : Option PacketTime) (row : ConversationCount) → (row_counted flow len time row).flow ≡ row.flow
row_flow flow len time row = by (is_same_flow flow row.flow)
  where
    by : (s : Bool) → (cond s (record row { forward = counted len row.forward; span = with_time row.span time })
        (record row { reverse = counted len row.reverse; span = with_time row.span time })).flow ≡ row.flow
    by true = refl
    by false = refl

-- ---- the table: a flow whose conversation has no row has had no packet, if there is room for a row

record IsTableOf (packets : List Seen) (table : FlowTable) : Type 0 where
  conversations : AreConversationsOf packets table.rows
  absent : length table.rows < max_conversations → (flow : Flow) → place_of flow table.rows ≡ None
      → CountsBothDirections packets (new_row flow)

-- if the conversation of a flow has no row, the flow belongs to the conversation of no row
apart_None : (flow : Flow) (rows : List ConversationCount) (k : ℕ) (d : ConversationCount) → place_of flow rows ≡ None → k < length rows
    → is_one_conversation flow (get_or rows k d).flow ≡ false
apart_None flow rows k d none within = by (nat_lt first (length rows)) refl none
  where
    first : ℕ
    first = position_or_len (λ row. is_one_conversation flow row.flow) rows

    by : (b : Bool) → nat_lt first (length rows) ≡ b → cond b (Some first) None ≡ None
        → is_one_conversation flow (get_or rows k d).flow ≡ false
    by true e some = absurd (true≢false (ap is_some some))
    by false e some =
        let past = ltb-false _ _ e in fails_before_first (λ row. is_one_conversation flow row.flow) rows k d (omega (arith, within, past))

-- if the conversation of a flow has no row, the flow does not belong to the conversation of a flow whose conversation has a row
apart_place : (flow other : Flow) (rows : List ConversationCount) (place : ℕ) → place_of flow rows ≡ Some place → place_of other rows ≡ None
    → is_one_conversation flow other ≡ false
apart_place flow other rows place at none = by (is_one_conversation flow other) refl
  where
    by : (b : Bool) → is_one_conversation flow other ≡ b → b ≡ false
    by false e = refl
    by true e =
        let same : place_of flow rows ≡ place_of other rows =
        position-alike _ _ (λ row. one_conversation_congr flow other row.flow e) rows in
        absurd (true≢false (ap is_some (sym at ∙ same ∙ none)))

-- the table after a packet of a conversation with a row
module _ (packets : List Seen) (table : FlowTable) (is : IsTableOf packets table) (flow : Flow) (len place : ℕ) (time : Option PacketTime)
    (at : place_of flow table.rows ≡ Some place) where
  abbrev row : ConversationCount
  row = get_or table.rows place (new_row flow)

  found : (place < length table.rows) × (is_one_conversation flow row.flow ≡ true)
      × ((k : ℕ) → k < place → is_one_conversation flow (get_or table.rows k (new_row flow)).flow ≡ false)
  found = position-Some (λ each. is_one_conversation flow each.flow) table.rows place (new_row flow) at

  -- each other row belongs to another conversation
  others_apart : (k : ℕ) → k < length table.rows → (k ≡ place → ⊥)
      → is_one_conversation flow (get_or table.rows k (new_row flow)).flow ≡ false
  others_apart k within other = by (cases_lt k place)
    where
      by : (k < place) ⊎ (place ≤ k) → is_one_conversation flow (get_or table.rows k (new_row flow)).flow ≡ false
      by (inl before) = found.2 k before
      by (inr after) =
          one_conversation_congr flow row.flow (get_or table.rows k (new_row flow)).flow found.1
          ∙ is.conversations.apart place k (new_row flow) (omega (arith, after, other)) within

  abbrev more_rows : List ConversationCount
  more_rows = set table.rows place (row_counted flow len time row)

  more_counts : All (CountsBothDirections (packets ++ (Some flow, len, time) ∷ [])) more_rows
  more_counts k d within = by (cases_eq k place)
    where
      within_rows : k < length table.rows
      within_rows = omega (arith, within, length-set table.rows place (row_counted flow len time row))

      by : (k ≡ place) ⊎ (k ≡ place → ⊥) → CountsBothDirections (packets ++ (Some flow, len, time) ∷ []) (get_or more_rows k d)
      by (inl same) =
          subst (CountsBothDirections (packets ++ (Some flow, len, time) ∷ []))
          (sym (ap (λ i. get_or more_rows i d) same ∙ get_or-set_same table.rows place (row_counted flow len time row) d found.0))
          (row_one packets row flow len time found.1 (is.conversations.counts place (new_row flow) found.0))
      by (inr other) =
          subst (CountsBothDirections (packets ++ (Some flow, len, time) ∷ []))
          (get_or_default table.rows k (new_row flow) d within_rows
          ∙ sym (get_or-set_other table.rows place k (row_counted flow len time row) d other))
          (row_other packets (get_or table.rows k (new_row flow)) flow len time (others_apart k within_rows other)
          (is.conversations.counts k (new_row flow) within_rows))

  same_flows : (k : ℕ) (d : ConversationCount) → (get_or more_rows k d).flow ≡ (get_or table.rows k d).flow
  same_flows k d = by (cases_eq k place)
    where
      by : (k ≡ place) ⊎ (k ≡ place → ⊥) → (get_or more_rows k d).flow ≡ (get_or table.rows k d).flow
      by (inl same) =
          ap (λ i. (get_or more_rows i d).flow) same
          ∙ ap (λ each. each.flow) (get_or-set_same table.rows place (row_counted flow len time row) d found.0)
          ∙ row_flow flow len time row
          ∙ ap (λ each. each.flow) (get_or_default table.rows place (new_row flow) d found.0)
          ∙ sym (ap (λ i. (get_or table.rows i d).flow) same)
      by (inr other) = ap (λ each. each.flow) (get_or-set_other table.rows place k (row_counted flow len time row) d other)

  more_apart : AllPairs (λ one later. is_one_conversation one.flow later.flow ≡ false) more_rows
  more_apart i j d before within =
      ap (λ one. is_one_conversation one (get_or more_rows j d).flow) (same_flows i d)
      ∙ ap (λ later. is_one_conversation (get_or table.rows i d).flow later) (same_flows j d)
      ∙ is.conversations.apart i j d before (omega (arith, within, length-set table.rows place (row_counted flow len time row)))

  table_one : IsTableOf (packets ++ (Some flow, len, time) ∷ []) (record table { rows = more_rows })
  table_one = record {
    conversations = record { counts = more_counts; apart = more_apart };
    absent = λ room other none.
        let none_before : place_of other table.rows ≡ None =
        sym (position-set (λ each. is_one_conversation other each.flow) table.rows place (row_counted flow len time row) (new_row flow)
        (ap (is_one_conversation other) (row_flow flow len time row))) ∙ none in
        row_other packets (new_row other) flow len time (apart_place flow other table.rows place at none_before)
        (is.absent (omega (arith, room, length-set table.rows place (row_counted flow len time row))) other none_before);
  }

-- the table after a packet of a conversation without a row
module _ (packets : List Seen) (table : FlowTable) (is : IsTableOf packets table) (flow : Flow) (len : ℕ) (time : Option PacketTime)
    (none : place_of flow table.rows ≡ None) where
  counts_all : All (CountsBothDirections (packets ++ (Some flow, len, time) ∷ [])) table.rows
  counts_all k d within =
      row_other packets (get_or table.rows k d) flow len time (apart_None flow table.rows k d none within)
      (is.conversations.counts k d within)

  abbrev first : ConversationCount
  first = row_counted flow len time (new_row flow)

  option_or_None : (p q : Option ℕ) → option_or p q ≡ None → (p ≡ None) × (q ≡ None)
  option_or_None None q e = (refl, e)
  option_or_None (Some place) q e = absurd (true≢false (ap is_some e))

  cond_None : (b : Bool) (place : ℕ) → cond b (Some place) None ≡ None → b ≡ false
  cond_None true place e = absurd (true≢false (ap is_some e))
  cond_None false place e = refl

  table_first : length table.rows < max_conversations
      → IsTableOf (packets ++ (Some flow, len, time) ∷ []) (record table { rows = table.rows ++ first ∷ [] })
  table_first room = record {
    conversations = record {
      counts = All-push (CountsBothDirections (packets ++ (Some flow, len, time) ∷ [])) table.rows first counts_all
          (row_one packets (new_row flow) flow len time (one_conversation_itself flow) (is.absent room flow none));
      apart = all_pairs_push (λ one later. is_one_conversation one.flow later.flow ≡ false) table.rows first is.conversations.apart
          (λ k d within.
          ap (is_one_conversation (get_or table.rows k d).flow) (row_flow flow len time (new_row flow))
          ∙ one_conversation_symm (get_or table.rows k d).flow flow
          ∙ apart_None flow table.rows k d none within);
    };
    absent = λ still other absent.
        let both = option_or_None _ _ (sym (position_push (λ each. is_one_conversation other each.flow) table.rows first) ∙ absent) in
        let apart : is_one_conversation flow other ≡ false =
        one_conversation_symm flow other
        ∙ sym (ap (is_one_conversation other) (row_flow flow len time (new_row flow)))
        ∙ cond_None (is_one_conversation other first.flow) (length table.rows) both.1 in
        row_other packets (new_row other) flow len time apart (is.absent room other both.0);
  }

  table_full : max_conversations ≤ length table.rows
      → IsTableOf (packets ++ (Some flow, len, time) ∷ []) (record table { without_room = counted len table.without_room })
  table_full full = record {
    conversations = record { counts = counts_all; apart = is.conversations.apart };
    absent = λ room. absurd (omega (arith, room, full));
  }

-- the table after a packet without ports
table_none : (packets : List Seen) (table : FlowTable) (len : ℕ) (time : Option PacketTime) → IsTableOf packets table
    → IsTableOf (packets ++ (None, len, time) ∷ []) (record table { without_ports = counted len table.without_ports })
table_none packets table len time is = record {
  conversations = record {
    counts = λ k d within. row_none packets (get_or table.rows k d) len time (is.conversations.counts k d within);
    apart = is.conversations.apart;
  };
  absent = λ room flow none. row_none packets (new_row flow) len time (is.absent room flow none);
}

table_flow : (packets : List Seen) (table : FlowTable) (flow : Flow) (len : ℕ) (time : Option PacketTime) → IsTableOf packets table
    → IsTableOf (packets ++ (Some flow, len, time) ∷ []) (flow_counted flow len time table (place_of flow table.rows))
table_flow packets table flow len time is = by (place_of flow table.rows) refl
  where
    by_room : (b : Bool) → nat_lt (length table.rows) max_conversations ≡ b → place_of flow table.rows ≡ None
        → IsTableOf (packets ++ (Some flow, len, time) ∷ [])
        (cond b (record table { rows = table.rows ++ row_counted flow len time (new_row flow) ∷ [] })
        (record table { without_room = counted len table.without_room }))
    by_room true room none = table_first packets table is flow len time none (ltb-true _ _ room)
    by_room false full none = table_full packets table is flow len time none (ltb-false _ _ full)

    by : (p : Option ℕ) → place_of flow table.rows ≡ p
        → IsTableOf (packets ++ (Some flow, len, time) ∷ []) (flow_counted flow len time table p)
    by (Some place) at = table_one packets table is flow len place time at
    by None none = by_room (nat_lt (length table.rows) max_conversations) refl none

table_more : (packets : List Seen) (table : FlowTable) (packet : Seen) → IsTableOf packets table
    → IsTableOf (packets ++ packet ∷ []) (table_counted packet.0 packet.1 packet.2 table)
table_more packets table (None, len, time) is = table_none packets table len time is
table_more packets table (Some flow, len, time) is = table_flow packets table flow len time is

tables : (before packets : List Seen) (table : FlowTable) → IsTableOf before table
    → IsTableOf (before ++ packets) (fold (λ so_far packet. table_counted packet.0 packet.1 packet.2 so_far) table packets)
tables before [] table is = subst (λ all. IsTableOf all table) (sym (append-nil before)) is
tables before (packet ∷ packets) table is =
    subst (λ all. IsTableOf all (fold (λ so_far each. table_counted each.0 each.1 each.2 so_far)
    (table_counted packet.0 packet.1 packet.2 table) packets))
    (append_assoc before (packet ∷ []) packets)
    (tables (before ++ packet ∷ []) packets (table_counted packet.0 packet.1 packet.2 table) (table_more before table packet is))

of_no_packet : IsTableOf [] empty_table
of_no_packet = record {
  conversations = record {
    counts =
        λ k d within. absurd (omega (arith, within));
    apart = λ i j d before within. absurd (omega (arith, within));
  };
  absent = λ room flow none. record { forward = refl; reverse = refl; span = refl };
}

pub conversations_of : (packets : List Seen) → AreConversationsOf packets (table_of packets).rows
conversations_of packets = (tables [] packets empty_table of_no_packet).conversations
