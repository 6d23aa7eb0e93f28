-- Laws of the map of places, which depends on the rows.
use Rattle.std.proofs.Common.{◌≡◌, ℕ, ◌+◌, ◌<◌, ◌≤◌, Bool, true, false, cond, List, [], ◌∷◌, ◌++◌, length, set, get_or, refl, sym, ap, ◌∙◌, arith}
use Rattle.std.proofs.lemmas.List.Quantifiers.{position-Some}
use Rattle.std.proofs.lemmas.List.Sums.{get_or-le-sum_by, sum_by-append, sum_by-set}
use Rattle.std.specs.HashMap.{get, HashMap, Updates}
use Rattle.std.specs.Option.{option_or}
use Rattle.std.specs.Prelude.{Option, Some, None, sum_by}
use Rattle.capture_summary.proofs.ConversationLemmas.{one_conversation_congr, one_conversation_is, one_conversation_symm}
use Rattle.capture_summary.proofs.FlowLemmas.{position-alike, position-set, position_push}
use Rattle.capture_summary.specs.Conversations.{canonical, is_one_conversation, is_same_flow, new_row, row_packets}
use Rattle.capture_summary.specs.FlowPlaces.{ArePlaces}
use Rattle.capture_summary.specs.FlowTable.{FlowTable, packets_counted, place_of}
use Rattle.capture_summary.specs.declared.conversation_count.ConversationCount.{ConversationCount}
use Rattle.capture_summary.specs.declared.flow.Flow.{Flow}

-- the map after the conversation of a flow is added, with its row at the end
pub ArePlaces_push : {S : Type 0} (places more : HashMap Flow ℕ S) (rows : List ConversationCount) (row : ConversationCount) (place : ℕ)
    (first key : Flow)
    → ArePlaces places rows → row.flow ≡ first → place_of first rows ≡ None → place ≡ length rows → key ≡ canonical first
    → Updates is_same_flow places more key (Some place) → ArePlaces more (rows ++ row ∷ [])
ArePlaces_push places more rows row place first key are named absent at_end key_is updates flow =
    updates.0 (canonical flow)
    ∙ ap (λ k. cond (is_same_flow k (canonical flow)) (Some place) (get is_same_flow places (canonical flow))) key_is
    ∙ ap (λ p. cond (is_same_flow (canonical first) (canonical flow)) (Some p) (get is_same_flow places (canonical flow))) at_end
    ∙ ap (cond (is_same_flow (canonical first) (canonical flow)) (Some (length rows))) (are flow)
    ∙ sym (ap (λ b. cond b (Some (length rows)) (place_of flow rows)) (one_conversation_is first flow))
    ∙ by (is_one_conversation first flow) refl
    ∙ sym (ap (λ other. option_or (place_of flow rows) (cond (is_one_conversation flow other) (Some (length rows)) None)) named)
    ∙ sym (position_push (λ other. is_one_conversation flow other.flow) rows row)
  where
    one_place : is_one_conversation first flow ≡ true → place_of flow rows ≡ None
    one_place same = position-alike _ _ (λ other. sym (one_conversation_congr first flow other.flow same)) rows ∙ absent

    none_is : (p : Option ℕ) → p ≡ option_or p None
    none_is None = refl
    none_is (Some place) = refl

    by : (b : Bool) → is_one_conversation first flow ≡ b
        → cond b (Some (length rows)) (place_of flow rows)
        ≡ option_or (place_of flow rows) (cond (is_one_conversation flow first) (Some (length rows)) None)
    by true same =
        sym (ap (λ p. option_or p (cond (is_one_conversation flow first) (Some (length rows)) None)) (one_place same)
        ∙ ap (λ b. cond b (Some (length rows)) None) (one_conversation_symm flow first ∙ same))
    by false other =
        none_is (place_of flow rows)
        ∙ sym (ap (λ b. option_or (place_of flow rows) (cond b (Some (length rows)) None)) (one_conversation_symm flow first ∙ other))

-- the map after a row gets other counts
pub ArePlaces_set : {S : Type 0} (places : HashMap Flow ℕ S) (rows : List ConversationCount) (place : ℕ) (row more : ConversationCount)
    → ArePlaces places rows → row ≡ get_or rows place row → more.flow ≡ row.flow → ArePlaces places (set rows place more)
ArePlaces_set places rows place row more are at same flow =
    are flow
    ∙ sym (position-set (λ other. is_one_conversation flow other.flow) rows place more row
    (ap (is_one_conversation flow) (same ∙ ap (λ other. other.flow) at)))

-- a place that was found is the place of a row
pub place_within : {S : Type 0} (places : HashMap Flow ℕ S) (rows : List ConversationCount) (flow key : Flow) (place : ℕ)
    → ArePlaces places rows → key ≡ canonical flow → Some place ≡ get is_same_flow places key → place < length rows
place_within places rows flow key place are key_is found =
    (position-Some (λ row. is_one_conversation flow row.flow) rows place (new_row flow)
    (sym (found ∙ ap (get is_same_flow places) key_is ∙ are flow))).0

-- a row counts no more packets than the table
pub row_below : (table : FlowTable) (place limit : ℕ) (row : ConversationCount) → row ≡ get_or table.rows place row
    → place < length table.rows
    → packets_counted table < limit → row_packets row < limit
row_below table place limit row at within below =
    let same : row_packets row ≡ row_packets (get_or table.rows place row) = ap row_packets at in
    let least : row_packets (get_or table.rows place row) ≤ sum_by row_packets table.rows =
    get_or-le-sum_by row_packets table.rows place row within in
    omega (arith, same, least, below)

-- if a row counts another packet, the table counts another packet
pub one_in_row : (table : FlowTable) (place : ℕ) (row more : ConversationCount) → row ≡ get_or table.rows place row
    → place < length table.rows
    → row_packets more ≡ row_packets row + 1 → packets_counted (record table { rows = set table.rows place more }) ≡ packets_counted table
    + 1
one_in_row table place row more at within one =
    let same : row_packets row ≡ row_packets (get_or table.rows place row) = ap row_packets at in
    let sums = sum_by-set row_packets table.rows place more row within in
    omega (arith, same, sums, one)

-- if a row with one packet is added, the table counts another packet
pub one_more_row : (table : FlowTable) (packets : ℕ) (row : ConversationCount) → packets ≡ packets_counted table → row_packets row ≡ 1
    → packets + 1 ≡ packets_counted (record table { rows = table.rows ++ row ∷ [] })
one_more_row table packets row count one = omega (arith, count, one, sum_by-append row_packets table.rows (row ∷ []))
