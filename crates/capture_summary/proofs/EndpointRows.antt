-- Each address is the address of at most one endpoint.
use Rattle.std.proofs.Common.{◌≡◌, ℕ, ◌+◌, ◌≤◌, Bool, true, false, cond, List, [], ◌∷◌, ◌++◌, length, map, take, drop, Option, Some, None, refl, sym, ap, ap₂, subst, ◌∙◌, append-nil, arith, rules, take-append-drop}
use Rattle.std.proofs.lemmas.Bool.{cond-true, cond-false}
use Rattle.std.proofs.lemmas.List.{length-take}
use Rattle.std.proofs.lemmas.List.Elements.{filter_agree}
use Rattle.std.proofs.lemmas.Map.{NonePasses}
use Rattle.std.proofs.lemmas.Map.Entries.{none_past_head}
use Rattle.std.proofs.lemmas.Map.Keys.{IsDistinct-from_sorted, IsDistinct-tail}
use Rattle.std.proofs.lemmas.Cmp.{eq_by_cmp_equiv}
use Rattle.std.specs.Cmp.{IsEquivalence}
use Rattle.std.specs.List.{IsDistinct}
use Rattle.std.specs.List.Sorted.{IsStrictlySortedBy}
use Rattle.std.specs.Map.{keys_of, lookup}
use Rattle.std.specs.Ordering.{eq_by_cmp, is_eq}
use Rattle.std.specs.Prelude.{filter, fold}
use Rattle.std.specs.contracts.net.ip_addr.IpAddrOrd.TheImpl.Laws as address_laws
use Rattle.std.specs.declared.net.ip_addr.IpAddr.{IpAddr}
use Rattle.capture_summary.proofs.EndpointOrder.{before_weak}
use Rattle.capture_summary.proofs.EndpointTable.{count_if_any, find_in_table}
use Rattle.capture_summary.proofs.RankingOrder.{fold-ranking}
use Rattle.capture_summary.specs.Endpoints.{AddressTable, AreBusiestEndpoints, address_order, busiest_endpoints, endpoint_row, endpoint_of, has_address, is_before, is_same_address, address_table}
use Rattle.capture_summary.specs.Ranking.{IsRanking, ranked, ranking_of}
use Rattle.capture_summary.specs.declared.conversation_count.ConversationCount.{ConversationCount}
use Rattle.capture_summary.specs.declared.endpoint_count.EndpointCount.{EndpointCount}

-- ---- the rows of a table of different keys

-- the row of a key, if there is one
abbrev row_of : {K X : Type 0} → K → Option X → List (K × X)
row_of key None = []
row_of key (Some value) = (key, value) ∷ []

none_pass : {K X : Type 0} (test : K → Bool) (rows : List (K × X)) → NonePasses test rows → filter (λ row. test row.0) rows ≡ []
none_pass test [] none = refl
none_pass test (row ∷ rows) none = cond-false _ _ _ none.0 ∙ none_pass test rows none.1

pub only_row : {K X : Type 0} (same : K → K → Bool) → IsEquivalence same → ((x y : K) → same x y ≡ true → x ≡ y)
    → (q : K) (rows : List (K × X))
    → IsDistinct same (keys_of rows) → filter (λ row. same q row.0) rows ≡ row_of q (lookup (same q) rows)
only_row same equal exact q [] apart = refl
only_row {K} {X} same equal exact q (row ∷ rows) apart =
    by (same q row.0) refl (only_row same equal exact q rows (IsDistinct-tail same row.0 (keys_of rows) apart))
  where
    by : (b : Bool) → same q row.0 ≡ b → filter (λ (each : K × X). same q each.0) rows ≡ row_of q (lookup (same q) rows)
        → cond b (row ∷ filter (λ (each : K × X). same q each.0) rows) (filter (λ (each : K × X). same q each.0) rows)
        ≡ row_of q (cond b (Some row.1) (lookup (same q) rows))
    by true here step =
        ap₂ (λ key rest. (key, row.1) ∷ rest) (sym (exact q row.0 here))
        (none_pass (same q) rows (none_past_head equal q row rows apart here))
    by false not step = step

-- ---- a ranking has the same rows that pass a test

module _ {Row : Type 0} (precedes : Row → Row → Bool) (test : Row → Bool) where
  without : (row : Row) (rows : List Row) → test row ≡ false → filter test (ranked precedes rows row) ≡ filter test rows
  without row [] not = cond-false _ _ _ not
  without row (first ∷ rows) not = by (precedes row first) (without row rows not)
    where
      by : (b : Bool) → filter test (ranked precedes rows row) ≡ filter test rows
          → filter test (cond b (row ∷ first ∷ rows) (first ∷ ranked precedes rows row)) ≡ filter test (first ∷ rows)
      by true step = cond-false _ _ _ not
      by false step = ap (λ rest. cond (test first) (first ∷ rest) rest) step

  none_after : (first : Row) (rows : List Row) → filter test (first ∷ rows) ≡ [] → (test first ≡ false) × (filter test rows ≡ [])
  none_after first rows none = by (test first) refl none
    where
      by : (b : Bool) → test first ≡ b → cond b (first ∷ filter test rows) (filter test rows) ≡ []
          → (test first ≡ false) × (filter test rows ≡ [])
      by true here none = cc none
      by false not none = (not, none)

  with_one : (row : Row) (rows : List Row) → test row ≡ true → filter test rows ≡ [] → filter test (ranked precedes rows row) ≡ row ∷ []
  with_one row [] here none = cond-true _ _ _ here
  with_one row (first ∷ rows) here none = by (precedes row first) (with_one row rows here (none_after first rows none).1)
    where
      by : (b : Bool) → filter test (ranked precedes rows row) ≡ row ∷ []
          → filter test (cond b (row ∷ first ∷ rows) (first ∷ ranked precedes rows row)) ≡ row ∷ []
      by true step = cond-true _ _ _ here ∙ ap (λ rest. row ∷ rest) none
      by false step = cond-false _ _ _ (none_after first rows none).0 ∙ step

  none_left : (n : ℕ) (rows : List Row) → n + length rows ≤ 0 → rows ≡ []
  none_left n [] few = refl
  none_left n (row ∷ rows) few = absurd (omega (arith, few))

  pub one_ranked : (rows ranking : List Row) → length (filter test ranking) + length (filter test rows) ≤ 1
      → filter test (fold (ranked precedes) ranking rows) ≡ filter test ranking ++ filter test rows
  one_ranked [] ranking few = sym (append-nil (filter test ranking))
  one_ranked (row ∷ rows) ranking few = by (test row) refl few (one_ranked rows (ranked precedes ranking row))
    where
      by : (b : Bool) → test row ≡ b → length (filter test ranking) + length (cond b (row ∷ filter test rows) (filter test rows)) ≤ 1
          → (length (filter test (ranked precedes ranking row)) + length (filter test rows) ≤ 1
          → filter test (fold (ranked precedes) (ranked precedes ranking row) rows) ≡ filter test (ranked precedes ranking row)
          ++ filter test rows)
          → filter test (fold (ranked precedes) (ranked precedes ranking row) rows) ≡ filter test ranking
          ++ cond b (row ∷ filter test rows) (filter test rows)
      by true here few step =
          let none_ranked : filter test ranking ≡ [] = none_left 0 (filter test ranking) (omega (arith, few)) in
          let none_more : filter test rows ≡ [] = none_left 0 (filter test rows) (omega (arith, few)) in
          let one = with_one row ranking here none_ranked in
          step (omega (arith, ap length one, ap length none_more))
          ∙ ap (λ first. first ++ filter test rows) one
          ∙ ap (λ first. first ++ row ∷ filter test rows) (sym none_ranked)
      by false not few step =
          let same = without row ranking not in
          step (subst (λ first. length first + length (filter test rows) ≤ 1) (sym same) few)
          ∙ ap (λ first. first ++ filter test rows) same

-- ---- endpoints

filter_endpoints : (test : IpAddr → Bool) (table : AddressTable)
    → filter (λ row. test row.address) (map endpoint_row table) ≡ map endpoint_row (filter (λ row. test row.0) table)
filter_endpoints test [] = refl
filter_endpoints test (row ∷ table) = by (test row.0) (filter_endpoints test table)
  where
    by : (b : Bool) → filter (λ each. test each.address) (map endpoint_row table) ≡ map endpoint_row (filter (λ each. test each.0) table)
        → cond b (endpoint_row row ∷ filter (λ each. test each.address) (map endpoint_row table))
        (filter (λ each. test each.address) (map endpoint_row table))
        ≡ map endpoint_row (cond b (row ∷ filter (λ each. test each.0) table) (filter (λ each. test each.0) table))
    by true step = ap (λ rest. endpoint_row row ∷ rest) step
    by false step = step

as_endpoint : (address : IpAddr) (rows : List ConversationCount)
    → map endpoint_row (row_of address (count_if_any rows)) ≡ endpoint_of address rows
as_endpoint address [] = refl
as_endpoint address (row ∷ rows) = refl

at_most_one : (address : IpAddr) (rows : List ConversationCount) → length (endpoint_of address rows) ≤ 1
at_most_one address [] = omega arith
at_most_one address (row ∷ rows) = omega arith

same_address : (x y : IpAddr) → is_same_address x y ≡ true → x ≡ y
same_address x y same = search rules

in_table : (address : IpAddr) (rows : List ConversationCount) → IsStrictlySortedBy address_order (keys_of (address_table rows))
    → filter (λ row. is_same_address address row.address) (map endpoint_row (address_table rows))
    ≡ endpoint_of address (filter (has_address address) rows)
in_table address rows ordered =
    filter_endpoints (is_same_address address) (address_table rows)
    ∙ ap (map endpoint_row)
    (filter_agree _ _ (λ row. address_laws.matches_eq-law address row.0) (address_table rows)
    ∙ only_row (eq_by_cmp address_order) (eq_by_cmp_equiv address_laws.total-law) exact address (address_table rows)
    (IsDistinct-from_sorted address_order (keys_of (address_table rows)) ordered)
    ∙ ap (row_of address) (find_in_table address rows))
    ∙ as_endpoint address (filter (has_address address) rows)
  where
    exact : (x y : IpAddr) → is_eq (address_order x y) ≡ true → x ≡ y
    exact x y same = same_address x y (address_laws.matches_eq-law x y ∙ same)

pub are_busiest_endpoints : (top : ℕ) (rows : List ConversationCount) → IsStrictlySortedBy address_order (keys_of (address_table rows))
    → AreBusiestEndpoints top rows (busiest_endpoints top rows)
are_busiest_endpoints top rows ordered =
    let all : List EndpointCount = ranking_of is_before (map endpoint_row (address_table rows)) in
    let whole : take top all ++ drop top all ≡ all = take-append-drop top all in
    record {
      left_out = drop top all;
      each = λ address.
          let test = λ (row : EndpointCount). is_same_address address row.address in
          let found = in_table address rows ordered in
          let few = subst (λ found. length found ≤ 1) (sym found) (at_most_one address (filter (has_address address) rows)) in
          ap (filter test) whole
          ∙ one_ranked is_before test (map endpoint_row (address_table rows)) []
          (omega (arith, few))
          ∙ found;
      count = omega (arith, length-take top all, ap length whole);
      ranking = subst (IsRanking is_before) (sym whole) (fold-ranking is_before before_weak (map endpoint_row (address_table rows)) [] tt);
    }
