-- The count of an address in the table of the endpoints.
use Rattle.std.proofs.Common.{Ordering, Less, Equal, Greater, ◌≡◌, ℕ, ◌+◌, Bool, true, false, true≢false, cond, ◌||◌, List, [], ◌∷◌, Option, Some, None, refl, sym, ap, ap₂, ◌∙◌, arith}
use Rattle.std.proofs.lemmas.List.Sums.{sum_by-cons}
use Rattle.std.specs.BTreeMap.{insert_entry, is_at}
use Rattle.std.specs.Cmp.{IsTotalOrder, Equal-is, alike_right}
use Rattle.std.specs.Map.{lookup}
use Rattle.std.specs.Net.Socket.{socket_ip}
use Rattle.std.specs.Ordering.{is_eq, match_ordering}
use Rattle.std.specs.Prelude.{◌-◌, ◌^◌, filter, fold, min, sum_by, unwrap_or}
use Rattle.std.specs.contracts.net.ip_addr.IpAddrOrd.TheImpl.Laws as address_laws
use Rattle.std.specs.declared.net.ip_addr.IpAddr.{IpAddr}
use Rattle.capture_summary.specs.Conversations.{both, row_packets}
use Rattle.capture_summary.specs.Tables.{no_packets}
use Rattle.capture_summary.specs.Endpoints.{AddressTable, count_added, address_order, sum_of_counts, conversation_added, count_of_all, has_address, row_bytes, address_table}
use Rattle.capture_summary.specs.declared.count.Count.{Count}
use Rattle.capture_summary.specs.declared.conversation_count.ConversationCount.{ConversationCount}

-- ---- any keys

module _ {K X : Type 0} (order : K → K → Ordering) (total : IsTotalOrder order) where
  -- the value at a key after a value is inserted
  lookup_inserted : (k q : K) (value : X) (entries : List (K × X))
      → lookup (is_at (order q)) (insert_entry order entries k value)
      ≡ cond (is_at (order q) k) (Some value) (lookup (is_at (order q)) entries)
  lookup_inserted k q value [] = refl
  lookup_inserted k q value (entry ∷ entries) = by (order k entry.0) refl (lookup_inserted k q value entries)
    where
      at : K → Bool
      at = is_at (order q)

      same_place : {P : Type 0} (b c : Bool) (u v w : P) → b ≡ c → cond c u w ≡ cond b u (cond c v w)
      same_place true true u v w e = refl
      same_place true false u v w e = absurd (true≢false e)
      same_place false true u v w e = absurd (true≢false (sym e))
      same_place false false u v w e = refl

      other_place : {P : Type 0} (b c : Bool) (u v w : P) → (b ≡ true → c ≡ false) → cond c v (cond b u w) ≡ cond b u (cond c v w)
      other_place true true u v w not = absurd (true≢false (not refl))
      other_place true false u v w not = refl
      other_place false c u v w not = refl

      not_at : order k entry.0 ≡ Greater → at k ≡ true → at entry.0 ≡ false
      not_at greater here = ap is_eq (total.congr q k entry.0 ((Equal-is (order q k)).0 here) ∙ greater)

      by : (r : Ordering) → order k entry.0 ≡ r
          → lookup at (insert_entry order entries k value) ≡ cond (at k) (Some value) (lookup at entries)
          → lookup at (match_ordering r ((k, value) ∷ entry ∷ entries) ((entry.0, value) ∷ entries)
          (entry ∷ insert_entry order entries k value))
          ≡ cond (at k) (Some value) (lookup at (entry ∷ entries))
      by Less is step = refl
      by Equal is step =
          same_place (at k) (at entry.0) (Some value) (Some entry.1) (lookup at entries) (ap is_eq (alike_right total k entry.0 q is))
      by Greater is step =
          ap (cond (at entry.0) (Some entry.1)) step
          ∙ other_place (at k) (at entry.0) (Some value) (Some entry.1) (lookup at entries) (not_at is)

  -- equal keys have the same value
  lookup_alike : (k q : K) (entries : List (K × X)) → order q k ≡ Equal
      → lookup (is_at (order k)) entries ≡ lookup (is_at (order q)) entries
  lookup_alike k q [] same = refl
  lookup_alike k q (entry ∷ entries) same =
      ap₂ (λ b rest. cond b (Some entry.1) rest) (ap is_eq (sym (total.congr q k entry.0 same))) (lookup_alike k q entries same)

-- ---- the table

-- the count of an address in a table
abbrev find : IpAddr → AddressTable → Option Count
find address table = lookup (is_at (address_order address)) table

-- a count after another count is count_added
abbrev sum_with : Count → Option Count → Option Count
sum_with count before = Some (sum_of_counts (unwrap_or before no_packets) count)

abbrev is_at_address : IpAddr → IpAddr → Bool
is_at_address = λ address. is_at (address_order address)

find_count_added : (q address : IpAddr) (count : Count) (table : AddressTable)
    → find q (count_added address count table) ≡ cond (is_at_address q address) (sum_with count (find q table)) (find q table)
find_count_added q address count table =
    lookup_inserted address_order address_laws.total-law address q _ table
    ∙ by (is_at_address q address) refl
  where
    by : (b : Bool) → is_at_address q address ≡ b
        → cond b (sum_with count (find address table)) (find q table) ≡ cond b (sum_with count (find q table)) (find q table)
    by true here = ap (sum_with count) (lookup_alike address_order address_laws.total-law address q table ((Equal-is _).0 here))
    by false here = refl

-- ---- a conversation in the table

both_apart : {P : Type 0} (b c : Bool) (u v w : P) → (b ≡ true → c ≡ false) → cond c v (cond b u w) ≡ cond b u (cond c v w)
both_apart true true u v w not = absurd (true≢false (not refl))
both_apart true false u v w not = refl
both_apart false c u v w not = refl

module _ (q source destination : IpAddr) (count : Count) (table : AddressTable) where
  abbrev at_source : Bool
  at_source = is_at_address q source

  abbrev at_destination : Bool
  at_destination = is_at_address q destination

  abbrev after : Option Count
  after = sum_with count (find q table)

  -- the source and the destination are the same
  at_one : (b c : Bool) → b ≡ c → cond b after (find q table) ≡ cond (b || c) after (find q table)
  at_one true c e = refl
  at_one false true e = absurd (true≢false (sym e))
  at_one false false e = refl

  -- the source and the destination differ
  at_two : (b c : Bool) → at_source ≡ b → at_destination ≡ c → (b ≡ true → c ≡ false)
      → cond c (sum_with count (cond b after (find q table))) (cond b after (find q table)) ≡ cond (b || c) after (find q table)
  at_two true true p r not = absurd (true≢false (not refl))
  at_two true false p r not = refl
  at_two false true p r not = refl
  at_two false false p r not = refl

  differ : is_eq (address_order source destination) ≡ false → at_source ≡ true → at_destination ≡ false
  differ not here = ap is_eq (address_laws.total-law.congr q source destination ((Equal-is _).0 here)) ∙ not

  find_at_both : (b : Bool) → is_eq (address_order source destination) ≡ b
      → find q (cond b (count_added source count table) (count_added destination count (count_added source count table)))
      ≡ cond (at_source || at_destination) after (find q table)
  find_at_both true same =
      find_count_added q source count table
      ∙ at_one at_source at_destination (ap is_eq (alike_right address_laws.total-law source destination q ((Equal-is _).0 same)))
  find_at_both false not =
      find_count_added q destination count (count_added source count table)
      ∙ ap (λ before. cond at_destination (sum_with count before) before) (find_count_added q source count table)
      ∙ at_two at_source at_destination refl refl (differ not)

find_conversation : (q : IpAddr) (row : ConversationCount) (table : AddressTable)
    → find q (conversation_added table row) ≡ cond (has_address q row) (sum_with (both row) (find q table)) (find q table)
find_conversation q row table =
    let source = socket_ip row.flow.source in
    let destination = socket_ip row.flow.destination in
    ap (λ b. find q (cond b (count_added source (both row) table)
    (count_added destination (both row) (count_added source (both row) table))))
    (address_laws.matches_eq-law source destination)
    ∙ find_at_both q source destination (both row) table (is_eq (address_order source destination)) refl
    ∙ ap₂ (λ b c. cond (b || c) (sum_with (both row) (find q table)) (find q table))
    (sym (address_laws.matches_eq-law q source)) (sym (address_laws.matches_eq-law q destination))

-- ---- all conversations

-- the count of an address after these conversations of the address
abbrev after_all : Option Count → List ConversationCount → Option Count
after_all before [] = before
after_all before (row ∷ rows) = sum_with (count_of_all (row ∷ rows)) before

-- a count that is known
abbrev count_with : ℕ → ℕ → Option Count
count_with packets bytes = Some (record { packets = packets; bytes = bytes })

the_same : (packets bytes other_packets other_bytes : ℕ) → packets ≡ other_packets → bytes ≡ other_bytes
    → count_with packets bytes ≡ count_with other_packets other_bytes
the_same packets bytes other_packets other_bytes p b = ap₂ count_with p b

-- limited sums are the limited sum of all
limited : (most before one more all : ℕ) → all ≡ one + more
    → min (min (before + min one most) most + min more most) most ≡ min (before + min all most) most
limited most before one more all is = omega (arith, is)

sum_more : (before : Option Count) (row : ConversationCount) (rows : List ConversationCount)
    → after_all (sum_with (both row) before) rows ≡ sum_with (count_of_all (row ∷ rows)) before
sum_more before row [] =
    ap (λ count. sum_with count before)
    (ap₂ (λ (x y : ℕ). record { packets = min x (2 ^ 64 - 1); bytes = min y (2 ^ 64 - 1) })
    (sym (sum_by-cons row_packets row [] ∙ omega arith)) (sym (sum_by-cons row_bytes row [] ∙ omega arith)))
sum_more before row (next ∷ rows) =
    the_same _ _ _ _
    (limited (2 ^ 64 - 1) (unwrap_or before no_packets).packets (row_packets row) (sum_by row_packets (next ∷ rows))
    (sum_by row_packets (row ∷ next ∷ rows)) (sum_by-cons row_packets row (next ∷ rows)))
    (limited (2 ^ 64 - 1) (unwrap_or before no_packets).bytes (row_bytes row) (sum_by row_bytes (next ∷ rows))
    (sum_by row_bytes (row ∷ next ∷ rows)) (sum_by-cons row_bytes row (next ∷ rows)))

find_all : (q : IpAddr) (rows : List ConversationCount) (table : AddressTable)
    → find q (fold conversation_added table rows) ≡ after_all (find q table) (filter (has_address q) rows)
find_all q [] table = refl
find_all q (row ∷ rows) table =
    find_all q rows (conversation_added table row)
    ∙ ap (λ before. after_all before (filter (has_address q) rows)) (find_conversation q row table)
    ∙ by (has_address q row)
  where
    by : (b : Bool) → after_all (cond b (sum_with (both row) (find q table)) (find q table)) (filter (has_address q) rows)
        ≡ after_all (find q table) (cond b (row ∷ filter (has_address q) rows) (filter (has_address q) rows))
    by true = sum_more (find q table) row (filter (has_address q) rows)
    by false = refl

-- the count of an address that has these conversations, or nothing if it has none
abbrev pub count_if_any : List ConversationCount → Option Count
count_if_any [] = None
count_if_any (row ∷ rows) = Some (count_of_all (row ∷ rows))

sum_with_none : (rows : List ConversationCount) → after_all None rows ≡ count_if_any rows
sum_with_none [] = refl
sum_with_none (row ∷ rows) = the_same _ _ _ _ (none_before (2 ^ 64 - 1) (sum_by row_packets (row ∷ rows)))
    (none_before (2 ^ 64 - 1) (sum_by row_bytes (row ∷ rows)))
  where
    none_before : (most all : ℕ) → min (0 + min all most) most ≡ min all most
    none_before most all = omega arith

pub find_in_table : (q : IpAddr) (rows : List ConversationCount)
    → lookup (is_at (address_order q)) (address_table rows) ≡ count_if_any (filter (has_address q) rows)
find_in_table q rows = find_all q rows [] ∙ sum_with_none (filter (has_address q) rows)
