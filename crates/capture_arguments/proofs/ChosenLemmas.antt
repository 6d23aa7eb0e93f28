-- For the values of options that choose packets.
use Rattle.std.proofs.Common.{◌≡◌, ◌+◌, ◌<◌, ◌≤◌, ◌∙◌, ℕ, Bool, true, false, IfSome, List, [], ◌∷◌, ◌++◌, MatchOption, Option, Some, None, ap, arith, drop, get_or, inl, inr, length, map, refl, set, subst, sym, take}
use Rattle.std.proofs.lemmas.List.Splits.{slice_split_first}
use Rattle.std.proofs.lemmas.List.{drop_more, length-drop, length-map, length-take-le, map-append, map_more, take-append-drop}
use Rattle.std.proofs.lemmas.Bool.{le-ltb, lt-ltb}
use Rattle.std.specs.Borrow.{Bor}
use Rattle.std.specs.List.{after_first, before_first, position_or_len, slice_split}
use Rattle.std.specs.Option.{option_map}
use Rattle.capture_summary.specs.declared.choice.PortRange.{PortRange}
use Rattle.capture_summary.specs.declared.choice.ChosenProtocol.{ChosenProtocol}
use Rattle.capture_arguments.specs.ProtocolNames.{IsSameName, Names}
use Rattle.capture_arguments.specs.Chosen.{AreEmpty, IsFirstWrong, IsNoRange, IsRangeBy, ReadsPlaces, ReadsRange, bounds_in, is_comma, is_dash, list_items}

-- if these places are empty, the places after the first are empty
empty_rest : {X : Type 0} (place : Option X) (places : List (Option X)) → AreEmpty (place ∷ places) → AreEmpty places
empty_rest None places empty = empty
empty_rest (Some value) places empty = absurd empty

-- the places after the value of another text is put in the next place
reads-one : {X : Type 0} (Reads : List ℕ → X → Type 0) (texts : List (List ℕ)) (text : List ℕ) (places : List (Option X)) (value : X)
    → ReadsPlaces Reads texts places → length texts < length places → Reads text value
    → ReadsPlaces Reads (texts ++ text ∷ []) (set places (length texts) (Some value))
reads-one Reads [] text [] value reads below one = absurd (omega arith)
reads-one Reads [] text (place ∷ places) value reads below one = (one, empty_rest place places reads)
reads-one Reads (first ∷ texts) text [] value reads below one = absurd reads
reads-one Reads (first ∷ texts) text (None ∷ places) value reads below one = absurd reads
reads-one Reads (first ∷ texts) text (Some old ∷ places) value reads below one =
    (reads.0, reads-one Reads texts text places value reads.1 (omega arith) one)

-- the places after another step of a loop
pub reads-step : {X Y : Type 0} (Reads : List ℕ → X → Type 0) (names : List Y) (named : Y → List ℕ) (place : ℕ) (d : Y)
    (places : List (Option X))
    (value : X) → place < length names → place < length places → ReadsPlaces Reads (map named (take place names)) places
    → Reads (named (get_or names place d)) value → ReadsPlaces Reads (map named (take (place + 1) names)) (set places place (Some value))
reads-step Reads names named place d places value below room reads one =
    let texts = map named (take place names) in
    let is_place : length texts ≡ place = length-map (take place names) named ∙ length-take-le place names (omega (arith, below)) in
    let next = reads-one Reads texts (named (get_or names place d)) places value reads (omega (arith, is_place, room)) one in
    subst (λ all. ReadsPlaces Reads all (set places place (Some value))) (sym (map_more named names place d below))
    (subst (λ at. ReadsPlaces Reads (texts ++ named (get_or names place d) ∷ []) (set places at (Some value))) is_place next)

-- the first elements of a list and the others, each mapped, are the mapped list
split_map : {X Y : Type 0} (named : Y → X) (place : ℕ) (names : List Y)
    → map named names ≡ map named (take place names) ++ map named (drop place names)
split_map named place names =
    ap (map named) (sym (take-append-drop place names)) ∙ map-append named (take place names) (drop place names)

-- the text for the next place is wrong, and the texts before it have values
pub first-wrong : {X Y : Type 0} (Reads : List ℕ → X → Type 0) (IsWrong : List ℕ → Type 0) (names : List Y) (named : Y → List ℕ) (place : ℕ)
    (d : Y)
    (values : List (Option X)) → place < length names → ReadsPlaces Reads (map named (take place names)) values
    → IsWrong (named (get_or names place d)) → IsFirstWrong Reads IsWrong (map named names) (named (get_or names place d))
first-wrong Reads IsWrong names named place d values below reads wrong = record {
  before = map named (take place names);
  after = map named (drop (place + 1) names);
  values = values;
  is_among = split_map named place names ∙ ap (λ rest. map named (take place names) ++ map named rest) (drop_more names place d below);
  are_read = reads;
  is_wrong = wrong;
}

-- a list without a separator is one item, by the test of its first byte
one_item_by : (is_separator : ℕ → Bool) (byte : ℕ) (list : List ℕ) (test : Bool) → is_separator byte ≡ test
    → (position_or_len is_separator list ≡ length list → slice_split is_separator list ≡ list ∷ [])
    → position_or_len is_separator (byte ∷ list) ≡ length (byte ∷ list) → slice_split is_separator (byte ∷ list) ≡ (byte ∷ list) ∷ []
one_item_by is_separator byte list true is rest whole = absurd (omega (arith, rw is at whole))
one_item_by is_separator byte list false is rest whole = rw (is, rest (omega (arith, rw is at whole))) refl

-- a list without a separator is one item
pub one_item : (is_separator : ℕ → Bool) (list : List ℕ) → position_or_len is_separator list ≡ length list
    → slice_split is_separator list ≡ list ∷ []
one_item is_separator [] whole = refl
one_item is_separator (byte ∷ list) whole = one_item_by is_separator byte list (is_separator byte) refl (one_item is_separator list) whole

-- the texts before and after the first `-`, as `split_once` returns them
pub bounds_by : (text : List ℕ) (parts : Option (Bor (List ℕ) × Bor (List ℕ)))
    → MatchOption parts (position_or_len is_dash text ≡ length text)
    (λ two. (position_or_len is_dash text < length text) × (two.0.now ≡ before_first is_dash text) × (two.1.now ≡ after_first is_dash text))
    → option_map (λ bounds. (bounds.0.now, bounds.1.now)) parts ≡ bounds_in text
bounds_by text None whole = rw (le-ltb (position_or_len is_dash text) (length text) (omega (arith, whole))) refl
bounds_by text (Some two) split = rw (lt-ltb (position_or_len is_dash text) (length text) split.0, split.1, split.2) refl

-- a range by the bounds of its text
pub range_by : (text : List ℕ) (bounds : Option (List ℕ × List ℕ)) (range : Option PortRange) → bounds_in text ≡ bounds
    → MatchOption range ((one : PortRange) → ¬ (IsRangeBy text bounds one)) (IsRangeBy text bounds)
    → MatchOption range (IsNoRange text) (ReadsRange text)
range_by text bounds range is by =
    subst (λ found. MatchOption range ((one : PortRange) → ¬ (IsRangeBy text found one)) (IsRangeBy text found)) (sym is) by

-- the first item of a list, as `split_once` returns it
pub cut_by : (list : List ℕ) (cut : Option (Bor (List ℕ) × Bor (List ℕ)))
    → MatchOption cut (position_or_len is_comma list ≡ length list)
    (λ two. (position_or_len is_comma list < length list) × (two.0.now ≡ before_first is_comma list)
    × (two.1.now ≡ after_first is_comma list))
    → MatchOption cut (list_items list ≡ list ∷ []) (λ two. list_items list ≡ two.0.now ∷ list_items two.1.now)
cut_by list None whole = one_item is_comma list whole
cut_by list (Some two) split = rw (split.1, split.2) (slice_split_first is_comma list 0 split.0)

-- the list after the first item is shorter
pub cut_shorter : (list : List ℕ) (cut : Option (Bor (List ℕ) × Bor (List ℕ)))
    → MatchOption cut (position_or_len is_comma list ≡ length list)
    (λ two. (position_or_len is_comma list < length list) × (two.0.now ≡ before_first is_comma list)
    × (two.1.now ≡ after_first is_comma list))
    → IfSome cut (λ two. length two.1.now < length list)
cut_shorter list None whole = tt
cut_shorter list (Some two) split = rw split.2 (omega (arith, split.0, length-drop (position_or_len is_comma list + 1) list))

-- ---- names of protocols

-- a row of the table of names, by its value
abbrev pub row_of : Bor (List ℕ) × ChosenProtocol → List ℕ × ChosenProtocol
row_of row = (row.0.now, row.1)

-- the first row has the name
pub first_named : (rows : List (Bor (List ℕ) × ChosenProtocol)) (d : Bor (List ℕ) × ChosenProtocol) (name : List ℕ)
    (found : Option ChosenProtocol)
    → 1 ≤ length rows → IsSameName (get_or rows 0 d).0.now name → found ≡ Some (get_or rows 0 d).1 → Names (map row_of rows) name found
first_named [] d name found some same is = absurd (omega (arith, some))
first_named (row ∷ rows) d name found some same is = inl (same, is)

-- the first row has another name
pub next_named : (rows : List (Bor (List ℕ) × ChosenProtocol)) (d : Bor (List ℕ) × ChosenProtocol) (name : List ℕ)
    (found : Option ChosenProtocol)
    → 1 ≤ length rows → (IsSameName (get_or rows 0 d).0.now name → ⊥) → Names (map row_of (drop 1 rows)) name found
    → Names (map row_of rows) name found
next_named [] d name found some other others = absurd (omega (arith, some))
next_named (row ∷ rows) d name found some other others = inr (other, others)

-- there is no row
pub none_named : (rows : List (Bor (List ℕ) × ChosenProtocol)) (name : List ℕ) → length rows < 1 → Names (map row_of rows) name None
none_named [] name none = refl
none_named (row ∷ rows) name none = absurd (omega (arith, none))
