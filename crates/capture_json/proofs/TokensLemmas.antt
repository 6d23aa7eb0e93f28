-- Tokens that are written in order, and their text.
use Rattle.std.specs.Prelude.{codes}
use Rattle.std.proofs.Common.{◌≡◌, ◌<◌, ◌+◌, ◌∙◌, ℕ, List, [], ◌∷◌, ◌++◌, Bool, true, false, ap, append_assoc, fold, get_or, length, map, refl, sym, take}
use Rattle.std.proofs.lemmas.List.{map_more}
use Rattle.std.specs.List.{flat_map}
use Rattle.json.specs.Print.{ends, print, print_from}
use Rattle.json.specs.Token as token
use Rattle.json.specs.Token.{Token}
use Rattle.json.specs.Tree.{items_tokens, members_tokens}
use Rattle.json.proofs.Printed.Tokens.{ends_push, print_from-append}
use Rattle.serde_json.specs.Data.{Data}
use Rattle.serde_json.specs.View.{items_of}
use Rattle.serde_json.specs.Written.{compact_text, items_outline, members_outline}
use Rattle.serde_json.proofs.Texts.{print-outline}
use Rattle.capture_json.specs.JsonPacket.{json_line}
use Rattle.capture_json.specs.Members.{Member, array_of, members_of, object_of}
use Rattle.capture_json.specs.Tokens.{array_begun, array_ended, later_row, line_text, object_begun, object_ended, push, put, rows_text, value_tokens, with_items, with_members}

pub with_append : (first second : List Member) (before : List Token)
    → with_members (first ++ second) before ≡ with_members second (with_members first before)
with_append [] second before = refl
with_append (one ∷ first) second before = with_append first second (put one.0 one.1 before)

pub items_append : (first second : List Data) (before : List Token)
    → with_items (first ++ second) before ≡ with_items second (with_items first before)
items_append [] second before = refl
items_append (one ∷ first) second before = items_append first second (push one before)

-- members and then other members were written
pub then_put : (first second : List Member) (before between after : List Token) → between ≡ with_members first before
    → after ≡ with_members second between → after ≡ with_members (first ++ second) before
then_put first second before between after is_first is_second =
    is_second ∙ ap (with_members second) is_first ∙ sym (with_append first second before)

-- the rows after another row
pub rows_more : {X : Type 0} (xs : List X) (row : X → Member) (i : ℕ) (d : X) (before between after : List Token) → i < length xs
    → between ≡ with_members (map row (take i xs)) before → after ≡ put (row (get_or xs i d)).0 (row (get_or xs i d)).1 between
    → after ≡ with_members (map row (take (i + 1) xs)) before
rows_more xs row i d before between after below is_first is_second =
    then_put (map row (take i xs)) (row (get_or xs i d) ∷ []) before between after is_first is_second
    ∙ sym (ap (λ rows. with_members rows before) (map_more row xs i d below))

-- a member with an equal name and an equal value
pub same_put : {name other : List ℕ} {value stored : Data} (others : List Token) → name ≡ other → value ≡ stored
    → put name value others ≡ put other stored others
same_put {name} {other} {value} {stored} others is_name is_value =
    ap (λ text. put text value others) is_name ∙ ap (λ one. put other one others) is_value

-- ---- braces and brackets

closed : (members : List Member) (before : List Token)
    → object_ended (with_members members before) ≡ before ++ members_tokens (members_outline (members_of members))
unfolding put
closed [] before = refl
closed (first ∷ more) before =
    closed more (put first.0 first.1 before)
    ∙ append_assoc before (token.key first.0 ∷ value_tokens first.1) (members_tokens (members_outline (members_of more)))

closed_items : (items : List Data) (before : List Token)
    → array_ended (with_items items before) ≡ before ++ items_tokens (items_outline (items_of items))
unfolding push
closed_items [] before = refl
closed_items (first ∷ more) before =
    closed_items more (push first before) ∙ append_assoc before (value_tokens first) (items_tokens (items_outline (items_of more)))

-- an object under a name was written
pub nested : (name : List ℕ) (members : List Member) (before : List Token)
    → object_ended (with_members members (object_begun name before)) ≡ put name (object_of members) before
unfolding put
nested name members before =
    closed members (object_begun name before)
    ∙ append_assoc before (token.key name ∷ token.begin_object ∷ []) (members_tokens (members_outline (members_of members)))

-- an array under a name was written
pub listed : (name : List ℕ) (items : List Data) (before : List Token)
    → array_ended (with_items items (array_begun name before)) ≡ put name (array_of items) before
unfolding put
listed name items before =
    closed_items items (array_begun name before)
    ∙ append_assoc before (token.key name ∷ token.begin_array ∷ []) (items_tokens (items_outline (items_of items)))

-- an object as an item was written
pub pushed : (members : List Member) (before : List Token)
    → object_ended (with_members members (before ++ token.begin_object ∷ [])) ≡ push (object_of members) before
unfolding push
pushed members before =
    closed members (before ++ token.begin_object ∷ [])
    ∙ append_assoc before (token.begin_object ∷ []) (members_tokens (members_outline (members_of members)))

-- an object was begun, filled and ended under a name
pub nested_by : (name : List ℕ) (members : List Member) (before begun filled after : List Token) → begun ≡ object_begun name before
    → filled ≡ with_members members begun → after ≡ object_ended filled → after ≡ put name (object_of members) before
nested_by name members before begun filled after is_begun is_filled is_ended =
    is_ended ∙ ap object_ended (is_filled ∙ ap (with_members members) is_begun) ∙ nested name members before

-- the members of some items; each item has a name
mapped : {X Z : Type 0} (member : Z → Member) (named : X → Z) (rows : List X)
    → map (λ row. member (named row)) rows ≡ map member (map named rows)
mapped member named [] = refl
mapped member named (row ∷ rows) = ap (λ more. member (named row) ∷ more) (mapped member named rows)

-- an object was begun, filled with the members, and ended
pub table_put : {X Z : Type 0} (name : List ℕ) (member : Z → Member) (named : X → Z) (rows : List X)
    (before begun filled after : List Token)
    → begun ≡ object_begun name before → filled ≡ with_members (map (λ row. member (named row)) rows) begun → after ≡ object_ended filled
    → after ≡ put name (object_of (map member (map named rows))) before
table_put name member named rows before begun filled after is_begun is_filled is_ended =
    is_ended
    ∙ ap object_ended
    (is_filled ∙ ap (with_members (map (λ row. member (named row)) rows)) is_begun
    ∙ ap (λ members. with_members members (object_begun name before)) (mapped member named rows))
    ∙ nested name (map member (map named rows)) before

-- ---- the text

-- the text of a line with these members is their line of JSON
pub line_is : (members : List Member) → line_text (with_members members (token.begin_object ∷ [])) ≡ json_line members
line_is members =
    ap (λ text. text ++ codes "\n") (ap print (closed members (token.begin_object ∷ [])) ∙ print-outline (object_of members))

-- the text of a value as a line
pub row_is : (value : Data) → print (push value []) ≡ compact_text value
unfolding push
row_is value = print-outline value

-- the tokens of an object end a value
ends_object : (later : Bool) (members : List Member) → fold (λ _ one. ends one) later (value_tokens (object_of members)) ≡ true
ends_object later members =
    ap (fold (λ _ one. ends one) later) (sym (closed members (token.begin_object ∷ [])))
    ∙ ends_push later (with_members members (token.begin_object ∷ [])) token.end_object

-- a comma precedes an object after a value
later_object : (members : List Member) → print_from true (value_tokens (object_of members)) ≡ 44 ∷ compact_text (object_of members)
unfolding print_from
later_object members = ap (λ text. 44 ∷ text) (print-outline (object_of members))

-- a comma precedes each row after a row
later_rows : {X : Type 0} (members : X → List Member) (rows : List X)
    → print_from true (flat_map (λ row. value_tokens (object_of (members row))) rows)
    ≡ flat_map (later_row (λ row. object_of (members row))) rows
unfolding print_from
later_rows members [] = refl
later_rows members (first ∷ more) =
    let rest = flat_map (λ row. value_tokens (object_of (members row))) more in
    print_from-append true (value_tokens (object_of (members first))) rest
    ∙ ap (λ text. text ++ print_from (fold (λ _ one. ends one) true (value_tokens (object_of (members first)))) rest)
    (later_object (members first))
    ∙ ap (λ text. 44 ∷ compact_text (object_of (members first)) ++ text)
    (ap (λ later. print_from later rest) (ends_object true (members first)) ∙ later_rows members more)

-- the text of rows has commas between them
rows_are : {X : Type 0} (members : X → List Member) (rows : List X)
    → print (flat_map (λ row. value_tokens (object_of (members row))) rows) ≡ rows_text (λ row. object_of (members row)) rows
unfolding print_from
rows_are members [] = refl
rows_are members (first ∷ more) =
    let rest = flat_map (λ row. value_tokens (object_of (members row))) more in
    print_from-append false (value_tokens (object_of (members first))) rest
    ∙ ap (λ text. text ++ print_from (fold (λ _ one. ends one) false (value_tokens (object_of (members first)))) rest)
    (print-outline (object_of (members first)))
    ∙ ap (λ text. compact_text (object_of (members first)) ++ text)
    (ap (λ later. print_from later rest) (ends_object false (members first)) ∙ later_rows members more)

-- the tokens of an array of rows are the tokens of the rows and the closing bracket
items_are : {X : Type 0} (value : X → Data) (rows : List X)
    → items_tokens (items_outline (items_of (map value rows))) ≡ flat_map (λ row. value_tokens (value row)) rows ++ token.end_array ∷ []
items_are value [] = refl
items_are value (first ∷ more) =
    ap (λ rest. value_tokens (value first) ++ rest) (items_are value more)
    ∙ sym (append_assoc (value_tokens (value first)) (flat_map (λ row. value_tokens (value row)) more) (token.end_array ∷ []))

-- no comma precedes a closing bracket
bracket_first : (later : Bool) (more : List Token) → print_from later (token.end_array ∷ more) ≡ print (token.end_array ∷ more)
unfolding print_from
bracket_first true more = refl
bracket_first false more = refl

-- an opening bracket does not end a value
begun_open : (name : List ℕ) (before : List Token) → fold (λ _ one. ends one) false (array_begun name before) ≡ false
begun_open name before =
    ap (fold (λ _ one. ends one) false) (sym (append_assoc before (token.key name ∷ []) (token.begin_array ∷ [])))
    ∙ ends_push false (before ++ token.key name ∷ []) token.begin_array

-- the text of three parts is the texts of the parts
three_parts : (name : List ℕ) (before middle more : List Token)
    → print (array_begun name before ++ (middle ++ token.end_array ∷ more))
    ≡ print (array_begun name before) ++ (print middle ++ print (token.end_array ∷ more))
three_parts name before middle more =
    let begun = array_begun name before in
    let rest = middle ++ token.end_array ∷ more in
    print_from-append false begun rest
    ∙ ap (λ later. print begun ++ print_from later rest) (begun_open name before)
    ∙ ap (λ text. print begun ++ text)
    (print_from-append false middle (token.end_array ∷ more)
    ∙ ap (λ text. print middle ++ text) (bracket_first (fold (λ _ one. ends one) false middle) more))

-- members, an array of rows, and more members: their tokens in three parts
parts : {X : Type 0} (name : List ℕ) (value : X → Data) (first more : List Member) (rows : List X) (start : List Token)
    → object_ended (with_members (first ++ (name, array_of (map value rows)) ∷ more) start)
    ≡ array_begun name (with_members first start)
    ++ (flat_map (λ row. value_tokens (value row)) rows ++ token.end_array ∷ members_tokens (members_outline (members_of more)))
unfolding put
parts name value first more rows start =
    let head = with_members first start in
    let middle = flat_map (λ row. value_tokens (value row)) rows in
    let end = members_tokens (members_outline (members_of more)) in
    ap object_ended (with_append first ((name, array_of (map value rows)) ∷ more) start)
    ∙ closed more (put name (array_of (map value rows)) head)
    ∙ append_assoc head (token.key name ∷ value_tokens (array_of (map value rows))) end
    ∙ ap (λ items. head ++ token.key name ∷ token.begin_array ∷ (items ++ end)) (items_are value rows)
    ∙ ap (λ items. head ++ token.key name ∷ token.begin_array ∷ items) (append_assoc middle (token.end_array ∷ []) end)
    ∙ sym (append_assoc head (token.key name ∷ token.begin_array ∷ []) (middle ++ token.end_array ∷ end))

-- the text of members after these tokens, if an array among them is written row by row
text_by_rows : {X : Type 0} (name : List ℕ) (members : X → List Member) (first more : List Member) (rows : List X) (start : List Token)
    → print (array_begun name (with_members first start))
    ++ (rows_text (λ row. object_of (members row)) rows ++ line_text (with_members more (token.end_array ∷ [])))
    ≡ line_text (with_members (first ++ (name, array_of (map (λ row. object_of (members row)) rows)) ∷ more) start)
text_by_rows {X} name members first more rows tokens =
    let value = λ (row : X). object_of (members row) in
    let head = with_members first tokens in
    let middle = flat_map (λ row. value_tokens (value row)) rows in
    let end = members_tokens (members_outline (members_of more)) in
    let feed = codes "\n" in
    let start = print (array_begun name head) in
    sym (ap (λ all. print all ++ feed) (parts name value first more rows tokens)
    ∙ ap (λ text. text ++ feed) (three_parts name head middle end)
    ∙ append_assoc start (print middle ++ print (token.end_array ∷ end)) feed
    ∙ ap (λ text. start ++ text) (append_assoc (print middle) (print (token.end_array ∷ end)) feed)
    ∙ ap (λ text. start ++ (text ++ (print (token.end_array ∷ end) ++ feed))) (rows_are members rows)
    ∙ ap (λ all. start ++ (rows_text value rows ++ (print all ++ feed))) (sym (closed more (token.end_array ∷ []))))

-- the text of a line in which two arrays are written row by row
pub line_by_two_rows : {X Y : Type 0} (name next : List ℕ) (members : X → List Member) (next_members : Y → List Member)
    (first more : List Member)
    (rows : List X) (others : List Y)
    → print (array_begun name (with_members first (token.begin_object ∷ [])))
    ++ (rows_text (λ row. object_of (members row)) rows
    ++ ((print (array_begun next (token.end_array ∷ [])) ++ rows_text (λ row. object_of (next_members row)) others)
    ++ line_text (with_members more (token.end_array ∷ []))))
    ≡ json_line (first ++ (name, array_of (map (λ row. object_of (members row)) rows))
    ∷ (next, array_of (map (λ row. object_of (next_members row)) others)) ∷ more)
line_by_two_rows {X} {Y} name next members next_members first more rows others =
    let begun = print (array_begun name (with_members first (token.begin_object ∷ []))) in
    let second : Member = (next, array_of (map (λ (row : Y). object_of (next_members row)) others)) in
    let begun_next = print (array_begun next (token.end_array ∷ [])) in
    let ended = line_text (with_members more (token.end_array ∷ [])) in
    ap (λ text. begun ++ (rows_text (λ (row : X). object_of (members row)) rows ++ text))
    (append_assoc begun_next (rows_text (λ (row : Y). object_of (next_members row)) others) ended
    ∙ text_by_rows next next_members [] more others (token.end_array ∷ []))
    ∙ text_by_rows name members first (second ∷ more) rows (token.begin_object ∷ [])
    ∙ line_is (first ++ (name, array_of (map (λ (row : X). object_of (members row)) rows)) ∷ second ∷ more)
