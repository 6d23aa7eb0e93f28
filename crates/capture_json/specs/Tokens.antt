-- The tokens of a line that is being written (the crate `json`). Only the calls that write a part of a line use these definitions.
use Rattle.std.specs.Prelude.{◌≡◌, ℕ, List, [], ◌∷◌, ◌++◌, codes, Option}
use Rattle.std.specs.List.{flat_map}
use Rattle.json.specs.Print.{print}
use Rattle.json.specs.Token as token
use Rattle.json.specs.Token.{Token}
use Rattle.json.specs.Tree.{json_tokens}
use Rattle.serde_json.specs.Data.{Data}
use Rattle.serde_json.specs.Written.{compact_text, outline}
use Rattle.capture_json.specs.JsonOptions.{AreOptionObjects}
use Rattle.capture_json.specs.Members.{Member}
use Rattle.tcp_part.specs.declared.tcp_raw_option_error.TcpRawOptionError.{TcpRawOptionError}
use Rattle.capture_json.specs.declared.line.Line.{Line}

-- the tokens of a line so far
abbrev pub tokens_in : Line → List Token
tokens_in line = line.writer.tokens

-- the tokens of a value
abbrev pub value_tokens : Data → List Token
value_tokens value = json_tokens (outline value)

-- ---- the tokens after writing a part

-- the tokens after writing a member
unfoldable pub put : List ℕ → Data → List Token → List Token
put name value before = before ++ token.key name ∷ value_tokens value

-- the tokens after writing these members in their order
abbrev pub with_members : List Member → List Token → List Token
with_members [] before = before
with_members (first ∷ more) before = with_members more (put first.0 first.1 before)

-- the tokens after writing an item of an array
unfoldable pub push : Data → List Token → List Token
push value before = before ++ value_tokens value

-- the tokens after writing these items of an array in their order
abbrev pub with_items : List Data → List Token → List Token
with_items [] before = before
with_items (first ∷ more) before = with_items more (push first before)

-- the tokens after writing the name of an object and its opening brace
abbrev pub object_begun : List ℕ → List Token → List Token
object_begun name before = before ++ token.key name ∷ token.begin_object ∷ []

-- the tokens after writing the name of an array and its opening bracket
abbrev pub array_begun : List ℕ → List Token → List Token
array_begun name before = before ++ token.key name ∷ token.begin_array ∷ []

-- the tokens after writing the closing brace of an object
abbrev pub object_ended : List Token → List Token
object_ended before = before ++ token.end_object ∷ []

-- the tokens after writing the closing bracket of an array
abbrev pub array_ended : List Token → List Token
array_ended before = before ++ token.end_array ∷ []

-- ---- statements

-- some members were written, and `Are` holds for these members
abbrev pub PutsOne : (List Member → Type 0) → List Token → List Token → Type 0
PutsOne Are before after = (members : List Member) × Are members × (after ≡ with_members members before)

-- a value was written as an item, and `IsItem` holds for this value
abbrev pub PushesItem : (Data → Type 0) → List Token → List Token → Type 0
PushesItem IsItem before after = (value : Data) × IsItem value × (after ≡ push value before)

-- the objects of the options in these bytes were written as items, up to the fault if there is a fault
abbrev pub PushesOptions : List ℕ → Option TcpRawOptionError → List Token → List Token → Type 0
PushesOptions bytes fault before after =
    (values : List Data) × AreOptionObjects bytes values fault × (after ≡ with_items values before)

-- the text of a line, given the tokens of its object without the closing brace; the brace and a line feed are added
abbrev pub line_text : List Token → List ℕ
line_text tokens = print (object_ended tokens) ++ codes "\n"

-- ---- an array that is written row by row

-- the code of a comma
abbrev pub comma : ℕ
comma = 44

-- the text of a later row: a comma, and then the row
abbrev pub later_row : {X : Type 0} → (X → Data) → X → List ℕ
later_row value row = comma ∷ compact_text (value row)

-- the texts of rows, with commas between them
abbrev pub rows_text : {X : Type 0} → (X → Data) → List X → List ℕ
rows_text value [] = []
rows_text value (first ∷ more) = compact_text (value first) ++ flat_map (later_row value) more
