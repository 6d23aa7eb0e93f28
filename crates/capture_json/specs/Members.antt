-- JSON objects that are built from their members, in order, and arrays.
use Rattle.std.specs.Prelude.{ℕ, ℤ, pos, negsuc, List, [], ◌∷◌, map}
use Rattle.serde_json.specs.Data.{Data, Members, array, member, negative, no_members, number, object, string, unsigned}
use Rattle.serde_json.specs.View.{items_of}

-- a name and its value
abbrev pub Member : Type 0
Member = List ℕ × Data

-- the members of an object, in this order
abbrev pub members_of : List Member → Members
members_of [] = no_members
members_of (first ∷ more) = member first.0 first.1 (members_of more)

-- an object with these members
abbrev pub object_of : List Member → Data
object_of parts = object (members_of parts)

-- an array of these values
abbrev pub array_of : List Data → Data
array_of values = array (items_of values)

-- an array of texts
abbrev pub texts_data : List (List ℕ) → Data
texts_data texts = array_of (map string texts)

-- a whole number
abbrev pub whole_number : ℕ → Data
whole_number value = number (unsigned value)

-- a whole number that may be negative
abbrev pub integer : ℤ → Data
integer (pos value) = whole_number value
integer (negsuc value) = number (negative (negsuc value))
