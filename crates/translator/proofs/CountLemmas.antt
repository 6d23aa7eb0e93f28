-- The lines of the counts.
use Rattle.std.proofs.Common.{◌≡◌, ◌≤◌, ◌+◌, ◌<◌, ◌++◌, ◌∙◌, ℕ, List, [], ◌∷◌, OnOk, Option, Result, Ok, Err, ap, arith, drop, get_or, length, slice_index, subst, sym, take}
use Rattle.std.proofs.KnownBytes.{Appends-nil, Appends-trans}
use Rattle.std.proofs.lemmas.List.{flat_map_more, take_more}
use Rattle.std.specs.Io.KnownBytes.{Appends}
use Rattle.std.specs.List.{flat_map}
use Rattle.translator.specs.Outcomes.{protocol_line, protocol_lines}

-- the lines of items and of another item
pub line_more : {X : Type 0} (xs : List X) (line : X → List ℕ) (i : ℕ) (d : X) (a b c : Option (List ℕ))
    → Appends a b (flat_map line (take i xs)) → Appends b c (line (get_or xs i d)) → i < length xs
    → Appends a c (flat_map line (take (i + 1) xs))
line_more xs line i d a b c before one below =
    subst (Appends a c)
    (flat_map_more line [] (take i xs) (get_or xs i d) ∙ ap (flat_map line) (sym (take_more xs i d below)))
    (Appends-trans a b c (flat_map line (take i xs)) (line (get_or xs i d)) before one)

-- the line of the first protocol and the lines of the protocols after it
pub line_then : (a b z : Option (List ℕ)) (number count : ℕ) (counts rest : List ℕ) → 1 ≤ length counts → count ≡ slice_index counts 0
    → rest ≡ drop 1 counts → Appends a b (protocol_line number count) → Appends b z (protocol_lines (number + 1) rest)
    → Appends a z (protocol_lines number counts)
line_then a b z number count [] rest some first others line lines = absurd (omega (arith, some))
line_then a b z number count (one ∷ counts) rest some first others line lines =
    Appends-trans a b z (protocol_line number one) (protocol_lines (number + 1) counts)
    (subst (λ count. Appends a b (protocol_line number count)) first line)
    (subst (λ rest. Appends b z (protocol_lines (number + 1) rest)) others lines)

-- no protocol is left
pub no_line : (a : Option (List ℕ)) (number : ℕ) (counts : List ℕ) → length counts < 1 → Appends a a (protocol_lines number counts)
no_line a number [] none = Appends-nil a
no_line a number (count ∷ counts) none = absurd (omega (arith, none))

-- four parts of a text, of which the last was written if the result is not an error
pub four_parts : {T E : Type 0} (a b c d e : Option (List ℕ)) (first second third fourth : List ℕ) (result : Result T E) → Appends a b first
    → Appends b c second → Appends c d third → OnOk result (Appends d e fourth)
    → OnOk result (Appends a e (first ++ (second ++ (third ++ fourth))))
four_parts a b c d e first second third fourth (Ok done) one two three four =
    Appends-trans a b e first (second ++ (third ++ fourth)) one
    (Appends-trans b c e second (third ++ fourth) two (Appends-trans c d e third fourth three four))
four_parts a b c d e first second third fourth (Err error) one two three four = tt
