-- Laws of the texts of TCP options: another text, and the end.
use Rattle.std.specs.Prelude.{ℕ, Bool, true, false, List, ◌++◌, ◌∷◌, [], ◌==◌, ◌<◌, OnOk, Option, codes, if◌then◌else◌, length, slice_index}
use Rattle.std.proofs.Common.{◌≡◌, ◌∙◌, Result, ap, append-nil, append_assoc, arith, inl, inr, refl, subst, sym, true≢false}
use Rattle.std.proofs.KnownBytes.{Appends-trans}
use Rattle.std.proofs.lemmas.Bool.{eqb-true}
use Rattle.std.proofs.lemmas.List.{flat_map_more}
use Rattle.std.specs.Io.KnownBytes.{Appends}
use Rattle.tcp_part.specs.TcpOptionsReading.{Ends}
use Rattle.capture_words.specs.TcpText.{AreOptionTexts, IsListText, IsOptionsText, listed}
use Rattle.capture_words.specs.Written.{AppendsOne}
use Rattle.capture_words.proofs.WrittenLemmas.{one_then}

-- the separator before a text: a comma, unless it is the first text
abbrev pub separator : Bool → List ℕ
separator is_first = if is_first then [] else codes ", "

-- whether there is no text yet
abbrev pub is_none : List (List ℕ) → Bool
is_none [] = true
is_none (text ∷ texts) = false

-- the list of texts after another text is added
listed_push : (texts : List (List ℕ)) (text : List ℕ) → listed texts ++ (separator (is_none texts) ++ text) ≡ listed (texts ++ text ∷ [])
listed_push [] text = sym (append-nil text)
listed_push (first ∷ texts) text = flat_map_more (λ other. codes ", " ++ other) first texts text

-- the next text is not the first after another text is added
pub not_first : (texts : List (List ℕ)) (text : List ℕ) → false ≡ is_none (texts ++ text ∷ [])
not_first [] text = refl
not_first (first ∷ texts) text = refl

-- the list of texts after a comma, if needed, and another text are added
list_more_is : (texts : List (List ℕ)) (text : List ℕ) (is_first : Bool) → is_first ≡ is_none texts
    → (listed texts ++ separator is_first) ++ text ≡ listed (texts ++ text ∷ [])
list_more_is texts text is_first first =
    append_assoc (listed texts) (separator is_first) text
    ∙ ap (λ none. listed texts ++ (separator none ++ text)) first
    ∙ listed_push texts text

pub list_more : (a b c d : Option (List ℕ)) (texts : List (List ℕ)) (text : List ℕ) (is_first : Bool) → is_first ≡ is_none texts
    → Appends a b (listed texts) → Appends b c (separator is_first) → Appends c d text → Appends a d (listed (texts ++ text ∷ []))
list_more a b c d texts text is_first first p q r =
    subst (Appends a d) (list_more_is texts text is_first first)
    (Appends-trans a c d (listed texts ++ separator is_first) text (Appends-trans a b c (listed texts) (separator is_first) p q) r)

-- the last text was written
pub list_last : {T E : Type 0} (r : Result T E) (a b c d : Option (List ℕ)) (bytes : List ℕ) (texts : List (List ℕ)) (text : List ℕ)
    (is_first : Bool)
    → is_first ≡ is_none texts → AreOptionTexts bytes (texts ++ text ∷ [])
    → Appends a b (listed texts) → Appends b c (separator is_first) → OnOk r (Appends c d text) → OnOk r (AppendsOne a d (IsListText bytes))
list_last r a b c d bytes texts text is_first first are p q =
    one_then r a c d (listed texts ++ separator is_first) text (IsListText bytes)
    (Appends-trans a b c (listed texts) (separator is_first) p q)
    (texts ++ text ∷ [], are, list_more_is texts text is_first first)

-- no byte is left
pub is_nil : (bytes : List ℕ) → true ≡ (length bytes == 0) → bytes ≡ []
is_nil [] empty = refl
is_nil (byte ∷ bytes) empty = let none = eqb-true (length (byte ∷ bytes)) 0 (sym empty) in absurd (omega arith)

some_left : (bytes : List ℕ) → false ≡ (length bytes == 0) → 0 < length bytes
some_left [] some = absurd (true≢false (sym some))
some_left (byte ∷ bytes) some = omega arith

-- a list that ends before the last byte ends with kind 0
pub ends_at_zero : (bytes : List ℕ) → Ends bytes → false ≡ (length bytes == 0) → (0 < length bytes) × (slice_index bytes 0 ≡ 0)
ends_at_zero bytes (inl none) some = let left = some_left bytes some in absurd (omega arith)
ends_at_zero bytes (inr zero) some = (some_left bytes some, zero)

-- the text of the options in brackets, or no text without options
pub options_written : (bytes list : List ℕ) → false ≡ (length bytes == 0) → IsListText bytes list
    → IsOptionsText bytes ((codes ", options [" ++ list) ++ codes "]")
options_written [] list some is = let left = some_left [] some in absurd (omega arith)
options_written (byte ∷ bytes) list some is = (list, is, append_assoc (codes ", options [") list (codes "]"))
