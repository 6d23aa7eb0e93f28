-- Texts that are written one after the other.
use Rattle.std.specs.Prelude.{ℕ, List, ◌++◌, [], OnOk, Option}
use Rattle.std.proofs.Common.{◌≡◌, ◌<◌, ◌+◌, ◌∙◌, Result, ap, append_assoc, get_or, length, subst, sym, take}
use Rattle.std.proofs.KnownBytes.{Appends-trans}
use Rattle.std.proofs.lemmas.List.{flat_map_more, take_more}
use Rattle.std.proofs.lemmas.Result.{on_ok_weaker}
use Rattle.std.specs.Io.KnownBytes.{Appends}
use Rattle.std.specs.List.{flat_map}
use Rattle.capture_words.specs.Written.{AppendsOne}

-- a text that was written is also an equal text
pub appended : (a b : Option (List ℕ)) (x text : List ℕ) → Appends a b x → x ≡ text → Appends a b text
appended a b x text first is = subst (Appends a b) is first

-- the last call wrote a text, which is equal to this text
pub written_1 : {T E : Type 0} (r : Result T E) (a b : Option (List ℕ)) (x text : List ℕ) → OnOk r (Appends a b x) → x ≡ text
    → OnOk r (Appends a b text)
written_1 r a b x text last is = on_ok_weaker r (λ appends. appended a b x text appends is) last

-- a text and then the text of the last call were written
pub written_then : {T E : Type 0} (r : Result T E) (a b c : Option (List ℕ)) (x y : List ℕ) → Appends a b x → OnOk r (Appends b c y)
    → OnOk r (Appends a c (x ++ y))
written_then r a b c x y first = on_ok_weaker r (Appends-trans a b c x y first)

-- a text and then the text of the last call were written, and both together are equal to this text
pub written_2 : {T E : Type 0} (r : Result T E) (a b c : Option (List ℕ)) (x y text : List ℕ) → Appends a b x → OnOk r (Appends b c y)
    → x ++ y ≡ text → OnOk r (Appends a c text)
written_2 r a b c x y text first last = written_1 r a c (x ++ y) text (written_then r a b c x y first last)

-- two texts and then the text of the last call were written
pub written_3 : {T E : Type 0} (r : Result T E) (a b c d : Option (List ℕ)) (x y z text : List ℕ) → Appends a b x → Appends b c y
    → OnOk r (Appends c d z) → x ++ (y ++ z) ≡ text → OnOk r (Appends a d text)
written_3 r a b c d x y z text first second last is =
    written_2 r a c d (x ++ y) z text (Appends-trans a b c x y first second) last (append_assoc x y z ∙ is)

-- a text for which `IsText` holds was written, whose end is the text of the last call
pub one_then : {T E : Type 0} (r : Result T E) (a b c : Option (List ℕ)) (bs cs : List ℕ) (IsText : List ℕ → Type 0)
    → Appends a b bs → IsText (bs ++ cs) → OnOk r (Appends b c cs) → OnOk r (AppendsOne a c IsText)
one_then r a b c bs cs IsText first is = on_ok_weaker r (λ last. (bs ++ cs, is, Appends-trans a b c bs cs first last))

-- the text of elements and of another element
pub each_more : {X : Type 0} (xs : List X) (text : X → List ℕ) (i : ℕ) (d : X) (a b c : Option (List ℕ))
    → Appends a b (flat_map text (take i xs)) → Appends b c (text (get_or xs i d)) → i < length xs
    → Appends a c (flat_map text (take (i + 1) xs))
each_more xs text i d a b c before one below =
    subst (Appends a c)
    (flat_map_more text [] (take i xs) (get_or xs i d) ∙ ap (flat_map text) (sym (take_more xs i d below)))
    (Appends-trans a b c (flat_map text (take i xs)) (text (get_or xs i d)) before one)

-- a text and then a text for which `IsEnd` holds were written
pub then_one : {T E : Type 0} (r : Result T E) (a b c : Option (List ℕ)) (bs : List ℕ) (IsEnd IsText : List ℕ → Type 0)
    → Appends a b bs → ((cs : List ℕ) → IsEnd cs → IsText (bs ++ cs)) → OnOk r (AppendsOne b c IsEnd) → OnOk r (AppendsOne a c IsText)
then_one r a b c bs IsEnd IsText first also =
    on_ok_weaker r (λ last. (bs ++ last.0, also last.0 last.1, Appends-trans a b c bs last.0 first last.2))
