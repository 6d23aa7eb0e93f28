use Rattle.std.proofs.Common.{◌≡◌, ◌∙◌, ◌∷◌, Bool, List, [], ap, false, map, nat_eq, refl, subst, sym, true, true≢false, ℕ}
use Rattle.std.specs.Prelude.{◌&&◌}
use Rattle.std.specs.Bool.{Decides}
use Rattle.std.specs.Cmp.{unsigned_Decides}
use Rattle.std.specs.Cmp.Lexicographic.{pointwise, pointwise_decides}
use Rattle.net_base.specs.TextParts.{NumberOf, Part, WordsOf, part_by_value}
use Rattle.net_base.specs.contracts.err.error_text.TextPartPartialEq.TheImpl as parts_equal
use Rattle.net_base.specs.declared.err.error_text.TextPart.{TextPart}
use Rattle.net_base.specs.declared.err.error_text.TextPart.TheVariants.{Words, Number}
use Rattle.net_base.proofs.laws.equal_error_text.Goals as goal

-- the comparison of two parts
abbrev equal : TextPart → TextPart → Bool
equal = (parts_equal.ghosts).eq

-- two parts are equal by value
abbrev equal_values : Part → Part → Bool
equal_values (WordsOf a) (WordsOf b) = pointwise nat_eq a b
equal_values (WordsOf a) (NumberOf b) = false
equal_values (NumberOf a) (WordsOf b) = false
equal_values (NumberOf a) (NumberOf b) = nat_eq a b

abbrev is_words : Part → Bool
is_words (WordsOf words) = true
is_words (NumberOf number) = false

abbrev words_of : Part → List ℕ
words_of (WordsOf words) = words
words_of (NumberOf number) = []

abbrev number_of : Part → ℕ
number_of (WordsOf words) = 0
number_of (NumberOf number) = number

same_words : (a b : List ℕ) → Decides (pointwise nat_eq a b) (a ≡ b)
same_words = pointwise_decides unsigned_Decides

same_value : (x y : Part) → Decides (equal_values x y) (x ≡ y)
same_value (WordsOf a) (WordsOf b) = (λ e. ap WordsOf ((same_words a b).0 e), λ e. (same_words a b).1 (ap words_of e))
same_value (WordsOf a) (NumberOf b) = (λ e. absurd (true≢false (sym e)), λ e. sym (ap is_words e))
same_value (NumberOf a) (WordsOf b) = (λ e. absurd (true≢false (sym e)), λ e. ap is_words e)
same_value (NumberOf a) (NumberOf b) = (λ e. ap NumberOf ((unsigned_Decides a b).0 e), λ e. (unsigned_Decides a b).1 (ap number_of e))

by_value : (x y : TextPart) → equal x y ≡ equal_values (part_by_value x) (part_by_value y)
by_value (Words a) (Words b) = refl
by_value (Words a) (Number b) = refl
by_value (Number a) (Words b) = refl
by_value (Number a) (Number b) = refl

all_by_value : (xs ys : List TextPart) → pointwise equal xs ys ≡ pointwise equal_values (map part_by_value xs) (map part_by_value ys)
all_by_value [] [] = refl
all_by_value [] (y ∷ ys) = refl
all_by_value (x ∷ xs) [] = refl
all_by_value (x ∷ xs) (y ∷ ys) = λ i. by_value x y i && all_by_value xs ys i

pub returns : goal.returns
returns c =
    let a = c.args.a.now in
    let b = c.args.b.now in
    let computes : c.eq.result ≡ pointwise equal_values (map part_by_value a) (map part_by_value b) = c.eq.ensures ∙ all_by_value a b in
    record {
      same = subst (λ answer. Decides answer (map part_by_value a ≡ map part_by_value b)) (sym computes)
          (pointwise_decides same_value (map part_by_value a) (map part_by_value b));
    }
