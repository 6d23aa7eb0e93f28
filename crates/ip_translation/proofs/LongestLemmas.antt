-- No mapping that applies has a longer prefix than the mapping that is found.
use Rattle.std.proofs.Common.{ℕ, ◌≡◌, ◌≤◌, Bool, true, false, ◌&&◌, if◌then◌else◌, IfSome, List, [], ◌∷◌, Option, Some, None, nat_lt, subst, sym, refl, arith}
use Rattle.std.proofs.lemmas.Bool.{iff_false}
use Rattle.std.proofs.lemmas.Bool.Decides.{nat_tests}
use Rattle.std.specs.List.{fold}
use Rattle.ip_translation.specs.AddressMappings.{HasNoLonger, better_of}
use Rattle.ip_translation.specs.declared.address_mapping.AddressMapping.{AddressMapping}

-- a value that is chosen if a test is true: what holds of the chosen value
chosen_true : {A : Type 0} (P : A → Type 0) (test : Bool) (value : A) (other : Option A) → IfSome (if test then Some value else other) P
    → test ≡ true → P value
chosen_true P true value other chosen is = chosen
chosen_true P false value other chosen is = absurd (iff_false {P = Unit {0}} ((λ _. tt), (λ _. is)) refl tt)

longer_of : {A : Type 0} (len : A → ℕ) (most : ℕ) (test : Bool) (value other : A) → nat_lt (len other) (len value) ≡ test
    → IfSome (if test then Some value else Some other) (λ value. len value ≤ most)
    → (len other ≤ most) × (true ≡ true → len value ≤ most)
longer_of len most true value other is chosen = (grind (arith, nat_tests, is, chosen), (λ _. chosen))
longer_of len most false value other is chosen = (chosen, (λ _. grind (arith, nat_tests, is, chosen)))

-- with a test of two parts; the second part compares two numbers
chosen_longer : {A : Type 0} (len : A → ℕ) (most : ℕ) (applies : Bool) (value other : A)
    → IfSome (if applies && nat_lt (len other) (len value) then Some value else Some other) (λ value. len value ≤ most)
    → (len other ≤ most) × (applies ≡ true → len value ≤ most)
chosen_longer len most true value other chosen = longer_of len most (nat_lt (len other) (len value)) value other refl chosen
chosen_longer len most false value other chosen = (chosen, (λ is. absurd (iff_false {P = Unit {0}} ((λ _. tt), (λ _. is)) refl tt)))

step_longest : (applies : AddressMapping → Bool) (len : AddressMapping → ℕ) (most : ℕ) (found : Option AddressMapping)
    (mapping : AddressMapping) → IfSome (better_of applies len found mapping) (λ mapping. len mapping ≤ most)
    → IfSome found (λ mapping. len mapping ≤ most) × (applies mapping ≡ true → len mapping ≤ most)
step_longest applies len most None mapping better =
    (tt, chosen_true (λ mapping. len mapping ≤ most) (applies mapping) mapping None better)
step_longest applies len most (Some found) mapping better = chosen_longer len most (applies mapping) mapping found better

found_longest : (applies : AddressMapping → Bool) (len : AddressMapping → ℕ) (mappings : List AddressMapping)
    (found : Option AddressMapping) (longest : AddressMapping) → fold (better_of applies len) found mappings ≡ Some longest
    → IfSome found (λ mapping. len mapping ≤ len longest) × HasNoLonger applies len (len longest) mappings
found_longest applies len [] found longest finds =
    (subst (λ found. IfSome found (λ mapping. len mapping ≤ len longest)) (sym finds) (omega arith), tt)
found_longest applies len (mapping ∷ mappings) found longest finds =
    let rest = found_longest applies len mappings (better_of applies len found mapping) longest finds in
    let step = step_longest applies len (len longest) found mapping rest.0 in
    (step.0, (step.1, rest.1))

pub longest_of : (applies : AddressMapping → Bool) (len : AddressMapping → ℕ) (mappings : List AddressMapping) (longest : AddressMapping)
    → fold (better_of applies len) None mappings ≡ Some longest → HasNoLonger applies len (len longest) mappings
longest_of applies len mappings longest finds = (found_longest applies len mappings None longest finds).1
