-- Laws of the rules of a packet.
use Rattle.std.proofs.Common.{◌≡◌, [], ◌∷◌, Option, Some, None, refl, arith}
use Rattle.net_base.specs.Refusals.{first_of}

-- the first two rules do not refuse
pub last_of_three : {E : Type 0} (first second last : Option E) → first ≡ None → second ≡ None
    → first_of (first ∷ (second ∷ (last ∷ []))) ≡ last
last_of_three None None None a b = refl
last_of_three None None (Some error) a b = refl
last_of_three (Some error) second last a b = absurd (grind arith)
last_of_three None (Some error) last a b = absurd (grind arith)

-- only the first rule does not refuse
pub second_of_three : {E : Type 0} (first second last : Option E) (error : E) → first ≡ None → second ≡ Some error
    → first_of (first ∷ (second ∷ (last ∷ []))) ≡ Some error
second_of_three None (Some found) last error a b = b
second_of_three (Some found) second last error a b = absurd (grind arith)
second_of_three None None last error a b = absurd (grind arith)

-- the first rule does not refuse
pub last_of_two : {E : Type 0} (first last : Option E) → first ≡ None → first_of (first ∷ (last ∷ [])) ≡ last
last_of_two None None a = refl
last_of_two None (Some error) a = refl
last_of_two (Some error) last a = absurd (grind arith)

-- the first rule refuses
pub first_of_two : {E : Type 0} (first last : Option E) (error : E) → first ≡ Some error → first_of (first ∷ (last ∷ [])) ≡ Some error
first_of_two (Some found) last error a = a
first_of_two None last error a = absurd (grind arith)
