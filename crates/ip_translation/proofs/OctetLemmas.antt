-- Octets of addresses that are compared as numbers.
use Rattle.std.proofs.Common.{◌≡◌, ◌<◌, ◌%◌, ℕ, zero, suc, ◌==◌, Bool, true, false, List, [], ◌∷◌, ◌++◌, length, drop, take, nat_eq, length-drop, length-take, refl, sym, ap, ap₂, subst, slice_index, ◌∙◌, arith}
use Rattle.std.specs.Cmp.Lexicographic.{bytes_decides, pointwise}
use Rattle.std.specs.Int.{from_be_bytes, w32, w64}
use Rattle.std.specs.Prelude.{replicate}
use Rattle.std.proofs.lemmas.Bool.Decides.{nat_tests}
use Rattle.std.proofs.lemmas.List.{take-append-drop}
use Rattle.std.proofs.lemmas.Nat.{be_bytes_4, be_bytes_8}
use Rattle.net_base.specs.Bytes.{IsBytes}
use Rattle.ip_translation.specs.Prefixes.{prefix_address, without_reserved}
use Rattle.ip_translation.specs.declared.prefix64.Prefix64.TheVariants.{Bits96}
use Rattle.ip_translation.proofs.ListedLemmas.{listed, whole}
use Rattle.ip_translation.proofs.PacketBackLemmas.{bytes_drop, bytes_take, equal}

-- two tests give the same answer if each is passed whenever the other one is
same_answer : (first second : Bool) → (first ≡ true → second ≡ true) → (second ≡ true → first ≡ true) → first ≡ second
same_answer true second to from = sym (to refl)
same_answer false true to from = from refl
same_answer false false to from = refl

-- equal numbers pass the test
same_number : {a b : ℕ} → a ≡ b → (a == b) ≡ true
same_number is = grind (arith, nat_tests, is)

-- bytes with a zero before them are bytes
bytes_after_zero : (bytes : List ℕ) → IsBytes bytes → IsBytes (0 ∷ bytes)
bytes_after_zero bytes fits zero = omega arith
bytes_after_zero bytes fits (suc place) = fits place

same_eight : (octets others : List ℕ) → length octets ≡ 8 → length others ≡ 8 → IsBytes octets → IsBytes others
    → from_be_bytes w64 octets ≡ from_be_bytes w64 others → octets ≡ others
same_eight octets others len len_too fits fits_too same =
    sym (be_bytes_8 octets (from_be_bytes w64 octets) len fits refl)
    ∙ be_bytes_8 others (from_be_bytes w64 octets) len_too fits_too same

same_four : (octets others : List ℕ) → length octets ≡ 4 → length others ≡ 4 → IsBytes octets → IsBytes others
    → from_be_bytes w32 octets ≡ from_be_bytes w32 others → octets ≡ others
same_four octets others len len_too fits fits_too same =
    sym (be_bytes_4 octets (from_be_bytes w32 octets) len fits refl)
    ∙ be_bytes_4 others (from_be_bytes w32 octets) len_too fits_too same

same_octets : (octets others : List ℕ) → length octets ≡ 11 → length others ≡ 11 → IsBytes octets → IsBytes others
    → from_be_bytes w64 (take 8 octets) ≡ from_be_bytes w64 (take 8 others)
    → from_be_bytes w32 (0 ∷ drop 8 octets) ≡ from_be_bytes w32 (0 ∷ drop 8 others) → octets ≡ others
same_octets octets others len len_too fits fits_too front rest =
    let eight : length (take 8 octets) ≡ 8 = omega (arith, len, length-take 8 octets) in
    let eight_too : length (take 8 others) ≡ 8 = omega (arith, len_too, length-take 8 others) in
    let four : length (0 ∷ drop 8 octets) ≡ 4 = omega (arith, len, length-drop 8 octets) in
    let four_too : length (0 ∷ drop 8 others) ≡ 4 = omega (arith, len_too, length-drop 8 others) in
    let same_front = same_eight (take 8 octets) (take 8 others) eight eight_too (bytes_take 8 octets fits) (bytes_take 8 others fits_too) front in
    let same_rest = same_four (0 ∷ drop 8 octets) (0 ∷ drop 8 others) four four_too (bytes_after_zero _ (bytes_drop 8 octets fits))
    (bytes_after_zero _ (bytes_drop 8 others fits_too)) rest in
    sym (take-append-drop 8 octets) ∙ ap₂ (λ front rest. front ++ drop 1 rest) same_front same_rest ∙ take-append-drop 8 others

-- if the first numbers are equal, the octets are equal exactly if the other two numbers are
pub compared_as_numbers : (octets others : List ℕ) (front other_front rest other_rest : ℕ) → length octets ≡ 11 → length others ≡ 11
    → IsBytes octets → IsBytes others → front ≡ from_be_bytes w64 (take 8 octets) → other_front ≡ from_be_bytes w64 (take 8 others)
    → rest ≡ from_be_bytes w32 (0 ∷ drop 8 octets) → other_rest ≡ from_be_bytes w32 (0 ∷ drop 8 others) → front ≡ other_front
    → (rest == other_rest) ≡ pointwise nat_eq octets others
compared_as_numbers octets others front other_front rest other_rest len len_too fits fits_too is_front is_front_too is_rest is_rest_too
    same_front =
    same_answer (rest == other_rest) (pointwise nat_eq octets others)
    (λ same_rest.
    (bytes_decides octets others).1 (same_octets octets others len len_too fits fits_too (sym is_front ∙ same_front ∙ is_front_too)
    (sym is_rest ∙ equal rest other_rest same_rest ∙ is_rest_too)))
    (λ same.
    let is : octets ≡ others = (bytes_decides octets others).0 same in
    same_number (is_rest ∙ ap (λ octets. from_be_bytes w32 (0 ∷ drop 8 octets)) is ∙ sym is_rest_too))

bytes_append : (front back : List ℕ) → IsBytes front → IsBytes back → IsBytes (front ++ back)
bytes_append [] back fits fits_too place = fits_too place
bytes_append (byte ∷ front) back fits fits_too zero = fits 0
bytes_append (byte ∷ front) back fits fits_too (suc place) = bytes_append front back (λ place. fits (suc place)) fits_too place

-- the number of four octets, without the first one
pub last_three : (first i j k : ℕ) → i < 256 → j < 256 → k < 256
    → from_be_bytes w32 (first ∷ (i ∷ (j ∷ (k ∷ [])))) % 16777216 ≡ from_be_bytes w32 (0 ∷ (i ∷ (j ∷ (k ∷ []))))
last_three first i j k fits fits_too fits_three = omega (arith, fits, fits_too, fits_three)

-- the octets of an address without the reserved octet
pub eleven_without_reserved : (address : List ℕ) → length address ≡ 16 → length (take 11 (without_reserved address)) ≡ 11
eleven_without_reserved address sixteen =
    subst (λ address. length (take 11 (without_reserved address)) ≡ 11) (whole address 16 sixteen) refl

pub bytes_without_reserved : (address : List ℕ) → length address ≡ 16 → IsBytes address → IsBytes (take 11 (without_reserved address))
bytes_without_reserved address sixteen fits =
    bytes_take 11 (without_reserved address)
    (bytes_append (take 8 address) (drop 9 address) (bytes_take 8 address fits) (bytes_drop 9 address fits))

-- An address is the address of the prefix of 96 bits at its front if all its other octets are 0.
pub front_is_address : (address : List ℕ) → length address ≡ 16 → slice_index address 8 ≡ 0 → drop 12 address ≡ replicate 4 0
    → prefix_address (Bits96 (take 11 (without_reserved address))) ≡ address
front_is_address address sixteen none zeros =
    let octets : List ℕ = listed address 0 16 in
    subst (λ address. slice_index address 8 ≡ 0 → drop 12 address ≡ replicate 4 0
    → prefix_address (Bits96 (take 11 (without_reserved address))) ≡ address)
    (whole address 16 sixteen)
    (λ none zeros. ap₂ (λ octet suffix. take 8 octets ++ (octet ∷ (take 3 (drop 9 octets) ++ suffix))) (sym none) (sym zeros))
    none zeros
