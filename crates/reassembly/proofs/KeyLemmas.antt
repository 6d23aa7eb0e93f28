-- Laws of keys that are compared.
use Rattle.std.proofs.Common.{◌≡◌, ℕ, ◌<◌, ◌==◌, Bool, true, false, List, length, get_or, refl, sym, ◌∙◌, ap, arith}
use Rattle.std.proofs.lemmas.Bool.Decides.{nat_tests}
use Rattle.std.proofs.lemmas.Nat.{be_bytes_4}
use Rattle.std.specs.Cmp.Lexicographic.{pointwise}
use Rattle.std.specs.Int.{from_be_bytes, to_be_bytes, w32}
use Rattle.std.specs.Prelude.{nat_eq}
use Rattle.reassembly.proofs.CutLemmas.{bytes_are, is_number, same_bytes, same_number}

-- two addresses are equal if their numbers are equal
pub same_addresses : (a b : List ℕ) → length a ≡ 4 → length b ≡ 4 → ((i : ℕ) → get_or a i 0 < 256) → ((i : ℕ) → get_or b i 0 < 256)
    → (from_be_bytes w32 a == from_be_bytes w32 b) ≡ pointwise nat_eq a b
same_addresses a b a_len b_len a_fits b_fits =
    by (from_be_bytes w32 a == from_be_bytes w32 b) refl (pointwise nat_eq a b) refl
  where
    by : (number : Bool) → (from_be_bytes w32 a == from_be_bytes w32 b) ≡ number → (bytes : Bool) → pointwise nat_eq a b ≡ bytes
        → number ≡ bytes
    by true number_is true bytes_are_same = refl
    by false number_is false bytes_are_same = refl
    by true number_is false bytes_are_same =
        let number : from_be_bytes w32 a ≡ from_be_bytes w32 b = is_number (from_be_bytes w32 a) (from_be_bytes w32 b) number_is in
        let same : a ≡ b =
        sym (be_bytes_4 a (from_be_bytes w32 a) a_len a_fits refl)
        ∙ be_bytes_4 b (from_be_bytes w32 a) b_len b_fits number in
        sym (ap (pointwise nat_eq a) (sym same) ∙ same_bytes a) ∙ bytes_are_same
    by false number_is true bytes_are_same =
        let same : a ≡ b = bytes_are a b bytes_are_same in
        sym number_is ∙ ap (λ b. from_be_bytes w32 a == from_be_bytes w32 b) (sym same) ∙ same_number (from_be_bytes w32 a)
