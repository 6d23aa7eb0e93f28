-- A list with a known length is the list of its elements.
use Rattle.std.proofs.Common.{◌≡◌, ℕ, zero, suc, ◌+◌, List, [], ◌∷◌, drop, length, slice_index, drop_of_length-le, refl, sym, arith}
use Rattle.net_base.proofs.BytesLemmas.{one_byte}

-- this number of elements from this place on
abbrev pub listed : List ℕ → ℕ → ℕ → List ℕ
listed list from zero = []
listed list from (suc count) = slice_index list from ∷ listed list (from + 1) count

-- the elements from a place on are the rest of the list if no others are left
rest : (list : List ℕ) (from count : ℕ) → from + count ≡ length list → listed list from count ≡ drop from list
rest list from zero all = sym (drop_of_length-le list {i = from} (omega arith))
rest list from (suc count) all = one_byte list from (from + 1) _ _ refl (omega arith) refl (rest list (from + 1) count (omega arith))

-- all elements of a list are the list
pub whole : (list : List ℕ) (count : ℕ) → length list ≡ count → listed list 0 count ≡ list
whole list count len = rest list 0 count (omega (arith, len))
