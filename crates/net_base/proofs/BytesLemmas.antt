-- Laws of bytes: the numbers in them, written again.
use Rattle.std.proofs.Common.{◌≡◌, ℕ, zero, suc, ◌+◌, ◌/◌, ◌%◌, ◌<◌, ◌≤◌, List, ◌∷◌, ◌++◌, length, drop, get_or, slice_index, add-zero, refl, sym, ap, arith}
use Rattle.std.proofs.Math.Seq.{drop-cons}
use Rattle.std.specs.Int.{to_be_bytes, w16, w32}
use Rattle.net_base.specs.Bytes.{IsBytes, be_number}

-- if the bytes at the places of a number are the same, the number is the same
pub be_number-same : (bytes other : List ℕ) (from count : ℕ)
    → ((place : ℕ) → place < count → slice_index bytes (from + place) ≡ slice_index other (from + place))
    → be_number bytes from count ≡ be_number other from count
be_number-same bytes other from zero same = refl
be_number-same bytes other from (suc count) same =
    let front = be_number-same bytes other from count (λ place below. same place (omega arith)) in
    let last = same count (omega arith) in
    rw (front, last) refl

-- bytes begin with one byte, and the bytes after it follow
pub one_byte : (bytes : List ℕ) (from next byte : ℕ) (rest : List ℕ) → next ≡ from + 1 → next ≤ length bytes
    → byte ≡ slice_index bytes from → rest ≡ drop next bytes → byte ∷ rest ≡ drop from bytes
one_byte bytes from next byte rest after enough is following =
    let there : from < length bytes = omega arith in
    let one : next ≡ suc from = omega arith in
    rw (is, following, one) (sym (drop-cons bytes from 0 there))

-- writing the number of two bytes gives these two bytes
pub to_be_bytes-be_number_2 : (bytes : List ℕ) (from next number : ℕ) (rest : List ℕ) → IsBytes bytes → next ≡ from + 2
    → next ≤ length bytes
    → number ≡ be_number bytes from 2 → rest ≡ drop next bytes → to_be_bytes w16 number ++ rest ≡ drop from bytes
to_be_bytes-be_number_2 bytes from next number rest fits after enough is following =
    let start : get_or bytes (from + 0) 0 ≡ get_or bytes from 0 = ap (λ place. get_or bytes place 0) (add-zero from) in
    let high : number / 256 % 256 ≡ get_or bytes from 0 = omega (arith, fits from, fits (from + 1)) in
    let low : number % 256 ≡ get_or bytes (from + 1) 0 = omega (arith, fits from, fits (from + 1)) in
    one_byte bytes from (from + 1) _ _ refl (omega arith) high
    (one_byte bytes (from + 1) next _ _ (omega arith) enough low following)

-- writing the number of four bytes gives these four bytes
pub to_be_bytes-be_number_4 : (bytes : List ℕ) (from next number : ℕ) (rest : List ℕ) → IsBytes bytes → next ≡ from + 4
    → next ≤ length bytes
    → number ≡ be_number bytes from 4 → rest ≡ drop next bytes → to_be_bytes w32 number ++ rest ≡ drop from bytes
to_be_bytes-be_number_4 bytes from next number rest fits after enough is following =
    let start : get_or bytes (from + 0) 0 ≡ get_or bytes from 0 = ap (λ place. get_or bytes place 0) (add-zero from) in
    let first : number / 16777216 % 256 ≡ get_or bytes from 0 =
    omega (arith, fits from, fits (from + 1), fits (from + 2), fits (from + 3)) in
    let second : number / 65536 % 256 ≡ get_or bytes (from + 1) 0 =
    omega (arith, fits from, fits (from + 1), fits (from + 2), fits (from + 3)) in
    let third : number / 256 % 256 ≡ get_or bytes (from + 2) 0 =
    omega (arith, fits from, fits (from + 1), fits (from + 2), fits (from + 3)) in
    let fourth : number % 256 ≡ get_or bytes (from + 3) 0 = omega (arith, fits from, fits (from + 1), fits (from + 2), fits (from + 3)) in
    one_byte bytes from (from + 1) _ _ refl (omega arith) first
    (one_byte bytes (from + 1) (from + 2) _ _ (omega arith) (omega arith) second
    (one_byte bytes (from + 2) (from + 3) _ _ (omega arith) (omega arith) third
    (one_byte bytes (from + 3) next _ _ (omega arith) enough fourth following)))
