-- Laws of a checksum in the bytes of a packet.
use Rattle.std.proofs.Common.{◌≡◌, ℕ, zero, suc, ◌+◌, ◌-◌, ◌%◌, ◌<◌, ◌≤◌, List, [], ◌∷◌, ◌++◌, length, take, drop, slice_index, length-append, length-drop, length-take, refl, sym, ap, ◌∙◌, arith}
use Rattle.std.proofs.lemmas.List.{append_assoc, drop-append-le, get_or-append_right, take-append-drop, take-append-le, take_at}
use Rattle.std.specs.Int.{to_be_bytes, w16}
use Rattle.word_sum.specs.Checksum.{total}
use Rattle.word_sum.proofs.ChecksumLemmas.{total-append}
use Rattle.net_base.specs.Bytes.{IsBytes, be_number}
use Rattle.net_base.specs.StoredChecksum.{with_checksum}
use Rattle.net_base.proofs.BytesLemmas.{to_be_bytes-be_number_2}

-- storing a checksum does not change the length
pub length-with_checksum : (place : ℕ) (bytes : List ℕ) (checksum : ℕ) → place + 2 ≤ length bytes
    → length (with_checksum place bytes checksum) ≡ length bytes
length-with_checksum place bytes checksum there = grind (arith, length-append, length-take, length-drop)

-- a stored checksum adds its value to the sum of the other bytes
pub total-with_checksum : (place : ℕ) (bytes : List ℕ) (checksum : ℕ) → place + 2 ≤ length bytes → place % 2 ≡ 0 → checksum < 65536
    → total (with_checksum place bytes checksum) ≡ total (take place bytes) + total (drop (place + 2) bytes) + checksum
total-with_checksum place bytes checksum there even small =
    let even_front : length (take place bytes) % 2 ≡ 0 = grind (arith, length-take) in
    omega (arith, small, total-append (take place bytes) (to_be_bytes w16 checksum ++ drop (place + 2) bytes) even_front)

-- storing a packet's own checksum again does not change the packet
pub with_checksum-stored : (place : ℕ) (bytes : List ℕ) → IsBytes bytes → place + 2 ≤ length bytes
    → with_checksum place bytes (be_number bytes place 2) ≡ bytes
with_checksum-stored place bytes fits there =
    ap (λ back. take place bytes ++ back)
    (to_be_bytes-be_number_2 bytes place (place + 2) (be_number bytes place 2) (drop (place + 2) bytes) fits refl there refl refl)
    ∙ take-append-drop place bytes

-- a stored checksum is read back
pub stored_checksum : (place : ℕ) (bytes : List ℕ) (checksum : ℕ) → place + 2 ≤ length bytes → checksum < 65536
    → be_number (with_checksum place bytes checksum) place 2 ≡ checksum
stored_checksum place bytes checksum there small =
    let front : length (take place bytes) ≡ place = grind (arith, length-take) in
    let back = to_be_bytes w16 checksum ++ drop (place + 2) bytes in
    let first : place + 0 - place ≡ 0 = omega arith in
    let second : place + 1 - place ≡ 1 = omega arith in
    let high : slice_index (with_checksum place bytes checksum) (place + 0) ≡ slice_index back 0 =
    get_or-append_right (take place bytes) back place (place + 0) 0 front (omega arith) ∙ ap (λ k. slice_index back k) first in
    let low : slice_index (with_checksum place bytes checksum) (place + 1) ≡ slice_index back 1 =
    get_or-append_right (take place bytes) back place (place + 1) 0 front (omega arith) ∙ ap (λ k. slice_index back k) second in
    omega (arith, high, low, small)

-- a checksum in the front of bytes changes only the front
pub with_checksum-append : (place : ℕ) (front back : List ℕ) (checksum : ℕ) → place + 2 ≤ length front
    → with_checksum place (front ++ back) checksum ≡ with_checksum place front checksum ++ back
with_checksum-append place front back checksum within =
    let before = take-append-le place front back (omega (arith, within)) in
    let after = drop-append-le (place + 2) front back within in
    rw (before, after) (sym (append_assoc (take place front) (to_be_bytes w16 checksum ++ drop (place + 2) front) back))

-- a cut after the checksum does not change the checksum
pub take-with_checksum : (place : ℕ) (bytes : List ℕ) (checksum len : ℕ) → place + 2 ≤ len → len ≤ length bytes
    → take len (with_checksum place bytes checksum) ≡ with_checksum place (take len bytes) checksum
take-with_checksum place bytes checksum len within enough =
    let front = take len bytes in
    let whole : length front ≡ len = grind (arith, length-take) in
    ap (λ b. take len (with_checksum place b checksum)) (sym (take-append-drop len bytes))
    ∙ ap (take len) (with_checksum-append place front (drop len bytes) checksum (omega (arith, whole, within)))
    ∙ take_at (with_checksum place front checksum) (drop len bytes) len
    (length-with_checksum place front checksum (omega (arith, whole, within)) ∙ whole)

byte_before : (place : ℕ) (front back : List ℕ) (at : ℕ) → at < place → place ≤ length front
    → slice_index (take place front ++ back) at ≡ slice_index front at
byte_before zero front back at before within = absurd (omega (arith, before))
byte_before (suc place) [] back at before within = absurd (omega (arith, within))
byte_before (suc place) (byte ∷ front) back zero before within = refl
byte_before (suc place) (byte ∷ front) back (suc at) before within =
    byte_before place front back at (omega (arith, before)) (omega (arith, within))

-- a byte before the checksum does not change
pub byte-with_checksum : (place : ℕ) (bytes : List ℕ) (checksum at : ℕ) → at < place → place ≤ length bytes
    → slice_index (with_checksum place bytes checksum) at ≡ slice_index bytes at
byte-with_checksum place bytes checksum at before within = byte_before place bytes _ at before within
