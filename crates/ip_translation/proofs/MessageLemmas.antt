-- A receiver accepts a message with its new checksum exactly if it accepts the message.
use Rattle.std.proofs.Common.{◌≡◌, ℕ, ◌+◌, ◌%◌, ◌<◌, ◌≤◌, min, List, [], ◌++◌, length, take, drop, length-append, length-take, sym, ap, ◌∙◌, arith}
use Rattle.std.specs.Prelude.{◌↔◌}
use Rattle.std.proofs.lemmas.List.{append-nil, take_min}
use Rattle.net_base.specs.Bytes.{IsBytes, be_number}
use Rattle.net_base.specs.StoredChecksum.{with_checksum}
use Rattle.net_base.proofs.StoredChecksumLemmas.{length-with_checksum, take-with_checksum, total-with_checksum, with_checksum-append, with_checksum-stored}
use Rattle.word_sum.specs.Checksum.{IsAllOnes, folded, total, udp_checksum_of}
use Rattle.word_sum.proofs.ChecksumLemmas.{udp_checksum_verifies}

-- the received bytes: the first bytes of the message, and bytes that are not in it
abbrev pub received : ℕ → List ℕ → List ℕ → List ℕ
received count bytes missing = take count bytes ++ missing

-- the sum of the received bytes without the checksum
abbrev pub rest_total : ℕ → List ℕ → ℕ
rest_total place bytes = total (take place bytes) + total (drop (place + 2) bytes)

module _ (place count : ℕ) (bytes missing : List ℕ) (counted : place + 2 ≤ count) (there : place + 2 ≤ length bytes) where
  taken : (value : ℕ) → take count (with_checksum place bytes value) ≡ with_checksum place (take count bytes) value
  taken value =
      sym (take_min count (with_checksum place bytes value))
      ∙ ap (λ n. take (min count n) (with_checksum place bytes value)) (length-with_checksum place bytes value there)
      ∙ take-with_checksum place bytes value (min count (length bytes)) (omega (arith, counted, there)) (omega arith)
      ∙ ap (λ front. with_checksum place front value) (take_min count bytes)

  front_len : place + 2 ≤ length (take count bytes)
  front_len = grind (arith, length-take)

  -- the checksum is replaced in the received bytes
  pub received_with : (value : ℕ) → received count (with_checksum place bytes value) missing
      ≡ with_checksum place (received count bytes missing) value
  received_with value =
      ap (λ front. front ++ missing) (taken value)
      ∙ sym (with_checksum-append place (take count bytes) missing value front_len)

  pub received_len : place + 2 ≤ length (received count bytes missing)
  received_len = omega (arith, front_len, length-append (take count bytes) missing)

  pub received_total : (value : ℕ) → place % 2 ≡ 0 → value < 65536
      → total (received count (with_checksum place bytes value) missing) ≡ rest_total place (received count bytes missing) + value
  received_total value even small =
      ap total (received_with value) ∙ total-with_checksum place (received count bytes missing) value received_len even small

  pub kept_total : IsBytes bytes → place % 2 ≡ 0
      → total (received count bytes missing) ≡ rest_total place (received count bytes missing) + be_number bytes place 2
  kept_total fits even =
      ap (λ same. total (received count same missing)) (sym (with_checksum-stored place bytes fits there))
      ∙ received_total (be_number bytes place 2) even (omega (arith, fits (place + 0), fits (place + 1)))

-- a checksum that is updated for any other bytes
pub alike : (old new place result count : ℕ) (bytes missing : List ℕ) → IsBytes bytes → place % 2 ≡ 0 → result < 65536
    → place + 2 ≤ count → place + 2 ≤ length bytes
    → ((rest : ℕ) → (IsAllOnes (new + rest + result)) ↔ (IsAllOnes (old + rest + be_number bytes place 2)))
    → (IsAllOnes (new + total (take count (with_checksum place bytes result) ++ missing)))
    ↔ (IsAllOnes (old + total (take count bytes ++ missing)))
alike old new place result count bytes missing fits even small counted there both =
    let rest : ℕ = rest_total place (received count bytes missing) in
    let now = received_total place count bytes missing counted there result even small in
    let then_was = kept_total place count bytes missing counted there fits even in
    let is : new + rest + result ≡ new + total (received count (with_checksum place bytes result) missing) = omega (arith, now) in
    let was : old + rest + be_number bytes place 2 ≡ old + total (received count bytes missing) = omega (arith, then_was) in (
      λ ones. ap folded (sym was) ∙ (both rest).0 (ap folded is ∙ ones),
      λ ones. ap folded (sym is) ∙ (both rest).1 (ap folded was ∙ ones),
    )

-- a checksum that is computed over the first bytes
pub computed : (new place len checksum : ℕ) (bytes : List ℕ) → IsBytes bytes → place % 2 ≡ 0 → checksum < 65536
    → place + 2 ≤ len → place + 2 ≤ length bytes → be_number bytes place 2 ≡ 0
    → checksum ≡ udp_checksum_of (new + total (take len bytes)) → IsAllOnes (new + total (take len (with_checksum place bytes checksum)))
computed new place len checksum bytes fits even small counted there none right =
    let is : total (take len (with_checksum place bytes checksum)) ≡ rest_total place (received len bytes []) + checksum =
    ap total (sym (append-nil (take len (with_checksum place bytes checksum))))
    ∙ received_total place len bytes [] counted there checksum even small in
    let was : total (take len bytes) ≡ rest_total place (received len bytes []) + be_number bytes place 2 =
    ap total (sym (append-nil (take len bytes))) ∙ kept_total place len bytes [] counted there fits even in
    let sum : new + total (take len bytes) + checksum ≡ new + total (take len (with_checksum place bytes checksum)) =
    omega (arith, is, was, none) in
    ap folded (sym sum) ∙ udp_checksum_verifies (new + total (take len bytes)) checksum right
