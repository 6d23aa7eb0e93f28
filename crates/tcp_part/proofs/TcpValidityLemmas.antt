-- Laws of valid TCP segments, for any pseudo header: built segments are valid, and a receiver accepts the checksum of
-- a segment that a sender computes.
use Rattle.std.proofs.Common.{◌≡◌, ℕ, ◌+◌, ◌%◌, ◌<◌, ◌≤◌, List, ◌++◌, length, length-append, sym, ap, ◌∙◌, subst, arith}
use Rattle.std.specs.Prelude.{◌↔◌}
use Rattle.net_base.specs.Bytes.{IsBytes, be_number}
use Rattle.net_base.specs.StoredChecksum.{tcp_checksum_place, with_checksum}
use Rattle.net_base.proofs.StoredChecksumLemmas.{length-with_checksum, total-with_checksum, with_checksum-stored}
use Rattle.word_sum.specs.Checksum.{AcceptsChecksum, IsAllOnes, Verifies, folded, total}
use Rattle.word_sum.proofs.ChecksumLemmas.{accepted_checksum, folded-add, total-append}
use Rattle.tcp_part.specs.TcpFormat.{checksummed, without_checksum}

-- a valid segment: it is at most as long as its pseudo header can count, and the sum of both is all ones
abbrev pub VerifiesUpTo : ℕ → (ℕ → List ℕ) → List ℕ → Type 0
VerifiesUpTo max_len pseudo_header_of segment = (length segment ≤ max_len) × Verifies (pseudo_header_of (length segment)) segment

-- ---- built segments

-- a header with a checksum has the sum of the header without it, plus the checksum
total-checksum_in_header : (header : List ℕ) (checksum : ℕ) → 18 ≤ length header → checksum < 65536
    → total (with_checksum tcp_checksum_place header checksum) ≡ total (without_checksum header) + checksum
total-checksum_in_header header checksum enough small =
    omega (
      arith,
      total-with_checksum 16 header checksum enough (omega arith) small,
      total-with_checksum 16 header 0 enough (omega arith) (omega arith),
    )

-- the sum of a segment with this checksum
sum-built : (pseudo_header_of : ℕ → List ℕ) (header payload : List ℕ) (checksum : ℕ) → 18 ≤ length header → length header % 2 ≡ 0
    → checksum < 65536
    → total (pseudo_header_of (length (with_checksum tcp_checksum_place header checksum ++ payload)))
    + total (with_checksum tcp_checksum_place header checksum ++ payload)
    ≡ checksummed (pseudo_header_of (length header + length payload)) header payload + checksum
sum-built pseudo_header_of header payload checksum enough even small =
    let same_len = length-with_checksum 16 header checksum enough in
    let len : length (with_checksum tcp_checksum_place header checksum ++ payload) ≡ length header + length payload =
    length-append (with_checksum tcp_checksum_place header checksum) payload ∙ ap (λ n. n + length payload) same_len in
    let pseudo = ap (λ n. total (pseudo_header_of n)) len in
    let split = total-append (with_checksum tcp_checksum_place header checksum) payload (ap (λ n. n % 2) same_len ∙ even) in
    omega (arith, pseudo, split, total-checksum_in_header header checksum enough small)

pub built_valid : (max_len : ℕ) (pseudo_header_of : ℕ → List ℕ) (header payload : List ℕ) (checksum : ℕ)
    → 18 ≤ length header → length header % 2 ≡ 0 → checksum < 65536 → length header + length payload ≤ max_len
    → IsAllOnes (checksummed (pseudo_header_of (length header + length payload)) header payload + checksum)
    → VerifiesUpTo max_len pseudo_header_of (with_checksum tcp_checksum_place header checksum ++ payload)
built_valid max_len pseudo_header_of header payload checksum enough even small within verifies = (
  omega (
    arith,
    within,
    length-append (with_checksum tcp_checksum_place header checksum) payload,
    length-with_checksum 16 header checksum enough,
  ),
  ap folded (sum-built pseudo_header_of header payload checksum enough even small) ∙ verifies,
)

-- ---- received segments

-- the sum that is tested is the sum of the pseudo header and the segment
pub tested : (max_len : ℕ) (pseudo_header_of : ℕ → List ℕ) (header payload : List ℕ) (len sum : ℕ)
    → len ≡ length header + length payload → len ≤ max_len → sum ≡ folded (total (pseudo_header_of len))
    → IsAllOnes (sum + total (header ++ payload)) ↔ VerifiesUpTo max_len pseudo_header_of (header ++ payload)
tested max_len pseudo_header_of header payload len sum counted within is_sum =
    let same : folded (sum + total (header ++ payload))
    ≡ folded (total (pseudo_header_of (length (header ++ payload))) + total (header ++ payload)) =
    ap (λ n. folded (n + total (header ++ payload))) is_sum
    ∙ folded-add (total (pseudo_header_of len)) (total (header ++ payload))
    ∙ ap (λ n. folded (total (pseudo_header_of n) + total (header ++ payload))) (counted ∙ sym (length-append header payload)) in (
      λ ones. (omega (arith, counted, within, length-append header payload), sym same ∙ ones),
      λ valid. same ∙ valid.1,
    )

-- the sum of a segment with its stored checksum
sum-stored : (pseudo_header_of : ℕ → List ℕ) (header payload : List ℕ) → IsBytes header → 18 ≤ length header → length header % 2 ≡ 0
    → total (pseudo_header_of (length (header ++ payload))) + total (header ++ payload)
    ≡ checksummed (pseudo_header_of (length header + length payload)) header payload + be_number header 16 2
sum-stored pseudo_header_of header payload fits enough even =
    let P : List ℕ → Type 0 = λ bytes. total (pseudo_header_of (length (bytes ++ payload))) + total (bytes ++ payload)
    ≡ checksummed (pseudo_header_of (length header + length payload)) header payload + be_number header 16 2 in
    subst P (with_checksum-stored 16 header fits enough)
    (sum-built pseudo_header_of header payload (be_number header 16 2) enough even (omega (arith, fits 16, fits 17)))

-- testing a segment means comparing its stored checksum with the computed checksum
pub accepts : (max_len : ℕ) (pseudo_header_of : ℕ → List ℕ) (header payload : List ℕ)
    → IsBytes header → 18 ≤ length header → length header % 2 ≡ 0
    → length header + length payload ≤ max_len
    → VerifiesUpTo max_len pseudo_header_of (header ++ payload)
    ↔ AcceptsChecksum (checksummed (pseudo_header_of (length header + length payload)) header payload) (be_number header 16 2)
accepts max_len pseudo_header_of header payload fits enough even within =
    let sum = sum-stored pseudo_header_of header payload fits enough even in
    let accepted = accepted_checksum (checksummed (pseudo_header_of (length header + length payload)) header payload)
    (be_number header 16 2)
    (omega (arith, fits 16, fits 17)) in (
      λ valid. accepted.0 (sym (ap folded sum) ∙ valid.1),
      λ accepted_too. (omega (arith, within, length-append header payload), ap folded sum ∙ accepted.1 accepted_too),
    )
