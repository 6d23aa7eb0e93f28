-- Laws of a segment and its header.
use Rattle.std.proofs.Common.{◌≡◌, ℕ, zero, suc, ◌+◌, ◌-◌, ◌*◌, ◌/◌, ◌≤◌, List, [], ◌∷◌, ◌++◌, length, take, slice_index, bit_and, None, Result, Ok, Err, ap, sym, subst, ◌∙◌, length-take, arith}
use Rattle.std.specs.Prelude.{◌↔◌, IfOk}
use Rattle.net_base.specs.Bytes.{IsBytes, be_number}
use Rattle.net_base.specs.StoredChecksum.{tcp_checksum_place, with_checksum}
use Rattle.net_base.proofs.StoredChecksumLemmas.{with_checksum-append}
use Rattle.word_sum.specs.Checksum.{AcceptsChecksum, checksum_of}
use Rattle.std.proofs.lemmas.List.{get_or-take, take-append-drop}
use Rattle.tcp_part.specs.TcpFormat.{UnusedBitsAreZero, checksummed, data_offset, header_of, options_of, refusal, wire}
use Rattle.tcp_part.proofs.TcpFormatLemmas.{header_of-take, length-accepted}
use Rattle.tcp_part.proofs.TcpValidityLemmas.{VerifiesUpTo, accepts}
use Rattle.tcp_part.specs.TcpSegment.{header_bytes, payload_bytes}

-- the header of an accepted segment is read as the header of the segment
pub header_reads : (segment : List ℕ) → refusal segment ≡ None → header_of (header_bytes segment) ≡ header_of segment
header_reads segment accepted = header_of-take segment ((length-accepted segment accepted).0)

pub length_header : (segment : List ℕ) → refusal segment ≡ None → length (header_bytes segment) ≡ data_offset segment * 4
length_header segment accepted = let whole = (length-accepted segment accepted).1 in grind (arith, length-take)

-- header and payload form the segment
pub whole_segment : (segment : List ℕ) → header_bytes segment ++ payload_bytes segment ≡ segment
whole_segment segment = take-append-drop (data_offset segment * 4) segment

-- the options of the header are the options of the segment
pub options_read : (segment : List ℕ) → refusal segment ≡ None → options_of (header_bytes segment) ≡ options_of segment
options_read segment accepted = ap (λ header. header.options) (header_reads segment accepted)

-- the data offset of the header is the data offset of the segment
pub offset_read : (segment : List ℕ) → refusal segment ≡ None → data_offset (header_bytes segment) ≡ data_offset segment
offset_read segment accepted =
    let five = (length-accepted segment accepted).0 in
    ap (λ byte. byte / 16) (get_or-take (data_offset segment * 4) segment 12 0 (omega (arith, five)))

-- a header and a payload that are equal to those of a segment form the segment
pub whole_of : (segment header payload : List ℕ) → header ≡ header_bytes segment → payload ≡ payload_bytes segment
    → header ++ payload ≡ segment
whole_of segment header payload is_header is_payload = rw (is_header, is_payload) (whole_segment segment)

-- a checksum that is stored in the header is stored in the segment
checksum_in_segment : (segment header payload : List ℕ) (checksum : ℕ) → refusal segment ≡ None → header ≡ header_bytes segment
    → payload ≡ payload_bytes segment → with_checksum tcp_checksum_place header checksum ++ payload
    ≡ with_checksum tcp_checksum_place segment checksum
checksum_in_segment segment header payload checksum accepted is_header is_payload =
    let len = ap length is_header ∙ length_header segment accepted in
    let five = (length-accepted segment accepted).0 in
    sym (with_checksum-append 16 header payload checksum (omega (arith, len, five)))
    ∙ ap (λ bytes. with_checksum tcp_checksum_place bytes checksum) (whole_of segment header payload is_header is_payload)

pub valid_in_segment : {E : Type 0} (IsValid : List ℕ → Type 0) (segment header payload : List ℕ) (result : Result ℕ E)
    → refusal segment ≡ None
    → header ≡ header_bytes segment → payload ≡ payload_bytes segment
    → IfOk result (λ checksum. IsValid (with_checksum tcp_checksum_place header checksum ++ payload))
    → IfOk result (λ checksum. IsValid (with_checksum tcp_checksum_place segment checksum))
valid_in_segment IsValid segment header payload (Ok checksum) accepted is_header is_payload valid =
    subst IsValid (checksum_in_segment segment header payload checksum accepted is_header is_payload) valid
valid_in_segment IsValid segment header payload (Err error) accepted is_header is_payload valid = valid

-- the checksum of a segment is the checksum of the header that is read from it
pub agrees_in_segment : {E : Type 0} (sum_of : List ℕ → List ℕ → ℕ) (segment header payload : List ℕ) (result : Result ℕ E)
    → refusal segment ≡ None
    → header ≡ header_bytes segment → payload ≡ payload_bytes segment
    → IfOk result (λ checksum. (checksum ≡ checksum_of (sum_of (wire (header_of header)) payload)) ↔ UnusedBitsAreZero header)
    → IfOk result (λ checksum. (checksum ≡ checksum_of (sum_of (wire (header_of segment)) (payload_bytes segment)))
    ↔ UnusedBitsAreZero segment)
agrees_in_segment sum_of segment header payload (Ok checksum) accepted is_header is_payload agrees =
    let five = (length-accepted segment accepted).0 in
    let reads : header_of header ≡ header_of segment = ap header_of is_header ∙ header_reads segment accepted in
    let byte : slice_index header 12 ≡ slice_index segment 12 =
    ap (λ bytes. slice_index bytes 12) is_header ∙ get_or-take (data_offset segment * 4) segment 12 0 (omega (arith, five)) in
    let bits : bit_and (slice_index header 12) 0x0e ≡ bit_and (slice_index segment 12) 0x0e = ap (λ b. bit_and b 0x0e) byte in
    let same : checksum_of (sum_of (wire (header_of header)) payload)
    ≡ checksum_of (sum_of (wire (header_of segment)) (payload_bytes segment)) =
    ap (λ h. checksum_of (sum_of (wire h) payload)) reads ∙ ap (λ p. checksum_of (sum_of (wire (header_of segment)) p)) is_payload in (
      λ is. sym bits ∙ agrees.0 (is ∙ sym same),
      λ zeros. agrees.1 (bits ∙ zeros) ∙ same,
    )
agrees_in_segment sum_of segment header payload (Err error) accepted is_header is_payload agrees = agrees

-- if bytes are bytes, so are their first bytes
IsBytes-take : (count : ℕ) (bytes : List ℕ) → IsBytes bytes → IsBytes (take count bytes)
IsBytes-take zero bytes fits place = omega arith
IsBytes-take (suc count) [] fits place = omega arith
IsBytes-take (suc count) (byte ∷ bytes) fits zero = fits zero
IsBytes-take (suc count) (byte ∷ bytes) fits (suc place) = IsBytes-take count bytes (λ p. fits (suc p)) place

-- testing a segment means comparing its stored checksum with the computed checksum
pub accepts_in_segment : (max_len : ℕ) (pseudo_header_of : ℕ → List ℕ) (segment : List ℕ) → 60 ≤ max_len → IsBytes segment
    → refusal segment ≡ None
    → length (payload_bytes segment) ≤ max_len - length (header_bytes segment)
    → VerifiesUpTo max_len pseudo_header_of segment
    ↔ AcceptsChecksum (checksummed (pseudo_header_of (length (header_bytes segment) + length (payload_bytes segment)))
    (header_bytes segment) (payload_bytes segment)) (be_number (header_bytes segment) 16 2)
accepts_in_segment max_len pseudo_header_of segment longest fits accepted within =
    let five = (length-accepted segment accepted).0 in
    let len = length_header segment accepted in
    let computed = checksummed (pseudo_header_of (length (header_bytes segment) + length (payload_bytes segment))) (header_bytes segment)
    (payload_bytes segment) in
    let P : List ℕ → Type 0 = λ bytes. VerifiesUpTo max_len pseudo_header_of bytes
    ↔ AcceptsChecksum computed (be_number (header_bytes segment) 16 2) in
    subst P (whole_segment segment)
    (accepts max_len pseudo_header_of (header_bytes segment) (payload_bytes segment) (IsBytes-take (data_offset segment * 4) segment fits)
    (omega (arith, len, five)) (omega (arith, len)) (omega (arith, len, within, longest, fits 12)))
