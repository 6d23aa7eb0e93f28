-- The checksum of the bytes of a header, compared with the checksum of the header that is read from them.
use Rattle.std.proofs.Common.{◌≡◌, ℕ, zero, suc, ◌+◌, ◌-◌, ◌*◌, ◌%◌, ◌^◌, ◌<◌, ◌≤◌, List, [], ◌∷◌, length, drop, take, get_or, slice_index, replicate, bit_and, refl, sym, ap, ◌∙◌, append-nil, drop_of_length-le, length-take, lit≤, arith}
use Rattle.std.proofs.lemmas.List.{take-append-drop}
use Rattle.std.proofs.lemmas.Nat.{and-not, and_comm, and_le_r}
use Rattle.std.specs.Prelude.{◌↔◌}
use Rattle.net_base.specs.Bytes.{IsBytes, masked}
use Rattle.net_base.proofs.BytesLemmas.{one_byte}
use Rattle.net_base.proofs.MaskedLemmas.{bit_and-all, length-masked, slice_index-masked}
use Rattle.word_sum.specs.Checksum.{checksum_of, total}
use Rattle.word_sum.proofs.ChecksumLemmas.{folded-none, folded-some, total-append}
use Rattle.tcp_part.specs.TcpFormat.{DecodesAs, canonical, checksummed, data_offset, header_of, layout_of, wire, without_checksum}
use Rattle.tcp_part.proofs.ChecksumLemmas.{total-without_checksum}
use Rattle.tcp_part.proofs.TcpFormatLemmas.{accepted_whole, drop-canonical, slice_index-canonical, written_back}

-- bytes before the first mask that clears a bit are kept
take-masked : (masks bytes : List ℕ) (count : ℕ) → IsBytes bytes → take count masks ≡ replicate count 255
    → take count (masked masks bytes) ≡ take count bytes
take-masked masks bytes zero fits all = refl
take-masked [] bytes (suc count) fits all = refl
take-masked (mask ∷ masks) [] (suc count) fits all = refl
take-masked (mask ∷ masks) (byte ∷ bytes) (suc count) fits all =
    let first : mask ≡ 255 = ap (λ l. get_or l 0 0) all in
    let others : take count masks ≡ replicate count 255 = ap (drop 1) all in
    let kept : bit_and byte mask ≡ byte = rw first (bit_and-all byte (fits 0)) in
    rw (kept, take-masked masks bytes count (λ p. fits (suc p)) others) refl

-- if bytes are cut after an even number of bytes, their total is the sum of the totals of the two parts
total-cut : (bytes : List ℕ) (count : ℕ) → count % 2 ≡ 0 → count ≤ length bytes
    → total bytes ≡ total (take count bytes) + total (drop count bytes)
total-cut bytes count even within =
    let front : length (take count bytes) % 2 ≡ 0 = grind (arith, length-take) in
    ap total (sym (take-append-drop count bytes)) ∙ total-append (take count bytes) (drop count bytes) front

-- bytes from a place on begin with two bytes, and the bytes after them follow
two_on : (bytes : List ℕ) (from : ℕ) → from + 2 ≤ length bytes
    → drop from bytes ≡ slice_index bytes from ∷ (slice_index bytes (from + 1) ∷ drop (from + 2) bytes)
two_on bytes from enough = sym (
    one_byte bytes from (from + 1) _ _ refl (omega arith) refl
    (one_byte bytes (from + 1) (from + 2) _ _ (omega arith) enough refl refl))

-- a byte is the sum of its unused bits and its other bits
unused_bits : (byte : ℕ) → byte < 256 → bit_and byte 0xf1 + bit_and byte 0x0e ≡ byte
unused_bits byte small =
    let whole : bit_and (2 ^ 8 - 1 - 14) byte + bit_and 14 byte ≡ byte = and-not 8 14 byte (lit≤ tt) small in
    omega (arith, whole, and_comm byte 241, and_comm byte 14)

-- the totals of header bytes and of their canonical bytes differ by the unused bits of byte 12
total-canonical : (bytes : List ℕ) → IsBytes bytes → 20 ≤ length bytes
    → total (without_checksum bytes) ≡ total (without_checksum (canonical bytes)) + bit_and (slice_index bytes 12) 0x0e * 256
total-canonical bytes fits enough =
    let c : List ℕ = canonical bytes in
    let long : length c ≡ length bytes = length-masked ((layout_of bytes).masks) bytes in
    let front : take 12 c ≡ take 12 bytes = take-masked ((layout_of bytes).masks) bytes 12 fits refl in
    let byte : slice_index c 12 ≡ bit_and (slice_index bytes 12) 0xf1 = slice_index-masked ((layout_of bytes).masks) bytes 12 fits in
    let parts = unused_bits (slice_index bytes 12) (fits 12) in
    let cut = total-cut bytes 12 refl (omega arith) in
    let cut_c = total-cut c 12 refl (omega arith) in
    let back : drop 12 bytes ≡ slice_index bytes 12 ∷ (slice_index bytes 13 ∷ drop 14 bytes) = two_on bytes 12 (omega arith) in
    let back_c : drop 12 c ≡ slice_index c 12 ∷ (slice_index c 13 ∷ drop 14 c) = two_on c 12 (omega arith) in
    let next : slice_index c 13 ≡ slice_index bytes 13 = slice_index-canonical bytes 13 fits (λ e. omega arith) in
    let rest_14 : drop 14 c ≡ drop 14 bytes = drop-canonical bytes 14 fits (omega arith) in
    let rest_16 : drop 16 c ≡ drop 16 bytes = drop-canonical bytes 16 fits (omega arith) in
    let rest_18 : drop 18 c ≡ drop 18 bytes = drop-canonical bytes 18 fits (omega arith) in
    let at_12 : total (drop 12 bytes) ≡ slice_index bytes 12 * 256 + slice_index bytes 13 + total (drop 14 bytes) = ap total back in
    let at_12_c : total (drop 12 c) ≡ slice_index c 12 * 256 + slice_index c 13 + total (drop 14 c) = ap total back_c in
    let cut_16 = total-cut bytes 16 refl (omega arith) in
    let cut_16_c = total-cut c 16 refl (omega arith) in
    let sum = total-without_checksum bytes (omega arith) in
    let sum_c = total-without_checksum c (omega arith) in
    let front_total = ap total front in
    let total_14 = ap total rest_14 in
    let total_16 = ap total rest_16 in
    let total_18 = ap total rest_18 in
    omega arith

-- adding some of the unused bits of byte 12 to a sum leaves the checksum unchanged exactly if the bits are all zero
pub same_checksum : (sum bits : ℕ) → bits ≤ 14 → (checksum_of (sum + bits * 256) ≡ checksum_of sum) ↔ (bits ≡ 0)
same_checksum sum bits small = (
  λ same. grind (arith, folded-none, folded-some),
  λ none. rw none (ap checksum_of (omega arith)),
)

-- writing the header that is read from its own bytes gives their canonical bytes
wire-canonical : (bytes : List ℕ) → IsBytes bytes → 5 ≤ data_offset bytes → length bytes ≡ data_offset bytes * 4
    → wire (header_of bytes) ≡ canonical bytes
wire-canonical bytes fits five whole =
    let nothing : [] ≡ drop (data_offset bytes * 4) bytes = sym (drop_of_length-le bytes {i = data_offset bytes * 4} (omega arith)) in
    let read : DecodesAs bytes (header_of bytes) [] = record {
      accepted = accepted_whole bytes (omega arith) five (omega arith);
      fields = refl;
      after_header = nothing;
    } in
    sym (append-nil (wire (header_of bytes))) ∙ written_back bytes (header_of bytes) [] fits read

-- the checksums of bytes and of canonical bytes agree exactly if the unused bits are zero, for bytes equal to the canonical bytes
agrees_canonical : (bytes written payload : List ℕ) (pseudo_header_of : ℕ → List ℕ) → IsBytes bytes → 20 ≤ length bytes
    → written ≡ canonical bytes
    → (checksum_of (checksummed (pseudo_header_of (length bytes + length payload)) bytes payload)
    ≡ checksum_of (checksummed (pseudo_header_of (length written + length payload)) written payload))
    ↔ (bit_and (slice_index bytes 12) 0x0e ≡ 0)
agrees_canonical bytes written payload pseudo_header_of fits enough is =
    let long : length written ≡ length bytes = ap length is ∙ length-masked ((layout_of bytes).masks) bytes in
    let sum = checksummed (pseudo_header_of (length bytes + length payload)) written payload in
    let headers : total (without_checksum bytes) ≡ total (without_checksum written) + bit_and (slice_index bytes 12) 0x0e * 256 =
    rw is (total-canonical bytes fits enough) in
    let differ : checksummed (pseudo_header_of (length bytes + length payload)) bytes payload ≡ sum + bit_and (slice_index bytes 12) 0x0e
    * 256 =
    omega arith in
    rw (long, differ) (same_checksum sum (bit_and (slice_index bytes 12) 14) (and_le_r (slice_index bytes 12) 14))

-- the checksum of the bytes of a header and the checksum of the header that is read from them are equal exactly if the unused bits of byte
-- 12 are zero
pub agrees : (bytes payload : List ℕ) (pseudo_header_of : ℕ → List ℕ) → IsBytes bytes → 5 ≤ data_offset bytes
    → length bytes ≡ data_offset bytes * 4
    → (checksum_of (checksummed (pseudo_header_of (length bytes + length payload)) bytes payload)
    ≡ checksum_of (checksummed (pseudo_header_of (length (wire (header_of bytes)) + length payload)) (wire (header_of bytes)) payload))
    ↔ (bit_and (slice_index bytes 12) 0x0e ≡ 0)
agrees bytes payload pseudo_header_of fits five whole =
    agrees_canonical bytes (wire (header_of bytes)) payload pseudo_header_of fits (omega arith) (wire-canonical bytes fits five whole)
