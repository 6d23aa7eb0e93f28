-- Laws of valid UDP packets: built packets are valid, and the changes that a receiver's check detects.
use Rattle.std.proofs.Common.{◌≡◌, ◌≢◌, ◌⊎◌, ℕ, ◌+◌, ◌%◌, ◌^◌, ◌<◌, ◌≤◌, List, ◌++◌, length, drop, inl, inr, refl, sym, ap, ◌∙◌, subst, arith}
use Rattle.std.proofs.lemmas.Bool.Decides.{nat_tests}
use Rattle.std.specs.Prelude.{◌↔◌, ◌==◌, IsTrue}
use Rattle.net_base.specs.Bytes.{IsBytes}
use Rattle.net_base.specs.PseudoHeader.{ipv4_pseudo_header, ipv6_pseudo_header, max_len_over_ipv4, max_len_over_ipv6}
use Rattle.net_base.proofs.DetectionLemmas.{complement_tested}
use Rattle.word_sum.specs.Checksum.{IsAllOnes, Verifies, all_ones, complement, folded, total, udp_checksum_of}
use Rattle.word_sum.proofs.ChecksumLemmas.{accepted_udp_checksum, total-append, udp_checksum_verifies}
use Rattle.udp_part.specs.UdpFormat.{checksummed, checksummed_ipv4, checksummed_ipv6, header_of, wire}
use Rattle.udp_part.specs.UdpSlice.{length_field}
use Rattle.udp_part.specs.UdpValidity.{IsValidUdpIpv4, IsValidUdpIpv6, SumsUpOverIpv4, SumsUpOverIpv6, checksum_field}
use Rattle.udp_part.specs.declared.udp_header.UdpHeader.{UdpHeader}
use Rattle.udp_part.proofs.UdpFormatLemmas.{wire-header_of}

-- ---- the sum of a packet

-- a header with a checksum has the sum of the header without it, plus the checksum
total_wire : (header : UdpHeader) → header.checksum < 2 ^ 16
    → total (wire header) ≡ total (wire (record header { checksum = 0 })) + header.checksum
total_wire header small = omega (arith, small)

-- if the length field is the length of the packet, the sum of pseudo header and packet is the sum for the checksum plus the checksum
covered : (pseudo_header : ℕ → List ℕ) (header : UdpHeader) (payload : List ℕ) → header.length ≡ length (wire header ++ payload)
    → header.checksum < 2 ^ 16
    → total (pseudo_header (length (wire header ++ payload))) + total (wire header ++ payload)
    ≡ checksummed (pseudo_header header.length) header payload + header.checksum
covered pseudo_header header payload same_len small =
    let split : total (wire header ++ payload) ≡ total (wire header) + total payload = total-append (wire header) payload (omega arith) in
    ap (λ n. total (pseudo_header n) + total (wire header ++ payload)) (sym same_len)
    ∙ omega (arith, split, total_wire header small)

-- ---- built packets

-- a computed checksum is never 0
stores_some : (n checksum : ℕ) → checksum ≡ udp_checksum_of n → checksum ≢ 0
stores_some n checksum is none = grind (arith, nat_tests)

-- a header that counts the payload, with its checksum, and the payload form a valid packet
pub built_ipv4 : (source destination payload : List ℕ) (header : UdpHeader) → header.length ≡ 8 + length payload
    → header.length ≤ max_len_over_ipv4 → header.checksum < 2 ^ 16
    → header.checksum ≡ udp_checksum_of (checksummed_ipv4 source destination header payload)
    → SumsUpOverIpv4 source destination (wire header ++ payload)
built_ipv4 source destination payload header same_len counts small is = (
  omega (arith, same_len, counts),
  ap folded (covered (λ len. ipv4_pseudo_header source destination 17 len) header payload (omega (arith, same_len)) small)
      ∙ udp_checksum_verifies (checksummed_ipv4 source destination header payload) header.checksum is,
)

pub built_ipv6 : (source destination payload : List ℕ) (header : UdpHeader) → header.length ≡ 8 + length payload
    → header.length ≤ max_len_over_ipv6 → header.checksum < 2 ^ 16
    → header.checksum ≡ udp_checksum_of (checksummed_ipv6 source destination header payload)
    → IsValidUdpIpv6 source destination (wire header ++ payload)
built_ipv6 source destination payload header same_len counts small is =
    let stores = stores_some (checksummed_ipv6 source destination header payload) header.checksum is in (
      λ none. stores (omega (arith, none, small)),
      (
        omega (arith, same_len, counts),
        ap folded (covered (λ len. ipv6_pseudo_header source destination 17 len) header payload (omega (arith, same_len)) small)
            ∙ udp_checksum_verifies (checksummed_ipv6 source destination header payload) header.checksum is,
      ),
    )

-- ---- received packets

-- the checksum field is a number of 16 bits
checksum_field_small : (bytes : List ℕ) → IsBytes bytes → checksum_field bytes < 2 ^ 16
checksum_field_small bytes fits = omega (arith, fits 6, fits 7)

pub length_field_small : (bytes : List ℕ) → IsBytes bytes → length_field bytes < 2 ^ 16
length_field_small bytes fits = omega (arith, fits 4, fits 5)

-- if the length field is the length of the packet, it is the length of the header that is written again and of the bytes after it
counted : (bytes : List ℕ) → IsBytes bytes → 8 ≤ length bytes → length_field bytes ≡ length bytes
    → (header_of bytes).length ≡ length (wire (header_of bytes) ++ drop 8 bytes)
counted bytes fits enough same_len = same_len ∙ sym (ap length (wire-header_of bytes (drop 8 bytes) fits enough refl))

-- the sum of pseudo header and packet is the sum for the checksum plus the checksum
covered_packet : (pseudo_header : ℕ → List ℕ) (bytes : List ℕ) → IsBytes bytes → 8 ≤ length bytes → length_field bytes ≡ length bytes
    → total (pseudo_header (length bytes)) + total bytes
    ≡ checksummed (pseudo_header (length_field bytes)) (header_of bytes) (drop 8 bytes) + checksum_field bytes
covered_packet pseudo_header bytes fits enough same_len =
    let P : List ℕ → Type 0 = λ b. total (pseudo_header (length b)) + total b
    ≡ checksummed (pseudo_header (length_field bytes)) (header_of bytes) (drop 8 bytes) + checksum_field bytes in
    subst P (wire-header_of bytes (drop 8 bytes) fits enough refl)
    (covered pseudo_header (header_of bytes) (drop 8 bytes) (counted bytes fits enough same_len) (checksum_field_small bytes fits))

-- the sum of pseudo header and packet is all ones exactly if a sender stores the same checksum
agrees : (pseudo_header : ℕ → List ℕ) (bytes : List ℕ) → IsBytes bytes → 8 ≤ length bytes
    → checksum_field bytes ≢ 0 → length_field bytes ≡ length bytes
    → Verifies (pseudo_header (length bytes)) bytes
    ↔ (checksum_field bytes ≡ udp_checksum_of (checksummed (pseudo_header (length_field bytes)) (header_of bytes) (drop 8 bytes)))
agrees pseudo_header bytes fits enough stores same_len =
    let n = checksummed (pseudo_header (length_field bytes)) (header_of bytes) (drop 8 bytes) in
    let whole : total (pseudo_header (length bytes)) + total bytes ≡ n + checksum_field bytes =
    covered_packet pseudo_header bytes fits enough same_len in
    let accepted = accepted_udp_checksum n (checksum_field bytes) (checksum_field_small bytes fits) stores in (
      λ verifies. accepted.0 (subst IsAllOnes whole verifies),
      λ is. subst IsAllOnes (sym whole) (accepted.1 is),
    )

-- ---- over IPv4

-- the second of two cases is replaced
either : {A B C : Type 0} → (B → C) → A ⊎ B → A ⊎ C
either f (inl a) = inl a
either f (inr b) = inr (f b)

-- a valid packet with a checksum has the right sum
pub sums_up_ipv4 : (source destination bytes : List ℕ) → checksum_field bytes ≢ 0 → IsValidUdpIpv4 source destination bytes
    → SumsUpOverIpv4 source destination bytes
sums_up_ipv4 source destination bytes stores (inl none) = absurd (stores none)
sums_up_ipv4 source destination bytes stores (inr sums_up) = sums_up

-- if there is a checksum and the pseudo header can count the packet, the complement of the sum is 0 exactly if the packet is valid
pub tested_ipv4 : (source destination bytes : List ℕ) (result : ℕ) → checksum_field bytes ≢ 0 → length bytes ≤ max_len_over_ipv4
    → result ≡ complement (folded (total (ipv4_pseudo_header source destination 17 (length bytes)) + total bytes))
    → IsTrue (result == 0) ↔ IsValidUdpIpv4 source destination bytes
tested_ipv4 source destination bytes result stores counts is =
    let tested = complement_tested (total (ipv4_pseudo_header source destination 17 (length bytes)) + total bytes) result is in (
      λ zero. inr (counts, tested.0 zero),
      λ valid. tested.1 (sums_up_ipv4 source destination bytes stores valid).1,
    )

pub agrees_ipv4 : (source destination bytes : List ℕ) → IsBytes bytes → 8 ≤ length bytes
    → checksum_field bytes ≢ 0 → length_field bytes ≡ length bytes
    → IsValidUdpIpv4 source destination bytes
    ↔ (checksum_field bytes ≡ udp_checksum_of (checksummed_ipv4 source destination (header_of bytes) (drop 8 bytes)))
agrees_ipv4 source destination bytes fits enough stores same_len =
    let both = agrees (λ len. ipv4_pseudo_header source destination 17 len) bytes fits enough stores same_len in
    let counts : length bytes ≤ max_len_over_ipv4 = omega (arith, same_len, length_field_small bytes fits) in (
      λ valid. both.0 (sums_up_ipv4 source destination bytes stores valid).1,
      λ is. inr (counts, both.1 is),
    )

-- if a packet with a checksum is valid, others of its length are valid exactly if they have no checksum or the same remainder
pub others_ipv4 : (source destination bytes other : List ℕ)
    → (SumsUpOverIpv4 source destination other ↔ (total other % all_ones ≡ total bytes % all_ones))
    → IsValidUdpIpv4 source destination other ↔ ((checksum_field other ≡ 0) ⊎ (total other % all_ones ≡ total bytes % all_ones))
others_ipv4 source destination bytes other law = (
  λ valid. either law.0 valid,
  λ same. either law.1 same,
)

-- ---- over IPv6

-- if there is a checksum and the pseudo header can count the packet, the complement of the sum is 0 exactly if the packet is valid
pub tested_ipv6 : (source destination bytes : List ℕ) (result : ℕ) → checksum_field bytes ≢ 0 → length bytes ≤ max_len_over_ipv6
    → result ≡ complement (folded (total (ipv6_pseudo_header source destination 17 (length bytes)) + total bytes))
    → IsTrue (result == 0) ↔ IsValidUdpIpv6 source destination bytes
tested_ipv6 source destination bytes result stores counts is =
    let tested = complement_tested (total (ipv6_pseudo_header source destination 17 (length bytes)) + total bytes) result is in (
      λ zero. (stores, (counts, tested.0 zero)),
      λ valid. tested.1 valid.1.1,
    )

pub agrees_ipv6 : (source destination bytes : List ℕ) → IsBytes bytes → 8 ≤ length bytes
    → checksum_field bytes ≢ 0 → length_field bytes ≡ length bytes
    → IsValidUdpIpv6 source destination bytes
    ↔ (checksum_field bytes ≡ udp_checksum_of (checksummed_ipv6 source destination (header_of bytes) (drop 8 bytes)))
agrees_ipv6 source destination bytes fits enough stores same_len =
    let both = agrees (λ len. ipv6_pseudo_header source destination 17 len) bytes fits enough stores same_len in
    let counts : length bytes ≤ max_len_over_ipv6 = omega (arith, same_len, length_field_small bytes fits) in (
      λ valid. both.0 valid.1.1,
      λ is. (stores, (counts, both.1 is)),
    )

-- if a packet is valid, others of its length are valid exactly if they have a checksum and the same remainder
pub others_ipv6 : (source destination bytes other : List ℕ)
    → (SumsUpOverIpv6 source destination other ↔ (total other % all_ones ≡ total bytes % all_ones))
    → IsValidUdpIpv6 source destination other ↔ ((checksum_field other ≢ 0) × (total other % all_ones ≡ total bytes % all_ones))
others_ipv6 source destination bytes other law = (
  λ valid. (valid.0, law.0 valid.1),
  λ same. (same.0, law.1 same.1),
)
