-- Laws of the checksum in the bytes of a UDP packet.
use Rattle.std.proofs.Common.{◌≡◌, ◌≢◌, ℕ, Bool, true, false, None, Some, refl, subst, ◌+◌, ◌-◌, ◌<◌, ◌≤◌, List, [], ◌∷◌, ◌++◌, length, length-drop, length-take, take, drop, inr, sym, ap, ◌∙◌, arith}
use Rattle.std.proofs.lemmas.Bool.Decides.{nat_tests}
use Rattle.std.specs.Option.{option_map}
use Rattle.net_base.specs.Bytes.{IsBytes}
use Rattle.net_base.specs.PseudoHeader.{ipv4_pseudo_header, ipv6_pseudo_header, max_len_over_ipv4, max_len_over_ipv6}
use Rattle.net_base.specs.Refusals.{too_big}
use Rattle.net_base.specs.declared.err.value_too_big_error.ValueTooBigError.{ValueTooBigError}
use Rattle.net_base.specs.declared.err.value_type.ValueType.{ValueType}
use Rattle.net_base.specs.declared.err.value_type.ValueType.TheVariants.{UdpPayloadLengthIpv4, UdpPayloadLengthIpv6}
use Rattle.word_sum.specs.Checksum.{folded, total, udp_checksum_of}
use Rattle.word_sum.proofs.ChecksumLemmas.{udp_checksum_verifies}
use Rattle.udp_part.specs.UdpFormat as udp
use Rattle.udp_part.specs.UdpFormat.{DecodesAs, header_of, max_payload_len, max_payload_len_of_32_bits, wire}
use Rattle.udp_part.specs.UdpSlice.{cut, length_counts, length_field, strict_refusal}
use Rattle.udp_part.specs.UdpValidity.{IsValidUdpIpv4, IsValidUdpIpv6, checksum_field}
use Rattle.etherparse_transport_c.specs.Checksums.{with_checksum}
use Rattle.etherparse_transport_c.specs.Errors.{Answers, at_front, first_refusal, of_len, of_value}
use Rattle.etherparse_transport_c.specs.Numbers as numbers
use Rattle.etherparse_transport_c.specs.Udp.{TestTellsIpv4, TestTellsIpv6, checksum_refusal, checksummed_ipv4, checksummed_ipv6, fields_of, has_no_checksum, header_in}
use Rattle.etherparse_transport_c.specs.declared.udp.EtherparseUdpHeader.{EtherparseUdpHeader}
use Rattle.etherparse_transport_c.proofs.AnswersLemmas.{answers_ok}
use Rattle.etherparse_transport_c.proofs.ChecksumsLemmas.{length-with_checksum, take-with_checksum, total-with_checksum}

-- the sums of the bytes before and after the checksum give the sum of the packet with zeros instead of its checksum
pub total_parts : (packet : List ℕ) → 8 ≤ length packet → total (take 6 packet) + total (drop 8 packet) ≡ total (with_checksum 6 packet 0)
total_parts packet enough = omega (arith, total-with_checksum 6 packet 0 (omega arith) (omega (arith, enough)) (omega arith))

-- ---- packets that are built

-- the sum of the pseudo header and of the packet with its checksum is all ones
verifies : (pseudo_header : ℕ → List ℕ) (packet : List ℕ) (checksum : ℕ) → 8 ≤ length packet → checksum < 65536
    → checksum ≡ udp_checksum_of (total (pseudo_header (length packet)) + total (with_checksum 6 packet 0))
    → folded (total (pseudo_header (length (with_checksum 6 packet checksum))) + total (with_checksum 6 packet checksum)) ≡ 65535
verifies pseudo_header packet checksum enough small is =
    let len = length-with_checksum 6 packet checksum (omega (arith, enough)) in
    let stored = total-with_checksum 6 packet checksum (omega arith) (omega (arith, enough)) small in
    let zeros = total_parts packet enough in
    ap (λ n. folded (total (pseudo_header n) + total (with_checksum 6 packet checksum))) len
    ∙ ap folded (omega (arith, stored, zeros))
    ∙ udp_checksum_verifies (total (pseudo_header (length packet)) + total (with_checksum 6 packet 0)) checksum is

-- the checksum that is stored is read back
field-with_checksum : (packet : List ℕ) (checksum : ℕ) → 8 ≤ length packet → checksum < 65536
    → checksum_field (with_checksum 6 packet checksum) ≡ checksum
unfolding with_checksum
field-with_checksum (a ∷ (b ∷ (c ∷ (d ∷ (e ∷ (f ∷ rest)))))) checksum enough small = omega (arith, small)
field-with_checksum [] checksum enough small = absurd (omega arith)
field-with_checksum (a ∷ []) checksum enough small = absurd (omega arith)
field-with_checksum (a ∷ (b ∷ [])) checksum enough small = absurd (omega arith)
field-with_checksum (a ∷ (b ∷ (c ∷ []))) checksum enough small = absurd (omega arith)
field-with_checksum (a ∷ (b ∷ (c ∷ (d ∷ [])))) checksum enough small = absurd (omega arith)
field-with_checksum (a ∷ (b ∷ (c ∷ (d ∷ (e ∷ []))))) checksum enough small = absurd (omega arith)

pub built_ipv4 : (source destination packet : List ℕ) (checksum : ℕ) → 8 ≤ length packet → length packet ≤ max_len_over_ipv4
    → checksum < 65536
    → checksum ≡ udp_checksum_of (checksummed_ipv4 source destination packet)
    → IsValidUdpIpv4 source destination (with_checksum 6 packet checksum)
built_ipv4 source destination packet checksum enough counted small is =
    let len = length-with_checksum 6 packet checksum (omega (arith, enough)) in
    inr (omega (arith, len, counted), verifies (ipv4_pseudo_header source destination 17) packet checksum enough small is)

-- the checksum of a UDP packet is never 0
stores_no_zero : (n checksum : ℕ) → checksum ≡ udp_checksum_of n → checksum ≢ 0
stores_no_zero n checksum is none = absurd (grind (arith, nat_tests))

pub built_ipv6 : (source destination packet : List ℕ) (checksum : ℕ) → 8 ≤ length packet → length packet ≤ max_len_over_ipv6
    → checksum < 65536
    → checksum ≡ udp_checksum_of (checksummed_ipv6 source destination packet)
    → IsValidUdpIpv6 source destination (with_checksum 6 packet checksum)
built_ipv6 source destination packet checksum enough counted small is =
    let len = length-with_checksum 6 packet checksum (omega (arith, enough)) in
    let stored = field-with_checksum packet checksum enough small in (
      λ none. stores_no_zero (checksummed_ipv6 source destination packet) checksum is (sym stored ∙ none),
      (omega (arith, len, counted), verifies (ipv6_pseudo_header source destination 17) packet checksum enough small is),
    )

-- ---- the test of bytes, after a checksum was stored in them

-- the length field does not change, since it is before the checksum
length_field-with_checksum : (bytes : List ℕ) (checksum : ℕ) → 8 ≤ length bytes
    → length_field (with_checksum 6 bytes checksum) ≡ length_field bytes
unfolding with_checksum
length_field-with_checksum (a ∷ (b ∷ (c ∷ (d ∷ (e ∷ (f ∷ rest)))))) checksum enough = refl
length_field-with_checksum [] checksum enough = absurd (omega arith)
length_field-with_checksum (a ∷ []) checksum enough = absurd (omega arith)
length_field-with_checksum (a ∷ (b ∷ [])) checksum enough = absurd (omega arith)
length_field-with_checksum (a ∷ (b ∷ (c ∷ []))) checksum enough = absurd (omega arith)
length_field-with_checksum (a ∷ (b ∷ (c ∷ (d ∷ [])))) checksum enough = absurd (omega arith)
length_field-with_checksum (a ∷ (b ∷ (c ∷ (d ∷ (e ∷ []))))) checksum enough = absurd (omega arith)

-- storing a checksum changes the packet at the front of these bytes only in its checksum
cut_as : (bytes : List ℕ) (checksum : ℕ) (counts : Bool) → 8 ≤ length bytes → length_counts bytes ≡ counts
    → cut (with_checksum 6 bytes checksum) ≡ with_checksum 6 (cut bytes) checksum
cut_as bytes checksum true enough is =
    let len = length-with_checksum 6 bytes checksum (omega (arith, enough)) in
    let field = length_field-with_checksum bytes checksum enough in
    let within : (8 ≤ length_field bytes) × (length_field bytes ≤ length bytes) = grind (arith, nat_tests) in
    rw (len, field, is) (take-with_checksum 6 bytes checksum (length_field bytes) within.0 within.1)
cut_as bytes checksum false enough is =
    let len = length-with_checksum 6 bytes checksum (omega (arith, enough)) in
    let field = length_field-with_checksum bytes checksum enough in
    rw (len, field, is) refl

cut-with_checksum : (bytes : List ℕ) (checksum : ℕ) → 8 ≤ length bytes
    → cut (with_checksum 6 bytes checksum) ≡ with_checksum 6 (cut bytes) checksum
cut-with_checksum bytes checksum enough = cut_as bytes checksum _ enough refl

-- two packets that differ only in the checksum have the same refusal
refusal-with_checksum : (value_type : ValueType) (limit : ℕ) (bytes : List ℕ) (checksum : ℕ) → 8 ≤ length bytes → 8 ≤ length (cut bytes)
    → checksum_refusal value_type limit (with_checksum 6 bytes checksum) ≡ checksum_refusal value_type limit bytes
refusal-with_checksum value_type limit bytes checksum enough whole =
    let len = length-with_checksum 6 bytes checksum (omega (arith, enough)) in
    let field = length_field-with_checksum bytes checksum enough in
    let cut_len : length (cut (with_checksum 6 bytes checksum)) ≡ length (cut bytes) =
    ap length (cut-with_checksum bytes checksum enough) ∙ length-with_checksum 6 (cut bytes) checksum (omega (arith, whole)) in
    let strict : strict_refusal (with_checksum 6 bytes checksum) ≡ strict_refusal bytes = rw (len, field) refl in
    rw (strict, cut_len) refl

-- after a checksum is stored, the packet has a checksum
present : (bytes : List ℕ) (sum checksum : ℕ) → 8 ≤ length bytes → 8 ≤ length (cut bytes) → checksum < 65536
    → checksum ≡ udp_checksum_of sum
    → has_no_checksum (cut (with_checksum 6 bytes checksum)) ≡ false
present bytes sum checksum enough whole small is =
    let field : checksum_field (cut (with_checksum 6 bytes checksum)) ≡ checksum =
    ap checksum_field (cut-with_checksum bytes checksum enough) ∙ field-with_checksum (cut bytes) checksum whole small in
    let some = stores_no_zero sum checksum is in
    rw field (grind (arith, nat_tests))

-- accepted bytes contain a header
enough_cut : (bytes : List ℕ) (counts : Bool) → 8 ≤ length bytes → length_counts bytes ≡ counts → 8 ≤ length (cut bytes)
enough_cut bytes true enough is =
    let within : (8 ≤ length_field bytes) × (length_field bytes ≤ length bytes) = grind (arith, nat_tests) in
    let len : length (take (length_field bytes) bytes) ≡ length_field bytes = grind (arith, length-take) in
    rw is (omega (arith, within.0, len))
enough_cut bytes false enough is = rw is enough

enough_at : (value_type : ValueType) (limit : ℕ) (bytes : List ℕ) → checksum_refusal value_type limit bytes ≡ None
    → (8 ≤ length bytes) × (8 ≤ length (cut bytes))
enough_at value_type limit bytes accepted =
    let enough : 8 ≤ length bytes = grind (arith, nat_tests) in
    (enough, enough_cut bytes _ enough refl)

pub enough_ipv4 : (bytes : List ℕ) → checksum_refusal UdpPayloadLengthIpv4 max_payload_len bytes ≡ None
    → (8 ≤ length bytes) × (8 ≤ length (cut bytes))
enough_ipv4 bytes accepted = enough_at UdpPayloadLengthIpv4 max_payload_len bytes accepted

pub enough_ipv6 : (bytes : List ℕ) → checksum_refusal UdpPayloadLengthIpv6 max_payload_len_of_32_bits bytes ≡ None
    → (8 ≤ length bytes) × (8 ≤ length (cut bytes))
enough_ipv6 bytes accepted = enough_at UdpPayloadLengthIpv6 max_payload_len_of_32_bits bytes accepted

pub passes_ipv4 : (source destination bytes : List ℕ) (checksum : ℕ) → 8 ≤ length bytes → 8 ≤ length (cut bytes) → checksum < 65536
    → checksum ≡ udp_checksum_of (checksummed_ipv4 source destination (cut bytes))
    → checksum_refusal UdpPayloadLengthIpv4 max_payload_len bytes ≡ None
    → IsValidUdpIpv4 source destination (with_checksum 6 (cut bytes) checksum)
    → Answers (TestTellsIpv4 source destination (with_checksum 6 bytes checksum)) numbers.status_ok
passes_ipv4 source destination bytes checksum enough whole small is accepted valid =
    answers_ok _ _ _ (refusal-with_checksum UdpPayloadLengthIpv4 max_payload_len bytes checksum enough whole ∙ accepted)
    (present bytes _ checksum enough whole small is)
    (subst (IsValidUdpIpv4 source destination) (sym (cut-with_checksum bytes checksum enough)) valid)

pub passes_ipv6 : (source destination bytes : List ℕ) (checksum : ℕ) → 8 ≤ length bytes → 8 ≤ length (cut bytes) → checksum < 65536
    → checksum ≡ udp_checksum_of (checksummed_ipv6 source destination (cut bytes))
    → checksum_refusal UdpPayloadLengthIpv6 max_payload_len_of_32_bits bytes ≡ None
    → IsValidUdpIpv6 source destination (with_checksum 6 (cut bytes) checksum)
    → Answers (TestTellsIpv6 source destination (with_checksum 6 bytes checksum)) numbers.status_ok
passes_ipv6 source destination bytes checksum enough whole small is accepted valid =
    answers_ok _ _ _ (refusal-with_checksum UdpPayloadLengthIpv6 max_payload_len_of_32_bits bytes checksum enough whole ∙ accepted)
    (present bytes _ checksum enough whole small is)
    (subst (IsValidUdpIpv6 source destination) (sym (cut-with_checksum bytes checksum enough)) valid)

-- ---- the library's checksum of header and payload

-- the sum of a header without its checksum is the sum of the bytes before the checksum
total_header : (packet : List ℕ) → IsBytes packet → 8 ≤ length packet
    → total (wire (record (header_of packet) { checksum = 0 })) ≡ total (take 6 packet)
total_header (a ∷ (b ∷ (c ∷ (d ∷ (e ∷ (f ∷ rest)))))) fits enough = omega (arith, fits 0, fits 1, fits 2, fits 3, fits 4, fits 5)
total_header [] fits enough = absurd (omega arith)
total_header (a ∷ []) fits enough = absurd (omega arith)
total_header (a ∷ (b ∷ [])) fits enough = absurd (omega arith)
total_header (a ∷ (b ∷ (c ∷ []))) fits enough = absurd (omega arith)
total_header (a ∷ (b ∷ (c ∷ (d ∷ [])))) fits enough = absurd (omega arith)
total_header (a ∷ (b ∷ (c ∷ (d ∷ (e ∷ []))))) fits enough = absurd (omega arith)

-- if the length field is the length of the packet, the library in Rattle and the call in C sum the same bytes
covers : (pseudo_header : ℕ → List ℕ) (packet : List ℕ) → IsBytes packet → 8 ≤ length packet → length_field packet ≡ length packet
    → total (pseudo_header (length packet)) + total (with_checksum 6 packet 0)
    ≡ udp.checksummed (pseudo_header (length_field packet)) (header_of packet) (drop 8 packet)
covers pseudo_header packet fits enough same_len =
    ap (λ n. total (pseudo_header n) + total (with_checksum 6 packet 0)) (sym same_len)
    ∙ omega (arith, total_header packet fits enough, total_parts packet enough)

pub agrees_ipv4 : (source destination packet : List ℕ) → IsBytes packet → 8 ≤ length packet → length_field packet ≡ length packet
    → checksummed_ipv4 source destination packet ≡ udp.checksummed_ipv4 source destination (header_of packet) (drop 8 packet)
agrees_ipv4 source destination packet fits enough same_len = covers (ipv4_pseudo_header source destination 17) packet fits enough same_len

pub agrees_ipv6 : (source destination packet : List ℕ) → IsBytes packet → 8 ≤ length packet → length_field packet ≡ length packet
    → checksummed_ipv6 source destination packet ≡ udp.checksummed_ipv6 source destination (header_of packet) (drop 8 packet)
agrees_ipv6 source destination packet fits enough same_len = covers (ipv6_pseudo_header source destination 17) packet fits enough same_len

-- ---- a header that is written

pub reads_back : (fields : EtherparseUdpHeader) (buffer : List ℕ)
    → DecodesAs (wire (header_in fields) ++ drop 8 buffer) (header_in fields) (drop 8 buffer)
    → fields_of (header_of (at_front (wire (header_in fields)) buffer)) ≡ fields
unfolding at_front
reads_back fields buffer decodes = ap fields_of (sym decodes.fields)

-- ---- packets that are refused

-- if the payload is too long for the pseudo header, the packet is refused with the error about this length
pub long_refused : (value_type : ValueType) (limit : ℕ) (bytes packet payload : List ℕ) (error : ValueTooBigError ℕ)
    → strict_refusal bytes ≡ None → packet ≡ cut bytes → payload ≡ drop 8 packet
    → too_big value_type limit (length payload) ≡ Some error → checksum_refusal value_type limit bytes ≡ Some (of_value error)
long_refused value_type limit bytes packet payload error accepted packet_is payload_is refused =
    let len_is : length (cut bytes) - 8 ≡ length payload =
    sym (ap length payload_is ∙ length-drop 8 packet ∙ ap (λ whole. length whole - 8) packet_is) in
    ap (λ first. first_refusal (option_map of_len first) (option_map of_value (too_big value_type limit (length (cut bytes) - 8)))) accepted
    ∙ ap (λ len. option_map of_value (too_big value_type limit len)) len_is
    ∙ ap (option_map of_value) refused
