-- Laws of the checksum in the bytes of an ICMP packet.
use Rattle.std.proofs.Common.{◌≡◌, ℕ, zero, suc, None, take, ◌-◌, ◌+◌, ◌≤◌, List, [], ◌∷◌, ◌++◌, length, drop, length-drop, sym, ap, ◌∙◌, refl, arith}
use Rattle.std.specs.Prelude.{slice_index, slice_range}
use Rattle.word_sum.specs.Checksum.{total}
use Rattle.word_sum.proofs.ChecksumLemmas.{total-append}
use Rattle.icmp_part.specs.Icmpv6Format.{checksummed, pseudo_header}
use Rattle.icmp_part.specs.Icmpv4Validity.{IsValidIcmpv4}
use Rattle.icmp_part.specs.Icmpv6Validity.{IsValidIcmpv6}
use Rattle.icmp_part.specs.declared.icmpv6_type.Icmpv6Type.TheVariants.{Unknown}
use Rattle.icmp_part.specs.MessageFormat.{header_bytes}
use Rattle.etherparse_transport_c.proofs.AnswersLemmas.{answers_ok}
use Rattle.etherparse_transport_c.proofs.ChecksumsLemmas.{byte-with_checksum, length-with_checksum}
use Rattle.etherparse_transport_c.specs.Checksums.{with_checksum}
use Rattle.etherparse_transport_c.specs.Errors.{Answers, at_front, no_room, unless_refused}
use Rattle.etherparse_transport_c.specs.Icmpv4 as icmpv4
use Rattle.etherparse_transport_c.specs.Icmpv6 as icmpv6
use Rattle.etherparse_transport_c.specs.Numbers as numbers

-- writing the first 8 bytes of a packet again with a checksum gives the packet with this checksum; the other bytes follow unchanged
pub written_again : (packet : List ℕ) (checksum : ℕ) → 8 ≤ length packet
    → header_bytes (record { type = slice_index packet 0; code = slice_index packet 1; fields = slice_range packet 4 8 }) checksum
    ++ drop 8 packet
    ≡ with_checksum 2 packet checksum
unfolding with_checksum
written_again (a ∷ (b ∷ (c ∷ (d ∷ (e ∷ (f ∷ (g ∷ (h ∷ rest)))))))) checksum enough = refl
written_again [] checksum enough = absurd (omega arith)
written_again (a ∷ []) checksum enough = absurd (omega arith)
written_again (a ∷ (b ∷ [])) checksum enough = absurd (omega arith)
written_again (a ∷ (b ∷ (c ∷ []))) checksum enough = absurd (omega arith)
written_again (a ∷ (b ∷ (c ∷ (d ∷ [])))) checksum enough = absurd (omega arith)
written_again (a ∷ (b ∷ (c ∷ (d ∷ (e ∷ []))))) checksum enough = absurd (omega arith)
written_again (a ∷ (b ∷ (c ∷ (d ∷ (e ∷ (f ∷ [])))))) checksum enough = absurd (omega arith)
written_again (a ∷ (b ∷ (c ∷ (d ∷ (e ∷ (f ∷ (g ∷ []))))))) checksum enough = absurd (omega arith)

-- a header with these fields, followed by this payload, is the packet with this checksum
pub packet_written : (packet fields payload : List ℕ) (type code checksum : ℕ) → 8 ≤ length packet → type ≡ slice_index packet 0
    → code ≡ slice_index packet 1 → fields ≡ slice_range packet 4 8 → payload ≡ drop 8 packet
    → header_bytes (record { type = type; code = code; fields = fields }) checksum ++ payload ≡ with_checksum 2 packet checksum
packet_written packet fields payload type code checksum enough is_type is_code is_fields is_payload =
    rw (is_type, is_code, is_fields, is_payload) (written_again packet checksum enough)

-- the sum of the header with this checksum and of the payload is the sum of the packet with this checksum
pub total_written : (packet fields payload : List ℕ) (type code checksum : ℕ) → 8 ≤ length packet → type ≡ slice_index packet 0
    → code ≡ slice_index packet 1 → fields ≡ slice_range packet 4 8 → payload ≡ drop 8 packet → length fields ≡ 4
    → total (header_bytes (record { type = type; code = code; fields = fields }) checksum) + total payload
    ≡ total (with_checksum 2 packet checksum)
total_written packet fields payload type code checksum enough is_type is_code is_fields is_payload four =
    sym (total-append (header_bytes (record { type = type; code = code; fields = fields }) checksum) payload (omega (arith, four)))
    ∙ ap total (packet_written packet fields payload type code checksum enough is_type is_code is_fields is_payload)

-- the sum from which the checksum over IPv6 of a header with these fields is computed
pub summed_icmpv6 : (source destination packet fields payload : List ℕ) (type code : ℕ) → 8 ≤ length packet → type ≡ slice_index packet 0
    → code ≡ slice_index packet 1 → fields ≡ slice_range packet 4 8 → payload ≡ drop 8 packet → length fields ≡ 4
    → checksummed source destination (record { icmp_type = Unknown type code fields; checksum = 0 }) payload
    ≡ total (pseudo_header source destination (length packet)) + total (with_checksum 2 packet 0)
summed_icmpv6 source destination packet fields payload type code enough is_type is_code is_fields is_payload four =
    let header = header_bytes (record { type = type; code = code; fields = fields }) 0 in
    let len : length header + length payload ≡ length packet = omega (arith, four, enough, ap length is_payload, length-drop 8 packet) in
    ap (λ n. total (pseudo_header source destination n) + total header + total payload) len
    ∙ omega (arith, total_written packet fields payload type code 0 enough is_type is_code is_fields is_payload four)

-- ---- the test of bytes, after a checksum was stored in them

pub passes_icmpv4 : (bytes : List ℕ) (checksum : ℕ) → 8 ≤ length bytes → icmpv4.refusal bytes ≡ None
    → IsValidIcmpv4 (with_checksum 2 bytes checksum)
    → Answers (icmpv4.TestTells (with_checksum 2 bytes checksum)) numbers.status_ok
passes_icmpv4 bytes checksum enough accepted valid =
    let len = length-with_checksum 2 bytes checksum (omega (arith, enough)) in
    let type = byte-with_checksum 2 bytes checksum 0 (omega arith) (omega (arith, enough)) in
    let code = byte-with_checksum 2 bytes checksum 1 (omega arith) (omega (arith, enough)) in
    let same : icmpv4.refusal (with_checksum 2 bytes checksum) ≡ icmpv4.refusal bytes = rw (len, type, code) refl in
    answers_ok _ _ _ (same ∙ accepted) refl valid

pub passes_icmpv6 : (source destination bytes : List ℕ) (checksum : ℕ) → 8 ≤ length bytes → icmpv6.refusal bytes ≡ None
    → IsValidIcmpv6 source destination (with_checksum 2 bytes checksum)
    → Answers (icmpv6.TestTells source destination (with_checksum 2 bytes checksum)) numbers.status_ok
passes_icmpv6 source destination bytes checksum enough accepted valid =
    let len = length-with_checksum 2 bytes checksum (omega (arith, enough)) in
    let same : icmpv6.refusal (with_checksum 2 bytes checksum) ≡ icmpv6.refusal bytes = rw len refl in
    answers_ok _ _ _ (same ∙ accepted) refl valid

-- ---- a header that is written

pub take_past : (front back : List ℕ) (len : ℕ) → length front ≤ len → take len (front ++ back) ≡ front ++ take (len - length front) back
take_past [] back len within = ap (λ n. take n back) (omega arith)
take_past (byte ∷ front) back zero within = absurd (omega (arith, within))
take_past (byte ∷ front) back (suc len) within =
    let left : suc len - suc (length front) ≡ len - length front = omega arith in
    ap (λ bytes. byte ∷ bytes) (take_past front back len (omega (arith, within)) ∙ ap (λ n. front ++ take n back) (sym left))

-- after bytes are written to the front of a buffer, the buffer begins with these bytes, and its old bytes follow
pub front_read : (bytes buffer : List ℕ) (len : ℕ) → length bytes ≤ len
    → take len (at_front bytes buffer) ≡ bytes ++ take (len - length bytes) (drop (length bytes) buffer)
unfolding at_front
front_read bytes buffer len within = take_past bytes (drop (length bytes) buffer) len within

-- the content of a buffer after a call, if the buffer has room for the bytes to write
pub written_front : (bytes made buffer after : List ℕ) (written before : ℕ) → made ≡ bytes → no_room (length bytes) (length buffer) ≡ None
    → after ≡ unless_refused (no_room (length made) (length buffer)) (at_front made buffer) buffer
    → written ≡ unless_refused (no_room (length made) (length buffer)) (length made) before
    → (after ≡ at_front bytes buffer) × (written ≡ length bytes)
written_front bytes made buffer after written before same room is_after is_written = (
  is_after ∙ ap (λ b. unless_refused (no_room (length b) (length buffer)) (at_front b buffer) buffer) same
      ∙ ap (λ r. unless_refused r (at_front bytes buffer) buffer) room,
  is_written ∙ ap (λ b. unless_refused (no_room (length b) (length buffer)) (length b) before) same
      ∙ ap (λ r. unless_refused r (length bytes) before) room,
)
