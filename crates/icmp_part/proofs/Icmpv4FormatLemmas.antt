-- Laws of the ICMPv4 header: reading, writing and canonical bytes.
use Rattle.std.proofs.Common.{◌≡◌, ◌≢◌, ◌⊎◌, ℕ, ◌/◌, ◌%◌, ◌≤◌, List, ◌∷◌, ◌++◌, length, take, drop, map, None, inl, inr, refl, sym, ap, ◌∙◌, arith}
use Rattle.std.proofs.lemmas.Bool.Decides.{nat_tests}
use Rattle.std.proofs.lemmas.List.{length-append, length-drop}
use Rattle.std.proofs.lemmas.List.Folds.{drop_split}
use Rattle.std.specs.Prelude.{◌↔◌, slice_get, slice_index, slice_range}
use Rattle.std.specs.Int.{to_be_bytes, w16}
use Rattle.std.specs.Int.Bits.{and_zero_r}
use Rattle.std.specs.Option.{unwrap_or}
use Rattle.net_base.specs.Bytes.{IsBytes, be_number}
use Rattle.net_base.proofs.BytesLemmas.{to_be_bytes-be_number_2, to_be_bytes-be_number_4}
use Rattle.net_base.proofs.MaskedLemmas.{bit_and-all, length-masked, masked_alike_at}
use Rattle.icmp_part.specs.Icmpv4Format.{DecodesAs, HasWholeHeader, canonical, dest_unreachable_formats, format_at, format_of, formats, header_of, icmp_type_of, layout_of, parameter_problem_formats, redirect, redirect_code, redirect_codes, time_exceeded_codes, refusal, timestamp, timestamp_fields, timestamp_of, unknown, wire, with_next_hop_mtu, with_pointer, written}
use Rattle.icmp_part.specs.MessageFormat.{MessageFormat, cleared, codes_of, inside, listed, unused, used}
use Rattle.icmp_part.specs.declared.icmpv4.dest_unreachable_header.DestUnreachableHeader.TheVariants as dest
use Rattle.icmp_part.specs.declared.icmpv4.parameter_problem_header.ParameterProblemHeader.TheVariants as problem
use Rattle.icmp_part.specs.declared.icmpv4.redirect_code.RedirectCode.TheVariants as redirected
use Rattle.icmp_part.specs.declared.icmpv4.time_exceeded_code.TimeExceededCode.TheVariants as exceeded
use Rattle.icmp_part.specs.declared.icmpv4.redirect_code.RedirectCode.{RedirectCode}
use Rattle.icmp_part.specs.declared.icmpv4.timestamp_message.TimestampMessage.{TimestampMessage}
use Rattle.icmp_part.specs.declared.icmpv4_header.Icmpv4Header.{Icmpv4Header}
use Rattle.icmp_part.specs.declared.icmpv4_type.Icmpv4Type.{Icmpv4Type}
use Rattle.icmp_part.specs.declared.icmpv4_type.Icmpv4Type.TheVariants.{Unknown, EchoReply, DestinationUnreachable, EchoRequest, TimeExceeded, ParameterProblem, TimestampRequest, TimestampReply}
use Rattle.icmp_part.proofs.MessageFormatLemmas.{◌⊗◌, AllAreLawful, AreLawful, IsLawful, all_used_lawful, begins, eight_lawful, canonical_alike, format_in-lawful, format_in-reads, unused_lawful}
use Rattle.icmp_part.proofs.IcmpEchoLemmas.{echo_lawful}

-- ---- reading by the list

-- a packet is read as the format of its type and code, or raw if no format is listed for them
pub icmp_type_of_listed : (bytes : List ℕ)
    → icmp_type_of bytes ≡ unwrap_or (listed (codes_of formats (slice_index bytes 0)) (slice_index bytes 1) bytes)
    (unknown.message_of bytes)
unfolding format_of
icmp_type_of_listed bytes = format_in-reads formats unknown (slice_index bytes 0) (slice_index bytes 1) bytes

-- a packet is read raw if its type and code are not listed
pub unlisted_is_unknown : (bytes : List ℕ) (type code : ℕ) (fields : List ℕ)
    → type ≡ slice_index bytes 0 → code ≡ slice_index bytes 1 → fields ≡ slice_range bytes 4 8
    → listed (codes_of formats (slice_index bytes 0)) (slice_index bytes 1) bytes ≡ None → Unknown type code fields ≡ icmp_type_of bytes
unlisted_is_unknown bytes type code fields is_type is_code are_fields unlisted =
    let read = icmp_type_of_listed bytes in
    rw (is_type, is_code, are_fields) (sym (read ∙ ap (λ message. unwrap_or message (unknown.message_of bytes)) unlisted))

-- ---- laws of each format of the list

-- only timestamp messages are longer than eight bytes
abbrev IsLen : ℕ → ℕ → ℕ → Type 0
IsLen type code len = (len ≡ 8) ⊎ ((len ≡ 20) × (code ≡ 0) × ((type ≡ 13) ⊎ (type ≡ 14)))

abbrev pub IsLawfulIcmpv4 : ℕ → ℕ → MessageFormat Icmpv4Type → Type 0
IsLawfulIcmpv4 type code format = IsLawful Icmpv4Type written IsLen type code format

-- the format with the MTU of the next hop in bytes 6 and 7 is lawful
with_next_hop_mtu_lawful : IsLawfulIcmpv4 3 4 (inside DestinationUnreachable with_next_hop_mtu)
with_next_hop_mtu_lawful =
    eight_lawful written IsLen 3 4 0 0 255 255 (λ bytes. DestinationUnreachable (dest.FragmentationNeeded (be_number bytes 6 2))) (inl refl)
    (λ bytes fits.
    let high : be_number bytes 6 2 / 256 % 256 ≡ slice_index bytes 6 = omega (arith, fits 6, fits 7) in
    let low : be_number bytes 6 2 % 256 ≡ slice_index bytes 7 = omega (arith, fits 6, fits 7) in
    rw (
      and_zero_r (slice_index bytes 4),
      and_zero_r (slice_index bytes 5),
      bit_and-all (slice_index bytes 6) (fits 6),
      bit_and-all (slice_index bytes 7) (fits 7),
      high,
      low,
    ) refl)
    (λ bytes other fits other_fits same.
    let high = masked_alike_at (used 4 ++ (cleared 2 ++ used 2)) bytes other 6 fits other_fits refl same in
    let low = masked_alike_at (used 4 ++ (cleared 2 ++ used 2)) bytes other 7 fits other_fits refl same in
    cc)

-- the format with the pointer in byte 4 is lawful
with_pointer_lawful : IsLawfulIcmpv4 12 0 (inside ParameterProblem with_pointer)
with_pointer_lawful =
    eight_lawful written IsLen 12 0 255 0 0 0 (λ bytes. ParameterProblem (problem.PointerIndicatesError (slice_index bytes 4))) (inl refl)
    (λ bytes fits. rw (
      and_zero_r (slice_index bytes 5),
      and_zero_r (slice_index bytes 6),
      and_zero_r (slice_index bytes 7),
      bit_and-all (slice_index bytes 4) (fits 4),
    ) refl)
    (λ bytes other fits other_fits same.
    ap (λ at. ParameterProblem (problem.PointerIndicatesError at))
    (masked_alike_at (used 4 ++ (used 1 ++ cleared 3)) bytes other 4 fits other_fits refl same))

-- the format with the address of the gateway is lawful
redirect_lawful : (code : RedirectCode) → IsLawfulIcmpv4 5 (redirect_code code) (redirect code)
redirect_lawful code = all_used_lawful written IsLen 5 (redirect_code code) 8 _ (inl refl) refl refl refl refl refl
    (λ bytes fits enough is_type is_code.
    begins bytes 5 (redirect_code code) _ fits (omega arith) is_type is_code
    ∙ ap (λ later. take 4 bytes ++ later) (sym (drop_split bytes 4 8 (omega arith))))

-- the fields of a timestamp message are written as they were read
timestamp_fields-timestamp_of : (bytes : List ℕ) → IsBytes bytes → 20 ≤ length bytes
    → timestamp_fields (timestamp_of bytes 4) ++ drop 20 bytes ≡ drop 4 bytes
timestamp_fields-timestamp_of bytes fits enough =
    to_be_bytes-be_number_2 bytes 4 6 _ _ fits refl (omega arith) refl
    (to_be_bytes-be_number_2 bytes 6 8 _ _ fits refl (omega arith) refl
    (to_be_bytes-be_number_4 bytes 8 12 _ _ fits refl (omega arith) refl
    (to_be_bytes-be_number_4 bytes 12 16 _ _ fits refl (omega arith) refl
    (to_be_bytes-be_number_4 bytes 16 20 _ _ fits refl (omega arith) refl refl))))

timestamp_lawful : (type : ℕ) (variant : TimestampMessage → Icmpv4Type) → (type ≡ 13) ⊎ (type ≡ 14)
    → ((fields : TimestampMessage) → written (variant fields) ≡ record { type = type; code = 0; fields = timestamp_fields fields })
    → IsLawfulIcmpv4 type 0 (timestamp variant)
timestamp_lawful type variant is_timestamp is_written =
    all_used_lawful written IsLen type 0 20 (λ bytes. variant (timestamp_of bytes 4))
    (inr (refl, refl, is_timestamp)) refl refl refl refl refl
    (λ bytes fits enough is_type is_code.
    ap (λ w. w.type ∷ (w.code ∷ (to_be_bytes w16 (be_number bytes 2 2) ++ (w.fields ++ drop 20 bytes)))) (is_written (timestamp_of bytes 4))
    ∙ begins bytes type 0 _ fits (omega arith) is_type is_code
    ∙ ap (λ later. take 4 bytes ++ later) (timestamp_fields-timestamp_of bytes fits enough))

-- the raw format of every type and code is lawful
unknown_lawful : (type code : ℕ) → IsLawfulIcmpv4 type code unknown
unknown_lawful type code = all_used_lawful written IsLen type code 8 _ (inl refl) refl refl refl refl refl
    (λ bytes fits enough is_type is_code.
    begins bytes (slice_index bytes 0) (slice_index bytes 1) _ fits (omega arith) refl refl
    ∙ ap (λ later. take 4 bytes ++ later) (sym (drop_split bytes 4 8 (omega arith))))

-- ---- the list is lawful

dest_unreachable_lawful : AreLawful written IsLen 3 0 (map (inside DestinationUnreachable) dest_unreachable_formats)
unfolding AreLawful
dest_unreachable_lawful =
    unused_lawful written IsLen 3 0 (DestinationUnreachable dest.Network) (inl refl) refl
    ⊗ unused_lawful written IsLen 3 1 (DestinationUnreachable dest.Host) (inl refl) refl
    ⊗ unused_lawful written IsLen 3 2 (DestinationUnreachable dest.Protocol) (inl refl) refl
    ⊗ unused_lawful written IsLen 3 3 (DestinationUnreachable dest.Port) (inl refl) refl
    ⊗ with_next_hop_mtu_lawful
    ⊗ unused_lawful written IsLen 3 5 (DestinationUnreachable dest.SourceRouteFailed) (inl refl) refl
    ⊗ unused_lawful written IsLen 3 6 (DestinationUnreachable dest.NetworkUnknown) (inl refl) refl
    ⊗ unused_lawful written IsLen 3 7 (DestinationUnreachable dest.HostUnknown) (inl refl) refl
    ⊗ unused_lawful written IsLen 3 8 (DestinationUnreachable dest.Isolated) (inl refl) refl
    ⊗ unused_lawful written IsLen 3 9 (DestinationUnreachable dest.NetworkProhibited) (inl refl) refl
    ⊗ unused_lawful written IsLen 3 10 (DestinationUnreachable dest.HostProhibited) (inl refl) refl
    ⊗ unused_lawful written IsLen 3 11 (DestinationUnreachable dest.TosNetwork) (inl refl) refl
    ⊗ unused_lawful written IsLen 3 12 (DestinationUnreachable dest.TosHost) (inl refl) refl
    ⊗ unused_lawful written IsLen 3 13 (DestinationUnreachable dest.FilterProhibited) (inl refl) refl
    ⊗ unused_lawful written IsLen 3 14 (DestinationUnreachable dest.HostPrecedenceViolation) (inl refl) refl
    ⊗ unused_lawful written IsLen 3 15 (DestinationUnreachable dest.PrecedenceCutoff) (inl refl) refl
    ⊗ tt

redirects_lawful : AreLawful written IsLen 5 0 (map redirect redirect_codes)
unfolding AreLawful
redirects_lawful =
    redirect_lawful redirected.RedirectForNetwork
    ⊗ redirect_lawful redirected.RedirectForHost
    ⊗ redirect_lawful redirected.RedirectForTypeOfServiceAndNetwork
    ⊗ redirect_lawful redirected.RedirectForTypeOfServiceAndHost
    ⊗ tt

time_exceeded_lawful : AreLawful written IsLen 11 0 (map (λ code. unused (TimeExceeded code)) time_exceeded_codes)
unfolding AreLawful
time_exceeded_lawful =
    unused_lawful written IsLen 11 0 (TimeExceeded exceeded.TtlExceededInTransit) (inl refl) refl
    ⊗ unused_lawful written IsLen 11 1 (TimeExceeded exceeded.FragmentReassemblyTimeExceeded) (inl refl) refl
    ⊗ tt

parameter_problem_lawful : AreLawful written IsLen 12 0 (map (inside ParameterProblem) parameter_problem_formats)
unfolding AreLawful
parameter_problem_lawful =
    with_pointer_lawful
    ⊗ unused_lawful written IsLen 12 1 (ParameterProblem problem.MissingRequiredOption) (inl refl) refl
    ⊗ unused_lawful written IsLen 12 2 (ParameterProblem problem.BadLength) (inl refl) refl
    ⊗ tt

formats_lawful : AllAreLawful written IsLen formats
unfolding AreLawful AllAreLawful
formats_lawful =
    (echo_lawful written IsLen 0 EchoReply (inl refl) (λ fields. refl) ⊗ tt)
    ⊗ dest_unreachable_lawful
    ⊗ redirects_lawful
    ⊗ (echo_lawful written IsLen 8 EchoRequest (inl refl) (λ fields. refl) ⊗ tt)
    ⊗ time_exceeded_lawful
    ⊗ parameter_problem_lawful
    ⊗ (timestamp_lawful 13 TimestampRequest (inl refl) (λ fields. refl) ⊗ tt)
    ⊗ (timestamp_lawful 14 TimestampReply (inr refl) (λ fields. refl) ⊗ tt)
    ⊗ tt

-- the format of each type and code is lawful
format_at-lawful : (type code : ℕ) → IsLawfulIcmpv4 type code (format_at type code)
format_at-lawful type code = format_in-lawful written IsLen formats unknown formats_lawful unknown_lawful type code

-- the format of each packet is lawful
pub format_of-lawful : (bytes : List ℕ) → IsLawfulIcmpv4 (slice_index bytes 0) (slice_index bytes 1) (format_of bytes)
unfolding format_of
format_of-lawful bytes = format_at-lawful (slice_index bytes 0) (slice_index bytes 1)

-- ---- the length of the header

header_len_at : ℕ → ℕ → ℕ
header_len_at type code = (unwrap_or (slice_get (codes_of formats type) code) unknown).layout.header_len

header_len_timestamp : (type code at : ℕ) → type ≡ at → code ≡ 0 → header_len_at at 0 ≡ 20 → header_len_at type code ≡ 20
header_len_timestamp type code at is_type is_code twenty =
    ap (λ t. header_len_at t code) is_type ∙ ap (header_len_at at) is_code ∙ twenty

pub header_len_of_timestamps : (bytes : List ℕ) → (slice_index bytes 0 ≡ 13) ⊎ (slice_index bytes 0 ≡ 14) → slice_index bytes 1 ≡ 0
    → (layout_of bytes).header_len ≡ 20
unfolding format_of header_len_at
header_len_of_timestamps bytes (inl type) code = header_len_timestamp (slice_index bytes 0) (slice_index bytes 1) 13 type code refl
header_len_of_timestamps bytes (inr type) code = header_len_timestamp (slice_index bytes 0) (slice_index bytes 1) 14 type code refl

other_len : (type code len : ℕ) → (len ≡ 8) ⊎ ((len ≡ 20) × (code ≡ 0) × ((type ≡ 13) ⊎ (type ≡ 14)))
    → ((type ≡ 13) ⊎ (type ≡ 14) → code ≢ 0) → len ≡ 8
other_len type code len (inl eight) other = eight
other_len type code len (inr timestamp) other = absurd (other timestamp.2 timestamp.1)

pub header_len_of_others : (bytes : List ℕ) → ((slice_index bytes 0 ≡ 13) ⊎ (slice_index bytes 0 ≡ 14) → slice_index bytes 1 ≢ 0)
    → (layout_of bytes).header_len ≡ 8
header_len_of_others bytes other = other_len (slice_index bytes 0) (slice_index bytes 1) _ (format_of-lawful bytes).header_len other

whole_len : (type code len there : ℕ) → (len ≡ 8) ⊎ ((len ≡ 20) × (code ≡ 0) × ((type ≡ 13) ⊎ (type ≡ 14)))
    → 8 ≤ there → ((type ≡ 13) ⊎ (type ≡ 14) → code ≡ 0 → there ≡ 20) → len ≤ there
whole_len type code len there (inl eight) shortest timestamps = omega arith
whole_len type code len there (inr timestamp) shortest timestamps = omega (arith, timestamp.0, timestamps timestamp.2 timestamp.1)

-- the bytes contain a whole header
pub header_len_whole : (bytes : List ℕ) → HasWholeHeader bytes → (layout_of bytes).header_len ≤ length bytes
header_len_whole bytes whole =
    whole_len (slice_index bytes 0) (slice_index bytes 1) _ _ (format_of-lawful bytes).header_len whole.shortest whole.timestamp

timestamp_len : (bytes : List ℕ) → refusal bytes ≡ None → slice_index bytes 0 ≡ 13 → slice_index bytes 1 ≡ 0 → length bytes ≡ 20
timestamp_len bytes accepted type code = grind (arith, nat_tests)

timestamp_reply_len : (bytes : List ℕ) → refusal bytes ≡ None → slice_index bytes 0 ≡ 14 → slice_index bytes 1 ≡ 0 → length bytes ≡ 20
timestamp_reply_len bytes accepted type code = grind (arith, nat_tests)

timestamps_len : (bytes : List ℕ) → refusal bytes ≡ None → (slice_index bytes 0 ≡ 13) ⊎ (slice_index bytes 0 ≡ 14) → slice_index bytes 1 ≡ 0
    → length bytes ≡ 20
timestamps_len bytes accepted (inl type) code = timestamp_len bytes accepted type code
timestamps_len bytes accepted (inr type) code = timestamp_reply_len bytes accepted type code

-- accepted bytes contain a whole header
pub accepted-whole : (bytes : List ℕ) → refusal bytes ≡ None → HasWholeHeader bytes
accepted-whole bytes accepted = record { shortest = grind (arith, nat_tests); timestamp = timestamps_len bytes accepted }

-- the length of the written header is the length of the header that was read
pub length_wire : (bytes : List ℕ) → IsBytes bytes → HasWholeHeader bytes → length (wire (header_of bytes)) ≡ (layout_of bytes).header_len
length_wire bytes fits whole =
    let len = (layout_of bytes).header_len in
    let there = header_len_whole bytes whole in
    let same = ap length ((format_of-lawful bytes).writes bytes fits there refl refl) in
    let both = length-append (wire (header_of bytes)) (drop len bytes) in
    let rest = length-drop len bytes in
    let all = length-masked (layout_of bytes).masks bytes in
    omega (arith, same, both, rest, all, there)

-- ---- the laws

-- writing the header and the rest gives the canonical bytes
pub written_back : (bytes : List ℕ) (header : Icmpv4Header) (rest : List ℕ) → IsBytes bytes → DecodesAs bytes header rest
    → wire header ++ rest ≡ canonical bytes
written_back bytes header rest fits read =
    ap (λ h. wire h ++ rest) read.fields
    ∙ ap (λ r. wire (header_of bytes) ++ r) read.after_header
    ∙ (format_of-lawful bytes).writes bytes fits (header_len_whole bytes (accepted-whole bytes read.accepted)) refl refl

-- packets with the same canonical bytes are read alike
read_alike : (bytes other : List ℕ) → IsBytes bytes → IsBytes other → canonical other ≡ canonical bytes
    → (icmp_type_of other ≡ icmp_type_of bytes) × (be_number other 2 2 ≡ be_number bytes 2 2)
    × (drop (layout_of other).header_len other ≡ drop (layout_of bytes).header_len bytes)
unfolding format_of
read_alike bytes other fits other_fits same = canonical_alike written IsLen format_at format_at-lawful bytes other fits other_fits same

-- two accepted packets read alike exactly if their canonical bytes are the same
pub decode_alike : (bytes other : List ℕ) (header : Icmpv4Header) (rest : List ℕ) → IsBytes bytes → IsBytes other
    → DecodesAs bytes header rest
    → refusal other ≡ None → (DecodesAs other header rest ↔ (canonical other ≡ canonical bytes))
decode_alike bytes other header rest fits other_fits read accepted = (
  λ alike. sym (written_back other header rest other_fits alike) ∙ written_back bytes header rest fits read,
  λ same.
      let alike = read_alike bytes other fits other_fits same in
      let message : icmp_type_of other ≡ icmp_type_of bytes = alike.0 in
      let checksum : be_number other 2 2 ≡ be_number bytes 2 2 = alike.1 in
      let headers : header_of other ≡ header_of bytes = cc in
      record { accepted = accepted; fields = read.fields ∙ sym headers; after_header = read.after_header ∙ sym alike.2 },
)
