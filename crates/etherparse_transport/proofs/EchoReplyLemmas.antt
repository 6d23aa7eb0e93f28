-- Laws of the replies to echo requests: the sum of a request and of its reply, and the reading of the reply.
use Rattle.std.proofs.Common.{◌≡◌, ℕ, ◌+◌, ◌-◌, ◌*◌, ◌<◌, ◌≤◌, ◌==◌, ◌&&◌, not, nat_lt, Bool, true, false, List, [], ◌∷◌, ◌++◌, length, take, drop, slice_index, slice_range, length-append, Some, None, inl, inr, refl, sym, ap, ◌∙◌, subst, arith}
use Rattle.std.specs.Int.{to_be_bytes, w16, w32}
use Rattle.std.specs.Option.{option_map}
use Rattle.std.proofs.lemmas.Bool.Decides.{nat_tests}
use Rattle.std.proofs.lemmas.List.{append_assoc, drop-append-le, drop-drop, length-drop, length-take-le, take-append-drop}
use Rattle.icmp_part.specs.IcmpEcho.{echo_fields}
use Rattle.icmp_part.specs.Icmpv4Format as icmpv4
use Rattle.icmp_part.specs.Icmpv6Format as icmpv6
use Rattle.icmp_part.specs.Icmpv4Validity.{IsValidIcmpv4}
use Rattle.icmp_part.specs.Icmpv6Validity.{IsValidIcmpv6}
use Rattle.icmp_part.specs.declared.icmp_echo_header.IcmpEchoHeader.{IcmpEchoHeader}
use Rattle.icmp_part.specs.declared.icmpv4_header.Icmpv4Header.{Icmpv4Header}
use Rattle.icmp_part.specs.declared.icmpv4_type.Icmpv4Type.TheVariants as v4
use Rattle.icmp_part.specs.declared.icmpv6_header.Icmpv6Header.{Icmpv6Header}
use Rattle.icmp_part.specs.declared.icmpv6_type.Icmpv6Type.{Icmpv6Type}
use Rattle.icmp_part.specs.declared.icmpv6_type.Icmpv6Type.TheVariants as v6
use Rattle.icmp_part.proofs.Icmpv4FormatLemmas.{accepted-whole}
use Rattle.icmp_part.proofs.Icmpv6FormatLemmas.{accepted-length}
use Rattle.icmp_part.proofs.Icmpv4ValidityLemmas as icmpv4_valid
use Rattle.icmp_part.proofs.Icmpv6ValidityLemmas as icmpv6_valid
use Rattle.ip_part.specs.Addresses.{Addresses}
use Rattle.ip_part.specs.Addresses as addresses
use Rattle.ip_part.specs.Ip.{counted_len}
use Rattle.ip_part.specs.Ip as ip
use Rattle.net_base.specs.Bytes.{be_number}
use Rattle.net_base.specs.IpHeaders.{ipv4_is_fragment}
use Rattle.net_base.specs.PseudoHeader.{ipv6_pseudo_header}
use Rattle.net_base.specs.Refusals.{refused_if}
use Rattle.word_sum.specs.Checksum.{AcceptsChecksum, IsAllOnes, Verifies, checksum_of, folded, total}
use Rattle.word_sum.proofs.ChecksumLemmas.{accepted_checksum, checksum_verifies, folded-some, total-append_twice}
use Rattle.etherparse_transport.specs.EchoReplies.{IsPlainRequest, IsIpv6Request, icmpv4_refusal, icmpv4_reply, icmpv4_reply_to, icmpv6_refusal, icmpv6_reply, icmpv6_reply_to, plain_reply, ipv4_reply_start, ipv6_reply, message_after, is_all_ones}
use Rattle.etherparse_transport.specs.declared.err.packet.answer_echo_error.AnswerEchoError.TheVariants.{Checksum, Len, NoEchoRequest}
use Rattle.etherparse_transport.specs.Formats.{IsReadBack, proto_of, wire}
use Rattle.etherparse_transport.specs.Packets.{IsReadAs, ipv4_fields, ipv4_header, ipv6_header, number_of}
use Rattle.etherparse_transport.specs.ReplyTo.{echoed}
use Rattle.etherparse_transport.specs.declared.transport_header.TransportHeader.{TransportHeader}
use Rattle.etherparse_transport.specs.declared.transport_header.TransportHeader.TheVariants as headers
use Rattle.etherparse_transport.proofs.BuiltLemmas.{IsRight, found_right, icmpv4_right, icmpv6_accepted, icmpv6_right, mapped_none, none_first, none_if, not_above}
use Rattle.etherparse_transport.proofs.PacketLemmas.{HasMessage, Start, StartIpv6, front_ipv4, front_ipv6, ipv4_header_verifies, message_over_ipv4, message_over_ipv6, start_bytes, start_bytes_ipv6}

-- ---- the checksum

-- a checksum below all ones that a receiver accepts is the computed checksum
accepted_is : (n stored : ℕ) → stored < 65535 → AcceptsChecksum n stored → stored ≡ checksum_of n
accepted_is n stored small (inl is) = is
accepted_is n stored small (inr zeros) = absurd (omega (arith, small, zeros.1))

pub only_checksum : (n stored : ℕ) → stored < 65535 → IsAllOnes (n + stored) → stored ≡ checksum_of n
only_checksum n stored small ones = accepted_is n stored small ((accepted_checksum n stored (omega (arith, small))).0 ones)

-- the checksum of a total above 0 is below all ones
pub below_all_ones : (n : ℕ) → 0 < n → checksum_of n < 65535
below_all_ones n some = omega (arith, folded-some n some)

-- ---- the sum of a message

-- the sum of a message by its first eight bytes, the last four of which are these fields
pub message_total : (message fields : List ℕ) → 8 ≤ length message
    → fields ≡ slice_index message 4 ∷ slice_index message 5 ∷ slice_index message 6 ∷ slice_index message 7 ∷ []
    → total message ≡ slice_index message 0 * 256 + slice_index message 1
    + (be_number message 2 2 + (total fields + total (drop 8 message)))
message_total (a ∷ (b ∷ (c ∷ (d ∷ (e ∷ (f ∷ (g ∷ (h ∷ rest)))))))) fields long is = omega (arith, ap total is)
message_total [] fields long is = absurd (omega arith)
message_total (a ∷ []) fields long is = absurd (omega arith)
message_total (a ∷ (b ∷ [])) fields long is = absurd (omega arith)
message_total (a ∷ (b ∷ (c ∷ []))) fields long is = absurd (omega arith)
message_total (a ∷ (b ∷ (c ∷ (d ∷ [])))) fields long is = absurd (omega arith)
message_total (a ∷ (b ∷ (c ∷ (d ∷ (e ∷ []))))) fields long is = absurd (omega arith)
message_total (a ∷ (b ∷ (c ∷ (d ∷ (e ∷ (f ∷ [])))))) fields long is = absurd (omega arith)
message_total (a ∷ (b ∷ (c ∷ (d ∷ (e ∷ (f ∷ (g ∷ []))))))) fields long is = absurd (omega arith)

-- the sum for the checksum of an ICMPv4 echo request
pub icmpv4_request_sum : (echo : IcmpEchoHeader) (payload : List ℕ)
    → icmpv4.checksummed (record { icmp_type = v4.EchoRequest echo; checksum = 0 }) payload ≡ 2048
    + (total (echo_fields echo) + total payload)
icmpv4_request_sum echo payload = omega arith

pub icmpv4_reply_sum : (echo : IcmpEchoHeader) (payload : List ℕ)
    → icmpv4.checksummed (record { icmp_type = v4.EchoReply echo; checksum = 0 }) payload ≡ total (echo_fields echo) + total payload
icmpv4_reply_sum echo payload = omega arith

-- ---- an accepted request

both : (a b : Bool) → not (a && b) ≡ false → (a ≡ true) × (b ≡ true)
both true true is = (refl, refl)
both true false is = absurd (grind arith)
both false b is = absurd (grind arith)

pub once : (a : Bool) → not a ≡ false → a ≡ true
once true is = refl
once false is = absurd (grind arith)

pub is_number : (m n : ℕ) → (m == n) ≡ true → m ≡ n
is_number m n is = grind (arith, nat_tests)

-- a message with this type and code 0, whose sum is all ones
pub record IsEchoRequest (type : ℕ) (message : List ℕ) (sum : ℕ) : Type 0 where
  pub shortest : 8 ≤ length message
  pub type_is : slice_index message 0 ≡ type
  pub code_is : slice_index message 1 ≡ 0
  pub ones : IsAllOnes sum

pub icmpv4_request : (message : List ℕ) → icmpv4_refusal message ≡ None → IsEchoRequest 8 message (total message)
icmpv4_request message accepted =
    let after_message = none_first (option_map Len (icmpv4.refusal message)) _ accepted in
    let after_type = none_first (refused_if (not (slice_index message 0 == 8 && slice_index message 1 == 0)) NoEchoRequest) _
    after_message.1 in
    let after_sum = none_first (refused_if (not (is_all_ones (total message))) Checksum) _ after_type.1 in
    let kind = both (slice_index message 0 == 8) (slice_index message 1 == 0) (none_if _ NoEchoRequest after_type.0) in
    record {
      shortest = (accepted-whole message (mapped_none Len (icmpv4.refusal message) after_message.0)).shortest;
      type_is = is_number (slice_index message 0) 8 kind.0;
      code_is = is_number (slice_index message 1) 0 kind.1;
      ones = is_number (folded (total message)) 65535 (once (is_all_ones (total message)) (none_if _ Checksum after_sum.0));
    }

pub icmpv6_request : (source destination message : List ℕ) → icmpv6_refusal source destination message ≡ None
    → IsEchoRequest 128 message (total (ipv6_pseudo_header source destination 58 (length message)) + total message)
icmpv6_request source destination message accepted =
    let sum : ℕ = total (ipv6_pseudo_header source destination 58 (length message)) + total message in
    let after_message = none_first (option_map Len (icmpv6.refusal message)) _ accepted in
    let after_type = none_first (refused_if (not (slice_index message 0 == 128 && slice_index message 1 == 0)) NoEchoRequest) _
    after_message.1 in
    let after_sum = none_first (refused_if (not (is_all_ones sum)) Checksum) _ after_type.1 in
    let kind = both (slice_index message 0 == 128) (slice_index message 1 == 0) (none_if _ NoEchoRequest after_type.0) in
    record {
      shortest = (accepted-length message (mapped_none Len (icmpv6.refusal message) after_message.0)).shortest;
      type_is = is_number (slice_index message 0) 128 kind.0;
      code_is = is_number (slice_index message 1) 0 kind.1;
      ones = is_number (folded sum) 65535 (once (is_all_ones sum) (none_if _ Checksum after_sum.0));
    }

-- ---- the bytes of a packet

-- the bytes of a packet after the first n bytes of its message: the rest of the message, and the padding
after_front : (n header_len end : ℕ) (packet : List ℕ) → header_len + n ≤ end → end ≤ length packet
    → drop (header_len + n) packet ≡ drop n (drop header_len (take end packet)) ++ drop end packet
after_front n header_len end packet long there =
    let counted : length (take end packet) ≡ end = length-take-le end packet there in
    ap (drop (header_len + n)) (sym (take-append-drop end packet))
    ∙ drop-append-le (header_len + n) (take end packet) (drop end packet) (omega (arith, counted, long))
    ∙ ap (λ bytes. bytes ++ drop end packet) (sym (drop-drop n header_len (take end packet)))

-- the bytes of a packet after the first eight bytes of its message: the rest of the message, and the padding
pub after_message_header : (header_len end : ℕ) (packet : List ℕ) → header_len + 8 ≤ end → end ≤ length packet
    → drop (header_len + 8) packet ≡ drop 8 (drop header_len (take end packet)) ++ drop end packet
after_message_header header_len end packet long there = after_front 8 header_len end packet long there

-- only the first four bytes of a reply differ from its request
reply_in_packet : (header_len end : ℕ) (packet reply : List ℕ) → header_len + 8 ≤ end → end ≤ length packet → length reply ≡ 8
    → echoed (reply ++ drop 8 (drop header_len (take end packet))) ≡ echoed (drop header_len (take end packet))
    → take 4 reply ++ drop (header_len + 4) packet ≡ reply ++ drop (header_len + 8) packet
reply_in_packet header_len end packet reply long there len same =
    let message : List ℕ = drop header_len (take end packet) in
    let padding : List ℕ = drop end packet in
    ap (λ bytes. take 4 reply ++ bytes)
    (after_front 4 header_len end packet (omega (arith, long)) there
    ∙ ap (λ bytes. bytes ++ padding) (sym same ∙ drop-append-le 4 reply (drop 8 message) (omega (arith, len)))
    ∙ append_assoc (drop 4 reply) (drop 8 message) padding
    ∙ ap (λ bytes. drop 4 reply ++ bytes) (sym (after_message_header header_len end packet long there)))
    ∙ sym (append_assoc (take 4 reply) (drop 4 reply) (drop (header_len + 8) packet))
    ∙ ap (λ bytes. bytes ++ drop (header_len + 8) packet) (take-append-drop 4 reply)

-- the start of an IPv4 header of five words
abbrev pub start_of : List ℕ → Start
start_of packet = record {
  type_of_service = slice_index packet 1;
  len_high = slice_index packet 2;
  len_low = slice_index packet 3;
  id_high = slice_index packet 4;
  id_low = slice_index packet 5;
  offset_high = slice_index packet 6;
  offset_low = slice_index packet 7;
}

-- the start of an IPv4 header of five words in a reply
abbrev pub reply_start_of : List ℕ → Start
reply_start_of packet = record (start_of packet) { offset_high = 0x40; offset_low = 0 }

pub starts : (packet : List ℕ) → 8 ≤ length packet → slice_index packet 0 ≡ 0x45 → packet ≡ start_bytes (start_of packet) ++ drop 8 packet
starts (a ∷ (b ∷ (c ∷ (d ∷ (e ∷ (f ∷ (g ∷ (h ∷ rest)))))))) long first = ap (λ a. a ∷ (b ∷ (c ∷ (d ∷ (e ∷ (f ∷ (g ∷ (h ∷ rest)))))))) first
starts [] long first = absurd (omega arith)
starts (a ∷ []) long first = absurd (omega arith)
starts (a ∷ (b ∷ [])) long first = absurd (omega arith)
starts (a ∷ (b ∷ (c ∷ []))) long first = absurd (omega arith)
starts (a ∷ (b ∷ (c ∷ (d ∷ [])))) long first = absurd (omega arith)
starts (a ∷ (b ∷ (c ∷ (d ∷ (e ∷ []))))) long first = absurd (omega arith)
starts (a ∷ (b ∷ (c ∷ (d ∷ (e ∷ (f ∷ [])))))) long first = absurd (omega arith)
starts (a ∷ (b ∷ (c ∷ (d ∷ (e ∷ (f ∷ (g ∷ []))))))) long first = absurd (omega arith)

-- the start of an IPv6 header
abbrev pub start_of_ipv6 : List ℕ → StartIpv6
start_of_ipv6 packet = record {
  first = slice_index packet 0;
  second = slice_index packet 1;
  third = slice_index packet 2;
  fourth = slice_index packet 3;
  len_high = slice_index packet 4;
  len_low = slice_index packet 5;
}

pub starts_ipv6 : (packet : List ℕ) → 6 ≤ length packet → packet ≡ start_bytes_ipv6 (start_of_ipv6 packet) ++ drop 6 packet
starts_ipv6 (a ∷ (b ∷ (c ∷ (d ∷ (e ∷ (f ∷ rest)))))) long = refl
starts_ipv6 [] long = absurd (omega arith)
starts_ipv6 (a ∷ []) long = absurd (omega arith)
starts_ipv6 (a ∷ (b ∷ [])) long = absurd (omega arith)
starts_ipv6 (a ∷ (b ∷ (c ∷ []))) long = absurd (omega arith)
starts_ipv6 (a ∷ (b ∷ (c ∷ (d ∷ [])))) long = absurd (omega arith)
starts_ipv6 (a ∷ (b ∷ (c ∷ (d ∷ (e ∷ []))))) long = absurd (omega arith)

-- ---- the reply is read

-- a packet with this message, which the slice of the protocol accepts, is read as the header and the payload of the message
read_as : (packet : List ℕ) (between : Addresses) (header : TransportHeader) (payload : List ℕ)
    → HasMessage packet between (number_of (proto_of header)) (wire header ++ payload)
    → IsRight between (proto_of header) (wire header ++ payload) → IsReadBack header payload → IsReadAs packet between header payload
read_as packet between header payload has right reads = record {
  accepted = has.accepted;
  carries = λ found carries.
      found_right between (proto_of header) (wire header ++ payload) found right
      (has.addresses found carries) (has.protocol found carries) (has.message found carries)
      (has.is_fragment found carries) (has.is_later_fragment found carries) (has.is_cut_off found carries)
      (has.is_length_missing found carries);
  read_back = reads;
}

-- the checksum of the reply is right
pub icmpv4_reply_valid : (echo : IcmpEchoHeader) (payload : List ℕ) → IsValidIcmpv4 (icmpv4.wire (icmpv4_reply echo payload) ++ payload)
icmpv4_reply_valid echo payload =
    let header : Icmpv4Header = icmpv4_reply echo payload in
    let small : header.checksum < 65536 = omega arith in
    icmpv4_valid.built_valid header payload refl small (checksum_verifies _ _ refl)

-- the packet of the reply contains its message
pub ipv4_reply_has : (packet source destination : List ℕ) (time_to_live : ℕ) (echo : IcmpEchoHeader) → IsPlainRequest packet
    → length source ≡ 4 → length destination ≡ 4
    → HasMessage
    (ipv4_header (ipv4_reply_start packet) time_to_live 1 source destination
    ++ (icmpv4.wire (icmpv4_reply echo (drop 8 (message_after 20 packet))) ++ drop 28 packet))
    (addresses.Ipv4 source destination) 1
    (icmpv4.wire (icmpv4_reply echo (drop 8 (message_after 20 packet))) ++ drop 8 (message_after 20 packet))
ipv4_reply_has packet source destination time_to_live echo is len len_too =
    let message : List ℕ = message_after 20 packet in
    let shortest : 8 ≤ length message = (icmpv4_request message is.message).shortest in
    let payload : List ℕ = drop 8 message in
    let padding : List ℕ = drop (counted_len false packet) packet in
    let header : Icmpv4Header = icmpv4_reply echo payload in
    let sent : List ℕ = icmpv4.wire header ++ payload in
    let start : Start = reply_start_of packet in
    let packet_is : packet ≡ start_bytes (start_of packet) ++ drop 8 packet =
    starts packet (omega (arith, is.end, is.there)) is.five_words in
    let payload_len : length payload ≡ length message - 8 = length-drop 8 message in
    let counts : start.len_high * 256 + start.len_low ≡ 20 + length sent =
    omega (arith, ap ip.total_len packet_is, ap (counted_len false) packet_is, is.end, shortest, payload_len) in
    let part : ipv4_is_fragment (start_bytes start) ≡ false = refl in
    let checksum : List ℕ = to_be_bytes w16 (checksum_of (total (ipv4_fields (start_bytes start) time_to_live 1 source destination 0))) in
    let front : List ℕ → List ℕ = front_ipv4 start time_to_live 1 (slice_index checksum 0) (slice_index checksum 1) in
    let has : HasMessage (front ((source ++ destination) ++ (sent ++ padding))) (addresses.Ipv4 source destination) 1 sent =
    message_over_ipv4 start time_to_live 1 _ _ source destination sent padding len len_too counts part refl in
    let after : drop 28 packet ≡ payload ++ padding =
    after_message_header 20 (counted_len false packet) packet (omega (arith, is.end, shortest)) is.there in
    let reply_is : ipv4_header (ipv4_reply_start packet) time_to_live 1 source destination ++ (icmpv4.wire header ++ drop 28 packet)
    ≡ front ((source ++ destination) ++ (sent ++ padding)) =
    ap (λ bytes. ipv4_header bytes time_to_live 1 source destination ++ (icmpv4.wire header ++ drop 28 packet))
    (ap ipv4_reply_start packet_is)
    ∙ ap (λ bytes. front ((source ++ destination) ++ (icmpv4.wire header ++ bytes))) after
    ∙ ap (λ bytes. front ((source ++ destination) ++ bytes)) (sym (append_assoc (icmpv4.wire header) payload padding)) in
    let Has : List ℕ → Type 0 = λ bytes. HasMessage bytes (addresses.Ipv4 source destination) 1 sent in
    subst Has (sym reply_is) has

pub ipv4_reply_read : (packet source destination : List ℕ) (time_to_live : ℕ) (echo : IcmpEchoHeader) → IsPlainRequest packet
    → length source ≡ 4 → length destination ≡ 4
    → IsReadBack (headers.Icmpv4 (icmpv4_reply echo (drop 8 (message_after 20 packet)))) (drop 8 (message_after 20 packet))
    → IsReadAs
    (ipv4_header (ipv4_reply_start packet) time_to_live 1 source destination
    ++ (icmpv4.wire (icmpv4_reply echo (drop 8 (message_after 20 packet))) ++ drop 28 packet))
    (addresses.Ipv4 source destination) (headers.Icmpv4 (icmpv4_reply echo (drop 8 (message_after 20 packet))))
    (drop 8 (message_after 20 packet))
ipv4_reply_read packet source destination time_to_live echo is len len_too reads =
    let payload : List ℕ = drop 8 (message_after 20 packet) in
    let header : Icmpv4Header = icmpv4_reply echo payload in
    read_as _ (addresses.Ipv4 source destination) (headers.Icmpv4 header) payload
    (ipv4_reply_has packet source destination time_to_live echo is len len_too)
    (icmpv4_right source destination (icmpv4.wire header ++ payload) reads.accepted (icmpv4_reply_valid echo payload)) reads

pub ipv4_reply_verifies : (packet source destination after : List ℕ) (time_to_live : ℕ) → IsPlainRequest packet
    → length source ≡ 4 → length destination ≡ 4
    → Verifies [] (ip.ipv4_header (ipv4_header (ipv4_reply_start packet) time_to_live 1 source destination ++ after))
ipv4_reply_verifies packet source destination after time_to_live is len len_too =
    let packet_is : packet ≡ start_bytes (start_of packet) ++ drop 8 packet =
    starts packet (omega (arith, is.end, is.there)) is.five_words in
    let Sums : List ℕ → Type 0 = λ start. Verifies [] (ip.ipv4_header (ipv4_header start time_to_live 1 source destination ++ after)) in
    subst Sums (sym (ap ipv4_reply_start packet_is))
    (ipv4_header_verifies (reply_start_of packet) time_to_live 1 source destination after len len_too)

-- the first four bytes, each taken from another list that is equal to `bytes`
pub first_four : (first second third fourth bytes : List ℕ) → first ≡ bytes → second ≡ bytes → third ≡ bytes → fourth ≡ bytes
    → slice_index first 0 ∷ slice_index second 1 ∷ slice_index third 2 ∷ slice_index fourth 3 ∷ []
    ≡ slice_index bytes 0 ∷ slice_index bytes 1 ∷ slice_index bytes 2 ∷ slice_index bytes 3 ∷ []
first_four first second third fourth bytes is is_too is_third is_fourth =
    ap (λ first. slice_index first 0 ∷ slice_index second 1 ∷ slice_index third 2 ∷ slice_index fourth 3 ∷ []) is
    ∙ ap (λ second. slice_index bytes 0 ∷ slice_index second 1 ∷ slice_index third 2 ∷ slice_index fourth 3 ∷ []) is_too
    ∙ ap (λ third. slice_index bytes 0 ∷ slice_index bytes 1 ∷ slice_index third 2 ∷ slice_index fourth 3 ∷ []) is_third
    ∙ ap (λ fourth. slice_index bytes 0 ∷ slice_index bytes 1 ∷ slice_index bytes 2 ∷ slice_index fourth 3 ∷ []) is_fourth

pub reply_start_len : (packet : List ℕ) → 6 ≤ length packet → length (ipv4_reply_start packet) ≡ 8
reply_start_len packet there = omega (arith, length-append (take 6 packet) (0x40 ∷ 0 ∷ []), length-take-le 6 packet there)

-- the bytes that are written are the packet of the reply
pub ipv4_written : (packet new first part source : List ℕ) (time_to_live : ℕ) → IsPlainRequest packet
    → length source ≡ 4 → length (slice_range packet 12 16) ≡ 4
    → first ≡ ipv4_header (ipv4_reply_start packet) time_to_live 1 source (slice_range packet 12 16)
    → part ≡ take 4 (icmpv4.wire (icmpv4_reply_to (message_after 20 packet)))
    → echoed (icmpv4.wire (icmpv4_reply_to (message_after 20 packet)) ++ drop 8 (message_after 20 packet))
    ≡ echoed (message_after 20 packet)
    → new ≡ first ++ (part ++ drop (length first + length part) packet) → new ≡ plain_reply source time_to_live packet
ipv4_written packet new first part source time_to_live is len len_too first_is part_is same new_is =
    let start_len : length (ipv4_reply_start packet) ≡ 8 = reply_start_len packet (omega (arith, is.end, is.there)) in
    let destination : List ℕ = slice_range packet 12 16 in
    let header : List ℕ = ipv4_header (ipv4_reply_start packet) time_to_live 1 source destination in
    let checksum : ℕ = checksum_of (total (ipv4_fields (ipv4_reply_start packet) time_to_live 1 source destination 0)) in
    let fields : List ℕ = (time_to_live ∷ 1 ∷ to_be_bytes w16 checksum) ++ (source ++ destination) in
    let first_len : length first ≡ 20 =
    omega (
      arith,
      ap length first_is,
      start_len,
      len,
      len_too,
      length-append source destination,
      length-append (ipv4_reply_start packet) fields,
    ) in
    let both_len : length first + length part ≡ 24 = omega (arith, first_len, ap length part_is) in
    let shortest : 8 ≤ length (message_after 20 packet) = (icmpv4_request (message_after 20 packet) is.message).shortest in
    new_is ∙ ap (λ n. first ++ (part ++ drop n packet)) both_len
    ∙ ap (λ bytes. bytes ++ (part ++ drop 24 packet)) first_is
    ∙ ap (λ bytes. header ++ (bytes ++ drop 24 packet)) part_is
    ∙ ap (λ bytes. header ++ bytes) (reply_in_packet 20 (counted_len false packet) packet
    (icmpv4.wire (icmpv4_reply_to (message_after 20 packet)))
    (omega (arith, is.end, shortest)) is.there refl same)

-- ---- over IPv6

-- the sum of a pseudo header
pseudo_total : (source destination : List ℕ) (len : ℕ) → length source ≡ 16 → length destination ≡ 16
    → total (ipv6_pseudo_header source destination 58 len) ≡ total source
    + (total destination + total (to_be_bytes w32 len ++ (0 ∷ 0 ∷ 0 ∷ 58 ∷ [])))
pseudo_total source destination len source_len destination_len =
    total-append_twice source destination (to_be_bytes w32 len ++ (0 ∷ 0 ∷ 0 ∷ 58 ∷ [])) (omega (arith, source_len))
    (omega (arith, destination_len))

-- the sum of an echo message from a source to a destination
abbrev pub icmpv6_sum : List ℕ → List ℕ → Icmpv6Type → List ℕ → ℕ
icmpv6_sum source destination message payload = icmpv6.checksummed source destination (record { icmp_type = message; checksum = 0 }) payload

-- the sum for the checksum of a reply differs from the sum for its request only by the type
pub icmpv6_type_changed : (source destination payload : List ℕ) (echo : IcmpEchoHeader)
    → icmpv6_sum source destination (v6.EchoReply echo) payload + 32768 ≡ icmpv6_sum source destination (v6.EchoRequest echo) payload
    + 33024
icmpv6_type_changed source destination payload echo = omega arith

-- the sum stays if source and destination are exchanged: the source of the request is the destination of the reply
pub icmpv6_addresses_changed : (source destination from payload : List ℕ) (echo : IcmpEchoHeader)
    → length source ≡ 16 → length destination ≡ 16 → length from ≡ 16
    → icmpv6_sum from source (v6.EchoReply echo) payload + total destination ≡ icmpv6_sum source destination (v6.EchoReply echo) payload
    + total from
icmpv6_addresses_changed source destination from payload echo source_len destination_len from_len =
    omega (
      arith,
      pseudo_total source destination (8 + length payload) source_len destination_len,
      pseudo_total from source (8 + length payload) from_len source_len,
    )

-- the sum of a request with its checksum is all ones
pub icmpv6_request_sum : (source destination message : List ℕ) (echo : IcmpEchoHeader) (stored : ℕ)
    → IsEchoRequest 128 message (total (ipv6_pseudo_header source destination 58 (length message)) + total message)
    → stored ≡ be_number message 2 2
    → echo_fields echo ≡ slice_index message 4 ∷ slice_index message 5 ∷ slice_index message 6 ∷ slice_index message 7 ∷ []
    → IsAllOnes (icmpv6_sum source destination (v6.EchoRequest echo) (drop 8 message) + stored)
icmpv6_request_sum source destination message echo stored is is_stored fields =
    let payload : List ℕ = drop 8 message in
    let len : 8 + length payload ≡ length message = omega (arith, length-drop 8 message, is.shortest) in
    let pseudo = ap (λ n. total (ipv6_pseudo_header source destination 58 n)) len in
    let whole : icmpv6_sum source destination (v6.EchoRequest echo) payload + stored
    ≡ total (ipv6_pseudo_header source destination 58 (length message)) + total message =
    omega (arith, pseudo, message_total message (echo_fields echo) is.shortest fields, is.type_is, is.code_is, is_stored) in
    ap folded whole ∙ is.ones

-- the message of an accepted request is not too long for the pseudo header
longest_request : (packet : List ℕ) → IsIpv6Request packet → length (message_after 40 packet) ≤ 4294967295
longest_request packet is =
    let message : List ℕ = message_after 40 packet in
    let accepted = none_first (option_map Len (icmpv6.refusal message)) _ is.message in
    (accepted-length message (mapped_none Len (icmpv6.refusal message) accepted.0)).longest

-- the checksum of the reply is right
pub icmpv6_reply_valid : (packet source : List ℕ) (echo : IcmpEchoHeader) → IsIpv6Request packet
    → IsValidIcmpv6 source (slice_range packet 8 24)
    (icmpv6.wire (icmpv6_reply source (slice_range packet 8 24) echo (drop 8 (message_after 40 packet)))
    ++ drop 8 (message_after 40 packet))
icmpv6_reply_valid packet source echo is =
    let destination : List ℕ = slice_range packet 8 24 in
    let payload : List ℕ = drop 8 (message_after 40 packet) in
    let header : Icmpv6Header = icmpv6_reply source destination echo payload in
    let small : header.checksum < 65536 = omega arith in
    icmpv6_valid.built_valid source destination payload header refl
    (omega (arith, length-drop 8 (message_after 40 packet), longest_request packet is)) small (checksum_verifies _ _ refl)

-- the packet of the reply contains its message
pub ipv6_reply_has : (packet source : List ℕ) (hop_limit : ℕ) (echo : IcmpEchoHeader) → IsIpv6Request packet
    → length source ≡ 16 → length (slice_range packet 8 24) ≡ 16
    → HasMessage
    (ipv6_header (take 6 packet) 58 hop_limit source (slice_range packet 8 24)
    ++ (icmpv6.wire (icmpv6_reply source (slice_range packet 8 24) echo (drop 8 (message_after 40 packet))) ++ drop 48 packet))
    (addresses.Ipv6 source (Some (slice_range packet 8 24))) 58
    (icmpv6.wire (icmpv6_reply source (slice_range packet 8 24) echo (drop 8 (message_after 40 packet)))
    ++ drop 8 (message_after 40 packet))
ipv6_reply_has packet source hop_limit echo is len len_too =
    let message : List ℕ = message_after 40 packet in
    let destination : List ℕ = slice_range packet 8 24 in
    let request = icmpv6_request destination (slice_range packet 24 40) message is.message in
    let payload : List ℕ = drop 8 message in
    let padding : List ℕ = drop (counted_len false packet) packet in
    let header : Icmpv6Header = icmpv6_reply source destination echo payload in
    let sent : List ℕ = icmpv6.wire header ++ payload in
    let start : StartIpv6 = start_of_ipv6 packet in
    let packet_is : packet ≡ start_bytes_ipv6 start ++ drop 6 packet = starts_ipv6 packet (omega (arith, is.end, is.there)) in
    let payload_len : length payload ≡ length message - 8 = length-drop 8 message in
    let counts : start.len_high * 256 + start.len_low ≡ length sent =
    omega (arith, ap ip.payload_len packet_is, is.stated, request.shortest, payload_len) in
    let front : List ℕ → List ℕ = front_ipv6 start 58 hop_limit in
    let has : HasMessage (front ((source ++ destination) ++ (sent ++ padding))) (addresses.Ipv6 source (Some destination)) 58 sent =
    message_over_ipv6 start 58 hop_limit source destination sent padding len len_too is.is_ipv6 counts (omega arith) refl in
    let after : drop 48 packet ≡ payload ++ padding =
    after_message_header 40 (counted_len false packet) packet (omega (arith, is.end, request.shortest)) is.there in
    let reply_is : ipv6_header (take 6 packet) 58 hop_limit source destination ++ (icmpv6.wire header ++ drop 48 packet)
    ≡ front ((source ++ destination) ++ (sent ++ padding)) =
    ap (λ bytes. ipv6_header bytes 58 hop_limit source destination ++ (icmpv6.wire header ++ drop 48 packet)) (ap (take 6) packet_is)
    ∙ ap (λ bytes. front ((source ++ destination) ++ (icmpv6.wire header ++ bytes))) after
    ∙ ap (λ bytes. front ((source ++ destination) ++ bytes)) (sym (append_assoc (icmpv6.wire header) payload padding)) in
    let Has : List ℕ → Type 0 = λ bytes. HasMessage bytes (addresses.Ipv6 source (Some destination)) 58 sent in
    subst Has (sym reply_is) has

-- a slice accepts the reply
pub icmpv6_reply_accepted : (packet source : List ℕ) (echo : IcmpEchoHeader) → IsIpv6Request packet
    → IsReadBack (headers.Icmpv6 (icmpv6_reply source (slice_range packet 8 24) echo (drop 8 (message_after 40 packet))))
    (drop 8 (message_after 40 packet))
    → icmpv6.refusal (icmpv6.wire (icmpv6_reply source (slice_range packet 8 24) echo (drop 8 (message_after 40 packet)))
    ++ drop 8 (message_after 40 packet))
    ≡ None
icmpv6_reply_accepted packet source echo is reads =
    let payload : List ℕ = drop 8 (message_after 40 packet) in
    let sent : List ℕ = icmpv6.wire (icmpv6_reply source (slice_range packet 8 24) echo payload) ++ payload in
    icmpv6_accepted sent _ _ (nat_lt icmpv6.max_payload_len (length payload))
    (not_above icmpv6.max_payload_len (length payload) (omega (arith, length-drop 8 (message_after 40 packet), longest_request packet is)))
    reads

pub ipv6_reply_read : (packet source : List ℕ) (hop_limit : ℕ) (echo : IcmpEchoHeader) → IsIpv6Request packet
    → length source ≡ 16 → length (slice_range packet 8 24) ≡ 16
    → IsReadBack (headers.Icmpv6 (icmpv6_reply source (slice_range packet 8 24) echo (drop 8 (message_after 40 packet))))
    (drop 8 (message_after 40 packet))
    → IsReadAs
    (ipv6_header (take 6 packet) 58 hop_limit source (slice_range packet 8 24)
    ++ (icmpv6.wire (icmpv6_reply source (slice_range packet 8 24) echo (drop 8 (message_after 40 packet))) ++ drop 48 packet))
    (addresses.Ipv6 source (Some (slice_range packet 8 24)))
    (headers.Icmpv6 (icmpv6_reply source (slice_range packet 8 24) echo (drop 8 (message_after 40 packet))))
    (drop 8 (message_after 40 packet))
ipv6_reply_read packet source hop_limit echo is len len_too reads =
    let destination : List ℕ = slice_range packet 8 24 in
    let payload : List ℕ = drop 8 (message_after 40 packet) in
    let header : Icmpv6Header = icmpv6_reply source destination echo payload in
    let sent : List ℕ = icmpv6.wire header ++ payload in
    let request = icmpv6_request destination (slice_range packet 24 40) (message_after 40 packet) is.message in
    let short : length sent ≤ 4294967295 =
    omega (arith, length-drop 8 (message_after 40 packet), longest_request packet is, request.shortest) in
    read_as _ (addresses.Ipv6 source (Some destination)) (headers.Icmpv6 header) payload
    (ipv6_reply_has packet source hop_limit echo is len len_too)
    (icmpv6_right source destination sent (icmpv6_reply_accepted packet source echo is reads) short
    (icmpv6_reply_valid packet source echo is)) reads

-- the bytes that are written are the packet of the reply
pub ipv6_written : (packet new first part source : List ℕ) (hop_limit : ℕ) → IsIpv6Request packet
    → length source ≡ 16 → length (slice_range packet 8 24) ≡ 16
    → first ≡ ipv6_header (take 6 packet) 58 hop_limit source (slice_range packet 8 24)
    → part ≡ take 4 (icmpv6.wire (icmpv6_reply_to source (slice_range packet 8 24) (message_after 40 packet)))
    → echoed (icmpv6.wire (icmpv6_reply_to source (slice_range packet 8 24) (message_after 40 packet)) ++ drop 8 (message_after 40 packet))
    ≡ echoed (message_after 40 packet)
    → new ≡ first ++ (part ++ drop (length first + length part) packet) → new ≡ ipv6_reply source hop_limit packet
ipv6_written packet new first part source hop_limit is len len_too first_is part_is same new_is =
    let destination : List ℕ = slice_range packet 8 24 in
    let header : List ℕ = ipv6_header (take 6 packet) 58 hop_limit source destination in
    let message : List ℕ = message_after 40 packet in
    let start_len : length (take 6 packet) ≡ 6 = length-take-le 6 packet (omega (arith, is.end, is.there)) in
    let first_len : length first ≡ 40 =
    omega (
      arith,
      ap length first_is,
      start_len,
      len,
      len_too,
      length-append source destination,
      length-append (take 6 packet) ((58 ∷ hop_limit ∷ []) ++ (source ++ destination)),
    ) in
    let both_len : length first + length part ≡ 44 = omega (arith, first_len, ap length part_is) in
    let shortest : 8 ≤ length message = (icmpv6_request destination (slice_range packet 24 40) message is.message).shortest in
    new_is ∙ ap (λ n. first ++ (part ++ drop n packet)) both_len
    ∙ ap (λ bytes. bytes ++ (part ++ drop 44 packet)) first_is
    ∙ ap (λ bytes. header ++ (bytes ++ drop 44 packet)) part_is
    ∙ ap (λ bytes. header ++ bytes) (reply_in_packet 40 (counted_len false packet) packet
    (icmpv6.wire (icmpv6_reply_to source destination message))
    (omega (arith, is.end, shortest)) is.there refl same)
