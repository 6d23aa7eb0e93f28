-- Laws of built packets: the slice of the protocol accepts the sent message, and the checksum of the message is right.
use Rattle.std.proofs.Common.{◌≡◌, ◌≢◌, ◌⊎◌, ℕ, ◌+◌, ◌-◌, ◌*◌, ◌<◌, ◌≤◌, ◌==◌, ◌&&◌, not, nat_lt, Bool, true, false, if◌then◌else◌, List, [], ◌∷◌, ◌++◌, length, take, drop, slice_index, length-append, Option, Some, None, inl, inr, refl, sym, ap, ◌∙◌, subst, arith}
use Rattle.std.specs.Prelude.{⊤, MatchBool, MatchOption, Result, Ok, Err, IfErr}
use Rattle.std.specs.Option.{option_map, unwrap_or}
use Rattle.std.specs.Int.{to_be_bytes, w16}
use Rattle.std.proofs.Math.Seq.{take-length}
use Rattle.std.proofs.lemmas.Bool.Decides.{nat_tests}
use Rattle.std.proofs.lemmas.List.{append-nil, append_assoc, drop-drop}
use Rattle.icmp_part.specs.Icmpv4Format as icmpv4
use Rattle.icmp_part.specs.Icmpv4ReadsBack as icmpv4_back
use Rattle.icmp_part.specs.Icmpv6Format as icmpv6
use Rattle.icmp_part.specs.Icmpv6ReadsBack as icmpv6_back
use Rattle.icmp_part.specs.declared.icmpv4_header.Icmpv4Header.{Icmpv4Header}
use Rattle.icmp_part.specs.declared.icmpv4_type.Icmpv4Type.{Icmpv4Type}
use Rattle.icmp_part.specs.declared.icmpv4_type.Icmpv4Type.TheVariants as messages
use Rattle.icmp_part.specs.declared.icmpv6_header.Icmpv6Header.{Icmpv6Header}
use Rattle.icmp_part.proofs.Icmpv4FormatLemmas.{accepted-whole}
use Rattle.icmp_part.proofs.Icmpv6FormatLemmas.{accepted-length}
use Rattle.ip_part.specs.ExtensionHeaders.{is_extension}
use Rattle.ip_part.specs.Ip.{Carries}
use Rattle.ip_part.specs.Ip as ip
use Rattle.ip_part.specs.Addresses.{Addresses, by_value}
use Rattle.ip_part.specs.Addresses as addresses
use Rattle.ip_part.specs.Protocols.{proto_over}
use Rattle.ip_part.specs.declared.proto.Proto.{Proto}
use Rattle.ip_part.specs.declared.proto.Proto.TheVariants as protos
use Rattle.ip_part.specs.declared.transport.TransportInIp.{TransportInIp}
use Rattle.net_base.specs.Refusals.{first_of, refused_if, wrong_length}
use Rattle.net_base.specs.declared.err.layer.Layer.TheVariants as layers
use Rattle.net_base.specs.declared.err.len_error.LenError.{LenError}
use Rattle.net_base.specs.declared.err.tcp.header_slice_error.HeaderSliceError.TheVariants.{Len}
use Rattle.tcp_part.specs.TcpFormat as tcp
use Rattle.udp_part.specs.UdpFormat as udp
use Rattle.udp_part.specs.UdpSlice.{length_counts, length_field, strict_refusal}
use Rattle.udp_part.specs.UdpValidity.{IsValidUdpIpv4, IsValidUdpIpv6, checksum_field}
use Rattle.udp_part.specs.declared.udp_header.UdpHeader.{UdpHeader}
use Rattle.tcp_part.specs.TcpValidity.{IsValidTcpIpv4, IsValidTcpIpv6}
use Rattle.icmp_part.specs.Icmpv4Validity.{IsValidIcmpv4}
use Rattle.icmp_part.specs.Icmpv6Validity.{IsValidIcmpv6}
use Rattle.word_sum.specs.Checksum.{checksum_of, total}
use Rattle.etherparse_transport.specs.Formats.{IsReadBack, proto_of, wire}
use Rattle.etherparse_transport.specs.Headers.{Counts, IsValidOverIpv4, IsValidOverIpv6}
use Rattle.etherparse_transport.specs.Packets.{IsFoundAs, IsReadAs, ipv4_fields, ipv4_message_refusal, ipv4_packet, ipv4_start, ipv6_message_refusal, ipv6_packet, max_message_len_ipv4, max_message_len_ipv6, message_len, number_of, other_version_ipv4, other_version_ipv6, payload_above, sent_over_ipv4, sent_over_ipv6, timestamp_refusal}
use Rattle.transport_part.specs.Transports.{bytes_of, kept, kept_by, proto_in, refusal_by}
use Rattle.transport_part.specs.Verdicts.{Judges, JudgesOver, JudgesOverIpv4, JudgesOverIpv6, is_too_long_over_ipv4, lacks_length}
use Rattle.transport_part.specs.declared.checksum_verdict.ChecksumVerdict.TheVariants.{Right, Untested}
use Rattle.transport_part.specs.declared.checksum_verdict.Untested.TheVariants.{CutOff, Fragment, OtherProtocol, TooLong, ZeroLength}
use Rattle.etherparse_transport.specs.declared.err.packet.build_slice_write_error.BuildSliceWriteError.TheVariants.{TimestampLen}
use Rattle.etherparse_transport.specs.declared.transport_header.TransportHeader.{TransportHeader}
use Rattle.etherparse_transport.specs.declared.transport_header.TransportHeader.TheVariants as headers
use Rattle.transport_part.specs.declared.transport_slice.TransportSlice.{TransportSlice}
use Rattle.transport_part.specs.declared.transport_slice.TransportSlice.TheVariants as slices
use Rattle.etherparse_transport.proofs.PacketLemmas.{HasMessage, Start, StartIpv6, front_ipv4, front_ipv6, message_over_ipv4, message_over_ipv6}
use Rattle.transport_part.proofs.VerdictLemmas.{some_udp}

-- ---- rules without errors

pub none_first : {E : Type 0} (rule : Option E) (rules : List (Option E)) → first_of (rule ∷ rules) ≡ None
    → (rule ≡ None) × (first_of rules ≡ None)
none_first None rules none = (refl, none)
none_first (Some error) rules none = absurd (grind arith)

pub none_if : {E : Type 0} (condition : Bool) (error : E) → refused_if condition error ≡ None → condition ≡ false
none_if false error none = refl
none_if true error none = absurd (grind arith)

pub mapped_none : {A B : Type 0} (f : A → B) (refusal : Option A) → option_map f refusal ≡ None → refusal ≡ None
mapped_none f None none = refl
mapped_none f (Some error) none = absurd (grind arith)

at_most : (max_len header_len payload_len : ℕ) → payload_above max_len header_len payload_len ≡ None → payload_len ≤ max_len - header_len
at_most max_len header_len payload_len none =
    let tested : nat_lt (max_len - header_len) payload_len ≡ false = none_if _ _ none in
    grind (arith, nat_tests)

-- ---- the typed slice of a message

-- the slice accepts the message and keeps it whole, and its checksum is right
pub record IsRight (addresses : Addresses) (protocol : Proto) (message : List ℕ) : Type 0 where
  pub transport : TransportSlice
  pub carried : proto_over addresses (number_of protocol) ≡ Some protocol
  pub accepted : refusal_by (Some protocol) false message ≡ None
  pub kept : kept_by (Some protocol) message ≡ Some transport
  pub right : Judges addresses transport Right

-- a whole transport with this protocol and message, which is found between these addresses, is as `IsFoundAs` states
pub found_right : (between : Addresses) (protocol : Proto) (message : List ℕ) (found : TransportInIp) → IsRight between protocol message
    → by_value found.addresses ≡ between → found.protocol.0 ≡ number_of protocol → found.payload.now ≡ message
    → found.is_fragment ≡ false → found.is_later_fragment ≡ false → found.is_cut_off ≡ false → found.is_length_missing ≡ false
    → IsFoundAs between protocol message found
found_right between protocol message found is same number same_message whole front there counted =
    let carried : proto_in found ≡ Some protocol =
    ap (λ part. if part then None else proto_over (by_value found.addresses) found.protocol.0) whole
    ∙ ap (λ from. proto_over from found.protocol.0) same ∙ ap (proto_over between) number ∙ is.carried in
    let keeps : kept found ≡ Some is.transport =
    ap (λ proto. kept_by proto found.payload.now) carried ∙ ap (kept_by (Some protocol)) same_message ∙ is.kept in
    let Over : Addresses → Type 0 = λ from. Judges from is.transport Right in
    let judged : Judges (by_value found.addresses) is.transport Right = subst Over (sym same) is.right in
    let Kept : Option TransportSlice → Type 0 =
    λ k. MatchOption k (Right ≡ Untested OtherProtocol) (λ transport. Judges (by_value found.addresses) transport Right) in
    let judged_kept : Kept (kept found) = subst Kept (sym keeps) judged in
    let CutOffBy : Bool → Type 0 = λ b. MatchBool b (Right ≡ Untested CutOff) (Kept (kept found)) in
    let judged_there : CutOffBy found.is_cut_off = subst CutOffBy (sym there) judged_kept in
    let FragmentBy : Bool → Type 0 = λ b. MatchBool b (Right ≡ Untested Fragment) (CutOffBy found.is_cut_off) in
    record {
      addresses = same;
      number = number;
      protocol = carried;
      message = same_message;
      is_fragment = whole;
      is_later_fragment = front;
      is_cut_off = there;
      is_length_missing = counted;
      accepted = ap (λ proto. refusal_by proto found.is_cut_off found.payload.now) carried
          ∙ ap (λ b. refusal_by (Some protocol) b found.payload.now) there
          ∙ ap (refusal_by (Some protocol) false) same_message ∙ is.accepted;
      right = subst FragmentBy (sym whole) judged_there;
    }

-- ---- UDP

-- a packet whose length field counts all its bytes is accepted
strict_accepts : (bytes : List ℕ) → udp.refusal bytes ≡ None → 8 ≤ length bytes → length_field bytes ≡ length bytes
    → strict_refusal bytes ≡ None
strict_accepts bytes accepted there counts = grind (arith, nat_tests)

kept_whole : (counts : Bool) (n : ℕ) (bytes : List ℕ) → n ≡ length bytes → (if counts then take n bytes else bytes) ≡ bytes
kept_whole true n bytes is = ap (λ k. take k bytes) is ∙ take-length bytes
kept_whole false n bytes is = refl

has_length : (bytes : List ℕ) → 8 ≤ length bytes → length_field bytes ≡ length bytes → lacks_length (slices.Udp bytes) ≡ false
has_length bytes there counts =
    let some : (length_field bytes == 0) ≡ false = grind (arith, nat_tests) in
    ap (λ b. b && not (nat_lt 65535 (length bytes))) some

-- the checksum of a packet with a length that is not too long is judged
judged_over_ipv4 : (source destination : List ℕ) (transport : TransportSlice) → lacks_length transport ≡ false
    → is_too_long_over_ipv4 transport ≡ false → JudgesOverIpv4 source destination transport Right
    → Judges (addresses.Ipv4 source destination) transport Right
judged_over_ipv4 source destination transport has short judged =
    let Short : Bool → Type 0 = λ b. MatchBool b (Right ≡ Untested TooLong) (JudgesOverIpv4 source destination transport Right) in
    let over : JudgesOver (addresses.Ipv4 source destination) transport Right = subst Short (sym short) judged in
    let Has : Bool → Type 0 = λ b. MatchBool b (Right ≡ Untested ZeroLength) (JudgesOver
    (addresses.Ipv4 source destination) transport Right) in
    subst Has (sym has) over

judged_over_ipv6 : (source destination : List ℕ) (transport : TransportSlice) → lacks_length transport ≡ false
    → nat_lt 4294967295 (length (bytes_of transport)) ≡ false → JudgesOverIpv6 source destination transport Right
    → Judges (addresses.Ipv6 source (Some destination)) transport Right
judged_over_ipv6 source destination transport has short judged =
    let Short : Bool → Type 0 = λ b. MatchBool b (Right ≡ Untested TooLong) (JudgesOverIpv6 source destination transport Right) in
    let over : JudgesOver (addresses.Ipv6 source (Some destination)) transport Right = subst Short (sym short) judged in
    let Has : Bool → Type 0 = λ b. MatchBool b (Right ≡ Untested ZeroLength) (JudgesOver
    (addresses.Ipv6 source (Some destination)) transport Right) in
    subst Has (sym has) over

pub not_above : (limit n : ℕ) → n ≤ limit → nat_lt limit n ≡ false
not_above limit n within = grind (arith, nat_tests)

-- if the first of two alternatives is false, the second is true
second_of : {A B : Type 0} → (A → ⊥) → (A ⊎ B) → B
second_of not_a (inl a) = absurd (not_a a)
second_of not_a (inr b) = b

udp_right_ipv4 : (source destination payload : List ℕ) (header : UdpHeader) → udp.DecodesAs (udp.wire header ++ payload) header payload
    → header.length ≡ 8 + length payload → header.checksum ≢ 0 → 8 + length payload ≤ 65535
    → IsValidUdpIpv4 source destination (udp.wire header ++ payload)
    → IsRight (addresses.Ipv4 source destination) protos.Udp (udp.wire header ++ payload)
udp_right_ipv4 source destination payload header reads counted some short valid =
    let bytes : List ℕ = udp.wire header ++ payload in
    let len : length bytes ≡ 8 + length payload = omega arith in
    let counts : length_field bytes ≡ length bytes = sym (ap (λ header. header.length) reads.fields) ∙ counted ∙ sym len in
    let stores : checksum_field bytes ≢ 0 = λ none. some (ap (λ header. header.checksum) reads.fields ∙ none) in
    record {
      transport = slices.Udp bytes;
      carried = refl;
      accepted = ap (option_map Len) (strict_accepts bytes reads.accepted (omega (arith, len)) counts);
      kept = ap (λ bytes. Some (slices.Udp bytes)) (kept_whole (length_counts bytes) (length_field bytes) bytes counts);
      right = judged_over_ipv4 source destination (slices.Udp bytes) (has_length bytes (omega (arith, len)) counts)
          (not_above 65535 (length bytes) (omega (arith, len, short))) (stores, second_of stores valid);
    }

udp_right_ipv6 : (source destination payload : List ℕ) (header : UdpHeader) → udp.DecodesAs (udp.wire header ++ payload) header payload
    → header.length ≡ 8 + length payload → 8 + length payload ≤ 65535
    → IsValidUdpIpv6 source destination (udp.wire header ++ payload)
    → IsRight (addresses.Ipv6 source (Some destination)) protos.Udp (udp.wire header ++ payload)
udp_right_ipv6 source destination payload header reads counted short valid =
    let bytes : List ℕ = udp.wire header ++ payload in
    let len : length bytes ≡ 8 + length payload = omega arith in
    let counts : length_field bytes ≡ length bytes = sym (ap (λ header. header.length) reads.fields) ∙ counted ∙ sym len in
    record {
      transport = slices.Udp bytes;
      carried = refl;
      accepted = ap (option_map Len) (strict_accepts bytes reads.accepted (omega (arith, len)) counts);
      kept = ap (λ bytes. Some (slices.Udp bytes)) (kept_whole (length_counts bytes) (length_field bytes) bytes counts);
      right = judged_over_ipv6 source destination (slices.Udp bytes) (has_length bytes (omega (arith, len)) counts)
          (not_above 4294967295 (length bytes) (omega (arith, len, short))) valid;
    }

-- ---- TCP and ICMP

tcp_right_ipv4 : (source destination message : List ℕ) → tcp.refusal message ≡ None → length message ≤ 65535
    → IsValidTcpIpv4 source destination message → IsRight (addresses.Ipv4 source destination) protos.Tcp message
tcp_right_ipv4 source destination message accepted short valid = record {
  transport = slices.Tcp message;
  carried = refl;
  accepted = accepted;
  kept = refl;
  right = judged_over_ipv4 source destination (slices.Tcp message) refl (not_above 65535 (length message) short) valid;
}

tcp_right_ipv6 : (source destination message : List ℕ) → tcp.refusal message ≡ None → length message ≤ 65535
    → IsValidTcpIpv6 source destination message → IsRight (addresses.Ipv6 source (Some destination)) protos.Tcp message
tcp_right_ipv6 source destination message accepted short valid = record {
  transport = slices.Tcp message;
  carried = refl;
  accepted = accepted;
  kept = refl;
  right = judged_over_ipv6 source destination (slices.Tcp message) refl
      (not_above 4294967295 (length message) (omega (arith, short))) valid;
}

pub icmpv4_right : (source destination message : List ℕ) → icmpv4.refusal message ≡ None
    → IsValidIcmpv4 message → IsRight (addresses.Ipv4 source destination) protos.Icmpv4 message
icmpv4_right source destination message accepted valid = record {
  transport = slices.Icmpv4 message;
  carried = refl;
  accepted = ap (option_map Len) accepted;
  kept = refl;
  right = judged_over_ipv4 source destination (slices.Icmpv4 message) refl refl valid;
}

pub icmpv6_right : (source destination message : List ℕ) → icmpv6.refusal message ≡ None → length message ≤ 4294967295
    → IsValidIcmpv6 source destination message → IsRight (addresses.Ipv6 source (Some destination)) protos.Icmpv6 message
icmpv6_right source destination message accepted short valid = record {
  transport = slices.Icmpv6 message;
  carried = refl;
  accepted = ap (option_map Len) accepted;
  kept = refl;
  right = judged_over_ipv6 source destination (slices.Icmpv6 message) refl (not_above 4294967295 (length message) short) valid;
}

-- an ICMPv6 message that is written, and is not too long, is accepted
pub icmpv6_accepted : (bytes : List ℕ) (found : Icmpv6Header × List ℕ) (error : LenError) (above : Bool) → above ≡ false
    → icmpv6_back.IsReadAs bytes (if above then Err error else Ok found) → icmpv6.refusal bytes ≡ None
icmpv6_accepted bytes found error false short reads = reads.accepted
icmpv6_accepted bytes found error true short reads = absurd (grind arith)

-- ---- a header is at least eight bytes long

required_len : Option LenError → ℕ
required_len None = 0
required_len (Some error) = error.required_len

long_by : (short : Bool) (n : ℕ) (rules : List (Option LenError)) (error : LenError) → nat_lt n 8 ≡ short
    → first_of (refused_if short (wrong_length layers.Icmpv4 8 n) ∷ rules) ≡ Some error → error.required_len ≡ 20 → 8 ≤ n
unfolding required_len
long_by true n rules error tested refused is = absurd (omega (arith, ap required_len refused, is))
long_by false n rules error tested refused is = grind (arith, nat_tests)

-- a message is at least eight bytes long if it is read, or refused only because it needs 20 bytes
whole_by : (bytes : List ℕ) (result : Result (Icmpv4Header × List ℕ) LenError) → icmpv4_back.IsReadAs bytes result
    → IfErr result (λ error. error.required_len ≡ 20) → 8 ≤ length bytes
whole_by bytes (Ok found) reads is = (accepted-whole bytes reads.accepted).shortest
whole_by bytes (Err error) reads is =
    long_by (nat_lt (length bytes) 8) (length bytes)
    (icmpv4.timestamp_refusal 13 layers.Icmpv4Timestamp bytes ∷ icmpv4.timestamp_refusal 14 layers.Icmpv4TimestampReply bytes ∷ [])
    error refl reads is

either : {T E : Type 0} (P : E → Type 0) (a b : Bool) (x y z : Result T E) → IfErr x P → IfErr y P → IfErr z P
    → IfErr (if a then x else if b then y else z) P
either P true b x y z is_x is_y is_z = is_x
either P false true x y z is_x is_y is_z = is_y
either P false false x y z is_x is_y is_z = is_z

-- a message without a payload is read, or refused only because it needs 20 bytes
refused_alone : (message : Icmpv4Type) (checksum : ℕ)
    → IfErr (icmpv4_back.reads_back message checksum []) (λ error. error.required_len ≡ 20)
refused_alone (messages.Unknown type code bytes5to8) checksum =
    either (λ error. error.required_len ≡ 20) ((type == 13) && (code == 0)) ((type == 14) && (code == 0))
    (icmpv4_back.raw_timestamp_reads_back messages.TimestampRequest layers.Icmpv4Timestamp bytes5to8 checksum [])
    (icmpv4_back.raw_timestamp_reads_back messages.TimestampReply layers.Icmpv4TimestampReply bytes5to8 checksum [])
    (Ok (
      icmpv4_back.icmpv4_header (unwrap_or (icmpv4_back.listed_kind type code bytes5to8)
          (messages.Unknown type code bytes5to8)) checksum,
      [],
    ))
    refl refl tt
refused_alone (messages.EchoReply echo) checksum = tt
refused_alone (messages.DestinationUnreachable header) checksum = tt
refused_alone (messages.Redirect header) checksum = tt
refused_alone (messages.EchoRequest echo) checksum = tt
refused_alone (messages.TimeExceeded code) checksum = tt
refused_alone (messages.ParameterProblem header) checksum = tt
refused_alone (messages.TimestampRequest message) checksum = tt
refused_alone (messages.TimestampReply message) checksum = tt

icmpv4_header_long : (header : Icmpv4Header) → ((payload : List ℕ) → IsReadBack (headers.Icmpv4 header) payload)
    → 8 ≤ length (icmpv4.wire header)
icmpv4_header_long header back =
    let Long : List ℕ → Type 0 = λ bytes. 8 ≤ length bytes in
    subst Long (append-nil (icmpv4.wire header))
    (whole_by (icmpv4.wire header ++ []) (icmpv4_back.reads_back header.icmp_type header.checksum []) (back [])
    (refused_alone header.icmp_type header.checksum))

icmpv6_header_long : (header : Icmpv6Header) → ((payload : List ℕ) → IsReadBack (headers.Icmpv6 header) payload)
    → 8 ≤ length (icmpv6.wire header)
icmpv6_header_long header back =
    let Long : List ℕ → Type 0 = λ bytes. 8 ≤ length bytes in
    let decodes : icmpv6.DecodesAs (icmpv6.wire header ++ [])
    (icmpv6_back.icmpv6_header (icmpv6_back.message_reads_back header.icmp_type) header.checksum) [] = back [] in
    subst Long (append-nil (icmpv6.wire header)) (accepted-length (icmpv6.wire header ++ []) decodes.accepted).shortest

-- each header is at least eight bytes long
pub header_long : (header : TransportHeader) → ((payload : List ℕ) → IsReadBack header payload) → 8 ≤ length (wire header)
header_long (headers.Udp header) back = omega arith
header_long (headers.Tcp header) back = omega arith
header_long (headers.Icmpv4 header) back = icmpv4_header_long header back
header_long (headers.Icmpv6 header) back = icmpv6_header_long header back

-- ---- the parts of a slice that is written

-- a slice after the header and then the message were written to its front; the bytes after them are the old bytes
pub joined : (slice front rest header message : List ℕ) (header_len len : ℕ) → front ≡ header
    → rest ≡ message ++ drop len (drop header_len slice) → front ++ rest ≡ (header ++ message) ++ drop (header_len + len) slice
joined slice front rest header message header_len len is_front is_rest =
    ap (λ bytes. bytes ++ rest) is_front ∙ ap (λ bytes. header ++ bytes) is_rest
    ∙ ap (λ bytes. header ++ (message ++ bytes)) (drop-drop len header_len slice)
    ∙ sym (append_assoc header message (drop (header_len + len) slice))

-- ---- the header that is sent

-- a UDP header contains a checksum
StoresSum : TransportHeader → Type 0
StoresSum (headers.Udp header) = header.checksum ≢ 0
StoresSum (headers.Tcp header) = ⊤
StoresSum (headers.Icmpv4 header) = ⊤
StoresSum (headers.Icmpv6 header) = ⊤

-- the sent header differs from the header only by its length and checksum
record IsSent (header sent : TransportHeader) (payload : List ℕ) : Type 0 where
  pub protocol : proto_of sent ≡ proto_of header
  pub len : length (wire sent ++ payload) ≡ message_len header (length payload)
  pub counts : Counts sent (length payload)
  pub timestamps : timestamp_refusal sent payload ≡ timestamp_refusal header payload

sent_ipv4 : (source destination payload : List ℕ) (header : TransportHeader)
    → IsSent header (sent_over_ipv4 source destination header payload) payload
sent_ipv4 source destination payload (headers.Udp header) =
    record { protocol = refl; len = omega arith; counts = refl; timestamps = refl }
sent_ipv4 source destination payload (headers.Tcp header) =
    record { protocol = refl; len = omega (arith, length-append header.options payload); counts = tt; timestamps = refl }
sent_ipv4 source destination payload (headers.Icmpv4 header) =
    record {
      protocol = refl;
      len =
          omega (arith, length-append (icmpv4.written header.icmp_type).fields payload);
      counts = tt;
      timestamps = refl;
    }
sent_ipv4 source destination payload (headers.Icmpv6 header) =
    record {
      protocol = refl;
      len =
          omega (arith, length-append (icmpv6.written header.icmp_type).fields payload);
      counts = tt;
      timestamps = refl;
    }

sent_ipv6 : (source destination payload : List ℕ) (header : TransportHeader)
    → IsSent header (sent_over_ipv6 source destination header payload) payload
sent_ipv6 source destination payload (headers.Udp header) =
    record { protocol = refl; len = omega arith; counts = refl; timestamps = refl }
sent_ipv6 source destination payload (headers.Tcp header) =
    record { protocol = refl; len = omega (arith, length-append header.options payload); counts = tt; timestamps = refl }
sent_ipv6 source destination payload (headers.Icmpv4 header) =
    record {
      protocol = refl;
      len =
          omega (arith, length-append (icmpv4.written header.icmp_type).fields payload);
      counts = tt;
      timestamps = refl;
    }
sent_ipv6 source destination payload (headers.Icmpv6 header) =
    record {
      protocol = refl;
      len =
          omega (arith, length-append (icmpv6.written header.icmp_type).fields payload);
      counts = tt;
      timestamps = refl;
    }

stored_sum : (source destination payload : List ℕ) (header : TransportHeader) → StoresSum (sent_over_ipv4 source destination header payload)
unfolding StoresSum
stored_sum source destination payload (headers.Udp header) = some_udp _ _ refl
stored_sum source destination payload (headers.Tcp header) = tt
stored_sum source destination payload (headers.Icmpv4 header) = tt
stored_sum source destination payload (headers.Icmpv6 header) = tt

-- ---- the sent message is right

right_ipv4 : (source destination payload : List ℕ) (sent : TransportHeader) → IsReadBack sent payload → Counts sent (length payload)
    → StoresSum sent
    → length (wire sent ++ payload) ≤ 65535 → timestamp_refusal sent payload ≡ None → IsValidOverIpv4 source destination sent payload
    → IsRight (addresses.Ipv4 source destination) (proto_of sent) (wire sent ++ payload)
unfolding StoresSum
right_ipv4 source destination payload (headers.Udp header) reads counts stores short whole valid =
    udp_right_ipv4 source destination payload header reads counts stores (omega (arith, short)) valid
right_ipv4 source destination payload (headers.Tcp header) reads counts stores short whole valid =
    tcp_right_ipv4 source destination (tcp.wire header ++ payload) reads.accepted short valid
right_ipv4 source destination payload (headers.Icmpv4 header) reads counts stores short whole valid =
    icmpv4_right source destination (icmpv4.wire header ++ payload) (mapped_none TimestampLen _ whole) valid
right_ipv4 source destination payload (headers.Icmpv6 header) reads counts stores short whole valid = absurd valid

right_ipv6 : (source destination payload : List ℕ) (sent : TransportHeader) → IsReadBack sent payload → Counts sent (length payload)
    → length (wire sent ++ payload) ≤ 65535 → other_version_ipv6 sent ≡ None → IsValidOverIpv6 source destination sent payload
    → IsRight (addresses.Ipv6 source (Some destination)) (proto_of sent) (wire sent ++ payload)
right_ipv6 source destination payload (headers.Udp header) reads counts short version valid =
    udp_right_ipv6 source destination payload header reads counts (omega (arith, short)) valid
right_ipv6 source destination payload (headers.Tcp header) reads counts short version valid =
    tcp_right_ipv6 source destination (tcp.wire header ++ payload) reads.accepted short valid
right_ipv6 source destination payload (headers.Icmpv4 header) reads counts short version valid = absurd (grind arith)
right_ipv6 source destination payload (headers.Icmpv6 header) reads counts short version valid =
    let message : List ℕ = icmpv6.wire header ++ payload in
    let above : nat_lt icmpv6.max_payload_len (length payload) ≡ false =
    not_above icmpv6.max_payload_len (length payload) (omega (arith, short, length-append (icmpv6.wire header) payload)) in
    icmpv6_right source destination message (icmpv6_accepted message _ _ (nat_lt icmpv6.max_payload_len (length payload)) above reads)
    (omega (arith, short)) valid

-- ---- the packet

-- a number of 16 bits is the number of its two bytes
two_bytes : (n : ℕ) → n < 65536 → slice_index (to_be_bytes w16 n) 0 * 256 + slice_index (to_be_bytes w16 n) 1 ≡ n
two_bytes n small = omega (arith, small)

-- no transport protocol has the number of the authentication header
no_authentication : (header : TransportHeader) → (number_of (proto_of header) == 51) ≡ false
no_authentication (headers.Udp header) = refl
no_authentication (headers.Tcp header) = refl
no_authentication (headers.Icmpv4 header) = refl
no_authentication (headers.Icmpv6 header) = refl

-- the start of a built IPv4 header with this total length
abbrev pub built_start : ℕ → Start
built_start total_len = record {
  type_of_service = 0;
  len_high = slice_index (to_be_bytes w16 total_len) 0;
  len_low = slice_index (to_be_bytes w16 total_len) 1;
  id_high = 0;
  id_low = 0;
  offset_high = 0x40;
  offset_low = 0;
}

pub read_ipv4 : (source destination payload padding : List ℕ) (time_to_live : ℕ) (header : TransportHeader)
    → length source ≡ 4 → length destination ≡ 4 → length (wire header) ≤ 60 → ipv4_message_refusal header payload ≡ None
    → IsValidOverIpv4 source destination (sent_over_ipv4 source destination header payload) payload
    → IsReadBack (sent_over_ipv4 source destination header payload) payload
    → IsReadAs (ipv4_packet source destination time_to_live header payload ++ padding) (addresses.Ipv4 source destination)
    (sent_over_ipv4 source destination header payload) payload
read_ipv4 source destination payload padding time_to_live header len len_too short accepted valid reads =
    let sent : TransportHeader = sent_over_ipv4 source destination header payload in
    let message : List ℕ = wire sent ++ payload in
    let total_len : ℕ = 20 + message_len header (length payload) in
    let number : ℕ = number_of (proto_of header) in
    let first_len : List ℕ = to_be_bytes w16 total_len in
    let start : Start = built_start total_len in
    let checksum : List ℕ = to_be_bytes w16
    (checksum_of (total (ipv4_fields (ipv4_start total_len) time_to_live number source destination 0))) in
    let front : List ℕ → List ℕ = front_ipv4 start time_to_live number (slice_index checksum 0) (slice_index checksum 1) in
    let is : IsSent header sent payload = sent_ipv4 source destination payload header in
    let after_version = none_first (other_version_ipv4 header) _ accepted in
    let after_payload = none_first (payload_above max_message_len_ipv4 (length (wire header)) (length payload)) _ after_version.1 in
    let after_timestamp = none_first (timestamp_refusal header payload) _ after_payload.1 in
    let within : length payload ≤ max_message_len_ipv4 - length (wire header) =
    at_most max_message_len_ipv4 (length (wire header)) (length payload) after_payload.0 in
    let counted : slice_index first_len 0 * 256 + slice_index first_len 1 ≡ 20 + length message =
    two_bytes total_len (omega (arith, short, within)) ∙ ap (λ n. 20 + n) (sym is.len) in
    let has : HasMessage (front ((source ++ destination) ++ (message ++ padding))) (addresses.Ipv4 source destination) number message =
    message_over_ipv4 start time_to_live number _ _ source destination message padding len len_too counted refl
    (no_authentication header) in
    let packet_is : ipv4_packet source destination time_to_live header payload ++ padding
    ≡ front ((source ++ destination) ++ (message ++ padding)) =
    ap front (append_assoc (source ++ destination) message padding) in
    let right : IsRight (addresses.Ipv4 source destination) (proto_of sent) message =
    right_ipv4 source destination payload sent reads is.counts (stored_sum source destination payload header)
    (omega (arith, is.len, short, within)) (is.timestamps ∙ after_timestamp.0) valid in
    record {
      accepted = ap ip.refusal packet_is ∙ has.accepted;
      carries = λ found carries.
          let Carried : List ℕ → Type 0 = λ packet. Carries packet found in
          let over = subst Carried packet_is carries in
          found_right (addresses.Ipv4 source destination) (proto_of sent) message found right
          (has.addresses found over) (has.protocol found over ∙ ap number_of (sym is.protocol)) (has.message found over)
          (has.is_fragment found over) (has.is_later_fragment found over) (has.is_cut_off found over) (has.is_length_missing found over);
      read_back = reads;
    }

-- no transport protocol has the number of an extension header
no_extension : (header : TransportHeader) → is_extension (number_of (proto_of header)) ≡ false
no_extension (headers.Udp header) = refl
no_extension (headers.Tcp header) = refl
no_extension (headers.Icmpv4 header) = refl
no_extension (headers.Icmpv6 header) = refl

-- a message of ICMP of the wrong version is refused, whatever its fields are
same_version : (source destination payload : List ℕ) (header : TransportHeader) → other_version_ipv6 header ≡ None
    → other_version_ipv6 (sent_over_ipv6 source destination header payload) ≡ None
same_version source destination payload (headers.Udp header) none = refl
same_version source destination payload (headers.Tcp header) none = refl
same_version source destination payload (headers.Icmpv4 header) none = none
same_version source destination payload (headers.Icmpv6 header) none = refl

-- a written header is at least one byte long
some_header : (header : TransportHeader) → 0 < length (wire header)
some_header (headers.Udp header) = omega arith
some_header (headers.Tcp header) = omega arith
some_header (headers.Icmpv4 header) = omega arith
some_header (headers.Icmpv6 header) = omega arith

pub read_ipv6 : (source destination payload padding : List ℕ) (hop_limit : ℕ) (header : TransportHeader)
    → length source ≡ 16 → length destination ≡ 16 → length (wire header) ≤ 60 → ipv6_message_refusal header payload ≡ None
    → IsValidOverIpv6 source destination (sent_over_ipv6 source destination header payload) payload
    → IsReadBack (sent_over_ipv6 source destination header payload) payload
    → IsReadAs (ipv6_packet source destination hop_limit header payload ++ padding) (addresses.Ipv6 source (Some destination))
    (sent_over_ipv6 source destination header payload) payload
read_ipv6 source destination payload padding hop_limit header len len_too short accepted valid reads =
    let sent : TransportHeader = sent_over_ipv6 source destination header payload in
    let message : List ℕ = wire sent ++ payload in
    let number : ℕ = number_of (proto_of header) in
    let payload_len : List ℕ = to_be_bytes w16 (message_len header (length payload)) in
    let start : StartIpv6 = record {
      first = 0x60;
      second = 0;
      third = 0;
      fourth = 0;
      len_high = slice_index payload_len 0;
      len_low = slice_index payload_len 1;
    } in
    let front : List ℕ → List ℕ = front_ipv6 start number hop_limit in
    let is : IsSent header sent payload = sent_ipv6 source destination payload header in
    let after_version = none_first (other_version_ipv6 header) _ accepted in
    let after_payload = none_first (payload_above max_message_len_ipv6 (length (wire header)) (length payload)) _ after_version.1 in
    let within : length payload ≤ max_message_len_ipv6 - length (wire header) =
    at_most max_message_len_ipv6 (length (wire header)) (length payload) after_payload.0 in
    let counted : slice_index payload_len 0 * 256 + slice_index payload_len 1 ≡ length message =
    two_bytes (message_len header (length payload)) (omega (arith, short, within)) ∙ sym is.len in
    let has : HasMessage (front ((source ++ destination) ++ (message ++ padding))) (addresses.Ipv6 source (Some destination)) number message
    =
    message_over_ipv6 start number hop_limit source destination message padding len len_too refl counted
    (omega (arith, is.len, some_header header))
    (no_extension header) in
    let packet_is : ipv6_packet source destination hop_limit header payload ++ padding
    ≡ front ((source ++ destination) ++ (message ++ padding)) =
    ap front (append_assoc (source ++ destination) message padding) in
    let right : IsRight (addresses.Ipv6 source (Some destination)) (proto_of sent) message =
    right_ipv6 source destination payload sent reads is.counts (omega (arith, is.len, short, within))
    (same_version source destination payload header after_version.0) valid in
    record {
      accepted = ap ip.refusal packet_is ∙ has.accepted;
      carries = λ found carries.
          let Carried : List ℕ → Type 0 = λ packet. Carries packet found in
          let over = subst Carried packet_is carries in
          found_right (addresses.Ipv6 source (Some destination)) (proto_of sent) message found right
          (has.addresses found over) (has.protocol found over ∙ ap number_of (sym is.protocol)) (has.message found over)
          (has.is_fragment found over) (has.is_later_fragment found over) (has.is_cut_off found over) (has.is_length_missing found over);
      read_back = reads;
    }
