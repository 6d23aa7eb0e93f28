-- Laws of a checksum that is written into a packet: the packet is read as before, and a right checksum is judged `Right`.
use Rattle.std.proofs.Common.{◌≡◌, ℕ, ◌+◌, ◌*◌, ◌/◌, ◌<◌, ◌≤◌, ◌==◌, ◌&&◌, not, nat_lt, Bool, true, false, if◌then◌else◌, List, [], ◌∷◌, ◌++◌, length, take, drop, slice_index, Option, Some, None, Result, Ok, Err, refl, sym, ap, ◌∙◌, subst, arith}
use Rattle.std.specs.Int.{to_be_bytes, w16}
use Rattle.std.specs.Option.{option_map}
use Rattle.std.specs.Prelude.{◌↔◌, IfOk, IsTrue, MatchBool, MatchOption, MatchResult}
use Rattle.std.proofs.lemmas.Bool.{ltb-false}
use Rattle.std.proofs.lemmas.List.{drop-append-le, drop-drop, drop-take, get_or-drop, get_or-take, length-drop, length-take-le, take-append-le, take-take}
use Rattle.icmp_part.specs.Icmpv4Format as icmpv4
use Rattle.icmp_part.specs.Icmpv6Format as icmpv6
use Rattle.ip_part.specs.Addresses.{Addresses, by_value}
use Rattle.ip_part.specs.Headers.{Headers}
use Rattle.ip_part.specs.Ip.{Carries, counted, counted_len, headers_of, is_cut_off}
use Rattle.ip_part.specs.Ip as ip
use Rattle.ip_part.specs.Protocols.{proto_over}
use Rattle.ip_part.specs.declared.ip_error.IpError.TheVariants.{PacketCutOff}
use Rattle.ip_part.specs.declared.proto.Proto.{Proto}
use Rattle.ip_part.specs.declared.proto.Proto.TheVariants as protos
use Rattle.ip_part.specs.declared.transport.TransportInIp.{TransportInIp}
use Rattle.net_base.specs.Bytes.{IsBytes, be_number}
use Rattle.net_base.specs.Refusals.{first_of, refused_if, wrong_length}
use Rattle.net_base.specs.StoredChecksum.{icmp_checksum_place, tcp_checksum_place, udp_checksum_place, with_checksum}
use Rattle.net_base.specs.declared.err.layer.Layer.TheVariants as layers
use Rattle.net_base.specs.declared.err.len_error.LenError.{LenError}
use Rattle.net_base.specs.declared.err.len_source.LenSource.TheVariants.{UdpHeaderLen}
use Rattle.net_base.specs.declared.err.tcp.header_error.HeaderError.TheVariants.{DataOffsetTooSmall}
use Rattle.net_base.specs.declared.err.tcp.header_slice_error.HeaderSliceError.{HeaderSliceError}
use Rattle.net_base.specs.declared.err.tcp.header_slice_error.HeaderSliceError.TheVariants.{Content, Len}
use Rattle.net_base.proofs.StoredChecksumLemmas.{byte-with_checksum, length-with_checksum, take-with_checksum, with_checksum-stored}
use Rattle.udp_part.specs.UdpFormat as udp
use Rattle.udp_part.specs.UdpSlice.{cut, length_counts, length_field, strict_refusal}
use Rattle.transport_part.specs.StoredChecksums.{IsPartial, IsRightBy, SaysWhetherPartial, checksum_place, stored_checksum, with_stored}
use Rattle.transport_part.specs.Transports.{kept, kept_by, proto_in, proto_of, refusal, refusal_by}
use Rattle.transport_part.specs.Verdicts.{HasChecksum, Judges, JudgesFound}
use Rattle.transport_part.specs.declared.checksum_verdict.ChecksumVerdict.{ChecksumVerdict}
use Rattle.transport_part.specs.declared.checksum_verdict.ChecksumVerdict.TheVariants.{Absent, Partial, Right, Untested, Wrong}
use Rattle.transport_part.specs.declared.checksum_verdict.Untested.TheVariants.{CutOff, Fragment, OtherProtocol}
use Rattle.transport_part.specs.declared.transport_slice.TransportSlice.{TransportSlice}
use Rattle.transport_part.specs.declared.transport_slice.TransportSlice.TheVariants.{Icmpv4, Icmpv6, Tcp, Udp}
use Rattle.transport_part.proofs.RightChecksumLaws.{length_field_kept, says_partial}
use Rattle.etherparse_transport.specs.WrittenChecksums.{HasPartialChecksum, HasVerdict, IsPartialIn, IsRefusedFor, IsRefusedIn, IsRightIn, IsWritten, WritesBy}
use Rattle.etherparse_transport.specs.declared.err.packet.write_checksum_error.WriteChecksumError.{WriteChecksumError}
use Rattle.etherparse_transport.specs.declared.err.packet.write_checksum_error.WriteChecksumError.TheVariants.{Ip, Transport, Untested as UntestedFor}
use Rattle.etherparse_transport.proofs.BuiltLemmas.{mapped_none, none_first, none_if}
use Rattle.etherparse_transport.proofs.TranslationLemmas.{read_once}
use Rattle.etherparse_transport.proofs.FrontLemmas.{HasFront, read_alike}

-- ---- the message

-- a message with another checksum is accepted and kept as before
record IsStored (proto : Proto) (payload : List ℕ) (transport : TransportSlice) (checksum : ℕ) : Type 0 where
  proto_is : proto_of transport ≡ proto
  there : checksum_place proto + 2 ≤ length payload
  stored_is : stored_checksum transport ≡ be_number payload (checksum_place proto) 2
  accepted : refusal_by (Some proto) false (with_checksum (checksum_place proto) payload checksum) ≡ None
  kept_is : kept_by (Some proto) (with_checksum (checksum_place proto) payload checksum) ≡ Some (with_stored transport checksum)

not_true : (a : Bool) → not a ≡ true → a ≡ false
not_true false is = refl
not_true true is = absurd (cc is)

both_true : (a b : Bool) → (a && b) ≡ true → (a ≡ true) × (b ≡ true)
both_true true b is = (refl, is)
both_true false b is = absurd (cc is)

-- the part of a UDP packet that its length field counts
counted_cut : (counts : Bool) (bytes : List ℕ) (checksum : ℕ) → 8 ≤ length bytes → length_counts bytes ≡ counts
    → (if counts then take (length_field bytes) (with_checksum udp_checksum_place bytes checksum)
    else with_checksum udp_checksum_place bytes checksum)
    ≡ with_checksum udp_checksum_place (if counts then take (length_field bytes) bytes else bytes) checksum
counted_cut true bytes checksum long is =
    let parts = both_true (not (nat_lt (length_field bytes) 8)) (not (nat_lt (length bytes) (length_field bytes))) is in
    take-with_checksum udp_checksum_place bytes checksum (length_field bytes)
    (omega (arith, ltb-false (length_field bytes) 8 (not_true _ parts.0)))
    (ltb-false (length bytes) (length_field bytes) (not_true _ parts.1))
counted_cut false bytes checksum long is = refl

cut_kept : (bytes : List ℕ) (checksum : ℕ) → 8 ≤ length bytes
    → cut (with_checksum udp_checksum_place bytes checksum) ≡ with_checksum udp_checksum_place (cut bytes) checksum
cut_kept bytes checksum long =
    let changed : List ℕ = with_checksum udp_checksum_place bytes checksum in
    ap (λ field. if not (nat_lt field 8) && not (nat_lt (length changed) field) then take field changed else changed)
    (length_field_kept bytes checksum long)
    ∙ ap (λ len. if not (nat_lt (length_field bytes) 8) && not (nat_lt len (length_field bytes)) then take (length_field bytes) changed
    else changed)
    (length-with_checksum udp_checksum_place bytes checksum (omega (arith, long)))
    ∙ counted_cut (length_counts bytes) bytes checksum long refl

-- the checksum in the part of a UDP packet that its length field counts
cut_stored : (counts : Bool) (bytes : List ℕ) → 8 ≤ length bytes → length_counts bytes ≡ counts
    → be_number (if counts then take (length_field bytes) bytes else bytes) udp_checksum_place 2 ≡ be_number bytes udp_checksum_place 2
cut_stored true bytes long is =
    let parts = both_true (not (nat_lt (length_field bytes) 8)) (not (nat_lt (length bytes) (length_field bytes))) is in
    let field : 8 ≤ length_field bytes = ltb-false (length_field bytes) 8 (not_true _ parts.0) in
    omega (
      arith,
      get_or-take (length_field bytes) bytes 6 0 (omega (arith, field)),
      get_or-take (length_field bytes) bytes 7 0 (omega (arith, field)),
    )
cut_stored false bytes long is = refl

-- the errors of a UDP packet, given its length and its length field
udp_error : ℕ → ℕ → Option LenError
udp_error len field = first_of (
    first_of (refused_if (nat_lt len 8) (wrong_length layers.UdpHeader 8 len) ∷ [])
    ∷ refused_if (nat_lt len field) (wrong_length layers.UdpPayload field len)
    ∷ refused_if (nat_lt field 8 && not (field == 0))
    (record { required_len = 8; len = field; len_source = UdpHeaderLen; layer = layers.UdpHeader; layer_start_offset = 0 })
    ∷ [])

udp_stored : (payload : List ℕ) (checksum : ℕ) → refusal_by (Some protos.Udp) false payload ≡ None
    → IsStored protos.Udp payload (Udp (cut payload)) checksum
unfolding udp_error
udp_stored payload checksum none =
    let strict = none_first (udp.refusal payload) _ (mapped_none Len (strict_refusal payload) none) in
    let short = none_first (refused_if (nat_lt (length payload) 8) (wrong_length layers.UdpHeader 8 (length payload))) _ strict.0 in
    let long : 8 ≤ length payload = ltb-false (length payload) 8 (none_if _ (wrong_length layers.UdpHeader 8 (length payload)) short.0) in
    let changed : List ℕ = with_checksum udp_checksum_place payload checksum in
    record {
      proto_is = refl;
      there = long;
      stored_is = cut_stored (length_counts payload) payload long refl;
      accepted = ap (λ len. option_map Len (udp_error len (length_field changed)))
          (length-with_checksum udp_checksum_place payload checksum (omega (arith, long)))
          ∙ ap (λ field. option_map Len (udp_error (length payload) field)) (length_field_kept payload checksum long) ∙ none;
      kept_is = ap (λ bytes. Some (Udp bytes)) (cut_kept payload checksum long);
    }

-- the errors of a TCP segment, given its length and the byte with its data offset
tcp_error : ℕ → ℕ → Option HeaderSliceError
tcp_error len byte = first_of (
    refused_if (nat_lt len 20) (Len (wrong_length layers.TcpHeader 20 len))
    ∷ refused_if (nat_lt (byte / 16) 5) (Content (DataOffsetTooSmall (byte / 16)))
    ∷ refused_if (nat_lt len (byte / 16 * 4)) (Len (wrong_length layers.TcpHeader (byte / 16 * 4) len))
    ∷ [])

tcp_stored : (payload : List ℕ) (checksum : ℕ) → refusal_by (Some protos.Tcp) false payload ≡ None
    → IsStored protos.Tcp payload (Tcp payload) checksum
unfolding tcp_error
tcp_stored payload checksum none =
    let short = none_first (refused_if (nat_lt (length payload) 20) (Len (wrong_length layers.TcpHeader 20 (length payload)))) _ none in
    let long : 20 ≤ length payload =
    ltb-false (length payload) 20 (none_if _ (Len (wrong_length layers.TcpHeader 20 (length payload))) short.0) in
    let changed : List ℕ = with_checksum tcp_checksum_place payload checksum in
    record {
      proto_is = refl;
      there = omega (arith, long);
      stored_is = refl;
      accepted = ap (λ len. tcp_error len (slice_index changed 12))
          (length-with_checksum tcp_checksum_place payload checksum (omega (arith, long)))
          ∙ ap (tcp_error (length payload)) (byte-with_checksum tcp_checksum_place payload checksum 12 (omega arith) (omega (arith, long)))
          ∙ none;
      kept_is = refl;
    }

-- the errors of an ICMPv4 message, given its length, type and code
icmpv4_error : ℕ → ℕ → ℕ → Option LenError
icmpv4_error len type code = first_of (
    refused_if (nat_lt len 8) (wrong_length layers.Icmpv4 8 len)
    ∷ refused_if ((type == 13) && (code == 0) && not (len == 20)) (wrong_length layers.Icmpv4Timestamp 20 len)
    ∷ refused_if ((type == 14) && (code == 0) && not (len == 20)) (wrong_length layers.Icmpv4TimestampReply 20 len)
    ∷ [])

icmpv4_stored : (payload : List ℕ) (checksum : ℕ) → refusal_by (Some protos.Icmpv4) false payload ≡ None
    → IsStored protos.Icmpv4 payload (Icmpv4 payload) checksum
unfolding icmpv4_error
icmpv4_stored payload checksum none =
    let short = none_first (refused_if (nat_lt (length payload) 8) (wrong_length layers.Icmpv4 8 (length payload))) _
    (mapped_none Len (icmpv4.refusal payload) none) in
    let long : 8 ≤ length payload = ltb-false (length payload) 8 (none_if _ (wrong_length layers.Icmpv4 8 (length payload)) short.0) in
    let changed : List ℕ = with_checksum icmp_checksum_place payload checksum in
    record {
      proto_is = refl;
      there = omega (arith, long);
      stored_is = refl;
      accepted = ap (λ len. option_map Len (icmpv4_error len (slice_index changed 0) (slice_index changed 1)))
          (length-with_checksum icmp_checksum_place payload checksum (omega (arith, long)))
          ∙ ap (λ type. option_map Len (icmpv4_error (length payload) type (slice_index changed 1)))
          (byte-with_checksum icmp_checksum_place payload checksum 0 (omega arith) (omega (arith, long)))
          ∙ ap (λ code. option_map Len (icmpv4_error (length payload) (slice_index payload 0) code))
          (byte-with_checksum icmp_checksum_place payload checksum 1 (omega arith) (omega (arith, long)))
          ∙ none;
      kept_is = refl;
    }

-- the errors of an ICMPv6 message, given its length
icmpv6_error : ℕ → Option LenError
icmpv6_error len = first_of (
    refused_if (nat_lt len 8) (wrong_length layers.Icmpv6 8 len)
    ∷ refused_if (nat_lt 4294967295 len) (wrong_length layers.Icmpv6 4294967295 len)
    ∷ [])

icmpv6_stored : (payload : List ℕ) (checksum : ℕ) → refusal_by (Some protos.Icmpv6) false payload ≡ None
    → IsStored protos.Icmpv6 payload (Icmpv6 payload) checksum
unfolding icmpv6_error
icmpv6_stored payload checksum none =
    let short = none_first (refused_if (nat_lt (length payload) 8) (wrong_length layers.Icmpv6 8 (length payload))) _
    (mapped_none Len (icmpv6.refusal payload) none) in
    let long : 8 ≤ length payload = ltb-false (length payload) 8 (none_if _ (wrong_length layers.Icmpv6 8 (length payload)) short.0) in
    record {
      proto_is = refl;
      there = omega (arith, long);
      stored_is = refl;
      accepted = ap (λ len. option_map Len (icmpv6_error len))
          (length-with_checksum icmp_checksum_place payload checksum (omega (arith, long))) ∙ none;
      kept_is = refl;
    }

stored : (proto : Proto) (payload : List ℕ) (transport : TransportSlice) (checksum : ℕ) → refusal_by (Some proto) false payload ≡ None
    → kept_by (Some proto) payload ≡ Some transport → IsStored proto payload transport checksum
stored protos.Udp payload transport checksum none is =
    let same : Udp (cut payload) ≡ transport = cc is in
    subst (λ t. IsStored protos.Udp payload t checksum) same (udp_stored payload checksum none)
stored protos.Tcp payload transport checksum none is =
    let same : Tcp payload ≡ transport = cc is in
    subst (λ t. IsStored protos.Tcp payload t checksum) same (tcp_stored payload checksum none)
stored protos.Icmpv4 payload transport checksum none is =
    let same : Icmpv4 payload ≡ transport = cc is in
    subst (λ t. IsStored protos.Icmpv4 payload t checksum) same (icmpv4_stored payload checksum none)
stored protos.Icmpv6 payload transport checksum none is =
    let same : Icmpv6 payload ≡ transport = cc is in
    subst (λ t. IsStored protos.Icmpv6 payload t checksum) same (icmpv6_stored payload checksum none)

-- ---- the packet

-- a transport with a typed slice is not a fragment, and its protocol is UDP, TCP, ICMPv4 or ICMPv6
pub record IsTyped (found : TransportInIp) (transport : TransportSlice) : Type 0 where
  pub whole : found.is_fragment ≡ false
  pub proto : Proto
  pub number : proto_over (by_value found.addresses) found.protocol.0 ≡ Some proto
  pub kept_is : kept_by (Some proto) found.payload.now ≡ Some transport

typed_by : (is_fragment : Bool) (over : Option Proto) (payload : List ℕ) (transport : TransportSlice)
    → kept_by (if is_fragment then None else over) payload ≡ Some transport
    → (is_fragment ≡ false) × ((proto : Proto) × ((over ≡ Some proto) × (kept_by (Some proto) payload ≡ Some transport)))
typed_by true over payload transport is = absurd (cc is)
typed_by false None payload transport is = absurd (cc is)
typed_by false (Some proto) payload transport is = (refl, (proto, (refl, is)))

pub typed : (found : TransportInIp) (transport : TransportSlice) → kept found ≡ Some transport → IsTyped found transport
typed found transport is =
    let parts = typed_by found.is_fragment (proto_over (by_value found.addresses) found.protocol.0) found.payload.now transport is in
    let whole = parts.0 in
    let rest = parts.1 in
    record { whole = whole; proto = rest.0; number = rest.1.0; kept_is = rest.1.1 }

-- the bytes after the headers of a packet in which a checksum is stored
drop_stored : (len place : ℕ) (bytes : List ℕ) (checksum : ℕ) → len + place + 2 ≤ length bytes
    → drop len (with_checksum (len + place) bytes checksum) ≡ with_checksum place (drop len bytes) checksum
drop_stored len place bytes checksum there =
    let front : List ℕ = take (len + place) bytes in
    let rest : List ℕ = to_be_bytes w16 checksum ++ drop (len + place + 2) bytes in
    let front_len : length front ≡ len + place = length-take-le (len + place) bytes (omega (arith, there)) in
    let end : len + place + 2 ≡ len + (place + 2) = omega arith in
    drop-append-le len front rest (omega (arith, front_len))
    ∙ ap (λ before. before ++ rest) (drop-take len place bytes)
    ∙ ap (λ after. take place (drop len bytes) ++ (to_be_bytes w16 checksum ++ after))
    (ap (λ n. drop n bytes) end ∙ sym (drop-drop (place + 2) len bytes))

-- storing a checksum after the headers does not change the headers
front_stored : (len place : ℕ) (bytes : List ℕ) (checksum : ℕ) → len ≤ place → place + 2 ≤ length bytes
    → HasFront len bytes (with_checksum place bytes checksum)
front_stored len place bytes checksum before there =
    let front_len : length (take place bytes) ≡ place = length-take-le place bytes (omega (arith, there)) in
    record {
      len_is = length-with_checksum place bytes checksum there;
      front = take-append-le len (take place bytes) (to_be_bytes w16 checksum ++ drop (place + 2) bytes) (omega (arith, front_len, before))
          ∙ take-take len place bytes before;
    }

-- an accepted packet is whole
whole_packet : (packet : List ℕ) → ip.refusal packet ≡ None → is_cut_off false packet ≡ false
whole_packet packet accepted =
    let strict = none_first (ip.strict_header_refusal packet) _ accepted in
    let cut_off = none_first (refused_if (is_cut_off false packet) (PacketCutOff (counted_len false packet) (length packet))) _ strict.1 in
    none_if (is_cut_off false packet) (PacketCutOff (counted_len false packet) (length packet)) cut_off.0

-- the packet with the checksum is judged `Right` if its message is judged `Right`
judged_again : (again : TransportInIp) (transport : TransportSlice) (addresses : Addresses) → again.is_fragment ≡ false
    → again.is_cut_off ≡ false
    → kept again ≡ Some transport → by_value again.addresses ≡ addresses → Judges addresses transport Right → JudgesFound again Right
judged_again again transport addresses whole cut_off is_kept same judged =
    let P : Bool → Type 0 = λ b. MatchBool b (Right ≡ Untested Fragment) (MatchBool again.is_cut_off (Right ≡ Untested CutOff)
    (MatchOption (kept again) (Right ≡ Untested OtherProtocol) (λ t. Judges (by_value again.addresses) t Right))) in
    let Q : Bool → Type 0 = λ b. MatchBool b (Right ≡ Untested CutOff)
    (MatchOption (kept again) (Right ≡ Untested OtherProtocol) (λ t. Judges (by_value again.addresses) t Right)) in
    let R : Option TransportSlice → Type 0 =
    λ k. MatchOption k (Right ≡ Untested OtherProtocol) (λ t. Judges (by_value again.addresses) t Right) in
    let S : Addresses → Type 0 = λ a. Judges a transport Right in
    subst P (sym whole) (subst Q (sym cut_off) (subst R (sym is_kept) (subst S (sym same) judged)))

-- the place of the checksum in the packet
pub record IsPlaced (packet : List ℕ) (found : TransportInIp) (transport : TransportSlice) (is_kept : kept found ≡ Some transport) (place checksum : ℕ) : Type 0 where
  pub end : place + 2 ≤ length packet
  pub stored : stored_checksum transport ≡ be_number packet place 2
  pub proto_is : proto_of transport ≡ (typed found transport is_kept).proto
  pub accepted : ip.refusal (with_checksum place packet checksum) ≡ None
  pub again : (again : TransportInIp) → Carries (with_checksum place packet checksum) again → again.is_length_missing ≡ false
      → Judges (by_value found.addresses) (with_stored transport checksum) Right → (refusal again ≡ None) × JudgesFound again Right

pub placed : (packet : List ℕ) (found : TransportInIp) (transport : TransportSlice) (place checksum : ℕ)
    → ip.refusal packet ≡ None → Carries packet found → found.is_length_missing ≡ false → refusal found ≡ None
    → (is_kept : kept found ≡ Some transport)
    → place ≡ found.payload_offset + checksum_place (proto_of transport) → IsPlaced packet found transport is_kept place checksum
placed packet found transport place checksum accepted carries stated is_refused is_kept is_place =
    let n : ℕ = counted_len false packet in
    let len : ℕ = carries.headers.len in
    let is : IsTyped found transport = typed found transport is_kept in
    let proto : Proto = is.proto in
    let at : ℕ = checksum_place proto in
    let payload : List ℕ = found.payload.now in
    let cut_off : found.is_cut_off ≡ false =
    carries.is_cut_off ∙ ap (λ missing. is_cut_off missing packet) stated ∙ whole_packet packet accepted in
    let payload_is : payload ≡ drop len (take n packet) = carries.payload ∙ ap (λ missing. drop len (counted missing packet)) stated in
    let in_is : proto_in found ≡ Some proto =
    ap (λ b. if b then None else proto_over (by_value found.addresses) found.protocol.0) is.whole ∙ is.number in
    let none : refusal_by (Some proto) false payload ≡ None =
    ap (λ p. refusal_by p false payload) (sym in_is) ∙ ap (λ b. refusal_by (proto_in found) b payload) (sym cut_off) ∙ is_refused in
    let message : IsStored proto payload transport checksum = stored proto payload transport checksum none is.kept_is in
    let whole : n ≤ length packet = ltb-false (length packet) n (whole_packet packet accepted) in
    let within : len ≤ length (take n packet) = subst (λ missing. len ≤ length (counted missing packet)) stated carries.within in
    let room : len + at + 2 ≤ n =
    omega (arith, message.there, ap length payload_is, length-drop len (take n packet), length-take-le n packet whole, within) in
    let place_is : place ≡ len + at = is_place ∙ ap (λ offset. offset + checksum_place (proto_of transport)) carries.payload_offset
    ∙ ap (λ p. len + checksum_place p) message.proto_is in
    let end : place + 2 ≤ length packet = omega (arith, place_is, room, whole) in
    let changed : List ℕ = with_checksum place packet checksum in
    let read : headers_of false packet ≡ Ok carries.headers = ap (λ missing. headers_of missing packet) (sym stated) ∙ carries.read in
    let alike = read_alike packet changed carries.headers accepted read within
    (front_stored len place packet checksum (omega (arith, place_is)) end) in
    let later : drop len (take n changed) ≡ with_checksum at payload checksum =
    ap (drop len) (take-with_checksum place packet checksum n (omega (arith, place_is, room)) whole)
    ∙ ap (λ place. drop len (with_checksum place (take n packet) checksum)) place_is
    ∙ drop_stored len at (take n packet) checksum (omega (arith, room, length-take-le n packet whole))
    ∙ ap (λ bytes. with_checksum at bytes checksum) (sym payload_is) in
    let byte : (k : ℕ) → at + k + 1 ≤ length payload → slice_index payload (at + k) ≡ slice_index packet (place + k) = λ k fits.
    let shift : len + (at + k) ≡ place + k = omega (arith, place_is) in
    let inside : len + (at + k) < n =
    omega (arith, fits, ap length payload_is, length-drop len (take n packet), length-take-le n packet whole, within) in
    ap (λ bytes. slice_index bytes (at + k)) payload_is ∙ get_or-drop len (take n packet) (at + k) 0
    ∙ get_or-take n packet (len + (at + k)) 0 inside
    ∙ ap (slice_index packet) shift in
    let stored_there : stored_checksum transport ≡ be_number packet place 2 =
    message.stored_is ∙ omega (arith, byte 0 (omega (arith, message.there)), byte 1 (omega (arith, message.there))) in
    record {
      end = end;
      stored = stored_there;
      proto_is = message.proto_is;
      accepted = alike.accepted;
      again = λ again carries_too stated_too judged.
          let same : carries_too.headers ≡ carries.headers =
          read_once (headers_of false changed) carries_too.headers carries.headers
          (ap (λ missing. headers_of missing changed) (sym stated_too) ∙ carries_too.read) alike.read in
          let whole_too : again.is_fragment ≡ false =
          carries_too.is_fragment ∙ ap (λ h. h.is_fragment) same ∙ sym carries.is_fragment ∙ is.whole in
          let cut_off_too : again.is_cut_off ≡ false =
          carries_too.is_cut_off ∙ ap (λ missing. is_cut_off missing changed) stated_too ∙ whole_packet changed alike.accepted in
          let addresses_too : by_value again.addresses ≡ by_value found.addresses =
          carries_too.addresses ∙ ap (λ h. h.addresses) same ∙ sym carries.addresses in
          let number_too : again.protocol ≡ found.protocol = carries_too.protocol ∙ ap (λ h. h.protocol) same ∙ sym carries.protocol in
          let payload_too : again.payload.now ≡ with_checksum at payload checksum =
          carries_too.payload ∙ ap (λ missing. drop carries_too.headers.len (counted missing changed)) stated_too
          ∙ ap (λ h. drop h.len (counted false changed)) same ∙ ap (λ n. drop len (take n changed)) alike.counts ∙ later in
          let in_too : proto_in again ≡ Some proto =
          ap (λ b. if b then None else proto_over (by_value again.addresses) again.protocol.0) whole_too
          ∙ ap (λ addresses. proto_over addresses again.protocol.0) addresses_too
          ∙ ap (λ protocol. proto_over (by_value found.addresses) protocol.0) number_too ∙ is.number in
          let kept_too : kept again ≡ Some (with_stored transport checksum) =
          ap (λ p. kept_by p again.payload.now) in_too ∙ ap (kept_by (Some proto)) payload_too ∙ message.kept_is in (
            ap (λ p. refusal_by p again.is_cut_off again.payload.now) in_too
                ∙ ap (λ b. refusal_by (Some proto) b again.payload.now) cut_off_too
                ∙ ap (refusal_by (Some proto) false) payload_too ∙ message.accepted,
            judged_again again (with_stored transport checksum)
                (by_value found.addresses) whole_too cut_off_too kept_too addresses_too judged,
          );
    }

-- ---- two transports of the same packet

record IsSame (found again : TransportInIp) : Type 0 where
  fragment : again.is_fragment ≡ found.is_fragment
  cut_off : again.is_cut_off ≡ found.is_cut_off
  addresses : by_value again.addresses ≡ by_value found.addresses
  protocol : again.protocol ≡ found.protocol
  payload : again.payload.now ≡ found.payload.now

same_found : (packet : List ℕ) (found again : TransportInIp) → Carries packet found → Carries packet again
    → found.is_length_missing ≡ false → again.is_length_missing ≡ false → IsSame found again
same_found packet found again carries carries_too stated stated_too =
    let missing : again.is_length_missing ≡ found.is_length_missing = stated_too ∙ sym stated in
    let same : carries_too.headers ≡ carries.headers =
    read_once (headers_of false packet) carries_too.headers carries.headers
    (ap (λ missing. headers_of missing packet) (sym stated_too) ∙ carries_too.read)
    (ap (λ missing. headers_of missing packet) (sym stated) ∙ carries.read) in
    record {
      fragment = carries_too.is_fragment ∙ ap (λ (h : Headers). h.is_fragment) same ∙ sym carries.is_fragment;
      cut_off = carries_too.is_cut_off ∙ ap (λ missing. is_cut_off missing packet) missing ∙ sym carries.is_cut_off;
      addresses = carries_too.addresses ∙ ap (λ (h : Headers). h.addresses) same ∙ sym carries.addresses;
      protocol = carries_too.protocol ∙ ap (λ (h : Headers). h.protocol) same ∙ sym carries.protocol;
      payload = carries_too.payload ∙ ap (λ missing. drop carries_too.headers.len (counted missing packet)) missing
          ∙ ap (λ (h : Headers). drop h.len (counted found.is_length_missing packet)) same ∙ sym carries.payload;
    }

proto_same : (found again : TransportInIp) → IsSame found again → proto_in again ≡ proto_in found
proto_same found again same =
    ap (λ b. if b then None else proto_over (by_value again.addresses) again.protocol.0) same.fragment
    ∙ ap (λ addresses. if found.is_fragment then None else proto_over addresses again.protocol.0) same.addresses
    ∙ ap (λ protocol. if found.is_fragment then None else proto_over (by_value found.addresses) protocol.0) same.protocol

refusal_same : (found again : TransportInIp) → IsSame found again → refusal again ≡ refusal found
refusal_same found again same =
    ap (λ p. refusal_by p again.is_cut_off again.payload.now) (proto_same found again same)
    ∙ ap (λ b. refusal_by (proto_in found) b again.payload.now) same.cut_off
    ∙ ap (refusal_by (proto_in found) found.is_cut_off) same.payload

judged_same : (found again : TransportInIp) (verdict : ChecksumVerdict) → IsSame found again → JudgesFound found verdict
    → JudgesFound again verdict
judged_same found again verdict same judged =
    let kept_same : kept again ≡ kept found =
    ap (λ p. kept_by p again.payload.now) (proto_same found again same) ∙ ap (kept_by (proto_in found)) same.payload in
    let P : Bool → Type 0 = λ b. MatchBool b (verdict ≡ Untested Fragment) (MatchBool again.is_cut_off (verdict ≡ Untested CutOff)
    (MatchOption (kept again) (verdict ≡ Untested OtherProtocol) (λ t. Judges (by_value again.addresses) t verdict))) in
    let Q : Bool → Type 0 = λ b. MatchBool found.is_fragment (verdict ≡ Untested Fragment) (MatchBool b (verdict ≡ Untested CutOff)
    (MatchOption (kept again) (verdict ≡ Untested OtherProtocol) (λ t. Judges (by_value again.addresses) t verdict))) in
    let R : Option TransportSlice → Type 0 =
    λ k. MatchBool found.is_fragment (verdict ≡ Untested Fragment) (MatchBool found.is_cut_off (verdict ≡ Untested CutOff)
    (MatchOption k (verdict ≡ Untested OtherProtocol) (λ t. Judges (by_value again.addresses) t verdict))) in
    let S : Addresses → Type 0 = λ a. MatchBool found.is_fragment (verdict
    ≡ Untested Fragment) (MatchBool found.is_cut_off (verdict ≡ Untested CutOff)
    (MatchOption (kept found) (verdict ≡ Untested OtherProtocol) (λ t. Judges a t verdict))) in
    subst P (sym same.fragment) (subst Q (sym same.cut_off) (subst R (sym kept_same) (subst S (sym same.addresses) judged)))

-- the verdict on a typed slice is the verdict on its packet
judged_slice : (found : TransportInIp) (transport : TransportSlice) (verdict : ChecksumVerdict) → found.is_fragment ≡ false
    → found.is_cut_off ≡ false
    → kept found ≡ Some transport → JudgesFound found verdict → Judges (by_value found.addresses) transport verdict
judged_slice found transport verdict whole cut_off is_kept judged =
    let P : Bool → Type 0 = λ b. MatchBool b (verdict ≡ Untested Fragment) (MatchBool found.is_cut_off (verdict ≡ Untested CutOff)
    (MatchOption (kept found) (verdict ≡ Untested OtherProtocol) (λ t. Judges (by_value found.addresses) t verdict))) in
    let Q : Bool → Type 0 = λ b. MatchBool b (verdict ≡ Untested CutOff)
    (MatchOption (kept found) (verdict ≡ Untested OtherProtocol) (λ t. Judges (by_value found.addresses) t verdict)) in
    let R : Option TransportSlice → Type 0 =
    λ k. MatchOption k (verdict ≡ Untested OtherProtocol) (λ t. Judges (by_value found.addresses) t verdict) in
    subst R is_kept (subst Q cut_off (subst P whole judged))

-- ---- a packet that is refused

-- the reasons hold for each transport that is found in the packet
pub refused_for : (packet : List ℕ) (found : TransportInIp) (error : WriteChecksumError) → ip.refusal packet ≡ None → Carries packet found
    → found.is_length_missing ≡ false → IsRefusedIn found error → IsRefusedFor packet error
refused_for packet found (Ip error) accepted carries stated refused = absurd refused
refused_for packet found (Transport error) accepted carries stated refused = record {
  accepted = accepted;
  found = λ again carries_too stated_too.
      refusal_same found again (same_found packet found again carries carries_too stated stated_too) ∙ refused;
}
refused_for packet found (UntestedFor why) accepted carries stated refused = record {
  accepted = accepted;
  found = λ again carries_too stated_too.
      let same = same_found packet found again carries carries_too stated stated_too in
      (refusal_same found again same ∙ refused.0, judged_same found again (Untested why) same refused.1);
}

-- a packet, the right checksum for it, and the place of the checksum
module _ (packet : List ℕ) (found : TransportInIp) (place checksum : ℕ) (accepted : ip.refusal packet ≡ None)
    (carries : Carries packet found)
    (stated : found.is_length_missing ≡ false) (is : IsRightIn found place checksum) where
  at_place : IsPlaced packet found is.transport is.is_kept place checksum
  at_place = placed packet found is.transport place checksum accepted carries stated is.is_accepted is.is_kept is.is_place

  fragment_is : IsTyped found is.transport
  fragment_is = typed found is.transport is.is_kept

  uncut : found.is_cut_off ≡ false
  uncut = carries.is_cut_off ∙ ap (λ missing. is_cut_off missing packet) stated ∙ whole_packet packet accepted

  -- no reason to refuse the packet holds
  pub not_refused : (error : WriteChecksumError) → IsRefusedFor packet error → ⊥
  not_refused (Ip error) refused = cc (accepted, refused)
  not_refused (Transport error) refused = cc (is.is_accepted, refused.found found carries stated)
  not_refused (UntestedFor why) refused =
      let judged = refused.found found carries stated in
      is.chosen (Untested why) tt (judged_slice found is.transport (Untested why) fragment_is.whole uncut is.is_kept judged.1)

  pub there : place + 2 ≤ length packet
  there = at_place.end

  pub right_after : HasVerdict (with_checksum place packet checksum) Right
  right_after = record {
    accepted = at_place.accepted;
    found = λ again carries_too stated_too. at_place.again again carries_too stated_too is.right;
  }

  pub written_is : IsWritten packet checksum (with_checksum place packet checksum)
  unfolding fragment_is typed
  written_is = record {
    headers = carries.headers;
    read = ap (λ missing. headers_of missing packet) (sym stated) ∙ carries.read;
    proto = fragment_is.proto;
    proto_is = ap (λ addresses. proto_over addresses carries.headers.protocol.0) (sym carries.addresses)
        ∙ ap (λ protocol. proto_over (by_value found.addresses) protocol.0) (sym carries.protocol) ∙ fragment_is.number;
    written = ap (λ place. with_checksum place packet checksum)
        (is.is_place ∙ ap (λ offset. offset + checksum_place (proto_of is.transport)) carries.payload_offset
        ∙ ap (λ p. carries.headers.len + checksum_place p) at_place.proto_is);
  }

  pub writes_by : IsBytes packet → (verdict : ChecksumVerdict) → HasChecksum verdict → HasVerdict packet verdict
      → WritesBy verdict packet checksum (with_checksum place packet checksum)
  writes_by fits verdict has before =
      let judged = judged_slice found is.transport verdict fragment_is.whole uncut is.is_kept (before.found found carries stated).1 in
      by_verdict verdict (is.chosen verdict has judged)
    where
      by_verdict : (verdict : ChecksumVerdict) → IsRightBy verdict (stored_checksum is.transport) checksum
          → WritesBy verdict packet checksum (with_checksum place packet checksum)
      by_verdict Right same =
          ap (with_checksum place packet) (same ∙ at_place.stored) ∙ with_checksum-stored place packet fits there
      by_verdict Absent some = some
      by_verdict (Wrong expected) same = same
      by_verdict (Partial expected) same = same
      by_verdict (Untested why) none = none

-- ---- a partial checksum

partial_same : (found again : TransportInIp) → IsSame found again → IsPartialIn found → IsPartialIn again
partial_same found again same is =
    let kept_same : kept again ≡ kept found =
    ap (λ p. kept_by p again.payload.now) (proto_same found again same) ∙ ap (kept_by (proto_in found)) same.payload in
    let P : Option TransportSlice → Type 0 = λ k. MatchOption k ⊥ (λ t. IsPartial (by_value again.addresses) t) in
    let Q : Addresses → Type 0 = λ a. MatchOption (kept found) ⊥ (λ t. IsPartial a t) in
    (refusal_same found again same ∙ is.0, subst P (sym kept_same) (subst Q (sym same.addresses) is.1))

pub has_partial_in : (packet : List ℕ) (found : TransportInIp) (partial : Bool) → ip.refusal packet ≡ None → Carries packet found
    → found.is_length_missing ≡ false → (IsTrue partial ↔ IsPartialIn found) → (IsTrue partial ↔ HasPartialChecksum packet)
has_partial_in packet found partial accepted carries stated whether = (
  λ is. record {
    accepted = accepted;
    found = λ again carries_too stated_too. partial_same found again (same_found packet found again carries carries_too stated stated_too)
        (whether.0 is);
  },
  λ has. whether.1 (has.found found carries stated),
)

-- what the verdict on a found transport says of its checksum
partial_by : (is_fragment is_cut_off : Bool) (k : Option TransportSlice) (between : Addresses) (verdict : ChecksumVerdict)
    → MatchBool is_fragment (verdict ≡ Untested Fragment) (MatchBool is_cut_off (verdict ≡ Untested CutOff)
    (MatchOption k (verdict ≡ Untested OtherProtocol) (λ t. Judges between t verdict)))
    → SaysWhetherPartial (MatchOption k ⊥ (λ t. IsPartial between t)) verdict
partial_by true is_cut_off k between verdict is = subst (SaysWhetherPartial (MatchOption k ⊥ (λ t. IsPartial between t))) (sym is) tt
partial_by false true k between verdict is = subst (SaysWhetherPartial (MatchOption k ⊥ (λ t. IsPartial between t))) (sym is) tt
partial_by false false None between verdict is = subst (SaysWhetherPartial ⊥) (sym is) tt
partial_by false false (Some t) between verdict is = says_partial between t verdict is

pub says_whether : (packet : List ℕ) (found : TransportInIp) (verdict : ChecksumVerdict) → Carries packet found
    → found.is_length_missing ≡ false
    → HasVerdict packet verdict → SaysWhetherPartial (HasPartialChecksum packet) verdict
says_whether packet found (Partial expected) carries stated has = record {
  accepted = has.accepted;
  found = λ again carries_too stated_too. (
    (has.found again carries_too stated_too).0,
    partial_by again.is_fragment again.is_cut_off (kept again) (by_value again.addresses) (Partial expected)
        (has.found again carries_too stated_too).1,
  );
}
says_whether packet found (Wrong expected) carries stated has = λ partial.
    partial_by found.is_fragment found.is_cut_off (kept found) (by_value found.addresses) (Wrong expected)
    (has.found found carries stated).1
    (partial.found found carries stated).1
says_whether packet found Right carries stated has = tt
says_whether packet found Absent carries stated has = tt
says_whether packet found (Untested why) carries stated has = tt

-- ---- the results of calls

-- what holds for each value of a success
pub if_matched : {T E : Type 0} {P Q : T → Type 0} (R : E → Type 0) (result : Result T E) → MatchResult result P R
    → ((value : T) → P value → Q value) → IfOk result Q
if_matched R (Ok value) holds after = after value holds
if_matched R (Err error) holds after = tt

pub both_matched : {T E : Type 0} {P Q : T → Type 0} {R S : E → Type 0} (result : Result T E) → MatchResult result P R
    → ((value : T) → P value → Q value) → ((error : E) → R error → S error) → MatchResult result Q S
both_matched (Ok value) holds after other = after value holds
both_matched (Err error) holds after other = other error holds
