-- Laws of replies: the message of an accepted request, and the packet that answers it.
use Rattle.std.proofs.Common.{◌≡◌, ℕ, ◌≤◌, ◌==◌, Bool, true, false, not, if◌then◌else◌, List, [], ◌∷◌, ◌++◌, length, take, drop, slice_range, Option, Some, None, Ok, refl, sym, ap, ◌∙◌, subst, arith}
use Rattle.std.specs.Prelude.{IfOk, IsTrue, MatchBool, Result, Err}
use Rattle.std.specs.Option.{option_map}
use Rattle.std.proofs.lemmas.List.{append_assoc, drop_all, length-take-le}
use Rattle.icmp_part.specs.IcmpEcho.{echo_of}
use Rattle.icmp_part.specs.Icmpv4Format as icmpv4
use Rattle.icmp_part.specs.Icmpv6Format as icmpv6
use Rattle.ip_part.specs.Addresses.{Addresses, by_value}
use Rattle.ip_part.specs.Addresses as addresses
use Rattle.ip_part.specs.ExtensionHeaders.{is_extension}
use Rattle.ip_part.specs.Ip.{Carries, IsAfterHeaders, first_headers, ipv4_headers, ipv6_headers, is_extended, is_jumbogram, next_header}
use Rattle.ip_part.specs.Ip as ip
use Rattle.ip_part.specs.Options.{routed}
use Rattle.ip_part.specs.declared.transport.TransportInIp.{TransportInIp}
use Rattle.ip_part.proofs.TransportLemmas.{over_ipv4, over_ipv6}
use Rattle.net_base.specs.IpHeaders.{BeginsWithIpv4Header, BeginsWithIpv6Header, ipv4_header_len, version}
use Rattle.net_base.specs.Refusals.{RefusesExactly, refused_if}
use Rattle.word_sum.specs.Checksum.{Verifies}
use Rattle.etherparse_transport.specs.EchoReplies.{IsPlainRequest, IsIpv6Request, are_padding, icmpv4_reply_to, icmpv6_reply_to, ipv4_answer_refusal, ipv4_message, ipv4_options, plain_reply, ipv4_request_refusal, ipv6_answer_refusal, ipv6_reply, ipv6_request_refusal, is_group_ipv4, is_group_ipv6, is_host_ipv4, is_host_ipv6, message_after, transport_refusal}
use Rattle.etherparse_transport.specs.ReplyTo.{CarriesIcmp, IsReplyTo, MayAnswerIpv4, MayAnswerIpv6, echoed, icmp_number}
use Rattle.etherparse_transport.specs.declared.err.packet.answer_echo_error.AnswerEchoError.TheVariants.{Len, ReplySource}
use Rattle.etherparse_transport.proofs.BuiltLemmas.{mapped_none, none_first, none_if}
use Rattle.etherparse_transport.proofs.EchoReplyLemmas.{icmpv4_reply_valid, icmpv4_request, icmpv6_reply_valid, icmpv6_request, ipv4_reply_has, ipv6_reply_has, once}
use Rattle.etherparse_transport.proofs.EchoRequestLemmas.{IsFound, IsFoundTransport, found_at, found_transport, in_front, next_is}
use Rattle.etherparse_transport.proofs.PacketLemmas.{HasMessage}
use Rattle.etherparse_transport.proofs.WithoutOptionsLemmas.{no_route}

-- ---- the packets

-- a found ICMP message is the message of its packet
found_carried : (packet : List ℕ) (found : TransportInIp) (between : Addresses) → ip.refusal packet ≡ None → Carries packet found
    → found.is_length_missing ≡ false → found.is_fragment ≡ false → found.protocol.0 ≡ icmp_number between
    → by_value found.addresses ≡ between
    → CarriesIcmp packet between found.payload.now
found_carried packet found between accepted carries stated whole number same = record {
  accepted = accepted;
  headers = carries.headers;
  read = sym (ap (λ missing. ip.headers_of missing packet) stated) ∙ carries.read;
  addresses = sym carries.addresses ∙ same;
  protocol = sym (ap (λ protocol. protocol.0) carries.protocol) ∙ number;
  is_fragment = sym carries.is_fragment ∙ whole;
  content = sym (ap (λ missing. drop carries.headers.len (ip.counted missing packet)) stated) ∙ sym carries.payload;
}

pub ipv4_request_carried : (packet : List ℕ) (found : TransportInIp) → ip.refusal packet ≡ None → Carries packet found
    → BeginsWithIpv4Header packet → found.is_length_missing ≡ false → found.is_cut_off ≡ false
    → transport_refusal 1 (ipv4_header_len packet) found.is_fragment found.protocol.0 found.payload_offset ≡ None
    → are_padding (ipv4_options packet) ≡ true
    → CarriesIcmp packet (addresses.Ipv4 (slice_range packet 12 16) (slice_range packet 16 20)) (ipv4_message packet)
ipv4_request_carried packet found accepted carries begins stated whole transport padding =
    let between : Addresses = addresses.Ipv4 (slice_range packet 12 16) (slice_range packet 16 20) in
    let len : ℕ = ipv4_header_len packet in
    let is : IsFoundTransport found 1 len = found_transport 1 len found transport in
    let at : IsFound packet found len = found_at packet found len carries stated whole is.offset in
    let header : List ℕ = ip.ipv4_header packet in
    let over = over_ipv4 packet found begins.is_version_4 carries in
    let same : by_value found.addresses ≡ between =
    over.addresses
    ∙ ap (λ route. addresses.Ipv4 (slice_range header 12 16) (routed (slice_range header 16 20) route))
    (no_route (drop 20 header) over.options padding over.are_options)
    ∙ ap (λ source. addresses.Ipv4 source (slice_range header 16 20)) (in_front len 12 4 packet (omega (arith, begins.five_words)))
    ∙ ap (addresses.Ipv4 (slice_range packet 12 16)) (in_front len 16 4 packet (omega (arith, begins.five_words))) in
    subst (CarriesIcmp packet between) at.message_is (found_carried packet found between accepted carries stated is.whole is.number_is same)

pub ipv6_request_carried : (packet : List ℕ) (found : TransportInIp) → ip.refusal packet ≡ None → Carries packet found
    → IsAfterHeaders packet found
    → BeginsWithIpv6Header packet → found.is_length_missing ≡ false → found.is_cut_off ≡ false
    → transport_refusal 58 40 found.is_fragment found.protocol.0 found.payload_offset ≡ None
    → CarriesIcmp packet (addresses.Ipv6 (slice_range packet 8 24) (Some (slice_range packet 24 40))) (message_after 40 packet)
ipv6_request_carried packet found accepted carries after begins stated whole transport =
    let between : Addresses = addresses.Ipv6 (slice_range packet 8 24) (Some (slice_range packet 24 40)) in
    let is : IsFoundTransport found 58 40 = found_transport 58 40 found transport in
    let at : IsFound packet found 40 = found_at packet found 40 carries stated whole is.offset in
    let next : next_header packet ≡ 58 = next_is packet found after begins is.offset ∙ is.number_is in
    let last : is_extended (first_headers packet) ≡ false =
    ap (λ v. is_extended (if v == 4 then ipv4_headers (ipv4_header_len packet) (ip.ipv4_header packet)
    else ipv6_headers (is_jumbogram packet) (ip.ipv6_header packet))) begins.is_version_6 ∙ ap is_extension next in
    let same : by_value found.addresses ≡ between =
    (over_ipv6 packet found begins.is_version_6 last carries).addresses
    ∙ ap (λ source. addresses.Ipv6 source (Some (slice_range (take 40 packet) 24 40))) (in_front 40 8 16 packet (omega arith))
    ∙ ap (λ destination. addresses.Ipv6 (slice_range packet 8 24) (Some destination)) (in_front 40 24 16 packet (omega arith)) in
    subst (CarriesIcmp packet between) at.message_is (found_carried packet found between accepted carries stated is.whole is.number_is same)

built_carried : (packet : List ℕ) (between : Addresses) (number : ℕ) (message : List ℕ) → number ≡ icmp_number between
    → HasMessage packet between number message → CarriesIcmp packet between message
built_carried packet between number message is has = record {
  accepted = has.accepted;
  headers = has.headers;
  read = has.read;
  addresses = has.between_is;
  protocol = has.number_is ∙ is;
  is_fragment = has.whole;
  content = has.bytes_are;
}

-- ---- the addresses

-- a destination that is the address of one host may answer
may_answer : (is_group is_host : Bool) (destination : List ℕ) → is_host ≡ true
    → MatchBool is_group (IsTrue is_host) (destination ≡ destination)
may_answer true is_host destination is = is
may_answer false is_host destination is = refl

pub destination_answers_ipv4 : (packet : List ℕ) → ipv4_answer_refusal None packet ≡ None
    → MayAnswerIpv4 (slice_range packet 16 20) (slice_range packet 16 20)
destination_answers_ipv4 packet accepted =
    let destination : List ℕ = slice_range packet 16 20 in
    let after_request = none_first (ipv4_request_refusal packet) _ accepted in
    let after_source = none_first (refused_if (not (is_host_ipv4 destination)) ReplySource) _ after_request.1 in
    may_answer (is_group_ipv4 destination) (is_host_ipv4 destination) destination
    (once (is_host_ipv4 destination) (none_if _ ReplySource after_source.0))

pub destination_answers_ipv6 : (packet : List ℕ) → ipv6_answer_refusal None packet ≡ None
    → MayAnswerIpv6 (slice_range packet 24 40) (slice_range packet 24 40)
destination_answers_ipv6 packet accepted =
    let destination : List ℕ = slice_range packet 24 40 in
    let after_request = none_first (ipv6_request_refusal packet) _ accepted in
    let after_source = none_first (refused_if (not (is_host_ipv6 destination)) ReplySource) _ after_request.1 in
    may_answer (is_group_ipv6 destination) (is_host_ipv6 destination) destination
    (once (is_host_ipv6 destination) (none_if _ ReplySource after_source.0))

-- what holds without an error holds if the call succeeds
pub if_accepted : {T E : Type 0} (result : Result T E) (refusal : Option E) (P : Type 0) → RefusesExactly result refusal
    → (refusal ≡ None → IfOk result (λ _. P)) → IfOk result (λ _. P)
if_accepted (Ok value) refusal P refuses given = given refuses
if_accepted (Err error) refusal P refuses given = tt

-- ---- the reply

pub ipv4_is_reply : (request packet source : List ℕ) (time_to_live : ℕ) → IsPlainRequest packet
    → CarriesIcmp request (addresses.Ipv4 (slice_range packet 12 16) (slice_range packet 16 20)) (message_after 20 packet)
    → length source ≡ 4 → length (slice_range packet 12 16) ≡ 4
    → icmpv4.refusal (icmpv4.wire (icmpv4_reply_to (message_after 20 packet)) ++ drop 8 (message_after 20 packet)) ≡ None
    → echoed (icmpv4.wire (icmpv4_reply_to (message_after 20 packet)) ++ drop 8 (message_after 20 packet))
    ≡ echoed (message_after 20 packet)
    → Verifies [] (ip.ipv4_header (plain_reply source time_to_live packet))
    → MayAnswerIpv4 (slice_range packet 16 20) source
    → IsReplyTo request (plain_reply source time_to_live packet)
ipv4_is_reply request packet source time_to_live is carries len len_too reads same verifies answers =
    let message : List ℕ = message_after 20 packet in
    let back : Addresses = addresses.Ipv4 source (slice_range packet 12 16) in
    let received : List ℕ = icmpv4.wire (icmpv4_reply_to message) ++ drop 8 message in
    let echo = icmpv4_request message is.message in
    let accepted = none_first (option_map Len (icmpv4.refusal message)) _ is.message in
    record {
      request_addresses = addresses.Ipv4 (slice_range packet 12 16) (slice_range packet 16 20);
      reply_addresses = back;
      request_message = message;
      reply_message = received;
      request_carries = carries;
      reply_carries = built_carried _ back 1 received refl
          (ipv4_reply_has packet source (slice_range packet 12 16) time_to_live (echo_of message 4) is len len_too);
      goes_back = (refl, answers);
      answers = record {
        is_request = record {
          accepted =
              mapped_none Len (icmpv4.refusal message) accepted.0;
          type_is = echo.type_is;
          code_is = echo.code_is;
        };
        is_reply = record { accepted = reads; type_is = refl; code_is = refl };
        same = same;
        checksum = icmpv4_reply_valid (echo_of message 4) (drop 8 message);
      };
      header_checksum = λ begins. verifies;
    }

-- the first six bytes determine the version, so a reply over IPv6 is over IPv6 too
not_ipv4 : (packet after : List ℕ) → 6 ≤ length packet → version packet ≡ 6 → version (take 6 packet ++ after) ≡ 6
not_ipv4 (a ∷ rest) after long is = is
not_ipv4 [] after long is = absurd (omega arith)

pub ipv6_is_reply : (packet source : List ℕ) (hop_limit : ℕ) → IsIpv6Request packet
    → CarriesIcmp packet (addresses.Ipv6 (slice_range packet 8 24) (Some (slice_range packet 24 40))) (message_after 40 packet)
    → length source ≡ 16 → length (slice_range packet 8 24) ≡ 16
    → icmpv6.refusal (icmpv6.wire (icmpv6_reply_to source (slice_range packet 8 24) (message_after 40 packet))
    ++ drop 8 (message_after 40 packet)) ≡ None
    → echoed (icmpv6.wire (icmpv6_reply_to source (slice_range packet 8 24) (message_after 40 packet)) ++ drop 8 (message_after 40 packet))
    ≡ echoed (message_after 40 packet)
    → MayAnswerIpv6 (slice_range packet 24 40) source
    → IsReplyTo packet (ipv6_reply source hop_limit packet)
ipv6_is_reply packet source hop_limit is carries len len_too reads same answers =
    let message : List ℕ = message_after 40 packet in
    let destination : List ℕ = slice_range packet 8 24 in
    let back : Addresses = addresses.Ipv6 source (Some destination) in
    let received : List ℕ = icmpv6.wire (icmpv6_reply_to source destination message) ++ drop 8 message in
    let request = icmpv6_request destination (slice_range packet 24 40) message is.message in
    let accepted = none_first (option_map Len (icmpv6.refusal message)) _ is.message in
    let version_is : version (ipv6_reply source hop_limit packet) ≡ 6 =
    ap version (append_assoc (take 6 packet) _ _) ∙ not_ipv4 packet _ (omega (arith, is.end, is.there)) is.is_ipv6 in
    record {
      request_addresses = addresses.Ipv6 destination (Some (slice_range packet 24 40));
      reply_addresses = back;
      request_message = message;
      reply_message = received;
      request_carries = carries;
      reply_carries = built_carried _ back 58 received refl (ipv6_reply_has packet source hop_limit (echo_of message 4) is len len_too);
      goes_back = (refl, answers);
      answers = record {
        is_request = record {
          accepted =
              mapped_none Len (icmpv6.refusal message) accepted.0;
          type_is = request.type_is;
          code_is = request.code_is;
        };
        is_reply = record { accepted = reads; type_is = refl; code_is = refl };
        same = same;
        checksum = icmpv6_reply_valid packet source (echo_of message 4) is;
      };
      header_checksum = λ begins. absurd (omega (arith, begins.is_version_4, version_is));
    }
