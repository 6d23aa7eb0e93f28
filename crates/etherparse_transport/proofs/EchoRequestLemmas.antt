-- Laws of the requests that are answered: what the accepted rules show about a packet, and which rules are left.
use Rattle.std.proofs.Common.{◌≡◌, ◌≢◌, ℕ, ◌+◌, ◌-◌, ◌≤◌, ◌==◌, ◌&&◌, not, nat_lt, Bool, true, false, if◌then◌else◌, List, [], ◌∷◌, length, take, drop, slice_index, slice_range, length-append, Option, Some, None, Ok, unwrap_or, refl, sym, ap, ◌∙◌, subst, arith}
use Rattle.std.specs.Prelude.{◌↔◌, IsTrue}
use Rattle.std.specs.Option.{option_map}
use Rattle.std.proofs.lemmas.Bool.Decides.{nat_tests}
use Rattle.std.proofs.lemmas.List.{drop-take, length-drop, length-take-le, take-take}
use Rattle.ip_part.specs.ExtensionHeaders.{ExtensionHeader, IsChain, bytes_of}
use Rattle.ip_part.specs.Headers.{Headers}
use Rattle.ip_part.specs.Ip.{Carries, IsAfterHeaders, IsOverIpv4, counted, counted_len, jumbo_len, len_in_options, next_header, payload_len}
use Rattle.ip_part.specs.Ip as ip
use Rattle.ip_part.specs.declared.transport.TransportInIp.{TransportInIp}
use Rattle.net_base.specs.IpHeaders.{BeginsWithIpv4Header, BeginsWithIpv6Header, ipv4_header_len, ipv4_header_of, ipv6_header_of, version}
use Rattle.net_base.specs.declared.ipv4_header.Ipv4Header.{Ipv4Header}
use Rattle.net_base.specs.declared.ipv6_header.Ipv6Header.{Ipv6Header}
use Rattle.net_base.specs.Refusals.{first_of, refused_if}
use Rattle.word_sum.specs.Checksum.{IsAllOnes, Verifies, folded, total}
use Rattle.etherparse_transport.specs.EchoReplies.{IsIpv4Request, IsIpv6Request, are_padding, icmpv4_refusal, icmpv6_refusal, ipv4_options, ipv4_request_refusal, ipv4_rules, ipv6_request_refusal, ipv6_rules, is_host_ipv4, is_host_ipv6, message_after, refusal_by_headers, is_all_ones, transport_refusal}
use Rattle.etherparse_transport.specs.declared.err.packet.answer_echo_error.AnswerEchoError.{AnswerEchoError}
use Rattle.etherparse_transport.specs.declared.err.packet.answer_echo_error.AnswerEchoError.TheVariants.{Fragment, HeaderChecksum, Ip, NoEchoRequest, Options, RequestSource}
use Rattle.etherparse_transport.proofs.BuiltLemmas.{none_first, none_if}
use Rattle.etherparse_transport.proofs.EchoReplyLemmas.{is_number, once}

-- ---- rules

-- a receiver's test as a truth value
pub is_all_ones_by : (valid : Bool) (n : ℕ) → (IsTrue valid ↔ IsAllOnes (0 + n)) → is_all_ones n ≡ valid
is_all_ones_by true n is = let ones : folded n ≡ 65535 = ap folded (omega arith) ∙ is.0 refl in grind (arith, nat_tests)
is_all_ones_by false n is = let others : folded n ≢ 65535 =
    λ ones. let clash : false ≡ true = is.1 (ap folded (omega arith) ∙ ones) in grind arith in grind (arith, nat_tests)

only_rule : (rule : Option AnswerEchoError) → first_of (rule ∷ []) ≡ rule
only_rule None = refl
only_rule (Some error) = refl

-- what the rules of an accepted IP packet show, given its headers
by_rules : (packet : List ℕ) (headers : Headers) (rules : Headers → Option AnswerEchoError) → ip.refusal packet ≡ None
    → ip.headers_of false packet ≡ Ok headers
    → first_of (option_map Ip (ip.refusal packet) ∷ refusal_by_headers rules (ip.headers_of false packet) ∷ []) ≡ rules headers
by_rules packet headers rules accepted read =
    ap (λ refusal. first_of (option_map Ip refusal ∷ refusal_by_headers rules (ip.headers_of false packet) ∷ [])) accepted
    ∙ ap (λ read. first_of (refusal_by_headers rules read ∷ [])) read
    ∙ only_rule (rules headers)

-- a rule that does not refuse can be left out
pub skipped : (rule : Option AnswerEchoError) (rules : List (Option AnswerEchoError)) → rule ≡ None
    → first_of (rule ∷ rules) ≡ first_of rules
skipped rule rules none = ap (λ rule. first_of (rule ∷ rules)) none

-- ---- the addresses of a header

-- a range in the first bytes is a range in all bytes
pub in_front : (len from n : ℕ) (bytes : List ℕ) → from + n ≤ len → take n (drop from (take len bytes)) ≡ take n (drop from bytes)
in_front len from n bytes within =
    let whole : len ≡ from + (len - from) = omega (arith, within) in
    ap (λ len. take n (drop from (take len bytes))) whole
    ∙ ap (take n) (drop-take from (len - from) bytes)
    ∙ take-take n (len - from) (drop from bytes) (omega (arith, within))

-- the message is the range from the end of the header to the end of the counted bytes
pub message_range : (header_len : ℕ) (packet : List ℕ) → header_len ≤ counted_len false packet
    → slice_range packet header_len (counted_len false packet) ≡ message_after header_len packet
message_range header_len packet within =
    let whole : header_len + (counted_len false packet - header_len) ≡ counted_len false packet = omega (arith, within) in
    sym (drop-take header_len (counted_len false packet - header_len) packet) ∙ ap (λ n. drop header_len (take n packet)) whole

-- ---- an accepted transport

-- what the rules for a transport show
pub record IsFoundTransport (found : TransportInIp) (number header_len : ℕ) : Type 0 where
  pub whole : found.is_fragment ≡ false
  pub number_is : found.protocol.0 ≡ number
  pub offset : found.payload_offset ≡ header_len

pub found_transport : (number header_len : ℕ) (found : TransportInIp)
    → transport_refusal number header_len found.is_fragment found.protocol.0 found.payload_offset ≡ None
    → IsFoundTransport found number header_len
found_transport number header_len found accepted =
    let after_fragment = none_first (refused_if found.is_fragment Fragment) _ accepted in
    let after_number = none_first (refused_if (not (found.protocol.0 == number)) NoEchoRequest) _ after_fragment.1 in
    let after_offset = none_first (refused_if (not (found.payload_offset == header_len)) Options) _ after_number.1 in
    record {
      whole = none_if found.is_fragment Fragment after_fragment.0;
      number_is = is_number found.protocol.0 number (once (found.protocol.0 == number) (none_if _ NoEchoRequest after_number.0));
      offset = is_number found.payload_offset header_len (once (found.payload_offset == header_len) (none_if _ Options after_offset.0));
    }

-- what the rules for a found transport show, and the rules that are left
pub record IsFound (packet : List ℕ) (found : TransportInIp) (header_len : ℕ) : Type 0 where
  pub message_is : found.payload.now ≡ message_after header_len packet
  pub end : counted_len false packet ≡ header_len + length found.payload.now
  pub there : counted_len false packet ≤ length packet

not_cut : (b : Bool) (n m : ℕ) → b ≡ nat_lt n m → b ≡ false → m ≤ n
not_cut b n m is none = grind (arith, nat_tests)

pub found_at : (packet : List ℕ) (found : TransportInIp) (header_len : ℕ) → Carries packet found → found.is_length_missing ≡ false
    → found.is_cut_off ≡ false → found.payload_offset ≡ header_len → IsFound packet found header_len
found_at packet found header_len carries stated whole offset =
    let same_len : carries.headers.len ≡ header_len = sym carries.payload_offset ∙ offset in
    let message_is : found.payload.now ≡ message_after header_len packet =
    carries.payload ∙ ap (λ missing. drop carries.headers.len (counted missing packet)) stated
    ∙ ap (λ n. drop n (counted false packet)) same_len in
    let cut : found.is_cut_off ≡ nat_lt (length packet) (counted_len false packet) =
    carries.is_cut_off ∙ ap (λ missing. ip.is_cut_off missing packet) stated in
    let there : counted_len false packet ≤ length packet = not_cut found.is_cut_off (length packet) (counted_len false packet) cut whole in
    let counted_is : length (counted false packet) ≡ counted_len false packet = length-take-le (counted_len false packet) packet there in
    let within : carries.headers.len ≤ length (counted false packet) =
    rw (sym (ap (λ missing. counted missing packet) stated)) carries.within in
    record {
      message_is = message_is;
      end = omega (arith, ap length message_is, length-drop header_len (counted false packet), counted_is, within, same_len);
      there = there;
    }

pub ipv4_request_of : (packet : List ℕ) (found : TransportInIp) → Carries packet found → IsOverIpv4 packet found
    → BeginsWithIpv4Header packet → found.is_length_missing ≡ false → found.is_cut_off ≡ false
    → transport_refusal 1 (ipv4_header_len packet) found.is_fragment found.protocol.0 found.payload_offset ≡ None
    → icmpv4_refusal found.payload.now ≡ None → Verifies [] (ip.ipv4_header packet) → IsIpv4Request packet
ipv4_request_of packet found carries over begins stated whole transport message verifies =
    let len : ℕ = ipv4_header_len packet in
    let is : IsFoundTransport found 1 len = found_transport 1 len found transport in
    let at : IsFound packet found len = found_at packet found len carries stated whole is.offset in
    record {
      is_ipv4 = begins.is_version_4;
      five_words = begins.five_words;
      whole = sym over.is_fragment ∙ is.whole;
      end = at.end ∙ ap (λ bytes. len + length bytes) at.message_is;
      there = at.there;
      message = ap icmpv4_refusal (sym at.message_is) ∙ message;
      verifies = verifies;
    }

-- the rules for an IPv4 packet that follow the rules for its transport: for its options, its message, its checksum and its source
abbrev pub last_rules : Bool → Option AnswerEchoError → Bool → Bool → List (Option AnswerEchoError)
last_rules padding message sums host =
    refused_if (not padding) Options ∷ message ∷ refused_if (not sums) HeaderChecksum ∷ refused_if (not host) RequestSource ∷ []

-- the IPv4 header at the front of a packet has the addresses of the packet
pub addresses_of : (packet header : List ℕ) (found : Ipv4Header) → BeginsWithIpv4Header packet
    → header ≡ take (ipv4_header_len packet) packet
    → found ≡ ipv4_header_of header → found ≡ ipv4_header_of packet
addresses_of packet header found begins kept is =
    is ∙ ap ipv4_header_of kept
    ∙ ap (λ source. record { source = source; destination = slice_range (take (ipv4_header_len packet) packet) 16 20 })
    (in_front (ipv4_header_len packet) 12 4 packet (omega (arith, begins.five_words)))
    ∙ ap (λ destination. record { source = slice_range packet 12 16; destination = destination })
    (in_front (ipv4_header_len packet) 16 4 packet (omega (arith, begins.five_words)))

pub source_of : (packet header : List ℕ) (found : Ipv4Header) → BeginsWithIpv4Header packet → header ≡ take (ipv4_header_len packet) packet
    → found ≡ ipv4_header_of header → found.source ≡ slice_range packet 12 16
source_of packet header found begins kept is = ap (λ addresses. addresses.source) (addresses_of packet header found begins kept is)

-- an accepted packet is refused only by the last rules
pub ipv4_last_rules : (packet : List ℕ) (found : TransportInIp) → ip.refusal packet ≡ None → (carries : Carries packet found)
    → BeginsWithIpv4Header packet → found.is_length_missing ≡ false → found.is_cut_off ≡ false
    → transport_refusal 1 (ipv4_header_len packet) found.is_fragment found.protocol.0 found.payload_offset ≡ None
    → ipv4_request_refusal packet
    ≡ first_of (last_rules (are_padding (ipv4_options packet)) (icmpv4_refusal found.payload.now)
    (is_all_ones (total (ip.ipv4_header packet)))
    (is_host_ipv4 (slice_range packet 12 16)))
ipv4_last_rules packet found accepted carries begins stated whole transport =
    let headers : Headers = carries.headers in
    let len : ℕ = ipv4_header_len packet in
    let is : IsFoundTransport found 1 len = found_transport 1 len found transport in
    let at : IsFound packet found len = found_at packet found len carries stated whole is.offset in
    let read : ip.headers_of false packet ≡ Ok headers = sym (ap (λ missing. ip.headers_of missing packet) stated) ∙ carries.read in
    let same_transport : transport_refusal 1 len headers.is_fragment headers.protocol.0 headers.len ≡ None =
    sym (ap (λ b. transport_refusal 1 len b headers.protocol.0 headers.len) carries.is_fragment)
    ∙ sym (ap (λ protocol. transport_refusal 1 len found.is_fragment protocol.0 headers.len) carries.protocol)
    ∙ sym (ap (λ n. transport_refusal 1 len found.is_fragment found.protocol.0 n) carries.payload_offset) ∙ transport in
    let sums : Bool = is_all_ones (total (ip.ipv4_header packet)) in
    by_rules packet headers (ipv4_rules packet) accepted read
    ∙ skipped (refused_if (not (version packet == 4)) NoEchoRequest) _
    (ap (λ v. refused_if (not (v == 4)) NoEchoRequest) begins.is_version_4)
    ∙ skipped (transport_refusal 1 len headers.is_fragment headers.protocol.0 headers.len) _ same_transport
    ∙ ap (λ message. first_of (last_rules (are_padding (ipv4_options packet)) (icmpv4_refusal message) sums
    (is_host_ipv4 (slice_range packet 12 16))))
    (sym at.message_is)

-- what is known of a packet over IPv4 whose transport, options and message are accepted
pub record IsIpv4Echo (packet header : List ℕ) (found : TransportInIp) : Type 0 where
  pub accepted : ip.refusal packet ≡ None
  pub carries : Carries packet found
  pub begins : BeginsWithIpv4Header packet
  pub stated : found.is_length_missing ≡ false
  pub whole : found.is_cut_off ≡ false
  pub transport : transport_refusal 1 (ipv4_header_len packet) found.is_fragment found.protocol.0 found.payload_offset ≡ None
  pub padding : are_padding (ipv4_options packet) ≡ true
  pub message : icmpv4_refusal found.payload.now ≡ None
  pub kept : header ≡ ip.ipv4_header packet

pub ipv4_echo : (packet header bytes options : List ℕ) (found : TransportInIp) (padding : Bool) → ip.refusal packet ≡ None
    → Carries packet found
    → BeginsWithIpv4Header packet → found.is_length_missing ≡ false → found.is_cut_off ≡ false → header ≡ ip.ipv4_header packet
    → bytes ≡ header
    → transport_refusal 1 (length bytes) found.is_fragment found.protocol.0 found.payload_offset ≡ None → options ≡ drop 20 header
    → padding ≡ are_padding options → padding ≡ true → icmpv4_refusal found.payload.now ≡ None → IsIpv4Echo packet header found
ipv4_echo packet header bytes options found padding accepted carries begins stated whole kept bytes_are transport options_are padding_is
    is_padding message =
    let len_is : length bytes ≡ ipv4_header_len packet =
    ap length (bytes_are ∙ kept) ∙ length-take-le (ipv4_header_len packet) packet begins.whole in
    record {
      accepted = accepted;
      carries = carries;
      begins = begins;
      stated = stated;
      whole = whole;
      transport = sym (ap (λ n. transport_refusal 1 n found.is_fragment found.protocol.0 found.payload_offset) len_is) ∙ transport;
      padding = sym (ap are_padding (options_are ∙ ap (drop 20) kept)) ∙ sym padding_is ∙ is_padding;
      message = message;
      kept = kept;
    }

-- only the rules for the checksum of the header and for the source are left
pub ipv4_rules_left : (packet header : List ℕ) (found : TransportInIp) (valid : Bool) → IsIpv4Echo packet header found
    → (IsTrue valid ↔ Verifies [] header)
    → ipv4_request_refusal packet ≡ first_of (last_rules true None valid (is_host_ipv4 (slice_range packet 12 16)))
ipv4_rules_left packet header found valid is verifies =
    let host : Bool = is_host_ipv4 (slice_range packet 12 16) in
    let sums : Bool = is_all_ones (total (ip.ipv4_header packet)) in
    let Sums : List ℕ → Type 0 = λ bytes. IsTrue valid ↔ Verifies [] bytes in
    ipv4_last_rules packet found is.accepted is.carries is.begins is.stated is.whole is.transport
    ∙ ap (λ padding. first_of (last_rules padding (icmpv4_refusal found.payload.now) sums host)) is.padding
    ∙ ap (λ message. first_of (last_rules true message sums host)) is.message
    ∙ ap (λ sums. first_of (last_rules true None sums host))
    (is_all_ones_by valid (total (ip.ipv4_header packet)) (subst Sums is.kept verifies))

-- ---- an accepted IPv6 packet

-- without extension headers, the number of the first header is the protocol
no_extensions : (is_ipv6 may_be_extended : Bool) (number protocol : ℕ) (extensions : List ExtensionHeader)
    → IsChain is_ipv6 may_be_extended number extensions protocol → length (bytes_of extensions) ≡ 0 → number ≡ protocol
no_extensions is_ipv6 may_be_extended number protocol [] chain none = chain.0
no_extensions is_ipv6 may_be_extended number protocol (header ∷ headers) chain none =
    let shortest : 8 ≤ length header.bytes = chain.2.shortest in
    absurd (omega (arith, none, shortest, length-append header.bytes (bytes_of headers)))

-- the header of a packet whose message comes after 40 bytes names the protocol of the message
pub next_is : (packet : List ℕ) (found : TransportInIp) → IsAfterHeaders packet found → BeginsWithIpv6Header packet
    → found.payload_offset ≡ 40
    → next_header packet ≡ found.protocol.0
next_is packet found after begins offset =
    let header_is : length (ip.ip_header packet) ≡ 40 =
    ap (λ v. length (if v == 4 then ip.ipv4_header packet else ip.ipv6_header packet)) begins.is_version_6
    ∙ length-take-le 40 packet begins.whole in
    let number_is : ip.first_number packet ≡ next_header packet =
    ap (λ v. if v == 4 then slice_index (ip.ipv4_header packet) 9 else next_header packet) begins.is_version_6 in
    sym number_is ∙ no_extensions _ _ _ _ after.extensions after.reads.chain (omega (arith, after.offset, offset, header_is))

-- a packet without hop-by-hop options has no jumbo length
no_jumbo_len : (packet : List ℕ) (number : ℕ) → next_header packet ≡ number → (number == 0) ≡ false → jumbo_len packet ≡ None
no_jumbo_len packet number next other =
    let empty : Bool = payload_len packet == 0 in
    ap (λ n. if empty && (n == 0) then len_in_options (drop 40 packet) else None) next
    ∙ ap (λ b. if empty && b then len_in_options (drop 40 packet) else None) other
    ∙ never empty (len_in_options (drop 40 packet))
  where
    never : (b : Bool) (len : Option ℕ) → (if b && false then len else None) ≡ None
    never true len = refl
    never false len = refl

pub ipv6_request_of : (packet : List ℕ) (found : TransportInIp) → Carries packet found → IsAfterHeaders packet found
    → BeginsWithIpv6Header packet
    → found.is_length_missing ≡ false → found.is_cut_off ≡ false
    → transport_refusal 58 40 found.is_fragment found.protocol.0 found.payload_offset ≡ None
    → icmpv6_refusal (slice_range packet 8 24) (slice_range packet 24 40) found.payload.now ≡ None → IsIpv6Request packet
ipv6_request_of packet found carries after begins stated whole transport message =
    let is : IsFoundTransport found 58 40 = found_transport 58 40 found transport in
    let at : IsFound packet found 40 = found_at packet found 40 carries stated whole is.offset in
    let next : next_header packet ≡ 58 = next_is packet found after begins is.offset ∙ is.number_is in
    let counts : counted_len false packet ≡ 40 + payload_len packet =
    ap (λ v. if v == 4 then ip.total_len packet else 40 + unwrap_or (jumbo_len packet) (payload_len packet)) begins.is_version_6
    ∙ ap (λ jumbo. 40 + unwrap_or jumbo (payload_len packet)) (no_jumbo_len packet 58 next refl) in
    let end : counted_len false packet ≡ 40 + length (message_after 40 packet) = at.end ∙ ap (λ bytes. 40 + length bytes) at.message_is in
    record {
      is_ipv6 = begins.is_version_6;
      end = end;
      there = at.there;
      stated = omega (arith, counts, end);
      message = ap (icmpv6_refusal (slice_range packet 8 24) (slice_range packet 24 40)) (sym at.message_is) ∙ message;
    }

-- the IPv6 header at the front of a packet has the addresses of the packet
pub ipv6_addresses_of : (packet header : List ℕ) (found : Ipv6Header) → header ≡ take 40 packet → found ≡ ipv6_header_of header
    → found ≡ ipv6_header_of packet
ipv6_addresses_of packet header found kept is =
    is ∙ ap ipv6_header_of kept
    ∙ ap (λ source. record { source = source; destination = slice_range (take 40 packet) 24 40 }) (in_front 40 8 16 packet (omega arith))
    ∙ ap (λ destination. record { source = slice_range packet 8 24; destination = destination }) (in_front 40 24 16 packet (omega arith))

-- an accepted packet is refused only by the rules for its message and the rules after them
pub ipv6_message_rules : (packet : List ℕ) (found : TransportInIp) (addresses : Ipv6Header) → ip.refusal packet ≡ None
    → (carries : Carries packet found)
    → BeginsWithIpv6Header packet → found.is_length_missing ≡ false → found.is_cut_off ≡ false
    → transport_refusal 58 40 found.is_fragment found.protocol.0 found.payload_offset ≡ None → addresses ≡ ipv6_header_of packet
    → ipv6_request_refusal packet
    ≡ first_of (icmpv6_refusal addresses.source addresses.destination found.payload.now
    ∷ refused_if (not (is_host_ipv6 addresses.source)) RequestSource ∷ [])
ipv6_message_rules packet found addresses accepted carries begins stated whole transport is_addresses =
    let headers : Headers = carries.headers in
    let is : IsFoundTransport found 58 40 = found_transport 58 40 found transport in
    let at : IsFound packet found 40 = found_at packet found 40 carries stated whole is.offset in
    let read : ip.headers_of false packet ≡ Ok headers = sym (ap (λ missing. ip.headers_of missing packet) stated) ∙ carries.read in
    let same_transport : transport_refusal 58 40 headers.is_fragment headers.protocol.0 headers.len ≡ None =
    sym (ap (λ b. transport_refusal 58 40 b headers.protocol.0 headers.len) carries.is_fragment)
    ∙ sym (ap (λ protocol. transport_refusal 58 40 found.is_fragment protocol.0 headers.len) carries.protocol)
    ∙ sym (ap (λ n. transport_refusal 58 40 found.is_fragment found.protocol.0 n) carries.payload_offset) ∙ transport in
    by_rules packet headers (ipv6_rules packet) accepted read
    ∙ skipped (refused_if (not (version packet == 6)) NoEchoRequest) _
    (ap (λ v. refused_if (not (v == 6)) NoEchoRequest) begins.is_version_6)
    ∙ skipped (transport_refusal 58 40 headers.is_fragment headers.protocol.0 headers.len) _ same_transport
    ∙ ap (λ message. first_of (icmpv6_refusal (slice_range packet 8 24) (slice_range packet 24 40) message
    ∷ refused_if (not (is_host_ipv6 (slice_range packet 8 24))) RequestSource ∷ [])) (sym at.message_is)
    ∙ ap (λ addresses. first_of (icmpv6_refusal addresses.source addresses.destination found.payload.now
    ∷ refused_if (not (is_host_ipv6 addresses.source)) RequestSource ∷ [])) (sym is_addresses)
