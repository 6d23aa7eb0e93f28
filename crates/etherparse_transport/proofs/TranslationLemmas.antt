-- Laws of the translation of packets.
use Rattle.std.proofs.Common.{◌≡◌, ◌≢◌, ℕ, ◌+◌, ◌-◌, ◌*◌, ◌%◌, ◌^◌, ◌≤◌, ◌==◌, ◌&&◌, ◌||◌, not, Bool, true, false, if◌then◌else◌, List, [], ◌∷◌, ◌++◌, take, drop, slice_index, slice_range, length, Option, Some, None, Result, Ok, Err, refl, sym, ap, ◌∙◌, subst, arith}
use Rattle.std.proofs.lemmas.Bool.Decides.{nat_tests}
use Rattle.std.proofs.lemmas.List.{drop-drop, drop-take, get_or-take, length-take, length-drop, length-take-le, take-append-drop, take_all, take_at}
use borrow.Rule.Slice.PartMut.{put_mid}
use Rattle.icmp_part.specs.QuotedPackets.{quoted_by_icmpv4, quoted_by_icmpv6}
use Rattle.ip_part.specs.Addresses.{Ipv4, Ipv6, by_value}
use Rattle.ip_part.specs.ExtensionHeaders.{destination_by, is_extension, source_by}
use Rattle.ip_part.specs.Headers.{Headers}
use Rattle.ip_part.specs.Ip.{Carries, IsAfterHeaders, counted, counted_len, first_headers, is_extended}
use Rattle.ip_part.specs.Ip as ip
use Rattle.ip_part.specs.Protocols.{proto_over}
use Rattle.ip_part.specs.declared.ip_error.IpError.{IpError}
use Rattle.ip_part.specs.declared.ip_error.IpError.TheVariants.{HeaderCutOff, HeaderLength, TotalLength, Version}
use Rattle.ip_part.specs.declared.proto.Proto.TheVariants as protos
use Rattle.ip_part.proofs.HeadersLemmas.{ended}
use Rattle.ip_part.specs.declared.transport.TransportInIp.{TransportInIp}
use Rattle.ip_part.specs.declared.proto.Proto.{Proto}
use Rattle.net_base.specs.Bytes.{be_number}
use Rattle.net_base.specs.IpHeaders.{BeginsWithIpv4Header, BeginsWithIpv6Header, ipv4_fragment_offset, ipv4_header_len, version}
use Rattle.word_sum.specs.Checksum.{folded}
use Rattle.word_sum.proofs.ChecksumLemmas.{folded-add}
use Rattle.etherparse_transport.proofs.BuiltLemmas.{mapped_none, none_first, none_if}
use Rattle.etherparse_transport.proofs.EchoReplyLemmas.{is_number, once}
use Rattle.etherparse_transport.proofs.UpdatedAlike.{translated_alike}
use Rattle.etherparse_transport.specs.Packets.{number_of}
use Rattle.etherparse_transport.specs.Families.{addresses_of, flow_message, new_addresses, sum_of, Family, Translation, message_by, message_in, message_of_both, quoted_packet, quoted_refusal, refusal_with}
use Rattle.etherparse_transport.specs.WaysBack.{IsTranslation}
use Rattle.etherparse_transport.specs.Ipv4Translations.{ipv4, IsIpv4Place, has_source_route, ipv4_is_later_fragment, ipv4_place_refusal, ipv4_proto, covers_ipv4_addresses, message_in_ipv4}
use Rattle.etherparse_transport.specs.Ipv6Translations.{ipv6, IsIpv6Place, ipv6_place_refusal, ipv6_proto, ipv6_protocol, covers_ipv6_addresses}
use Rattle.etherparse_transport.specs.Translations.{has_port, AreUpdatedAlike, counted_after, message_refusal, quoted_in, translated_in, with_bytes}
use Rattle.std.specs.Prelude.{IfSome, is_none, nat_lt, unwrap_or}
use Rattle.std.specs.Option.{option_map}
use Rattle.net_base.specs.Refusals.{first_of, refused_if}
use Rattle.net_base.specs.declared.ip_number.IpNumber.{IpNumber}
use Rattle.etherparse_transport.specs.declared.err.packet.translate_error.TranslateError.{TranslateError}
use Rattle.etherparse_transport.specs.declared.err.packet.translate_error.TranslateError.TheVariants.{Ip, OtherVersion, Protocol, QuotedPacket, SourceRoute}
use Rattle.etherparse_transport.specs.declared.ip.message_place.Place.{Place}

-- ---- the message in its packet

-- the number of a protocol, or 0 if there is none
number_or_zero : Option Proto → ℕ
number_or_zero None = 0
number_or_zero (Some proto) = number_of proto

-- the protocol that is found by the tests of a number has this number
by_tests : (icmp : Proto) (is_udp is_tcp is_icmp : Bool) (number : ℕ) (proto : Proto) → is_udp ≡ (number == 17) → is_tcp ≡ (number == 6)
    → is_icmp ≡ (number == number_of icmp)
    → Some proto ≡ (if is_udp then Some protos.Udp else if is_tcp then Some protos.Tcp else if is_icmp then Some icmp else None)
    → number ≡ number_of proto
unfolding number_or_zero
by_tests icmp true is_tcp is_icmp number proto udp tcp other is = is_number number 17 (sym udp) ∙ sym (ap number_or_zero is)
by_tests icmp false true is_icmp number proto udp tcp other is = is_number number 6 (sym tcp) ∙ sym (ap number_or_zero is)
by_tests icmp false false true number proto udp tcp other is = is_number number (number_of icmp) (sym other) ∙ sym (ap number_or_zero is)
by_tests icmp false false false number proto udp tcp other is = absurd (cc is)

pub ipv4_number : (source destination : List ℕ) (number : ℕ) (proto : Proto) → Some proto ≡ proto_over (Ipv4 source destination) number
    → number ≡ number_of proto
ipv4_number source destination number proto is = by_tests protos.Icmpv4 _ _ _ number proto refl refl refl is

-- the number of a protocol is not the number of an authentication header
pub no_authentication : (proto : Proto) → (number_of proto == 51) ≡ false
no_authentication protos.Udp = refl
no_authentication protos.Tcp = refl
no_authentication protos.Icmpv4 = refl
no_authentication protos.Icmpv6 = refl

-- if neither test holds, the first does not hold
first_false : (first rest : Bool) → (first || rest) ≡ false → first ≡ false
first_false true rest is = is
first_false false rest is = refl

second_false : (first rest : Bool) → (first || rest) ≡ false → rest ≡ false
second_false true rest is = absurd (cc is)
second_false false rest is = is

-- the number of an accepted protocol over IPv4 is not the number of an authentication header
pub ipv4_accepts : (has_port : Bool) (source destination : List ℕ) (number : ℕ) (proto : Option Proto)
    → proto ≡ proto_over (Ipv4 source destination) number
    → (is_none proto && (has_port || covers_ipv4_addresses number)) ≡ false → (number == 51) ≡ false
ipv4_accepts has_port source destination number None is accepted =
    first_false (number == 51) _ (second_false has_port (covers_ipv4_addresses number) accepted)
ipv4_accepts has_port source destination number (Some proto) is accepted =
    ap (λ number. number == 51) (ipv4_number source destination number proto is) ∙ no_authentication proto

-- the headers of a success
headers_or : Headers → Result Headers IpError → Headers
headers_or other (Ok headers) = headers
headers_or other (Err error) = other

-- a result has only one value
pub read_once : (read : Result Headers IpError) (headers other : Headers) → read ≡ Ok headers → read ≡ Ok other → headers ≡ other
unfolding headers_or
read_once read headers other is is_too = ap (headers_or headers) (sym is ∙ is_too)

-- without an extension header, the first headers are the last
pub first_is_last : (packet : List ℕ) (found : TransportInIp) (carries : Carries packet found) → is_extended (first_headers packet) ≡ false
    → carries.headers ≡ first_headers packet
unfolding headers_or
first_is_last packet found carries last =
    ap (headers_or (first_headers packet)) (sym carries.read
    ∙ ended (length (counted found.is_length_missing packet)) (first_headers packet) (counted found.is_length_missing packet) last)

-- taking as many bytes as `take n` takes gives the first n bytes
first_bytes : (n : ℕ) (bytes : List ℕ) → take (length (take n bytes)) bytes ≡ take n bytes
first_bytes n bytes =
    ap (take (length (take n bytes))) (sym (take-append-drop n bytes)) ∙ take_at (take n bytes) (drop n bytes) (length (take n bytes)) refl

-- the message is the range that begins at its place and has its length
pub message_is_range : (len n : ℕ) (packet : List ℕ) → len ≤ n
    → slice_range packet len (len + length (drop len (take n packet))) ≡ drop len (take n packet)
message_is_range len n packet within =
    let more : n ≡ len + (n - len) = omega (arith, within) in
    let is : drop len (take n packet) ≡ take (n - len) (drop len packet) =
    ap (λ n. drop len (take n packet)) more ∙ drop-take len (n - len) packet in
    let count : len + length (drop len (take n packet)) - len ≡ length (take (n - len) (drop len packet)) = omega (arith, ap length is) in
    ap (λ n. take n (drop len packet)) count ∙ first_bytes (n - len) (drop len packet) ∙ sym is

pub message_range : (len : ℕ) (packet : List ℕ) (found : TransportInIp) (carries : Carries packet found) → carries.headers.len ≡ len
    → found.is_length_missing ≡ ip.lacks_len packet
    → slice_range packet len (len + length found.payload.now) ≡ counted_after false len packet
message_range len packet found carries is missing =
    let n : ℕ = counted_len (ip.lacks_len packet) packet in
    let payload_is : found.payload.now ≡ counted_after false len packet =
    carries.payload ∙ ap (λ n. drop n (counted found.is_length_missing packet)) is
    ∙ ap (λ missing. drop len (counted missing packet)) missing in
    let within : len ≤ n = omega (
      arith,
      is,
      carries.within,
      ap (λ missing. length (counted missing packet)) missing,
      length-take n packet,
    ) in
    ap (λ payload. slice_range packet len (len + length payload)) payload_is ∙ message_is_range len n packet within

-- ---- replaced bytes

pub put_is : (place end : ℕ) (bytes new : List ℕ) → length new ≡ end - place
    → put_mid place (end - place) bytes new ≡ with_bytes place new bytes
put_is place end bytes new len =
    ap (λ rest. take place bytes ++ (new ++ rest)) (drop-drop (end - place) place bytes ∙ ap (λ n. drop (place + n) bytes) (sym len))

-- ---- the message of a packet

pub flow_message_is : (family : Family) (new : Translation) (packet message bytes : List ℕ) (is_later_fragment : Bool)
    (proto : Option Proto)
    (removed added : ℕ)
    → bytes ≡ message → is_later_fragment ≡ family.is_later_fragment packet → proto ≡ family.proto packet
    → AreUpdatedAlike removed added (sum_of (addresses_of family packet)) (sum_of (new_addresses family new packet))
    → translated_in is_later_fragment proto removed added new.source_port new.destination_port bytes ≡ flow_message family new message
    packet
flow_message_is family new packet message bytes is_later_fragment proto removed added is later known alike =
    let later_is : Bool = family.is_later_fragment packet in
    ap (translated_in is_later_fragment proto removed added new.source_port new.destination_port) is
    ∙ ap (λ later. translated_in later proto removed added new.source_port new.destination_port message) later
    ∙ ap (λ proto. translated_in later_is proto removed added new.source_port new.destination_port message) known
    ∙ translated_alike later_is (family.proto packet) removed added _ _ new.source_port new.destination_port message alike

-- ---- the quoted packet

-- if only the words of the quoted packet are removed, and nothing else, the sum grows by them
pub quote_removed : (old was between now quoted : ℕ) → was ≡ old → between ≡ folded (was + quoted) → now ≡ folded (between + 0)
    → now ≡ folded (old + quoted)
quote_removed old was between now quoted is is_too is_now =
    is_now ∙ ap (λ n. folded (n + 0)) is_too ∙ folded-add (was + quoted) 0 ∙ ap folded (omega (arith, is))

-- if only the words of the translated packet are added, and nothing else, the sum grows by them
pub quote_added : (new was between now translated : ℕ) → was ≡ new → between ≡ folded (was + 0) → now ≡ folded (between + translated)
    → now ≡ folded (new + translated)
quote_added new was between now translated is is_too is_now =
    is_now ∙ ap (λ n. folded (n + translated)) is_too ∙ folded-add (was + 0) translated ∙ ap folded (omega (arith, is))

-- the quoted packet is the range of its length that follows the header of eight bytes
pub record IsRange (message quoted : List ℕ) : Type 0 where
  pub range : slice_range message 8 (8 + length quoted) ≡ quoted
  pub within : 8 + length quoted ≤ length message

counted_range : (n : ℕ) (message : List ℕ) → 8 ≤ length message → IsRange message (take n (drop 8 message))
counted_range n message long =
    record {
      range = ap (λ k. take k (drop 8 message)) (omega arith) ∙ first_bytes n (drop 8 message);
      within = omega (arith, long, length-take n (drop 8 message), length-drop 8 message);
    }

all_range : (message : List ℕ) → 8 ≤ length message → IsRange message (drop 8 message)
all_range message long =
    record {
      range = ap (λ k. take k (drop 8 message)) (omega arith) ∙ take_all (length (drop 8 message)) (drop 8 message) (omega arith);
      within = omega (arith, long, length-drop 8 message);
    }

quoted_counted : (is_unused : Bool) (n : ℕ) (message : List ℕ) → 8 ≤ length message
    → IsRange message (if is_unused then drop 8 message else take n (drop 8 message))
quoted_counted true n message long = all_range message long
quoted_counted false n message long = counted_range n message long

quoted_or : List ℕ → Option (List ℕ) → List ℕ
quoted_or other None = other
quoted_or other (Some quoted) = quoted

quoted_by_kind : (counts all : Bool) (n : ℕ) (message quoted : List ℕ) → 8 ≤ length message
    → (if counts then Some (if nat_lt n 128 then drop 8 message else take n (drop 8 message))
    else (if all then Some (drop 8 message) else None)) ≡ Some quoted
    → IsRange message quoted
unfolding quoted_or
quoted_by_kind true all n message quoted long is =
    subst (IsRange message) (ap (quoted_or []) is) (quoted_counted (nat_lt n 128) n message long)
quoted_by_kind false true n message quoted long is = subst (IsRange message) (ap (quoted_or []) is) (all_range message long)
quoted_by_kind false false n message quoted long is = absurd (cc is)

pub icmpv4_quoted_range : (message quoted : List ℕ) → 8 ≤ length message → quoted_by_icmpv4 message ≡ Some quoted → IsRange message quoted
icmpv4_quoted_range message quoted long is = quoted_by_kind _ _ (slice_index message 5 * 4) message quoted long is

pub icmpv6_quoted_range : (message quoted : List ℕ) → 8 ≤ length message → quoted_by_icmpv6 message ≡ Some quoted → IsRange message quoted
icmpv6_quoted_range message quoted long is = quoted_by_kind _ _ (slice_index message 4 * 8) message quoted long is

-- ---- the place of a message

-- the message of an IPv4 packet is between the end of the header and this end
pub record IsMessageEnd (packet : List ℕ) (end : ℕ) : Type 0 where
  pub message : slice_range packet (ipv4_header_len packet) end ≡ message_in_ipv4 false packet
  pub ordered : ipv4_header_len packet ≤ end
  pub there : end ≤ length packet

pub ipv4_place_is : (bytes packet : List ℕ) (place : Place) → BeginsWithIpv4Header packet → place.start ≡ length (ip.ipv4_header packet)
    → slice_range packet (ipv4_header_len packet) place.end ≡ bytes → ipv4_header_len packet ≤ place.end → place.end ≤ length packet
    → place.proto ≡ ipv4_proto (ip.ipv4_header packet) → place.is_later_fragment ≡ ipv4_is_later_fragment (ip.ipv4_header packet)
    → IsIpv4Place bytes packet place
ipv4_place_is bytes packet place begins start_is message ordered there known later =
    let n : ℕ = ipv4_header_len packet in
    let start : place.start ≡ n = start_is ∙ length-take-le n packet begins.whole in
    record {
      is_ipv4 = begins.is_version_4;
      start = start;
      message = ap (λ start. slice_range packet start place.end) start ∙ message;
      header = omega (arith, start, begins.five_words);
      ordered = omega (arith, start, ordered);
      there = there;
      proto = known ∙ ap (proto_over (Ipv4 [] [])) (get_or-take n packet 9 0 (omega (arith, begins.five_words)));
      later = later
          ∙ ap (λ high. not (((0 * 256 + high) * 256 + slice_index (take n packet) 7) % 2 ^ 13 == 0))
          (get_or-take n packet 6 0 (omega (arith, begins.five_words)))
          ∙ ap (λ low. not (((0 * 256 + slice_index packet 6) * 256 + low) % 2 ^ 13 == 0))
          (get_or-take n packet 7 0 (omega (arith, begins.five_words)));
    }

long_enough : (len least : ℕ) → least ≤ len → nat_lt len least ≡ false
long_enough len least there = grind (arith, nat_tests)

-- no rule refuses the header
header_accepted : (short small cut wrong : Bool) (error error_too error_three error_four : IpError) → short ≡ false → small ≡ false
    → cut ≡ false → wrong ≡ false
    → first_of (first_of (refused_if short error ∷ refused_if small error_too ∷ refused_if cut error_three ∷ [])
    ∷ refused_if wrong error_four ∷ []) ≡ None
header_accepted true small cut wrong error error_too error_three error_four is is_too is_three is_four = absurd (cc is)
header_accepted false true cut wrong error error_too error_three error_four is is_too is_three is_four = absurd (cc is_too)
header_accepted false false true wrong error error_too error_three error_four is is_too is_three is_four = absurd (cc is_three)
header_accepted false false false true error error_too error_three error_four is is_too is_three is_four = absurd (cc is_four)
header_accepted false false false false error error_too error_three error_four is is_too is_three is_four = refl

-- the total length is below the length of this header, and not 0
is_too_short : List ℕ → ℕ → Bool
is_too_short header len = not (be_number header 2 2 == 0) && nat_lt (be_number header 2 2) len

ipv4_accepted : (packet header : List ℕ) → header ≡ ip.ipv4_header packet → BeginsWithIpv4Header packet
    → (not (be_number header 2 2 == 0) && nat_lt (be_number header 2 2) (length header)) ≡ false → ip.ipv4_refusal packet ≡ None
unfolding is_too_short
ipv4_accepted packet header is begins stated =
    let n : ℕ = ipv4_header_len packet in
    let len : length header ≡ n = ap length is ∙ length-take-le n packet begins.whole in
    let long : is_too_short (ip.ipv4_header packet) n ≡ false =
    sym (ap (λ header. is_too_short header n) is) ∙ sym (ap (is_too_short header) len) ∙ stated in
    header_accepted (nat_lt (length packet) 20) (nat_lt n 20) (nat_lt (length packet) n) (is_too_short (ip.ipv4_header packet) n) _ _ _ _
    (long_enough (length packet) 20 begins.shortest) (long_enough n 20 begins.five_words) (long_enough (length packet) n begins.whole) long

-- A packet that begins with an IPv4 header is accepted if its total length counts the header, and no authentication header may follow.
pub lax_accepts : (packet header : List ℕ) → header ≡ ip.ipv4_header packet → BeginsWithIpv4Header packet
    → (not (be_number header 2 2 == 0) && nat_lt (be_number header 2 2) (length header)) ≡ false → (slice_index header 9 == 51) ≡ false
    → ip.lax_refusal packet ≡ None
lax_accepts packet header is begins stated other =
    let four : Headers = ip.ipv4_headers (ipv4_header_len packet) (ip.ipv4_header packet) in
    let after : Option IpError = if version packet == 6 then ip.ipv6_refusal packet else Some (Version (version packet)) in
    let some : (length packet == 0) ≡ false = grind (arith, nat_tests, begins.shortest) in
    let accepted : ip.header_refusal packet ≡ None =
    ap (λ empty. if empty then Some (HeaderCutOff 1 0) else if version packet == 4 then ip.ipv4_refusal packet else after) some
    ∙ ap (λ v. if v == 4 then ip.ipv4_refusal packet else after) begins.is_version_4 ∙ ipv4_accepted packet header is begins stated in
    let first : first_headers packet ≡ four =
    ap (λ v. if v == 4 then four else ip.ipv6_headers (ip.is_jumbogram packet) (ip.ipv6_header packet)) begins.is_version_4 in
    let last : is_extended four ≡ false =
    ap (λ b. (b && (ipv4_fragment_offset (ip.ipv4_header packet) == 0)) && is_extension (slice_index (ip.ipv4_header packet) 9))
    (sym (ap (λ header. slice_index header 9 == 51) is) ∙ other) in
    let bytes : List ℕ = counted (ip.lacks_len packet) packet in
    let read : ip.headers_of (ip.lacks_len packet) packet ≡ Ok (first_headers packet) =
    ended (length bytes) (first_headers packet) bytes (ap is_extended first ∙ last) in
    ap (λ refusal. first_of (refusal ∷ ip.error_of (ip.headers_of (ip.lacks_len packet) packet) ∷ [])) accepted
    ∙ ap (λ read. first_of (None ∷ ip.error_of read ∷ [])) read

-- the number of bytes that an IPv4 packet counts, whether or not it states a length
counted_if : (unstated : Bool) (packet : List ℕ) → version packet ≡ 4
    → counted_len (is_none (if unstated then None else Some (ip.total_len packet))) packet
    ≡ (if unstated then length packet else ip.total_len packet)
counted_if true packet is = refl
counted_if false packet is =
    ap (λ v. if v == 4 then ip.total_len packet else 40 + unwrap_or (ip.jumbo_len packet) (ip.payload_len packet)) is

-- the number of bytes that an IPv4 packet counts
counted_by : (unstated : Bool) (packet : List ℕ) → unstated ≡ (ip.total_len packet == 0) → version packet ≡ 4
    → counted_len (ip.lacks_len packet) packet ≡ (if unstated then length packet else ip.total_len packet)
counted_by unstated packet test is =
    let six : Option ℕ = ip.ipv6_stated_len (ip.jumbo_len packet) (ip.payload_len packet) (ip.next_header packet) in
    let four : ip.stated_len packet ≡ (if unstated then None else Some (ip.total_len packet)) =
    ap (λ v. if v == 4 then ip.ipv4_stated_len packet else six) is
    ∙ ap (λ unstated. if unstated then None else Some (ip.total_len packet)) (sym test) in
    ap (λ stated. counted_len (is_none stated) packet) four ∙ counted_if unstated packet is

-- if a test does not refuse, the rule after it counts
else_none : {E : Type 0} (test : Bool) (error : E) (rule : Option E) → (if test then Some error else rule) ≡ None → rule ≡ None
else_none true error rule none = absurd (cc none)
else_none false error rule none = none

-- a packet that is read has a total length that counts the header, or a total length of 0
pub header_counted : (packet : List ℕ) → BeginsWithIpv4Header packet → ip.lax_refusal packet ≡ None
    → (not (ip.total_len packet == 0) && nat_lt (ip.total_len packet) (ipv4_header_len packet)) ≡ false
header_counted packet begins accepted =
    let header = (none_first (ip.header_refusal packet) _ accepted).0 in
    let by_version : ℕ → Option IpError = λ v. if length packet == 0 then Some (HeaderCutOff 1 0) else if v == 4 then ip.ipv4_refusal packet
    else if v == 6 then ip.ipv6_refusal packet else Some (Version (version packet)) in
    let rules : ip.ipv4_refusal packet ≡ None =
    else_none (length packet == 0) (HeaderCutOff 1 0) (ip.ipv4_refusal packet) (sym (ap by_version begins.is_version_4) ∙ header) in
    let total = (none_first (ip.ipv4_header_refusal packet) _ rules).1 in
    none_if _ (TotalLength (ip.total_len packet) (ipv4_header_len packet))
    (none_first (refused_if _ (TotalLength (ip.total_len packet) (ipv4_header_len packet))) _ total).0

-- if a packet counts this number of bytes, its message ends after as many bytes as are present
message_ends : (packet : List ℕ) (end n : ℕ) → counted_len (ip.lacks_len packet) packet ≡ n → ipv4_header_len packet ≤ n
    → end ≤ length packet
    → ipv4_header_len packet + length (drop (ipv4_header_len packet) (take n packet)) ≡ end → IsMessageEnd packet end
message_ends packet end n counts ordered there count =
    let len : ℕ = ipv4_header_len packet in
    record {
      message = sym (ap (slice_range packet len) count) ∙ message_is_range len n packet ordered
          ∙ sym (ap (λ n. drop len (take n packet)) counts);
      ordered = omega (arith, count);
      there = there;
    }

ends_with_packet_if : (unstated : Bool) (packet : List ℕ) → unstated ≡ (ip.total_len packet == 0) → BeginsWithIpv4Header packet
    → (unstated || nat_lt (length packet) (ip.total_len packet)) ≡ true → IsMessageEnd packet (length packet)
ends_with_packet_if true packet test begins cut =
    let len : ℕ = ipv4_header_len packet in
    let n : ℕ = length packet in
    message_ends packet (length packet) n (counted_by true packet test begins.is_version_4) begins.whole (omega arith)
    (omega (arith, begins.whole, length-drop len (take n packet), length-take-le n packet (omega arith)))
ends_with_packet_if false packet test begins cut =
    let len : ℕ = ipv4_header_len packet in
    let n : ℕ = ip.total_len packet in
    let below : length packet ≤ n = grind (arith, nat_tests, cut) in
    message_ends packet (length packet) n (counted_by false packet test begins.is_version_4) (omega (arith, begins.whole, below))
    (omega arith)
    (ap (λ bytes. len + length (drop len bytes)) (take_all n packet below) ∙ omega (arith, begins.whole, length-drop len packet))

ends_with_total_if : (unstated : Bool) (packet : List ℕ) → unstated ≡ (ip.total_len packet == 0) → BeginsWithIpv4Header packet
    → (not unstated && nat_lt (ip.total_len packet) (ipv4_header_len packet)) ≡ false
    → (unstated || nat_lt (length packet) (ip.total_len packet)) ≡ false → IsMessageEnd packet (ip.total_len packet)
ends_with_total_if true packet test begins counts whole = absurd (cc whole)
ends_with_total_if false packet test begins counts whole =
    let len : ℕ = ipv4_header_len packet in
    let n : ℕ = ip.total_len packet in
    let there : n ≤ length packet = grind (arith, nat_tests, whole) in
    let ordered : len ≤ n = grind (arith, nat_tests, counts) in
    message_ends packet n n (counted_by false packet test begins.is_version_4) ordered there
    (omega (arith, ordered, length-drop len (take n packet), length-take-le n packet there))

pub ends_with_packet : (packet header : List ℕ) (total : ℕ) → header ≡ ip.ipv4_header packet → total ≡ be_number header 2 2
    → BeginsWithIpv4Header packet
    → (total == 0 || nat_lt (length packet) total) ≡ true → IsMessageEnd packet (length packet)
ends_with_packet packet header total is states begins cut =
    let same : total ≡ ip.total_len packet = states ∙ ap (λ header. be_number header 2 2) is in
    ends_with_packet_if _ packet refl begins (sym (ap (λ total. total == 0 || nat_lt (length packet) total) same) ∙ cut)

pub ends_with_total : (packet header : List ℕ) (total : ℕ) → header ≡ ip.ipv4_header packet → total ≡ be_number header 2 2
    → BeginsWithIpv4Header packet
    → ip.lax_refusal packet ≡ None → (total == 0) ≡ false → nat_lt (length packet) total ≡ false → IsMessageEnd packet total
ends_with_total packet header total is states begins accepted some whole =
    let same : total ≡ ip.total_len packet = states ∙ ap (λ header. be_number header 2 2) is in
    subst (IsMessageEnd packet) (sym same)
    (ends_with_total_if false packet (sym some ∙ ap (λ total. total == 0) same) begins
    (ap (λ unstated. not unstated && nat_lt (ip.total_len packet) (ipv4_header_len packet)) (sym some ∙ ap (λ total. total == 0) same)
    ∙ header_counted packet begins accepted)
    (sym (ap (nat_lt (length packet)) same) ∙ whole))

-- ---- the place of a message in a quoted packet

-- the message after the header, up to the end
rest_is_range : (len : ℕ) (packet : List ℕ) → len ≤ length packet
    → slice_range packet len (length packet) ≡ drop len (take (length packet) packet)
rest_is_range len packet there =
    let end : len + length (drop len (take (length packet) packet)) ≡ length packet =
    omega (arith, there, length-drop len (take (length packet) packet), length-take-le (length packet) packet (omega arith)) in
    sym (ap (slice_range packet len) end) ∙ message_is_range len (length packet) packet there

pub quoted_place_is : (packet : List ℕ) (place : Place) → BeginsWithIpv4Header packet → place.start ≡ length (ip.ipv4_header packet)
    → place.end ≡ length packet → place.proto ≡ ipv4_proto (ip.ipv4_header packet)
    → place.is_later_fragment ≡ ipv4_is_later_fragment (ip.ipv4_header packet)
    → IsIpv4Place (message_in_ipv4 true packet) packet place
quoted_place_is packet place begins start_is end known later =
    let n : ℕ = ipv4_header_len packet in
    ipv4_place_is (message_in_ipv4 true packet) packet place begins start_is
    (ap (slice_range packet n) end ∙ rest_is_range n packet begins.whole)
    (omega (arith, end, begins.whole)) (omega (arith, end)) known later

-- the rules for a quoted packet after its header
quoted_rules : Bool → List ℕ → List (Option TranslateError)
quoted_rules has_port packet =
    refused_if (has_source_route packet) SourceRoute
    ∷ refused_if (is_none (ipv4_proto packet) && (has_port || covers_ipv4_addresses (slice_index packet 9)))
    (Protocol (record { 0 = slice_index packet 9 }))
    ∷ []

-- the rules of the header and of its version accept a quoted packet that begins with a header
quoted_header_accepted : (short small cut : Bool) (error error_too error_three : IpError) (rules : List (Option TranslateError)) (v : ℕ)
    → short ≡ false → small ≡ false → cut ≡ false → v ≡ 4
    → first_of (option_map Ip (first_of (refused_if short error ∷ refused_if small error_too ∷ refused_if cut error_three ∷ []))
    ∷ refused_if (not (v == 4)) OtherVersion ∷ rules) ≡ first_of rules
quoted_header_accepted true small cut error error_too error_three rules v is is_too is_three is_version = absurd (cc is)
quoted_header_accepted false true cut error error_too error_three rules v is is_too is_three is_version = absurd (cc is_too)
quoted_header_accepted false false true error error_too error_three rules v is is_too is_three is_version = absurd (cc is_three)
quoted_header_accepted false false false error error_too error_three rules v is is_too is_three is_version =
    ap (λ v. first_of (refused_if (not (v == 4)) OtherVersion ∷ rules)) is_version

-- the errors of a quoted packet that begins with a header
quoted_after_header : (has_port : Bool) (packet : List ℕ) → BeginsWithIpv4Header packet
    → ipv4_place_refusal true has_port packet ≡ first_of (quoted_rules has_port packet)
unfolding quoted_rules
quoted_after_header has_port packet begins =
    let n : ℕ = ipv4_header_len packet in
    quoted_header_accepted (nat_lt (length packet) 20) (nat_lt n 20) (nat_lt (length packet) n) _ _ _ (quoted_rules has_port packet)
    (version packet)
    (long_enough (length packet) 20 begins.shortest) (long_enough n 20 begins.five_words)
    (long_enough (length packet) n begins.whole) begins.is_version_4

pub quoted_accepted : (has_port : Bool) (packet : List ℕ) → BeginsWithIpv4Header packet → has_source_route packet ≡ false
    → (is_none (ipv4_proto packet) && (has_port || covers_ipv4_addresses (slice_index packet 9))) ≡ false
    → ipv4_place_refusal true has_port packet ≡ None
unfolding quoted_rules
quoted_accepted has_port packet begins no_route covered =
    let protocol : TranslateError = Protocol (record { 0 = slice_index packet 9 }) in
    let refused : Bool = is_none (ipv4_proto packet) && (has_port || covers_ipv4_addresses (slice_index packet 9)) in
    quoted_after_header has_port packet begins
    ∙ ap (λ has_route. first_of (refused_if has_route SourceRoute ∷ refused_if refused protocol ∷ [])) no_route
    ∙ ap (λ refused. first_of (None ∷ refused_if refused protocol ∷ [])) covered

pub quoted_with_route : (has_port : Bool) (packet : List ℕ) → BeginsWithIpv4Header packet → has_source_route packet ≡ true
    → ipv4_place_refusal true has_port packet ≢ None
unfolding quoted_rules
quoted_with_route has_port packet begins has_route = λ none.
    let protocol : TranslateError = Protocol (record { 0 = slice_index packet 9 }) in
    let refused : Bool = is_none (ipv4_proto packet) && (has_port || covers_ipv4_addresses (slice_index packet 9)) in
    let is : first_of (quoted_rules has_port packet) ≡ Some SourceRoute =
    ap (λ has_route. first_of (refused_if has_route SourceRoute ∷ refused_if refused protocol ∷ [])) has_route in
    cc (none, quoted_after_header has_port packet begins, is)

pub quoted_no_proto : (has_port : Bool) (packet : List ℕ) → BeginsWithIpv4Header packet → has_source_route packet ≡ false
    → (is_none (ipv4_proto packet) && (has_port || covers_ipv4_addresses (slice_index packet 9))) ≡ true
    → ipv4_place_refusal true has_port packet ≢ None
unfolding quoted_rules
quoted_no_proto has_port packet begins no_route covered = λ none.
    let protocol : TranslateError = Protocol (record { 0 = slice_index packet 9 }) in
    let refused : Bool = is_none (ipv4_proto packet) && (has_port || covers_ipv4_addresses (slice_index packet 9)) in
    let is : first_of (quoted_rules has_port packet) ≡ Some protocol =
    ap (λ has_route. first_of (refused_if has_route SourceRoute ∷ refused_if refused protocol ∷ [])) no_route
    ∙ ap (λ refused. first_of (None ∷ refused_if refused protocol ∷ [])) covered in
    cc (none, quoted_after_header has_port packet begins, is)

-- a quoted packet that is accepted begins with a header
pub quoted_no_header : (has_port : Bool) (packet : List ℕ) → ¬ BeginsWithIpv4Header packet → ipv4_place_refusal true has_port packet ≢ None
quoted_no_header has_port packet other = λ none.
    let n : ℕ = ipv4_header_len packet in
    let after_ip = none_first (option_map Ip (ip.ipv4_header_refusal packet)) _ none in
    let after_version = none_first (refused_if (not (version packet == 4)) OtherVersion) _ after_ip.1 in
    let of_header : ip.ipv4_header_refusal packet ≡ None = mapped_none Ip (ip.ipv4_header_refusal packet) after_ip.0 in
    let after_shortest = none_first (refused_if (nat_lt (length packet) 20) (HeaderCutOff 20 (length packet))) _ of_header in
    let after_words = none_first (refused_if (nat_lt n 20) (HeaderLength n)) _ after_shortest.1 in
    let after_whole = none_first (refused_if (nat_lt (length packet) n) (HeaderCutOff n (length packet))) _ after_words.1 in
    let shortest = none_if (nat_lt (length packet) 20) (HeaderCutOff 20 (length packet)) after_shortest.0 in
    let five_words = none_if (nat_lt n 20) (HeaderLength n) after_words.0 in
    let whole = none_if (nat_lt (length packet) n) (HeaderCutOff n (length packet)) after_whole.0 in
    other (record {
      shortest = grind (arith, nat_tests, shortest);
      is_version_4 = is_number (version packet) 4 (once (version packet == 4) (none_if _ OtherVersion after_version.0));
      five_words = grind (arith, nat_tests, five_words);
      whole = grind (arith, nat_tests, whole);
    })

-- a refused quoted packet is the last error
pub quoted_is_refused : (refusal : Option TranslateError) → refusal ≢ None → option_map (λ _. QuotedPacket) refusal ≡ Some QuotedPacket
quoted_is_refused None refused = absurd (refused refl)
quoted_is_refused (Some error) refused = refl

first_of_one : {E : Type 0} (rule : Option E) → first_of (rule ∷ []) ≡ rule
first_of_one None = refl
first_of_one (Some error) = refl

pub last_of_three : {E : Type 0} (first second third : Option E) → first ≡ None → second ≡ None
    → first_of (first ∷ second ∷ third ∷ []) ≡ third
last_of_three first second third is is_too =
    ap (λ first. first_of (first ∷ second ∷ third ∷ [])) is ∙ ap (λ second. first_of (second ∷ third ∷ [])) is_too ∙ first_of_one third

-- `place` states where the message of a packet is, and which protocol it has
pub record IsMessageAt (family : Family) (packet : List ℕ) (place : Place) : Type 0 where
  pub message : slice_range packet place.start place.end ≡ message_in family false packet
  pub proto : place.proto ≡ family.proto packet
  pub later : place.is_later_fragment ≡ family.is_later_fragment packet

pub ipv4_at : (packet : List ℕ) (place : Place) → IsIpv4Place (message_in_ipv4 false packet) packet place → IsMessageAt ipv4 packet place
ipv4_at packet place at = record { message = at.message; proto = at.proto; later = at.later }

pub ipv6_at : (packet : List ℕ) (place : Place) → IsIpv6Place packet place → IsMessageAt ipv6 packet place
ipv6_at packet place at = record { message = at.message; proto = at.proto; later = at.later }

-- what is left after the place of the message is found, and the message is accepted, if the packet quotes this packet
pub record IsLeft (family : Family) (new of_quoted : Translation) (packet : List ℕ) (quoted : Option (List ℕ)) : Type 0 where
  pub quoted_is : quoted_packet family packet ≡ quoted
  pub message : message_of_both family new of_quoted packet ≡ message_by family quoted new of_quoted packet
  pub refusal : refusal_with family new of_quoted packet
      ≡ quoted_refusal family (has_port of_quoted.source_port of_quoted.destination_port) quoted
  pub types : IfSome quoted (λ _. IsTranslation family of_quoted)
      → IfSome (quoted_packet family packet) (λ _. IsTranslation family of_quoted)

pub left : (family : Family) (new of_quoted : Translation) (packet : List ℕ) (place : Place) (len known : Option ℕ)
    → IsMessageAt family packet place
    → family.place_refusal false (has_port new.source_port new.destination_port) packet ≡ None
    → message_refusal place.is_later_fragment place.proto (slice_range packet place.start place.end) ≡ None
    → quoted_in place.is_later_fragment place.proto (slice_range packet place.start place.end)
    ≡ option_map (λ len. slice_range (slice_range packet place.start place.end) 8 (8 + len)) len
    → len ≡ known
    → IsLeft family new of_quoted packet (option_map (λ len. slice_range (message_in family false packet) 8 (8 + len)) known)
left family new of_quoted packet place len known at found accepted quotes is =
    let later : Bool = family.is_later_fragment packet in
    let message : List ℕ = message_in family false packet in
    let quoted_is : quoted_packet family packet ≡ option_map (λ len. slice_range message 8 (8 + len)) known =
    sym (ap (quoted_in place.is_later_fragment place.proto) at.message
    ∙ ap (λ later. quoted_in later place.proto message) at.later
    ∙ ap (λ proto. quoted_in later proto message) at.proto)
    ∙ quotes ∙ ap (option_map (λ len. slice_range (slice_range packet place.start place.end) 8 (8 + len))) is
    ∙ ap (λ message. option_map (λ len. slice_range message 8 (8 + len)) known) at.message in
    record {
      quoted_is = quoted_is;
      message = ap (λ quoted. message_by family quoted new of_quoted packet) quoted_is;
      refusal = last_of_three _ _ _ found (sym (ap (message_refusal place.is_later_fragment place.proto) at.message
          ∙ ap (λ later. message_refusal later place.proto message) at.later
          ∙ ap (λ proto. message_refusal later proto message) at.proto) ∙ accepted)
          ∙ ap (quoted_refusal family (has_port of_quoted.source_port of_quoted.destination_port)) quoted_is;
      types = subst (λ quoted. IfSome quoted (λ _. IsTranslation family of_quoted)) (sym quoted_is);
    }

-- ---- IPv6

pub ipv6_number : (source : List ℕ) (destination : Option (List ℕ)) (number : ℕ) (proto : Proto)
    → Some proto ≡ proto_over (Ipv6 source destination) number → number ≡ number_of proto
ipv6_number source destination number proto is = by_tests protos.Icmpv6 _ _ _ number proto refl refl refl is

-- the number of a protocol is not the number of an extension header
pub no_extension : (proto : Proto) → is_extension (number_of proto) ≡ false
no_extension protos.Udp = refl
no_extension protos.Tcp = refl
no_extension protos.Icmpv4 = refl
no_extension protos.Icmpv6 = refl

-- the number of an accepted protocol over IPv6 is not the number of an extension header
pub ipv6_accepts : (has_port : Bool) (source : List ℕ) (destination : Option (List ℕ)) (number : ℕ) (proto : Option Proto)
    → proto ≡ proto_over (Ipv6 source destination) number → (is_none proto && (has_port || covers_ipv6_addresses number)) ≡ false
    → is_extension number ≡ false
ipv6_accepts has_port source destination number None is accepted =
    first_false (is_extension number) _ (second_false has_port (covers_ipv6_addresses number) accepted)
ipv6_accepts has_port source destination number (Some proto) is accepted =
    ap is_extension (ipv6_number source destination number proto is) ∙ no_extension proto

-- the second rule accepts, since no rule refuses
second_accepts : {E : Type 0} (first second : Bool) (error error_too : E) (rules : List (Option E))
    → (if first then Some error else first_of (refused_if second error_too ∷ rules)) ≡ None → second ≡ false
second_accepts true second error error_too rules none = absurd (cc none)
second_accepts false second error error_too rules none = none_if second error_too (none_first (refused_if second error_too) rules none).0

-- a packet that is read has a whole IPv4 header
not_version_4 : (is : Bool) (packet : List ℕ) → is ≡ (version packet == 4) → ip.lax_refusal packet ≡ None → ¬ BeginsWithIpv4Header packet
    → is ≡ false
not_version_4 false packet test accepted other = refl
not_version_4 true packet test accepted other =
    let is : version packet ≡ 4 = is_number (version packet) 4 (sym test) in
    let n : ℕ = ipv4_header_len packet in
    let header = (none_first (ip.header_refusal packet) _ accepted).0 in
    let by_version : ℕ → Option IpError = λ v. if length packet == 0 then Some (HeaderCutOff 1 0) else if v == 4 then ip.ipv4_refusal packet
    else if v == 6 then ip.ipv6_refusal packet else Some (Version (version packet)) in
    let rules : ip.ipv4_refusal packet ≡ None =
    else_none (length packet == 0) (HeaderCutOff 1 0) (ip.ipv4_refusal packet) (sym (ap by_version is) ∙ header) in
    let of_header = (none_first (ip.ipv4_header_refusal packet) _ rules).0 in
    let after_shortest = none_first (refused_if (nat_lt (length packet) 20) (HeaderCutOff 20 (length packet))) _ of_header in
    let after_words = none_first (refused_if (nat_lt n 20) (HeaderLength n)) _ after_shortest.1 in
    let after_whole = none_first (refused_if (nat_lt (length packet) n) (HeaderCutOff n (length packet))) _ after_words.1 in
    let shortest = none_if (nat_lt (length packet) 20) (HeaderCutOff 20 (length packet)) after_shortest.0 in
    let five_words = none_if (nat_lt n 20) (HeaderLength n) after_words.0 in
    let whole = none_if (nat_lt (length packet) n) (HeaderCutOff n (length packet)) after_whole.0 in
    absurd (other (record {
      shortest = grind (arith, nat_tests, shortest);
      is_version_4 = is;
      five_words = grind (arith, nat_tests, five_words);
      whole = grind (arith, nat_tests, whole);
    }))

-- a packet that is read, and that does not begin with an IPv4 header, has another version
pub no_version_4 : (has_port : Bool) (packet : List ℕ) → ip.lax_refusal packet ≡ None → ¬ BeginsWithIpv4Header packet
    → ipv4_place_refusal false has_port packet ≡ Some OtherVersion
no_version_4 has_port packet accepted other =
    let last : List (Option TranslateError) = refused_if (has_source_route packet) SourceRoute
    ∷ refused_if (is_none (ipv4_proto packet) && (has_port || covers_ipv4_addresses (slice_index packet 9)))
    (Protocol (record { 0 = slice_index packet 9 }))
    ∷ [] in
    ap (λ refusal. first_of (option_map Ip refusal ∷ refused_if (not (version packet == 4)) OtherVersion ∷ last)) accepted
    ∙ ap (λ is. first_of (None ∷ refused_if (not is) OtherVersion ∷ last)) (not_version_4 (version packet == 4) packet refl accepted other)

-- a packet that is read has a whole IPv6 header
not_version_6 : (is : Bool) (packet : List ℕ) → is ≡ (version packet == 6) → ip.lax_refusal packet ≡ None → ¬ BeginsWithIpv6Header packet
    → is ≡ false
not_version_6 false packet test accepted other = refl
not_version_6 true packet test accepted other =
    let is : version packet ≡ 6 = is_number (version packet) 6 (sym test) in
    let rules : List (Option IpError) = (if ip.has_len_in_options packet then ip.len_in_options_refusal (drop 40 packet) else None) ∷ [] in
    let header = (none_first (ip.header_refusal packet) _ accepted).0 in
    let by_version : ℕ → Option IpError = λ v. if length packet == 0 then Some (HeaderCutOff 1 0) else if v == 4 then ip.ipv4_refusal packet
    else if v == 6 then ip.ipv6_refusal packet else Some (Version (version packet)) in
    let whole = second_accepts (length packet == 0) (nat_lt (length packet) 40) (HeaderCutOff 1 0) (HeaderCutOff 40 (length packet)) rules
    (sym (ap by_version is) ∙ header) in
    absurd (other (record { whole = grind (arith, nat_tests, whole); is_version_6 = is }))

-- an accepted packet that does not begin with an IPv6 header is refused for its version
pub other_version : (has_port : Bool) (packet : List ℕ) → ip.lax_refusal packet ≡ None → ¬ BeginsWithIpv6Header packet
    → ipv6_place_refusal has_port packet ≡ Some OtherVersion
other_version has_port packet accepted other =
    let last : Option TranslateError =
    refused_if (is_none (ipv6_proto packet) && (has_port || covers_ipv6_addresses (ipv6_protocol packet)))
    (Protocol (record { 0 = ipv6_protocol packet })) in
    ap (λ refusal. first_of (option_map Ip refusal ∷ refused_if (not (version packet == 6)) OtherVersion ∷ last ∷ [])) accepted
    ∙ ap (λ is. first_of (None ∷ refused_if (not is) OtherVersion ∷ last ∷ []))
    (not_version_6 (version packet == 6) packet refl accepted other)

-- the addresses of an IPv6 packet are IPv6 addresses
pub over_ipv6_addresses : (packet : List ℕ) (found : TransportInIp) (after : IsAfterHeaders packet found) → version packet ≡ 6
    → by_value found.addresses ≡ Ipv6 (source_by (slice_range (ip.ipv6_header packet) 8 24) after.extensions)
    (destination_by (Some (slice_range (ip.ipv6_header packet) 24 40)) after.extensions)
over_ipv6_addresses packet found after is =
    after.addresses
    ∙ ap (λ v. if v == 4 then Ipv4 (slice_range (ip.ipv4_header packet) 12 16) (ip.ipv4_destination (ip.ipv4_header packet))
    else Ipv6 (source_by (slice_range (ip.ipv6_header packet) 8 24) after.extensions)
    (destination_by (Some (slice_range (ip.ipv6_header packet) 24 40)) after.extensions)) is

-- a packet whose protocol is unknown is refused, if its ports or its checksum had to be translated
pub ipv6_no_proto : (has_port : Bool) (packet : List ℕ) (found : TransportInIp) (number : IpNumber) (proto : Option Proto)
    → ip.lax_refusal packet ≡ None
    → version packet ≡ 6 → IsAfterHeaders packet found → number.0 ≡ ipv6_protocol packet
    → proto ≡ proto_over (by_value found.addresses) number.0
    → (is_none proto && (has_port || covers_ipv6_addresses number.0)) ≡ true → ipv6_place_refusal has_port packet ≡ Some (Protocol number)
ipv6_no_proto has_port packet found number proto accepted is after number_is known refused =
    let proto_is : ipv6_proto packet ≡ proto =
    sym (known ∙ ap (λ addresses. proto_over addresses number.0) (over_ipv6_addresses packet found after is)
    ∙ ap (proto_over (Ipv6 [] None)) number_is) in
    let rule : Option Proto → ℕ → Option TranslateError = λ proto number.
    refused_if (is_none proto && (has_port || covers_ipv6_addresses number)) (Protocol (record { 0 = number })) in
    let last : Option TranslateError → Option TranslateError = λ rule. first_of (None ∷ None ∷ rule ∷ []) in
    ap (λ refusal. first_of (option_map Ip refusal ∷ refused_if (not (version packet == 6)) OtherVersion
    ∷ rule (ipv6_proto packet) (ipv6_protocol packet) ∷ [])) accepted
    ∙ ap (λ v. first_of (None ∷ refused_if (not (v == 6)) OtherVersion ∷ rule (ipv6_proto packet) (ipv6_protocol packet) ∷ [])) is
    ∙ ap (λ proto. last (rule proto (ipv6_protocol packet))) proto_is
    ∙ ap (λ n. last (rule proto n)) (sym number_is)
    ∙ ap (λ b. last (refused_if b (Protocol (record { 0 = number.0 })))) refused
