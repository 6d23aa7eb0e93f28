-- Laws of the reading of translated packets: what is kept of a packet, and what is found in it.
use Rattle.std.proofs.Common.{◌≡◌, ℕ, suc, ◌+◌, ◌-◌, ◌*◌, ◌/◌, ◌%◌, ◌^◌, ◌<◌, ◌≤◌, ◌==◌, ◌&&◌, ◌||◌, not, nat_lt, nat_le, Bool, true, false, if◌then◌else◌, List, [], ◌∷◌, ◌++◌, take, drop, bit_and, slice_index, slice_range, length, length-append, Option, Some, None, Result, Ok, Err, refl, sym, ap, ◌∙◌, subst, arith}
use Rattle.std.specs.Prelude.{IfOk, is_none, is_some, unwrap_or}
use Rattle.std.proofs.lemmas.Bool.Decides.{nat_tests}
use Rattle.std.proofs.lemmas.List.{drop-drop, drop-take, drop_at, drop_all, get_or-drop, get_or-take, get_or_append_left, length-drop, length-take, length-take-le, take_all, take_at, append-nil}
use Rattle.std.proofs.lemmas.Slice.{drop-put_mid}
use Rattle.ip_part.specs.Addresses.{Addresses, Ipv4, Ipv6, by_value}
use Rattle.ip_part.specs.ExtensionHeaders.{extension_len, is_extension}
use Rattle.ip_part.specs.Headers.{Headers}
use Rattle.ip_part.specs.Ip.{Carries, IsAfterHeaders, counted, counted_len, error_of, first_headers, header_refusal, headers_of, headers_to_transport, is_extended, lacks_len, lax_refusal}
use Rattle.ip_part.specs.Ip as ip
use Rattle.ip_part.specs.Options as options
use Rattle.ip_part.specs.Options.{ipv4_option, jumbo_payload_len, options_of}
use Rattle.ip_part.specs.Protocols.{proto_over}
use Rattle.std.specs.List.{find}
use Rattle.ip_part.specs.declared.ip_error.IpError.{IpError}
use Rattle.ip_part.specs.declared.ip_error.IpError.TheVariants.{HeaderCutOff, HeaderLength, TotalLength, Version}
use Rattle.ip_part.specs.declared.proto.Proto.{Proto}
use Rattle.ip_part.specs.declared.transport.TransportInIp.{TransportInIp}
use Rattle.ip_part.proofs.HeadersLemmas.{ended}
use Rattle.net_base.specs.IpHeaders.{BeginsWithIpv6Header, ipv4_fragment_offset, ipv4_header_len, ipv4_header_of, version}
use Rattle.net_base.specs.Refusals.{first_of, refused_if}
use Rattle.ip_part.specs.declared.proto.Proto.TheVariants as protos
use Rattle.net_base.specs.StoredChecksum.{with_checksum}
use Rattle.std.specs.Int.{to_be_bytes, w16}
use Rattle.word_sum.specs.UpdatedChecksum.{updated_checksum_of}
use Rattle.etherparse_transport.specs.SkippedHeaders.{header_at, is_skipped, only_ipv6_header, skip, skipped_headers, with_next}
use Rattle.etherparse_transport.specs.declared.ip.skipped_headers.SkippedHeaders.{SkippedHeaders}
use Rattle.etherparse_transport.specs.Translations.{IsReadWith, counted_after, is_query, new_identifier, number, translated_in, translated_message, translated_query, with_bytes, with_number, with_ports, with_updated_checksum}
use Rattle.std.specs.Option.{option_map}
use Rattle.etherparse_transport.proofs.SourceRouteLemmas.{no_route as route_read_too}
use Rattle.etherparse_transport.specs.SourceRoutes.{contain_source_route}
use Rattle.etherparse_transport.specs.Ipv4Translations.{AreIpv4Addresses, IsIpv4Place, ipv4_addresses, ipv4_between, ipv4_flow_message, ipv4_is_later_fragment, ipv4_headers_refusal, ipv4_place_refusal, ipv4_proto, ipv4_with_message, covers_ipv4_addresses, has_source_route, message_in_ipv4, sum_of_ipv4}
use Rattle.etherparse_transport.specs.Ipv6Translations.{AreIpv6Addresses, IsIpv6Place, covers_ipv6_addresses, ipv6_addresses, ipv6_between, ipv6_flow_message, ipv6_is_later_fragment, ipv6_place_refusal, ipv6_proto, ipv6_protocol, ipv6_start, ipv6_with_message, message_in_ipv6}
use Rattle.etherparse_transport.specs.declared.ip.ipv4_translation.Ipv4Translation.{Ipv4Translation}
use Rattle.etherparse_transport.specs.declared.ip.ipv6_translation.Ipv6Translation.{Ipv6Translation}
use Rattle.etherparse_transport.specs.declared.ip.message_place.Place.{Place}
use Rattle.etherparse_transport.specs.declared.err.packet.translate_error.TranslateError.TheVariants.{Ip, OtherVersion, SourceRoute}
use Rattle.etherparse_transport.proofs.BuiltLemmas.{mapped_none, none_first, none_if}
use Rattle.etherparse_transport.proofs.EchoReplyLemmas.{is_number, once}
use Rattle.etherparse_transport.proofs.EchoRequestLemmas.{in_front}
use Rattle.etherparse_transport.proofs.SkippedHeaderLemmas.{AreAt, AreWalked, at_least, between, header_alike, least_len, len_alike, not_below, rest_true, skip_even, skip_len, skip_more, two_rules, walk}
use Rattle.etherparse_transport.proofs.TranslationLemmas.{first_is_last, ipv4_accepts, ipv6_accepts, message_range, over_ipv6_addresses, read_once}
use borrow.Rule.Slice.PartMut.{put_mid}

-- ---- replaced bytes

module _ (place : ℕ) (new bytes : List ℕ) (there : place + length new ≤ length bytes) where
  before_len : length (take place bytes) ≡ place
  before_len = length-take-le place bytes (omega (arith, there))

  pub length_kept : length (with_bytes place new bytes) ≡ length bytes
  length_kept =
      let rest : List ℕ = drop (place + length new) bytes in
      omega (
        arith,
        there,
        before_len,
        length-append (take place bytes) (new ++ rest),
        length-append new rest,
        length-drop (place + length new) bytes,
      )

  pub index_before : (k : ℕ) → k < place → slice_index (with_bytes place new bytes) k ≡ slice_index bytes k
  index_before k before =
      get_or_append_left (take place bytes) (new ++ drop (place + length new) bytes) 0 k (omega (arith, before, before_len))
      ∙ get_or-take place bytes k 0 before

  pub range_before : (from n : ℕ) → from + n ≤ place → take n (drop from (with_bytes place new bytes)) ≡ take n (drop from bytes)
  range_before from n before =
      sym (in_front place from n (with_bytes place new bytes) before)
      ∙ ap (λ front. take n (drop from front)) (take_at (take place bytes) (new ++ drop (place + length new) bytes) place before_len)
      ∙ in_front place from n bytes before

  pub drop_here : drop place (with_bytes place new bytes) ≡ new ++ drop (place + length new) bytes
  drop_here = drop_at (take place bytes) (new ++ drop (place + length new) bytes) place before_len

  pub range_at : take (length new) (drop place (with_bytes place new bytes)) ≡ new
  range_at = ap (take (length new)) drop_here ∙ take_at new (drop (place + length new) bytes) (length new) refl

  pub drop_after : (n : ℕ) → place + length new ≤ n → drop n (with_bytes place new bytes) ≡ drop n bytes
  drop_after n after =
      let is : with_bytes place new bytes ≡ put_mid place (length new) bytes new =
      ap (λ rest. take place bytes ++ (new ++ rest)) (sym (drop-drop (length new) place bytes)) in
      ap (drop n) is ∙ drop-put_mid place (length new) bytes new n after (omega (arith, there)) refl

  pub index_after : (k : ℕ) → place + length new ≤ k → slice_index (with_bytes place new bytes) k ≡ slice_index bytes k
  index_after k after =
      let at : k ≡ k + 0 = omega arith in
      ap (slice_index (with_bytes place new bytes)) at
      ∙ sym (get_or-drop k (with_bytes place new bytes) 0 0) ∙ ap (λ rest. slice_index rest 0) (drop_after k after)
      ∙ get_or-drop k bytes 0 0 ∙ ap (slice_index bytes) (sym at)

-- ---- replaced addresses

-- the addresses are replaced at two places
module _ (first second n : ℕ) (source destination bytes : List ℕ) (apart : first + n ≤ second) (is : length source ≡ n)
    (is_too : length destination ≡ n) (there : second + n ≤ length bytes) where
  abbrev with_first : List ℕ
  with_first = with_bytes first source bytes

  abbrev with_both : List ℕ
  with_both = with_bytes second destination with_first

  first_there : first + length source ≤ length bytes
  first_there = omega (arith, apart, is, there)

  second_there : second + length destination ≤ length with_first
  second_there = omega (arith, is_too, there, length_kept first source bytes first_there)

  pub both_len : length with_both ≡ length bytes
  both_len = length_kept second destination with_first second_there ∙ length_kept first source bytes first_there

  pub both_before : (k : ℕ) → k < first → slice_index with_both k ≡ slice_index bytes k
  both_before k before =
      index_before second destination with_first second_there k (omega (arith, before, apart))
      ∙ index_before first source bytes first_there k before

  pub both_after : (k : ℕ) → second + n ≤ k → drop k with_both ≡ drop k bytes
  both_after k after =
      drop_after second destination with_first second_there k (omega (arith, after, is_too))
      ∙ drop_after first source bytes first_there k (omega (arith, after, apart, is))

  pub source_in : take n (drop first with_both) ≡ source
  source_in =
      range_before second destination with_first second_there first n apart
      ∙ ap (λ n. take n (drop first with_first)) (sym is) ∙ range_at first source bytes first_there

  pub destination_in : take n (drop second with_both) ≡ destination
  destination_in = ap (λ n. take n (drop second with_both)) (sym is_too) ∙ range_at second destination with_first second_there

-- ---- the message

kept_by : (is_cut : Bool) (len n : ℕ) (packet changed message : List ℕ) → is_cut ≡ nat_lt (length packet) n
    → drop len changed ≡ message ++ drop (len + length message) packet → length message ≡ length (drop len (take n packet))
    → len ≤ n → len ≤ length packet → take (n - len) (drop len changed) ≡ message
kept_by false len n packet changed message test is same within there =
    let whole : n ≤ length packet = grind (arith, nat_tests) in
    ap (take (n - len)) is
    ∙ take_at message (drop (len + length message) packet) (n - len)
    (omega (arith, same, within, whole, length-drop len (take n packet), length-take-le n packet whole))
kept_by true len n packet changed message test is same within there =
    let cut : length packet < n = grind (arith, nat_tests) in
    let all : length packet ≤ len + length message =
    omega (arith, same, within, there, cut, length-drop len (take n packet), ap length (take_all n packet (omega (arith, cut)))) in
    ap (take (n - len)) (is ∙ ap (λ rest. message ++ rest) (drop_all (len + length message) packet all) ∙ append-nil message)
    ∙ take_all (n - len) message (omega (
      arith,
      same,
      within,
      cut,
      length-drop len (take n packet),
      ap length (take_all n packet (omega (arith, cut))),
    ))

-- the message of the changed packet is the new message
pub message_kept : (len n : ℕ) (packet changed message : List ℕ)
    → drop len changed ≡ message ++ drop (len + length message) packet → length message ≡ length (drop len (take n packet))
    → len ≤ n → len ≤ length packet → drop len (take n changed) ≡ message
message_kept len n packet changed message is same within there =
    let more : n ≡ len + (n - len) = omega (arith, within) in
    ap (λ n. drop len (take n changed)) more ∙ drop-take len (n - len) changed
    ∙ kept_by (nat_lt (length packet) n) len n packet changed message refl is same within there

-- ---- IPv4

-- the changed packet has the length and the first bytes of the packet, on which its reading depends, except for the addresses
pub record IsKept (count : ℕ) (packet changed : List ℕ) : Type 0 where
  pub len : length changed ≡ length packet
  pub front : (k : ℕ) → k < count → slice_index changed k ≡ slice_index packet k

-- an accepted packet without a source route, or a quoted packet
pub record IsIpv4Flow (is_quoted : Bool) (packet : List ℕ) : Type 0 where
  pub accepted : ipv4_headers_refusal is_quoted packet ≡ None
  pub is_ipv4 : version packet ≡ 4
  pub five_words : 20 ≤ ipv4_header_len packet
  pub no_route : has_source_route packet ≡ false
  pub number : (slice_index packet 9 == 51) ≡ false
  pub there : ipv4_header_len packet ≤ length packet

-- the changed packet has the length, the first ten bytes and the options of the packet
pub record IsIpv4Kept (packet changed : List ℕ) : Type 0 where
  pub front : IsKept 10 packet changed
  pub options : slice_range changed 20 (ipv4_header_len packet) ≡ slice_range packet 20 (ipv4_header_len packet)

-- a byte of the header is the byte of the packet at its place
header_byte : (packet : List ℕ) → 20 ≤ ipv4_header_len packet → (k : ℕ) → k < 20
    → slice_index (ip.ipv4_header packet) k ≡ slice_index packet k
header_byte packet len k within = get_or-take (ipv4_header_len packet) packet k 0 (omega (arith, len, within))

pub header_len_kept : (packet changed : List ℕ) → IsIpv4Kept packet changed → ipv4_header_len changed ≡ ipv4_header_len packet
header_len_kept packet changed kept = ap (λ byte. byte % 16 * 4) (kept.front.front 0 (omega arith))

kept_byte : (packet changed : List ℕ) → IsIpv4Kept packet changed → 20 ≤ ipv4_header_len packet
    → (k : ℕ) → k < 10 → slice_index (ip.ipv4_header changed) k ≡ slice_index (ip.ipv4_header packet) k
kept_byte packet changed kept five k within =
    header_byte changed (omega (arith, five, header_len_kept packet changed kept)) k (omega (arith, within))
    ∙ kept.front.front k within ∙ sym (header_byte packet five k (omega (arith, within)))

pub total_len_kept : (packet changed : List ℕ) → IsIpv4Kept packet changed → 20 ≤ ipv4_header_len packet
    → ip.total_len changed ≡ ip.total_len packet
total_len_kept packet changed kept five =
    omega (arith, kept_byte packet changed kept five 2 (omega arith), kept_byte packet changed kept five 3 (omega arith))

-- the options of a header are a range of the packet
options_are : (len : ℕ) (packet : List ℕ) → 20 ≤ len → drop 20 (take len packet) ≡ slice_range packet 20 len
options_are len packet five =
    let whole : len ≡ 20 + (len - 20) = omega (arith, five) in
    ap (λ n. drop 20 (take n packet)) whole ∙ drop-take 20 (len - 20) packet

options_kept : (packet changed : List ℕ) → IsIpv4Kept packet changed → 20 ≤ ipv4_header_len packet
    → drop 20 (ip.ipv4_header changed) ≡ drop 20 (ip.ipv4_header packet)
options_kept packet changed kept five =
    ap (λ len. drop 20 (take len changed)) (header_len_kept packet changed kept)
    ∙ options_are (ipv4_header_len packet) changed five ∙ kept.options ∙ sym (options_are (ipv4_header_len packet) packet five)

-- the errors of an IPv4 header, given its lengths
ipv4_refusal_by : ℕ → ℕ → ℕ → Option IpError
ipv4_refusal_by len header_len total_len = first_of (
    first_of (
    refused_if (nat_lt len 20) (HeaderCutOff 20 len)
    ∷ refused_if (nat_lt header_len 20) (HeaderLength header_len)
    ∷ refused_if (nat_lt len header_len) (HeaderCutOff header_len len)
    ∷ [])
    ∷ refused_if (not (total_len == 0) && nat_lt total_len header_len) (TotalLength total_len header_len)
    ∷ [])

ipv4_header_refusal_is : (packet : List ℕ) → version packet ≡ 4
    → header_refusal packet ≡ (if length packet == 0 then Some (HeaderCutOff 1 0)
    else ipv4_refusal_by (length packet) (ipv4_header_len packet) (ip.total_len packet))
unfolding ipv4_refusal_by
ipv4_header_refusal_is packet is =
    ap (λ v. if length packet == 0 then Some (HeaderCutOff 1 0) else if v == 4 then ip.ipv4_refusal packet
    else if v == 6 then ip.ipv6_refusal packet else Some (Version (version packet))) is

ipv4_header_accepted : (packet changed : List ℕ) → version packet ≡ 4 → version changed ≡ 4 → length changed ≡ length packet
    → ipv4_header_len changed ≡ ipv4_header_len packet → ip.total_len changed ≡ ip.total_len packet
    → header_refusal changed ≡ header_refusal packet
ipv4_header_accepted packet changed is is_too len header_len total_len =
    let by : ℕ → ℕ → ℕ → Option IpError =
    λ len header_len total_len. if len == 0 then Some (HeaderCutOff 1 0) else ipv4_refusal_by len header_len total_len in
    ipv4_header_refusal_is changed is_too
    ∙ ap (λ len. by len (ipv4_header_len changed) (ip.total_len changed)) len
    ∙ ap (λ header_len. by (length packet) header_len (ip.total_len changed)) header_len
    ∙ ap (by (length packet) (ipv4_header_len packet)) total_len
    ∙ sym (ipv4_header_refusal_is packet is)

-- no extension header comes next
ipv4_ended : (packet : List ℕ) → IsIpv4Flow false packet → is_extended (first_headers packet) ≡ false
ipv4_ended packet flow =
    let four : Headers = ip.ipv4_headers (ipv4_header_len packet) (ip.ipv4_header packet) in
    ap (λ v. is_extended (if v == 4 then four else ip.ipv6_headers (ip.is_jumbogram packet) (ip.ipv6_header packet))) flow.is_ipv4
    ∙ ap (λ b. (b && (ipv4_fragment_offset (ip.ipv4_header packet) == 0)) && is_extension (slice_index (ip.ipv4_header packet) 9))
    (ap (λ number. number == 51) (header_byte packet flow.five_words 9 (omega arith)) ∙ flow.number)

-- the packet is accepted if its header is
accepted_by : (packet : List ℕ) → header_refusal packet ≡ None → is_extended (first_headers packet) ≡ false → lax_refusal packet ≡ None
accepted_by packet accepted last =
    ap (λ refusal. first_of (refusal ∷ error_of (headers_of (lacks_len packet) packet) ∷ [])) accepted
    ∙ ap (λ read. first_of (None ∷ error_of read ∷ []))
    (ended (length (counted (lacks_len packet) packet)) (first_headers packet) (counted (lacks_len packet) packet) last)

-- a header without its total length is accepted alike
quoted_header_alike : (packet changed : List ℕ) → length changed ≡ length packet → ipv4_header_len changed ≡ ipv4_header_len packet
    → ip.ipv4_header_refusal changed ≡ ip.ipv4_header_refusal packet
quoted_header_alike packet changed len header_len =
    let by : ℕ → ℕ → Option IpError = λ len header_len. first_of (
    refused_if (nat_lt len 20) (HeaderCutOff 20 len)
    ∷ refused_if (nat_lt header_len 20) (HeaderLength header_len)
    ∷ refused_if (nat_lt len header_len) (HeaderCutOff header_len len)
    ∷ []) in
    ap (λ len. by len (ipv4_header_len changed)) len ∙ ap (by (length packet)) header_len

-- the headers are accepted if the IP header is accepted alike
headers_kept : (is_quoted : Bool) (packet changed : List ℕ) → ipv4_headers_refusal is_quoted packet ≡ None
    → ip.ipv4_header_refusal changed ≡ ip.ipv4_header_refusal packet → (lax_refusal packet ≡ None → lax_refusal changed ≡ None)
    → ipv4_headers_refusal is_quoted changed ≡ None
headers_kept true packet changed accepted header all = header ∙ accepted
headers_kept false packet changed accepted header all = all accepted

pub ipv4_flow_kept : (is_quoted : Bool) (packet changed : List ℕ) → IsIpv4Kept packet changed
    → IsIpv4Flow is_quoted packet
    → IsIpv4Flow is_quoted changed
ipv4_flow_kept is_quoted packet changed kept flow =
    let is : version changed ≡ 4 = ap (λ byte. byte / 16) (kept.front.front 0 (omega arith)) ∙ flow.is_ipv4 in
    let header_len : ipv4_header_len changed ≡ ipv4_header_len packet = header_len_kept packet changed kept in
    let five : 20 ≤ ipv4_header_len changed = omega (arith, header_len, flow.five_words) in
    let total_len : ip.total_len changed ≡ ip.total_len packet = total_len_kept packet changed kept flow.five_words in
    let header : lax_refusal packet ≡ None → header_refusal changed ≡ None = λ accepted.
    ipv4_header_accepted packet changed flow.is_ipv4 is kept.front.len header_len total_len
    ∙ (none_first (header_refusal packet) _ accepted).0 in
    let number : (slice_index changed 9 == 51) ≡ false = ap (λ number. number == 51) (kept.front.front 9 (omega arith)) ∙ flow.number in
    let last : is_extended (first_headers changed) ≡ false =
    ap (λ v. is_extended (if v == 4 then ip.ipv4_headers (ipv4_header_len changed) (ip.ipv4_header changed)
    else ip.ipv6_headers (ip.is_jumbogram changed) (ip.ipv6_header changed))) is
    ∙ ap (λ b. (b && (ipv4_fragment_offset (ip.ipv4_header changed) == 0)) && is_extension (slice_index (ip.ipv4_header changed) 9))
    (ap (λ number. number == 51) (header_byte changed five 9 (omega arith)) ∙ number) in
    record {
      accepted = headers_kept is_quoted packet changed flow.accepted (quoted_header_alike packet changed kept.front.len header_len)
          (λ accepted. accepted_by changed (header accepted) last);
      is_ipv4 = is;
      five_words = five;
      no_route = ap contain_source_route (options_kept packet changed kept flow.five_words)
          ∙ flow.no_route;
      number = number;
      there = omega (arith, kept.front.len, header_len, flow.there);
    }

ipv4_headers_are : (packet : List ℕ) (found : TransportInIp) (carries : Carries packet found)
    → IsIpv4Flow false packet
    → carries.headers ≡ ip.ipv4_headers (ipv4_header_len packet) (ip.ipv4_header packet)
ipv4_headers_are packet found carries flow =
    first_is_last packet found carries (ipv4_ended packet flow)
    ∙ ap (λ v. if v == 4 then ip.ipv4_headers (ipv4_header_len packet) (ip.ipv4_header packet)
    else ip.ipv6_headers (ip.is_jumbogram packet) (ip.ipv6_header packet)) flow.is_ipv4

pub ipv4_lacks_len_is : (packet : List ℕ) → version packet ≡ 4
    → lacks_len packet ≡ is_none (if ip.total_len packet == 0 then None else Some (ip.total_len packet))
ipv4_lacks_len_is packet is =
    ap (λ v. is_none (if v == 4 then ip.ipv4_stated_len packet
    else ip.ipv6_stated_len (ip.jumbo_len packet) (ip.payload_len packet) (ip.next_header packet))) is

pub ipv4_counted_len_is : (missing : Bool) (packet : List ℕ) → version packet ≡ 4
    → counted_len missing packet ≡ (if missing then length packet else ip.total_len packet)
ipv4_counted_len_is missing packet is =
    ap (λ v. if missing then length packet else if v == 4 then ip.total_len packet
    else 40 + unwrap_or (ip.jumbo_len packet) (ip.payload_len packet)) is

-- an option without a value is `None`
none_there : {T : Type 0} (option : Option T) → is_some option ≡ false → option ≡ None
none_there None none = refl
none_there (Some value) none = absurd (cc none)

-- a header without a source route contains the final destination
ipv4_destination_is : (packet : List ℕ) → 20 ≤ ipv4_header_len packet → has_source_route packet ≡ false
    → ip.ipv4_destination (ip.ipv4_header packet) ≡ slice_range packet 16 20
ipv4_destination_is packet five no_route =
    ap (options.routed (slice_range (ip.ipv4_header packet) 16 20))
    (none_there (find options.is_source_route (options_of ipv4_option (drop 20 (ip.ipv4_header packet))))
    (route_read_too (drop 20 (ip.ipv4_header packet)) no_route))
    ∙ in_front (ipv4_header_len packet) 16 4 packet (omega (arith, five))

pub ipv4_reading : (packet changed source destination message : List ℕ) → IsIpv4Kept packet changed
    → IsIpv4Flow false packet
    → slice_range changed 12 16 ≡ source → slice_range changed 16 20 ≡ destination
    → drop (ipv4_header_len packet) changed ≡ message ++ drop (ipv4_header_len packet + length message) packet
    → length message ≡ length (drop (ipv4_header_len packet) (counted (lacks_len packet) packet))
    → ipv4_header_len packet ≤ counted_len (lacks_len packet) packet
    → IsReadWith packet changed (Ipv4 source destination) message
ipv4_reading packet changed source destination message kept flow source_is destination_is message_is same within =
    let flow_too : IsIpv4Flow false changed = ipv4_flow_kept false packet changed kept flow in
    let header_len : ipv4_header_len changed ≡ ipv4_header_len packet = header_len_kept packet changed kept in
    let total_len : ip.total_len changed ≡ ip.total_len packet = total_len_kept packet changed kept flow.five_words in
    let byte : (k : ℕ) → k < 10 → slice_index (ip.ipv4_header changed) k ≡ slice_index (ip.ipv4_header packet) k =
    kept_byte packet changed kept flow.five_words in
    let lacks : lacks_len changed ≡ lacks_len packet =
    ipv4_lacks_len_is changed flow_too.is_ipv4 ∙ ap (λ n. is_none (if n == 0 then None else Some n)) total_len
    ∙ sym (ipv4_lacks_len_is packet flow.is_ipv4) in
    let counts : (missing : Bool) → counted_len missing changed ≡ counted_len missing packet = λ missing.
    ipv4_counted_len_is missing changed flow_too.is_ipv4
    ∙ ap (λ n. if missing then n else ip.total_len changed) kept.front.len ∙ ap (λ n. if missing then length packet else n) total_len
    ∙ sym (ipv4_counted_len_is missing packet flow.is_ipv4) in
    let headers : Headers = ip.ipv4_headers (ipv4_header_len packet) (ip.ipv4_header packet) in
    let headers_too : Headers = ip.ipv4_headers (ipv4_header_len changed) (ip.ipv4_header changed) in
    record {
      accepted = flow_too.accepted;
      found = λ was found carries missing carries_too missing_too.
          let is : carries.headers ≡ headers = ipv4_headers_are packet was carries flow in
          let is_too : carries_too.headers ≡ headers_too = ipv4_headers_are changed found carries_too flow_too in
          let missing_is : found.is_length_missing ≡ was.is_length_missing = missing_too ∙ lacks ∙ sym missing in
          record {
            addresses = carries_too.addresses ∙ ap (λ headers. headers.addresses) is_too
                ∙ ap (λ source. Ipv4 source (ip.ipv4_destination (ip.ipv4_header changed)))
                (in_front (ipv4_header_len changed) 12 4 changed (omega (arith, flow_too.five_words)) ∙ source_is)
                ∙ ap (Ipv4 source) (ipv4_destination_is changed flow_too.five_words flow_too.no_route ∙ destination_is);
            protocol = carries_too.protocol ∙ ap (λ headers. headers.protocol) is_too
                ∙ ap (λ n. record { 0 = n }) (byte 9 (omega arith))
                ∙ sym (carries.protocol ∙ ap (λ headers. headers.protocol) is);
            payload = carries_too.payload ∙ ap (λ headers. drop headers.len (counted found.is_length_missing changed)) is_too
                ∙ ap (λ len. drop len (counted found.is_length_missing changed)) header_len
                ∙ ap (λ missing. drop (ipv4_header_len packet) (counted missing changed)) (missing_too ∙ lacks)
                ∙ ap (λ n. drop (ipv4_header_len packet) (take n changed)) (counts (lacks_len packet))
                ∙ message_kept (ipv4_header_len packet) (counted_len (lacks_len packet) packet) packet changed message message_is same
                within flow.there;
            payload_offset = carries_too.payload_offset ∙ ap (λ headers. headers.len) is_too ∙ header_len
                ∙ sym (carries.payload_offset ∙ ap (λ headers. headers.len) is);
            is_fragment = carries_too.is_fragment ∙ ap (λ headers. headers.is_fragment) is_too
                ∙ ap (λ high. not (bit_and high 0x20 == 0)
                || not (((0 * 256 + high) * 256 + slice_index (ip.ipv4_header changed) 7) % 2 ^ 13 == 0)) (byte 6 (omega arith))
                ∙ ap (λ low. not (bit_and (slice_index (ip.ipv4_header packet) 6) 0x20 == 0)
                || not (((0 * 256 + slice_index (ip.ipv4_header packet) 6) * 256 + low) % 2 ^ 13 == 0)) (byte 7 (omega arith))
                ∙ sym (carries.is_fragment ∙ ap (λ headers. headers.is_fragment) is);
            is_later_fragment = carries_too.is_later_fragment ∙ ap (λ headers. headers.is_later_fragment) is_too
                ∙ ap (λ high. not (((0 * 256 + high) * 256 + slice_index (ip.ipv4_header changed) 7) % 2 ^ 13 == 0)) (byte 6 (omega arith))
                ∙ ap (λ low. not (((0 * 256 + slice_index (ip.ipv4_header packet) 6) * 256 + low) % 2 ^ 13 == 0)) (byte 7 (omega arith))
                ∙ sym (carries.is_later_fragment ∙ ap (λ headers. headers.is_later_fragment) is);
            is_cut_off = carries_too.is_cut_off ∙ ap (λ missing. ip.is_cut_off missing changed) missing_is
                ∙ ap (λ n. nat_lt (length changed) n) (counts was.is_length_missing)
                ∙ ap (λ len. nat_lt len (counted_len was.is_length_missing packet)) kept.front.len
                ∙ sym carries.is_cut_off;
            is_length_missing = missing_is;
          };
    }

-- ---- a translated IPv4 packet

-- the parts of an IPv4 packet after its checksum, addresses and message are replaced
module _ (start : ℕ) (checksum source destination message packet : List ℕ) (after : 20 ≤ start) (two : length checksum ≡ 2)
    (four : length source ≡ 4) (four_too : length destination ≡ 4) (there : start + length message ≤ length packet) where
  abbrev with_message : List ℕ
  with_message = with_bytes start message packet

  abbrev with_sum : List ℕ
  with_sum = with_bytes 10 checksum with_message

  abbrev ipv4_parts : List ℕ
  ipv4_parts = with_bytes 16 destination (with_bytes 12 source with_sum)

  sum_there : 10 + length checksum ≤ length with_message
  sum_there = omega (arith, after, two, there, length_kept start message packet there)

  sum_len : length with_sum ≡ length packet
  sum_len = length_kept 10 checksum with_message sum_there ∙ length_kept start message packet there

  room : 20 ≤ length with_sum
  room = omega (arith, after, there, sum_len)

  ipv4_parts_after : (n : ℕ) → 20 ≤ n → drop n ipv4_parts ≡ drop n with_message
  ipv4_parts_after n behind =
      both_after 12 16 4 source destination with_sum (omega arith) four four_too room n behind
      ∙ drop_after 10 checksum with_message sum_there n (omega (arith, behind, two))

  pub ipv4_parts_kept : start ≡ ipv4_header_len packet → IsIpv4Kept packet ipv4_parts
  ipv4_parts_kept is =
      record {
        front = record {
          len = both_len 12 16 4 source destination with_sum (omega arith) four four_too room ∙ sum_len;
          front = λ k within.
              both_before 12 16 4 source destination with_sum (omega arith) four four_too room k (omega (arith, within))
              ∙ index_before 10 checksum with_message sum_there k within
              ∙ index_before start message packet there k (omega (arith, after, within));
        };
        options = ap (take (ipv4_header_len packet - 20)) (ipv4_parts_after 20 (omega arith))
            ∙ range_before start message packet there 20 (ipv4_header_len packet - 20) (omega (arith, after, is));
      }

  pub ipv4_parts_source : slice_range ipv4_parts 12 16 ≡ source
  ipv4_parts_source = source_in 12 16 4 source destination with_sum (omega arith) four four_too room

  pub ipv4_parts_destination : slice_range ipv4_parts 16 20 ≡ destination
  ipv4_parts_destination = destination_in 12 16 4 source destination with_sum (omega arith) four four_too room

  pub ipv4_parts_message : drop start ipv4_parts ≡ message ++ drop (start + length message) packet
  ipv4_parts_message = ipv4_parts_after start after ∙ drop_here start message packet there

-- ---- the lengths of messages

number_by : (there : Bool) (place value : ℕ) (bytes : List ℕ) → there ≡ nat_le (place + 2) (length bytes)
    → length (if there then with_checksum place bytes value else bytes) ≡ length bytes
number_by false place value bytes test = refl
number_by true place value bytes test =
    let whole : place + 2 ≤ length bytes = grind (arith, nat_tests) in
    length_kept place (to_be_bytes w16 value) bytes whole

pub number_len : (place value : ℕ) (bytes : List ℕ) → length (with_number place value bytes) ≡ length bytes
number_len place value bytes = number_by (nat_le (place + 2) (length bytes)) place value bytes refl

pub ports_len : (source destination : Option ℕ) (message : List ℕ) → length (with_ports source destination message) ≡ length message
ports_len source destination message = number_len 2 _ (with_number 0 _ message) ∙ number_len 0 _ message

query_len : (is_a_query : Bool) (old new : ℕ) (identifier : Option ℕ) (message : List ℕ)
    → length (if is_a_query then translated_query old new identifier message else message) ≡ length message
query_len false old new identifier message = refl
query_len true old new identifier message = number_len 2 _ (with_number 4 _ message) ∙ number_len 4 _ message

query_or_other_len : (is_a_query : Bool) (old new : ℕ) (identifier : Option ℕ) (message : List ℕ)
    → length (if is_a_query then translated_query old new identifier message else with_updated_checksum old new message) ≡ length message
query_or_other_len false old new identifier message = number_len 2 _ message
query_or_other_len true old new identifier message = number_len 2 _ (with_number 4 _ message) ∙ number_len 4 _ message

pub translated_len : (proto : Proto) (old new : ℕ) (source destination : Option ℕ) (message : List ℕ)
    → length (translated_message proto old new source destination message) ≡ length message
translated_len protos.Udp old new source destination message =
    number_len 6 _ (with_ports source destination message) ∙ ports_len source destination message
translated_len protos.Tcp old new source destination message =
    number_len 16 _ (with_ports source destination message) ∙ ports_len source destination message
translated_len protos.Icmpv4 old new source destination message =
    query_len (is_query protos.Icmpv4 message) 0 0 (new_identifier protos.Icmpv4 source destination message) message
translated_len protos.Icmpv6 old new source destination message =
    query_or_other_len (is_query protos.Icmpv6 message) old new (new_identifier protos.Icmpv6 source destination message) message

pub part_len : (is_later_fragment : Bool) (proto : Option Proto) (old new : ℕ) (source destination : Option ℕ) (message : List ℕ)
    → length (translated_in is_later_fragment proto old new source destination message) ≡ length message
part_len is_later_fragment None old new source destination message = refl
part_len true (Some proto) old new source destination message = refl
part_len false (Some proto) old new source destination message = translated_len proto old new source destination message

-- ---- the reading of a translated IPv4 packet

pub ipv4_flow_message_len : (new : Ipv4Translation) (message packet : List ℕ)
    → length (ipv4_flow_message new message packet) ≡ length message
ipv4_flow_message_len new message packet =
    part_len (ipv4_is_later_fragment packet) (ipv4_proto packet) _ _ new.source_port new.destination_port message

-- the bytes of an accepted packet contain its header
header_by : (is_empty : Bool) (len header_len total_len : ℕ)
    → (if is_empty then Some (HeaderCutOff 1 0) else ipv4_refusal_by len header_len total_len) ≡ None
    → (20 ≤ header_len) × (header_len ≤ len)
unfolding ipv4_refusal_by
header_by true len header_len total_len accepted = absurd (cc accepted)
header_by false len header_len total_len accepted = (grind (arith, nat_tests), grind (arith, nat_tests))

quoted_header_by : (len header_len : ℕ) → first_of (
    refused_if (nat_lt len 20) (HeaderCutOff 20 len)
    ∷ refused_if (nat_lt header_len 20) (HeaderLength header_len)
    ∷ refused_if (nat_lt len header_len) (HeaderCutOff header_len len)
    ∷ []) ≡ None → (20 ≤ header_len) × (header_len ≤ len)
quoted_header_by len header_len accepted = (grind (arith, nat_tests), grind (arith, nat_tests))

pub ipv4_header_there : (is_quoted : Bool) (packet : List ℕ) → ipv4_headers_refusal is_quoted packet ≡ None → version packet ≡ 4
    → (20 ≤ ipv4_header_len packet) × (ipv4_header_len packet ≤ length packet)
ipv4_header_there true packet accepted is = quoted_header_by (length packet) (ipv4_header_len packet) accepted
ipv4_header_there false packet accepted is =
    header_by (length packet == 0) (length packet) (ipv4_header_len packet) (ip.total_len packet)
    (sym (ipv4_header_refusal_is packet is) ∙ (none_first (header_refusal packet) _ accepted).0)

-- the protocol of an accepted packet is accepted
pub ipv4_protocol_accepted : (is_quoted has_port : Bool) (packet : List ℕ) → ipv4_place_refusal is_quoted has_port packet ≡ None
    → (is_none (ipv4_proto packet) && (has_port || covers_ipv4_addresses (slice_index packet 9))) ≡ false
ipv4_protocol_accepted is_quoted has_port packet found =
    let after_ip = none_first (option_map Ip (ipv4_headers_refusal is_quoted packet)) _ found in
    let after_version = none_first (refused_if (not (version packet == 4)) OtherVersion) _ after_ip.1 in
    let after_route = none_first (refused_if (has_source_route packet) SourceRoute) _ after_version.1 in
    none_if (is_none (ipv4_proto packet) && (has_port || covers_ipv4_addresses (slice_index packet 9))) _ (none_first _ _ after_route.1).0

pub ipv4_flow_of : (is_quoted has_port : Bool) (packet : List ℕ) → ipv4_place_refusal is_quoted has_port packet ≡ None
    → IsIpv4Flow is_quoted packet
ipv4_flow_of is_quoted has_port packet found =
    let after_ip = none_first (option_map Ip (ipv4_headers_refusal is_quoted packet)) _ found in
    let after_version = none_first (refused_if (not (version packet == 4)) OtherVersion) _ after_ip.1 in
    let after_route = none_first (refused_if (has_source_route packet) SourceRoute) _ after_version.1 in
    let accepted : ipv4_headers_refusal is_quoted packet ≡ None = mapped_none Ip (ipv4_headers_refusal is_quoted packet) after_ip.0 in
    let is : version packet ≡ 4 = is_number (version packet) 4 (once (version packet == 4) (none_if _ OtherVersion after_version.0)) in
    let header = ipv4_header_there is_quoted packet accepted is in
    record {
      accepted = accepted;
      is_ipv4 = is;
      five_words = header.0;
      no_route = none_if (has_source_route packet) SourceRoute after_route.0;
      number = ipv4_accepts has_port (slice_range packet 12 16) (slice_range packet 16 20) (slice_index packet 9) (ipv4_proto packet) refl
          (ipv4_protocol_accepted is_quoted has_port packet found);
      there = header.1;
    }

-- the counted bytes of an accepted packet contain its header
within_by : (is_missing : Bool) (len header_len total_len : ℕ) → is_missing ≡ (total_len == 0) → header_len ≤ len
    → (if len == 0 then Some (HeaderCutOff 1 0) else ipv4_refusal_by len header_len total_len) ≡ None
    → header_len ≤ (if is_none (if is_missing then None else Some total_len) then len else total_len)
unfolding ipv4_refusal_by
within_by true len header_len total_len is there accepted = there
within_by false len header_len total_len is there accepted = grind (arith, nat_tests)

pub ipv4_within : (is_quoted : Bool) (packet : List ℕ) → IsIpv4Flow is_quoted packet
    → ipv4_header_len packet ≤ counted_len (is_quoted || lacks_len packet) packet
ipv4_within true packet flow = flow.there
ipv4_within false packet flow =
    let total : ℕ = ip.total_len packet in
    let accepted = sym (ipv4_header_refusal_is packet flow.is_ipv4) ∙ (none_first (header_refusal packet) _ flow.accepted).0 in
    let counts : counted_len (lacks_len packet) packet
    ≡ (if is_none (if total == 0 then None else Some total) then length packet else total) =
    ipv4_counted_len_is (lacks_len packet) packet flow.is_ipv4
    ∙ ap (λ missing. if missing then length packet else total) (ipv4_lacks_len_is packet flow.is_ipv4) in
    subst (λ n. ipv4_header_len packet ≤ n) (sym counts)
    (within_by (total == 0) (length packet) (ipv4_header_len packet) total refl flow.there accepted)

pub ipv4_read : (has_port : Bool) (new : Ipv4Translation) (packet changed message : List ℕ) (place : Place)
    → ipv4_place_refusal false has_port packet ≡ None
    → IsIpv4Place (message_in_ipv4 false packet) packet place
    → AreIpv4Addresses (ipv4_addresses new packet) → length message ≡ length (message_in_ipv4 false packet)
    → changed ≡ ipv4_with_message new message packet
    → IsReadWith packet changed (ipv4_between new packet) message
ipv4_read has_port new packet changed message place found at four same is =
    let flow : IsIpv4Flow false packet = ipv4_flow_of false has_port packet found in
    let source : List ℕ = (ipv4_addresses new packet).source in
    let destination : List ℕ = (ipv4_addresses new packet).destination in
    let n : ℕ = counted_len (lacks_len packet) packet in
    let start : ℕ = ipv4_header_len packet in
    let there : start + length message ≤ length packet =
    omega (arith, same, flow.there, length-drop start (take n packet), length-take n packet) in
    let between : List ℕ = with_bytes start message packet in
    let checksum : List ℕ = to_be_bytes w16 (updated_checksum_of (number 10 between) (sum_of_ipv4 (ipv4_header_of between))
    (sum_of_ipv4 (ipv4_addresses new packet))) in
    subst (λ changed. IsReadWith packet changed (ipv4_between new packet) message) (sym is)
    (ipv4_reading packet _ source destination message
    (ipv4_parts_kept start checksum source destination message packet flow.five_words refl four.source four.destination there refl) flow
    (ipv4_parts_source start checksum source destination message packet flow.five_words refl four.source four.destination there)
    (ipv4_parts_destination start checksum source destination message packet flow.five_words refl four.source four.destination there)
    (ipv4_parts_message start checksum source destination message packet flow.five_words refl four.source four.destination there)
    same (ipv4_within false packet flow))

-- a fact about a success that follows from three others
pub if_ok : {T E : Type 0} {P Q R S : Type 0} (result : Result T E) → IfOk result (λ value. P) → IfOk result (λ value. Q)
    → IfOk result (λ value. R)
    → (P → Q → R → S) → IfOk result (λ value. S)
if_ok (Ok value) p q r all = all p q r
if_ok (Err error) p q r all = p

-- ---- IPv6

pub ipv6_byte : (packet : List ℕ) (k : ℕ) → k < 40 → slice_index (ip.ipv6_header packet) k ≡ slice_index packet k
ipv6_byte packet k within = get_or-take 40 packet k 0 within

-- an accepted packet whose message comes after the headers that are skipped
pub record IsIpv6Flow (packet : List ℕ) : Type 0 where
  pub accepted : lax_refusal packet ≡ None
  pub is_ipv6 : version packet ≡ 6
  pub number : is_extension (ipv6_protocol packet) ≡ false
  pub there : ipv6_start packet ≤ length packet

-- a packet with the length, the first eight bytes and the skipped headers of another packet
pub record IsIpv6Kept (packet changed : List ℕ) : Type 0 where
  pub front : IsKept 8 packet changed
  pub headers : slice_range changed 40 (ipv6_start packet) ≡ slice_range packet 40 (ipv6_start packet)

-- the message begins after the IPv6 header, at an even place
pub ipv6_after : (packet : List ℕ) → 40 ≤ ipv6_start packet
ipv6_after packet = skip_len (suc (length packet)) (only_ipv6_header (slice_index packet 6)) packet

pub ipv6_even : (packet : List ℕ) → ipv6_start packet % 2 ≡ 0
ipv6_even packet = skip_even (suc (length packet)) (only_ipv6_header (slice_index packet 6)) packet refl

-- the errors of an IPv6 header
ipv6_header_refusal_is : (packet : List ℕ) → version packet ≡ 6
    → header_refusal packet ≡ (if length packet == 0 then Some (HeaderCutOff 1 0)
    else first_of (refused_if (nat_lt (length packet) 40) (HeaderCutOff 40 (length packet)) ∷ ip.jumbo_refusal packet ∷ []))
ipv6_header_refusal_is packet is =
    ap (λ v. if length packet == 0 then Some (HeaderCutOff 1 0) else if v == 4 then ip.ipv4_refusal packet
    else if v == 6 then ip.ipv6_refusal packet else Some (Version (version packet))) is

ipv6_header_by : (is_empty : Bool) (len : ℕ) (rule : Option IpError)
    → (if is_empty then Some (HeaderCutOff 1 0) else first_of (refused_if (nat_lt len 40) (HeaderCutOff 40 len) ∷ rule ∷ [])) ≡ None
    → (40 ≤ len) × (rule ≡ None)
ipv6_header_by true len rule accepted = absurd (cc accepted)
ipv6_header_by false len rule accepted =
    let after_len = none_first (refused_if (nat_lt len 40) (HeaderCutOff 40 len)) _ accepted in
    let test : nat_lt len 40 ≡ false = none_if (nat_lt len 40) _ after_len.0 in
    (grind (arith, nat_tests), (none_first rule [] after_len.1).0)

ipv6_header_accepted : (packet : List ℕ) → lax_refusal packet ≡ None → version packet ≡ 6
    → (40 ≤ length packet) × (ip.jumbo_refusal packet ≡ None)
ipv6_header_accepted packet accepted is =
    ipv6_header_by (length packet == 0) (length packet) (ip.jumbo_refusal packet)
    (sym (ipv6_header_refusal_is packet is) ∙ (none_first (header_refusal packet) _ accepted).0)

pub ipv6_header_there : (packet : List ℕ) → lax_refusal packet ≡ None → version packet ≡ 6 → 40 ≤ length packet
ipv6_header_there packet accepted is = (ipv6_header_accepted packet accepted is).0

ipv6_lacks_len_is : (packet : List ℕ) → version packet ≡ 6
    → lacks_len packet ≡ is_none (ip.ipv6_stated_len (ip.jumbo_len packet) (ip.payload_len packet) (ip.next_header packet))
ipv6_lacks_len_is packet is =
    ap (λ v. is_none (if v == 4 then ip.ipv4_stated_len packet
    else ip.ipv6_stated_len (ip.jumbo_len packet) (ip.payload_len packet) (ip.next_header packet))) is

ipv6_counted_len_is : (missing : Bool) (packet : List ℕ) → version packet ≡ 6
    → counted_len missing packet ≡ (if missing then length packet else 40 + unwrap_or (ip.jumbo_len packet) (ip.payload_len packet))
ipv6_counted_len_is missing packet is =
    ap (λ v. if missing then length packet else if v == 4 then ip.total_len packet
    else 40 + unwrap_or (ip.jumbo_len packet) (ip.payload_len packet)) is

counted_within : (missing : Bool) (len payload_len : ℕ) → 40 ≤ len → 40 ≤ (if missing then len else 40 + payload_len)
counted_within true len payload_len there = there
counted_within false len payload_len there = omega arith

-- the counted bytes contain the IPv6 header
ipv6_counted_there : (missing : Bool) (packet : List ℕ) → version packet ≡ 6 → 40 ≤ length packet → 40 ≤ length (counted missing packet)
ipv6_counted_there missing packet is there =
    omega (
      arith,
      there,
      length-take (counted_len missing packet) packet,
      ipv6_counted_len_is missing packet is,
      counted_within missing (length packet) (unwrap_or (ip.jumbo_len packet) (ip.payload_len packet)) there,
    )

-- ---- the jumbo payload length

-- hop-by-hop options that contain the length are skipped
options_skipped : (packet : List ℕ) → slice_index packet 6 ≡ 0 → ip.options_refusal (drop 40 packet) ≡ None
    → (extension_len 0 (drop 40 packet) ≤ ipv6_start packet - 40) × (8 ≤ length (drop 40 packet))
options_skipped packet number accepted =
    let rest : List ℕ = drop 40 packet in
    let e : ℕ = extension_len 0 rest in
    let lengths = two_rules (nat_lt (length rest) 8) (nat_lt (length rest) e) _ _ [] accepted in
    let eight : 8 ≤ length rest = not_below _ _ lengths.0 in
    let whole : e ≤ length rest = not_below _ _ lengths.1 in
    let first : SkippedHeaders = only_ipv6_header (slice_index packet 6) in
    let is : is_skipped first rest ≡ true =
    ap (λ number. is_skipped (only_ipv6_header number) rest) number
    ∙ ap (λ b. b && (nat_le e (length rest) && not false)) (at_least 8 (length rest) eight)
    ∙ ap (λ b. b && not false) (at_least e (length rest) whole) in
    let next : SkippedHeaders = with_next first (header_at (slice_index packet 6) rest) in
    let start : ipv6_start packet ≡ (skip (length packet) next packet).len =
    ap (λ skipped. skipped.len) (skip_more (length packet) first packet is) in
    let len : next.len ≡ 40 + e =
    ap (λ number. 40 + length (header_at number rest)) number ∙ ap (λ n. 40 + n) (length-take-le e rest whole) in
    (omega (arith, start, len, skip_len (length packet) next packet), eight)

-- the length in hop-by-hop options, and its errors, are kept
record AreOptionsKept (has : Bool) (packet changed : List ℕ) : Type 0 where
  pub len : (if has then ip.len_in_options (drop 40 changed) else None) ≡ (if has then ip.len_in_options (drop 40 packet) else None)
  pub refusal : (if has then ip.len_in_options_refusal (drop 40 changed) else None)
      ≡ (if has then ip.len_in_options_refusal (drop 40 packet) else None)

options_kept_by : (has : Bool) (packet changed : List ℕ) → IsIpv6Kept packet changed → has ≡ ip.has_len_in_options packet
    → (if has then ip.len_in_options_refusal (drop 40 packet) else None) ≡ None → AreOptionsKept has packet changed
options_kept_by false packet changed kept test accepted = record { len = refl; refusal = refl }
options_kept_by true packet changed kept test accepted =
    let rest : List ℕ = drop 40 packet in
    let rest_too : List ℕ = drop 40 changed in
    let number : slice_index packet 6 ≡ 0 =
    sym (ipv6_byte packet 6 (omega arith)) ∙ is_number (ip.next_header packet) 0 (rest_true (ip.payload_len packet == 0) _ (sym test)) in
    let within = options_skipped packet number (none_first (ip.options_refusal rest) _ accepted).0 in
    let k : ℕ = ipv6_start packet - 40 in
    let long : 8 ≤ k = omega (arith, within.0, least_len 0 rest) in
    let e : extension_len 0 rest_too ≡ extension_len 0 rest = len_alike k 0 rest_too rest (omega (arith, long)) kept.headers in
    let options : ip.options_at rest_too ≡ ip.options_at rest = header_alike k 0 rest_too rest long within.0 kept.headers in
    let len : length rest_too ≡ length rest = omega (arith, kept.front.len, length-drop 40 packet, length-drop 40 changed) in
    let by : ℕ → ℕ → List ℕ → Option IpError = λ len e options. first_of (
    first_of (
    refused_if (nat_lt len 8) (HeaderCutOff 48 (40 + len))
    ∷ refused_if (nat_lt len e) (HeaderCutOff (40 + e) (40 + len))
    ∷ [])
    ∷ ip.jumbo_len_refusal (jumbo_payload_len options)
    ∷ []) in
    record {
      len = ap jumbo_payload_len options;
      refusal = ap (λ len. by len (extension_len 0 rest_too) (ip.options_at rest_too)) len
          ∙ ap (λ e. by (length rest) e (ip.options_at rest_too)) e ∙ ap (by (length rest) (extension_len 0 rest)) options;
    }

-- the kept bytes state the same length, and the IPv6 header is accepted
pub record StatesAlike (packet changed : List ℕ) : Type 0 where
  pub is_ipv6 : version changed ≡ 6
  pub number : slice_index changed 6 ≡ slice_index packet 6
  pub byte : (k : ℕ) → k < 8 → slice_index (ip.ipv6_header changed) k ≡ slice_index (ip.ipv6_header packet) k
  pub jumbo : ip.jumbo_len changed ≡ ip.jumbo_len packet
  pub lacks : lacks_len changed ≡ lacks_len packet
  pub counts : (missing : Bool) → counted_len missing changed ≡ counted_len missing packet
  pub header : header_refusal changed ≡ None

pub states_alike : (packet changed : List ℕ) → IsIpv6Kept packet changed → lax_refusal packet ≡ None → version packet ≡ 6
    → StatesAlike packet changed
states_alike packet changed kept accepted is =
    let is_too : version changed ≡ 6 = ap (λ byte. byte / 16) (kept.front.front 0 (omega arith)) ∙ is in
    let header = ipv6_header_accepted packet accepted is in
    let byte : (k : ℕ) → k < 8 → slice_index (ip.ipv6_header changed) k ≡ slice_index (ip.ipv6_header packet) k = λ k before.
    ipv6_byte changed k (omega (arith, before)) ∙ kept.front.front k before ∙ sym (ipv6_byte packet k (omega (arith, before))) in
    let payload_len : ip.payload_len changed ≡ ip.payload_len packet = omega (arith, byte 4 (omega arith), byte 5 (omega arith)) in
    let next : ip.next_header changed ≡ ip.next_header packet = byte 6 (omega arith) in
    let has : ip.has_len_in_options changed ≡ ip.has_len_in_options packet =
    ap (λ len. (len == 0) && (ip.next_header changed == 0)) payload_len
    ∙ ap (λ number. (ip.payload_len packet == 0) && (number == 0)) next in
    let options : AreOptionsKept (ip.has_len_in_options packet) packet changed =
    options_kept_by (ip.has_len_in_options packet) packet changed kept refl header.1 in
    let jumbo : ip.jumbo_len changed ≡ ip.jumbo_len packet =
    ap (λ has. if has then ip.len_in_options (drop 40 changed) else None) has ∙ options.len in
    let rule : ip.jumbo_refusal changed ≡ None =
    ap (λ has. if has then ip.len_in_options_refusal (drop 40 changed) else None) has ∙ options.refusal ∙ header.1 in
    let by : ℕ → Option IpError → Option IpError = λ len rule.
    if len == 0 then Some (HeaderCutOff 1 0) else first_of (refused_if (nat_lt len 40) (HeaderCutOff 40 len) ∷ rule ∷ []) in
    record {
      is_ipv6 = is_too;
      number = kept.front.front 6 (omega arith);
      byte = byte;
      jumbo = jumbo;
      lacks = ipv6_lacks_len_is changed is_too
          ∙ ap (λ jumbo. is_none (ip.ipv6_stated_len jumbo (ip.payload_len changed) (ip.next_header changed))) jumbo
          ∙ ap (λ len. is_none (ip.ipv6_stated_len (ip.jumbo_len packet) len (ip.next_header changed))) payload_len
          ∙ ap (λ number. is_none (ip.ipv6_stated_len (ip.jumbo_len packet) (ip.payload_len packet) number)) next
          ∙ sym (ipv6_lacks_len_is packet is);
      counts = λ missing.
          ipv6_counted_len_is missing changed is_too
          ∙ ap (λ n. if missing then n else 40 + unwrap_or (ip.jumbo_len changed) (ip.payload_len changed)) kept.front.len
          ∙ ap (λ jumbo. if missing then length packet else 40 + unwrap_or jumbo (ip.payload_len changed)) jumbo
          ∙ ap (λ len. if missing then length packet else 40 + unwrap_or (ip.jumbo_len packet) len) payload_len
          ∙ sym (ipv6_counted_len_is missing packet is);
      header = ipv6_header_refusal_is changed is_too ∙ ap (λ len. by len (ip.jumbo_refusal changed)) kept.front.len
          ∙ ap (by (length packet)) (rule ∙ sym header.1)
          ∙ sym (ipv6_header_refusal_is packet is) ∙ (none_first (header_refusal packet) _ accepted).0;
    }

-- ---- the skipped headers

-- a result without an error is a value
ok_of : {T E : Type 0} (result : Result T E) → error_of result ≡ None → (value : T) × (result ≡ Ok value)
ok_of (Ok value) none = (value, refl)
ok_of (Err error) none = absurd (cc none)

-- the contents of the IPv6 header
first_is : (packet : List ℕ) → version packet ≡ 6 → first_headers packet ≡ ip.ipv6_headers (ip.is_jumbogram packet) (ip.ipv6_header packet)
first_is packet is =
    ap (λ v. if v == 4 then ip.ipv4_headers (ipv4_header_len packet) (ip.ipv4_header packet)
    else ip.ipv6_headers (ip.is_jumbogram packet) (ip.ipv6_header packet)) is

abbrev source_of : List ℕ → List ℕ
source_of packet = slice_range (ip.ipv6_header packet) 8 24

abbrev destination_of : List ℕ → Option (List ℕ)
destination_of packet = Some (slice_range (ip.ipv6_header packet) 24 40)

first_at : (packet : List ℕ) → version packet ≡ 6
    → AreAt (source_of packet) (destination_of packet) (only_ipv6_header (slice_index packet 6)) (first_headers packet)
first_at packet is =
    subst (AreAt (source_of packet) (destination_of packet) (only_ipv6_header (slice_index packet 6))) (sym (first_is packet is)) (record {
      addresses = refl;
      protocol = ap (λ n. record { 0 = n }) (ipv6_byte packet 6 (omega arith));
      len = refl;
      later = refl;
      may = refl;
    })

-- the contents of the IPv6 header of a changed packet
first_between : (packet changed : List ℕ) → version packet ≡ 6 → StatesAlike packet changed
    → first_headers changed ≡ between (Ipv6 (source_of changed) (destination_of changed)) (first_headers packet)
first_between packet changed is alike =
    let by : ℕ → ℕ → Bool → Headers = λ number payload_len is_jumbogram. record {
      addresses = Ipv6 (source_of changed) (destination_of changed);
      protocol = record { 0 = number };
      len = 40;
      is_fragment = false;
      is_later_fragment = false;
      may_be_extended = true;
      payload_len = payload_len;
      is_jumbogram = is_jumbogram;
    } in
    let payload_len : ip.payload_len changed ≡ ip.payload_len packet =
    omega (arith, alike.byte 4 (omega arith), alike.byte 5 (omega arith)) in
    first_is changed alike.is_ipv6
    ∙ ap (λ number. by number (ip.payload_len changed) (ip.is_jumbogram changed)) (alike.byte 6 (omega arith))
    ∙ ap (λ len. by (ip.next_header packet) len (ip.is_jumbogram changed)) payload_len
    ∙ ap (λ jumbo. by (ip.next_header packet) (ip.payload_len packet) (is_some jumbo)) alike.jumbo
    ∙ ap (between (Ipv6 (source_of changed) (destination_of changed))) (sym (first_is packet is))

-- the headers up to the message, also of a changed packet
pub ipv6_walked : (missing : Bool) (packet changed : List ℕ) (headers : Headers) → version packet ≡ 6 → 40 ≤ length packet
    → is_extension (ipv6_protocol packet) ≡ false → headers_of missing packet ≡ Ok headers
    → (len : length changed ≡ length packet) → slice_range changed 40 (ipv6_start packet) ≡ slice_range packet 40 (ipv6_start packet)
    → AreWalked (counted_len missing packet) packet changed (source_of packet) (source_of changed) (destination_of packet)
    (destination_of changed) len
    (suc (length (counted missing packet))) (suc (length packet)) (only_ipv6_header (slice_index packet 6)) (first_headers packet) headers
ipv6_walked missing packet changed headers is there number read len kept =
    let at = first_at packet is in
    let within : 40 ≤ length (counted missing packet) = ipv6_counted_there missing packet is there in
    walk (counted_len missing packet) packet changed (source_of packet) (source_of changed) (destination_of packet)
    (destination_of changed) len
    (suc (length (counted missing packet))) (suc (length packet)) (only_ipv6_header (slice_index packet 6)) (first_headers packet) headers
    at read (omega (arith, at.len, within)) (omega (arith, at.len)) (omega (arith, at.len)) number kept

-- the headers of the packet itself
pub ipv6_headers_are : (packet : List ℕ) (found : TransportInIp) (carries : Carries packet found) → version packet ≡ 6 → 40 ≤ length packet
    → is_extension (ipv6_protocol packet) ≡ false
    → AreAt (source_of packet) (destination_of packet) (skipped_headers packet) carries.headers
ipv6_headers_are packet found carries is there number =
    (ipv6_walked found.is_length_missing packet packet carries.headers is there number carries.read refl refl).at

-- the headers of a changed packet
pub changed_headers : (missing : Bool) (packet changed : List ℕ) (headers : Headers) → IsIpv6Kept packet changed
    → IsIpv6Flow packet
    → headers_of missing packet ≡ Ok headers
    → (headers_of missing changed ≡ Ok (between (Ipv6 (source_of changed) (destination_of changed)) headers))
    × (skipped_headers changed ≡ skipped_headers packet)
changed_headers missing packet changed headers kept flow read =
    let alike : StatesAlike packet changed = states_alike packet changed kept flow.accepted flow.is_ipv6 in
    let there : 40 ≤ length packet = ipv6_header_there packet flow.accepted flow.is_ipv6 in
    let walked = ipv6_walked missing packet changed headers flow.is_ipv6 there flow.number read kept.front.len kept.headers in
    let c : counted_len missing changed ≡ counted_len missing packet = alike.counts missing in
    let bytes : counted missing changed ≡ take (counted_len missing packet) changed = ap (λ n. take n changed) c in
    let len : length (counted missing changed) ≡ length (counted missing packet) =
    ap length bytes ∙ omega (
      arith,
      kept.front.len,
      length-take (counted_len missing packet) packet,
      length-take (counted_len missing packet) changed,
    ) in (
      ap (λ bytes. headers_to_transport (suc (length (counted missing changed))) (first_headers changed) bytes) bytes
          ∙ ap (λ n. headers_to_transport (suc n) (first_headers changed) (take (counted_len missing packet) changed)) len
          ∙ ap (λ first. headers_to_transport (suc (length (counted missing packet))) first (take (counted_len missing packet) changed))
          (first_between packet changed flow.is_ipv6 alike)
          ∙ walked.read,
      ap (λ n. skip (suc n) (only_ipv6_header (slice_index changed 6)) changed) kept.front.len
          ∙ ap (λ number. skip (suc (length packet)) (only_ipv6_header number) changed) alike.number ∙ walked.same,
    )

-- the headers of an accepted packet
accepted_headers : (packet : List ℕ) → lax_refusal packet ≡ None → (headers : Headers) × (headers_of (lacks_len packet) packet ≡ Ok headers)
accepted_headers packet accepted =
    ok_of (headers_of (lacks_len packet) packet)
    (none_first (error_of (headers_of (lacks_len packet) packet)) [] (none_first (header_refusal packet) _ accepted).1).0

-- the counted bytes contain the headers
pub ipv6_start_within : (packet : List ℕ) → lax_refusal packet ≡ None → version packet ≡ 6 → is_extension (ipv6_protocol packet) ≡ false
    → ipv6_start packet ≤ length (counted (lacks_len packet) packet)
ipv6_start_within packet accepted is number =
    let read = accepted_headers packet accepted in
    let walked = ipv6_walked (lacks_len packet) packet packet read.0 is (ipv6_header_there packet accepted is) number read.1 refl refl in
    omega (arith, walked.within, walked.at.len)

pub skipped_kept : (packet changed : List ℕ) → IsIpv6Kept packet changed → IsIpv6Flow packet
    → skipped_headers changed ≡ skipped_headers packet
skipped_kept packet changed kept flow =
    let read = accepted_headers packet flow.accepted in
    (changed_headers (lacks_len packet) packet changed read.0 kept flow read.1).1

pub start_kept : (packet changed : List ℕ) → IsIpv6Kept packet changed → IsIpv6Flow packet
    → ipv6_start changed ≡ ipv6_start packet
start_kept packet changed kept flow = ap (λ skipped. skipped.len) (skipped_kept packet changed kept flow)

pub protocol_kept : (packet changed : List ℕ) → IsIpv6Kept packet changed → IsIpv6Flow packet
    → ipv6_protocol changed ≡ ipv6_protocol packet
protocol_kept packet changed kept flow = ap (λ skipped. skipped.protocol.0) (skipped_kept packet changed kept flow)

pub ipv6_flow_kept : (packet changed : List ℕ) → IsIpv6Kept packet changed → IsIpv6Flow packet
    → IsIpv6Flow changed
ipv6_flow_kept packet changed kept flow =
    let alike : StatesAlike packet changed = states_alike packet changed kept flow.accepted flow.is_ipv6 in
    let read = accepted_headers packet flow.accepted in
    let headers = changed_headers (lacks_len packet) packet changed read.0 kept flow read.1 in
    record {
      accepted = ap (λ refusal. first_of (refusal ∷ error_of (headers_of (lacks_len changed) changed) ∷ [])) alike.header
          ∙ ap (λ missing. first_of (None ∷ error_of (headers_of missing changed) ∷ [])) alike.lacks
          ∙ ap (λ read. first_of (None ∷ error_of read ∷ [])) headers.0;
      is_ipv6 = alike.is_ipv6;
      number = ap is_extension (protocol_kept packet changed kept flow) ∙ flow.number;
      there = omega (arith, kept.front.len, start_kept packet changed kept flow, flow.there);
    }

pub ipv6_reading : (packet changed source destination message : List ℕ) → IsIpv6Kept packet changed
    → IsIpv6Flow packet
    → slice_range changed 8 24 ≡ source → slice_range changed 24 40 ≡ destination
    → drop (ipv6_start packet) changed ≡ message ++ drop (ipv6_start packet + length message) packet
    → length message ≡ length (drop (ipv6_start packet) (counted (lacks_len packet) packet))
    → ipv6_start packet ≤ counted_len (lacks_len packet) packet
    → IsReadWith packet changed (Ipv6 source (Some destination)) message
ipv6_reading packet changed source destination message kept flow source_is destination_is message_is same within =
    let flow_too : IsIpv6Flow changed = ipv6_flow_kept packet changed kept flow in
    let alike : StatesAlike packet changed = states_alike packet changed kept flow.accepted flow.is_ipv6 in
    let there : 40 ≤ length packet = ipv6_header_there packet flow.accepted flow.is_ipv6 in
    let addresses : Addresses = Ipv6 (source_of changed) (destination_of changed) in
    record {
      accepted = flow_too.accepted;
      found = λ was found carries missing carries_too missing_too.
          let missing_is : found.is_length_missing ≡ was.is_length_missing = missing_too ∙ alike.lacks ∙ sym missing in
          let headers_is : carries_too.headers ≡ between addresses carries.headers =
          read_once (headers_of found.is_length_missing changed) carries_too.headers (between addresses carries.headers) carries_too.read
          (ap (λ missing. headers_of missing changed) missing_is
          ∙ (changed_headers was.is_length_missing packet changed carries.headers kept flow carries.read).0) in
          let start : carries.headers.len ≡ ipv6_start packet = (ipv6_headers_are packet was carries flow.is_ipv6 there flow.number).len in
          let start_too : carries_too.headers.len ≡ ipv6_start packet = ap (λ headers. headers.len) headers_is ∙ start in
          record {
            addresses = carries_too.addresses ∙ ap (λ headers. headers.addresses) headers_is
                ∙ ap (λ source. Ipv6 source (Some (slice_range (ip.ipv6_header changed) 24 40)))
                (in_front 40 8 16 changed (omega arith) ∙ source_is)
                ∙ ap (λ destination. Ipv6 source (Some destination)) (in_front 40 24 16 changed (omega arith) ∙ destination_is);
            protocol = carries_too.protocol ∙ ap (λ headers. headers.protocol) headers_is ∙ sym carries.protocol;
            payload = carries_too.payload ∙ ap (λ len. drop len (counted found.is_length_missing changed)) start_too
                ∙ ap (λ missing. drop (ipv6_start packet) (counted missing changed)) (missing_too ∙ alike.lacks)
                ∙ ap (λ n. drop (ipv6_start packet) (take n changed)) (alike.counts (lacks_len packet))
                ∙ message_kept (ipv6_start packet) (counted_len (lacks_len packet) packet) packet changed message message_is same within
                flow.there;
            payload_offset = carries_too.payload_offset ∙ start_too ∙ sym (carries.payload_offset ∙ start);
            is_fragment = carries_too.is_fragment ∙ ap (λ headers. headers.is_fragment) headers_is ∙ sym carries.is_fragment;
            is_later_fragment = carries_too.is_later_fragment ∙ ap (λ headers. headers.is_later_fragment) headers_is
                ∙ sym carries.is_later_fragment;
            is_cut_off = carries_too.is_cut_off ∙ ap (λ missing. ip.is_cut_off missing changed) missing_is
                ∙ ap (λ n. nat_lt (length changed) n) (alike.counts was.is_length_missing)
                ∙ ap (λ len. nat_lt len (counted_len was.is_length_missing packet)) kept.front.len
                ∙ sym carries.is_cut_off;
            is_length_missing = missing_is;
          };
    }

-- ---- the place of a message

-- an accepted packet and the protocol after its headers
pub record IsIpv6Found (packet : List ℕ) (found : TransportInIp) (proto : Option Proto) : Type 0 where
  pub begins : BeginsWithIpv6Header packet
  pub carries : Carries packet found
  pub missing : found.is_length_missing ≡ lacks_len packet
  pub after : IsAfterHeaders packet found
  pub known : proto ≡ proto_over (by_value found.addresses) (ipv6_protocol packet)
  pub has_port : Bool
  pub accepted : (is_none proto && (has_port || covers_ipv6_addresses (ipv6_protocol packet))) ≡ false

pub ipv6_place_is : (packet : List ℕ) (found : TransportInIp) (proto : Option Proto) (place : Place) → IsIpv6Found packet found proto
    → place.start ≡ ipv6_start packet → place.end ≡ place.start + length found.payload.now → place.proto ≡ proto
    → place.is_later_fragment ≡ ipv6_is_later_fragment packet → IsIpv6Place packet place
ipv6_place_is packet found proto place at start end is later =
    let known : proto ≡ proto_over (Ipv6 [] None) (ipv6_protocol packet) =
    at.known ∙ ap (λ addresses. proto_over addresses (ipv6_protocol packet))
    (over_ipv6_addresses packet found at.after at.begins.is_version_6) in
    let headers = ipv6_headers_are packet found at.carries at.begins.is_version_6 at.begins.whole
    (ipv6_accepts at.has_port [] None (ipv6_protocol packet) proto known at.accepted) in
    let len : at.carries.headers.len ≡ place.start = headers.len ∙ sym start in
    record {
      is_ipv6 = at.begins.is_version_6;
      start = start;
      message = ap (slice_range packet place.start) end ∙ message_range place.start packet found at.carries len at.missing
          ∙ ap (λ n. counted_after false n packet) start;
      header = omega (arith, start, ipv6_after packet);
      even = ap (λ n. n % 2) start ∙ ipv6_even packet;
      ordered = omega (arith, end);
      there = omega (
        arith,
        end,
        len,
        ap length at.carries.payload,
        length-drop at.carries.headers.len (counted found.is_length_missing packet),
        at.carries.within,
        length-take (counted_len found.is_length_missing packet) packet,
      );
      proto = is ∙ known;
      later = later;
    }

-- ---- a translated IPv6 packet

module _ (start : ℕ) (source destination message packet : List ℕ) (after : 40 ≤ start) (sixteen : length source ≡ 16)
    (sixteen_too : length destination ≡ 16) (there : start + length message ≤ length packet) where
  abbrev ipv6_message_in : List ℕ
  ipv6_message_in = with_bytes start message packet

  abbrev ipv6_parts : List ℕ
  ipv6_parts = with_bytes 24 destination (with_bytes 8 source ipv6_message_in)

  ipv6_room : 40 ≤ length ipv6_message_in
  ipv6_room = omega (arith, after, there, length_kept start message packet there)

  ipv6_parts_after : (n : ℕ) → 40 ≤ n → drop n ipv6_parts ≡ drop n ipv6_message_in
  ipv6_parts_after = both_after 8 24 16 source destination ipv6_message_in (omega arith) sixteen sixteen_too ipv6_room

  pub ipv6_parts_kept : start ≡ ipv6_start packet → IsIpv6Kept packet ipv6_parts
  ipv6_parts_kept is =
      record {
        front = record {
          len = both_len 8 24 16 source destination ipv6_message_in (omega arith) sixteen sixteen_too ipv6_room
              ∙ length_kept start message packet there;
          front = λ k within.
              both_before 8 24 16 source destination ipv6_message_in (omega arith) sixteen sixteen_too ipv6_room k within
              ∙ index_before start message packet there k (omega (arith, after, within));
        };
        headers = ap (take (ipv6_start packet - 40)) (ipv6_parts_after 40 (omega arith))
            ∙ range_before start message packet there 40 (ipv6_start packet - 40) (omega (arith, after, is));
      }

  pub ipv6_parts_source : slice_range ipv6_parts 8 24 ≡ source
  ipv6_parts_source = source_in 8 24 16 source destination ipv6_message_in (omega arith) sixteen sixteen_too ipv6_room

  pub ipv6_parts_destination : slice_range ipv6_parts 24 40 ≡ destination
  ipv6_parts_destination = destination_in 8 24 16 source destination ipv6_message_in (omega arith) sixteen sixteen_too ipv6_room

  pub ipv6_parts_message : drop start ipv6_parts ≡ message ++ drop (start + length message) packet
  ipv6_parts_message = ipv6_parts_after start after ∙ drop_here start message packet there

pub ipv6_flow_message_len : (new : Ipv6Translation) (packet : List ℕ)
    → length (ipv6_flow_message new packet) ≡ length (message_in_ipv6 packet)
ipv6_flow_message_len new packet =
    part_len (ipv6_is_later_fragment packet) (ipv6_proto packet) _ _ new.source_port new.destination_port (message_in_ipv6 packet)

-- the protocol of an accepted packet is accepted
pub ipv6_protocol_accepted : (has_port : Bool) (packet : List ℕ) → ipv6_place_refusal has_port packet ≡ None
    → (is_none (ipv6_proto packet) && (has_port || covers_ipv6_addresses (ipv6_protocol packet))) ≡ false
ipv6_protocol_accepted has_port packet found =
    let after_ip = none_first (option_map Ip (lax_refusal packet)) _ found in
    let after_version = none_first (refused_if (not (version packet == 6)) OtherVersion) _ after_ip.1 in
    none_if (is_none (ipv6_proto packet) && (has_port || covers_ipv6_addresses (ipv6_protocol packet))) _
    (none_first _ _ after_version.1).0

pub ipv6_flow_of : (has_port : Bool) (packet : List ℕ) → ipv6_place_refusal has_port packet ≡ None → IsIpv6Flow packet
ipv6_flow_of has_port packet found =
    let after_ip = none_first (option_map Ip (lax_refusal packet)) _ found in
    let after_version = none_first (refused_if (not (version packet == 6)) OtherVersion) _ after_ip.1 in
    let accepted : lax_refusal packet ≡ None = mapped_none Ip (lax_refusal packet) after_ip.0 in
    let is : version packet ≡ 6 = is_number (version packet) 6 (once (version packet == 6) (none_if _ OtherVersion after_version.0)) in
    let number : is_extension (ipv6_protocol packet) ≡ false =
    ipv6_accepts has_port (slice_range packet 8 24) (Some (slice_range packet 24 40)) (ipv6_protocol packet) (ipv6_proto packet) refl
    (ipv6_protocol_accepted has_port packet found) in
    record {
      accepted = accepted;
      is_ipv6 = is;
      number = number;
      there = omega (arith, ipv6_start_within packet accepted is number, length-take (counted_len (lacks_len packet) packet) packet);
    }

-- the counted bytes contain the headers
pub ipv6_within : (packet : List ℕ) → IsIpv6Flow packet
    → ipv6_start packet ≤ counted_len (lacks_len packet) packet
ipv6_within packet flow =
    omega (
      arith,
      ipv6_start_within packet flow.accepted flow.is_ipv6 flow.number,
      length-take (counted_len (lacks_len packet) packet) packet,
    )

pub ipv6_read : (has_port : Bool) (new : Ipv6Translation) (packet changed message : List ℕ) (place : Place)
    → ipv6_place_refusal has_port packet ≡ None → IsIpv6Place packet place
    → AreIpv6Addresses (ipv6_addresses new packet) → length message ≡ length (message_in_ipv6 packet)
    → changed ≡ ipv6_with_message new message packet
    → IsReadWith packet changed (ipv6_between new packet) message
ipv6_read has_port new packet changed message place found at four same is =
    let flow : IsIpv6Flow packet = ipv6_flow_of has_port packet found in
    let source : List ℕ = (ipv6_addresses new packet).source in
    let destination : List ℕ = (ipv6_addresses new packet).destination in
    let n : ℕ = counted_len (lacks_len packet) packet in
    let start : ℕ = ipv6_start packet in
    let after : 40 ≤ start = omega (arith, at.start, at.header) in
    let there : start + length message ≤ length packet =
    omega (arith, same, flow.there, length-drop start (take n packet), length-take n packet) in
    subst (λ changed. IsReadWith packet changed (ipv6_between new packet) message) (sym is)
    (ipv6_reading packet _ source destination message
    (ipv6_parts_kept start source destination message packet after four.source four.destination there refl) flow
    (ipv6_parts_source start source destination message packet after four.source four.destination there)
    (ipv6_parts_destination start source destination message packet after four.source four.destination there)
    (ipv6_parts_message start source destination message packet after four.source four.destination there)
    same (ipv6_within packet flow))
