-- The bytes after the transport header of a packet are the bytes after the transport header of its translation.
use Rattle.std.proofs.Common.{◌≡◌, ◌≢◌, ℕ, suc, ◌+◌, ◌==◌, ◌≤◌, Bool, true, false, if◌then◌else◌, List, [], ◌∷◌, ◌++◌, length, drop, take, slice_index, Option, None, Result, Ok, Err, refl, sym, subst, ap, ◌∙◌, append_assoc, length-append, length-drop, length-take, arith}
use Rattle.std.specs.Prelude.{IfOk, nat_lt, not}
use Rattle.std.specs.Int.{to_be_bytes, w16}
use Rattle.std.specs.Option.{option_map, unwrap_or}
use Rattle.std.proofs.Math.Seq.{drop-append-add}
use Rattle.std.proofs.lemmas.List.{take_at}
use Rattle.std.proofs.lemmas.Slice.{drop-append-drop}
use Rattle.ip_part.specs.Ip.{error_of, ipv4_header, ipv6_header}
use Rattle.net_base.specs.IpHeaders.{ipv4_is_fragment}
use Rattle.net_base.specs.IpNumbers.{icmpv4_number, icmpv6_number, tcp_number, udp_number}
use Rattle.net_base.specs.Refusals.{RefusesExactly, refused_if}
use Rattle.net_base.specs.StoredChecksum.{with_checksum}
use Rattle.net_base.proofs.StoredChecksumLemmas.{length-with_checksum}
use Rattle.ip_translation.specs.EchoMessages.{new_checksum, translated_echo, type_over_ipv4, type_over_ipv6, with_type}
use Rattle.ip_translation.specs.ErrorsToIpv4.{error_without_checksum as error_over_ipv4}
use Rattle.ip_translation.specs.ErrorsToIpv6.{error_without_checksum as error_over_ipv6}
use Rattle.ip_translation.specs.FragmentsToIpv6 as parts
use Rattle.ip_translation.specs.Fragments.{is_later, is_part}
use Rattle.ip_translation.specs.HeadersToIpv4 as back
use Rattle.ip_translation.specs.HeadersToIpv6 as headers
use Rattle.ip_translation.specs.PacketsToIpv4 as ipv4
use Rattle.ip_translation.specs.PacketsToIpv6 as ipv6
use Rattle.ip_translation.specs.Payloads.{IsIpv4PayloadKept, IsIpv6PayloadKept, IsKeptAfter, transport_header_len}
use Rattle.ip_translation.specs.SkippedHeaders.{unless_err}
use Rattle.ip_translation.specs.declared.fragment_fields.FragmentFields.{FragmentFields}
use Rattle.ip_translation.specs.declared.packet_translation_error.PacketTranslationError.{PacketTranslationError}
use Rattle.ip_translation.specs.declared.packet_translation_error.PacketTranslationError.TheVariants.{Header, IcmpFragment, NoIpv4Header, NoIpv6Header, Space}
use Rattle.ip_translation.specs.declared.prefixes.Prefixes.{Prefixes}
use Rattle.word_sum.specs.UpdatedChecksum.{updated_checksum_of, updated_udp_checksum_of}
use Rattle.ip_translation.proofs.DirectLemmas.{flags_of}
use Rattle.ip_translation.proofs.EchoBackLemmas.{echo_len}
use Rattle.ip_translation.proofs.Ipv4PacketBackLemmas as over_ipv4
use Rattle.ip_translation.proofs.Ipv6PacketBackLemmas as over_ipv6
use Rattle.ip_translation.proofs.PacketBackLemmas.{AllNone, IsLong, all_none, at_most, chosen, different, equal, first_rule, not_refused, one_of}

-- ---- the message

-- the bytes after a stored checksum are the same
kept_after : (place len : ℕ) (bytes : List ℕ) (checksum : ℕ) → place + 2 ≤ len → place ≤ length bytes
    → drop len (with_checksum place bytes checksum) ≡ drop len bytes
kept_after place len bytes checksum past there =
    ap (drop len) (sym (append_assoc (take place bytes) (to_be_bytes w16 checksum) (drop (place + 2) bytes)))
    ∙ drop-append-drop (place + 2) bytes (take place bytes ++ to_be_bytes w16 checksum) len past
    (omega (arith, there, length-append (take place bytes) (to_be_bytes w16 checksum), length-take place bytes))

-- the bytes after a replaced type are the same
kept_after_type : (len : ℕ) (message : List ℕ) (type : ℕ) → drop (suc len) (with_type type message) ≡ drop (suc len) message
kept_after_type len [] type = refl
kept_after_type len (byte ∷ message) type = refl

type_len : (message : List ℕ) (type : ℕ) → length (with_type type message) ≡ length message
type_len [] type = refl
type_len (byte ∷ message) type = refl

-- the bytes after the header of a translated echo message are the same
kept_after_echo : (type : ℕ) (old new message : List ℕ) → 8 ≤ length message
    → drop 8 (translated_echo type old new message) ≡ drop 8 message
kept_after_echo type old new message there =
    kept_after 2 8 (with_type type message) (new_checksum type old new message) (omega arith) (omega (arith, there, type_len message type))
    ∙ kept_after_type 7 message type

-- the bytes after the transport header of one of four messages are the same
kept_by : (icmp udp tcp : Bool) (message echo packet segment : List ℕ) → (icmp ≡ true → drop 8 echo ≡ drop 8 message)
    → (udp ≡ true → drop 8 packet ≡ drop 8 message) → (tcp ≡ true → drop 20 segment ≡ drop 20 message)
    → drop (if icmp then 8 else if udp then 8 else if tcp then 20 else 0) (one_of icmp udp tcp echo packet segment message)
    ≡ drop (if icmp then 8 else if udp then 8 else if tcp then 20 else 0) message
kept_by true udp tcp message echo packet segment is_echo is_packet is_segment = is_echo refl
kept_by false true tcp message echo packet segment is_echo is_packet is_segment = is_packet refl
kept_by false false true message echo packet segment is_echo is_packet is_segment = is_segment refl
kept_by false false false message echo packet segment is_echo is_packet is_segment = refl

-- a message of at least the length of its header: its bytes after the header and its length are the same after the translation
pub record IsKept (icmp_number protocol : ℕ) (message translated : List ℕ) : Type 0 where
  pub payload : drop (transport_header_len icmp_number protocol) translated ≡ drop (transport_header_len icmp_number protocol) message
  pub len : length translated ≡ length message

message_kept : (icmp_number protocol type udp_checksum tcp_checksum : ℕ) (old new message : List ℕ) → IsLong icmp_number protocol message
    → IsKept icmp_number protocol message (one_of (protocol == icmp_number) (protocol == udp_number) (protocol == tcp_number)
    (translated_echo type old new message) (with_checksum 6 message udp_checksum) (with_checksum 16 message tcp_checksum) message)
message_kept icmp_number protocol type udp_checksum tcp_checksum old new message long = record {
  payload = kept_by (protocol == icmp_number) (protocol == udp_number) (protocol == tcp_number) message
      (translated_echo type old new message) (with_checksum 6 message udp_checksum) (with_checksum 16 message tcp_checksum)
      (λ is. kept_after_echo type old new message (long.icmp (equal protocol icmp_number is)))
      (λ is. kept_after 6 8 message udp_checksum (omega arith) (omega (arith, long.udp (equal protocol udp_number is))))
      (λ is. kept_after 16 20 message tcp_checksum (omega arith) (omega (arith, long.tcp (equal protocol tcp_number is))));
  len = chosen (λ part. length part ≡ length message) (protocol == icmp_number) (protocol == udp_number) (protocol == tcp_number)
      (translated_echo type old new message) (with_checksum 6 message udp_checksum) (with_checksum 16 message tcp_checksum) message
      (λ is. echo_len type old new message (omega (arith, long.icmp (equal protocol icmp_number is))))
      (λ is. length-with_checksum 6 message udp_checksum (omega (arith, long.udp (equal protocol udp_number is))))
      (λ is. length-with_checksum 16 message tcp_checksum (omega (arith, long.tcp (equal protocol tcp_number is))))
      refl;
}

-- ---- the packet

-- A packet that consists of headers and a message is written to the front of a buffer.
record IsWritten (headers_len len : ℕ) (front part message old new : List ℕ) : Type 0 where
  pub bytes : new ≡ (front ++ part) ++ drop len old
  pub same_len : length new ≡ length old
  pub room : headers_len + length message ≤ length old
  pub counted : len ≡ headers_len + length message
  pub part_len : length part ≡ length message

kept_in : (headers_len len count : ℕ) (front part message old new : List ℕ) → IsWritten headers_len len front part message old new
    → drop count part ≡ drop count message → IsKeptAfter count headers_len message (take len new)
kept_in headers_len len count front part message old new is kept =
    let sum : length new ≡ length ((front ++ part) ++ drop len old) = ap length is.bytes in
    let whole : length (front ++ part) ≡ len = omega (
      arith,
      sum,
      is.same_len,
      is.room,
      is.counted,
      length-append (front ++ part) (drop len old),
      length-drop len old,
    ) in
    let front_len : length front ≡ headers_len = omega (arith, whole, is.counted, is.part_len, length-append front part) in
    ap (λ bytes. drop (headers_len + count) (take len bytes)) is.bytes
    ∙ ap (drop (headers_len + count)) (take_at (front ++ part) (drop len old) len whole)
    ∙ ap (λ len. drop (len + count) (front ++ part)) (sym front_len)
    ∙ drop-append-add front part count
    ∙ kept

-- there is room for a packet that is not refused
has_room : (len room : ℕ) → refused_if (nat_lt room len) (Space len room) ≡ None → len ≤ room
has_room len room none = at_most len room (not_refused (nat_lt room len) (Space len room) none)

-- ---- from IPv4

-- the part of a message in an accepted first fragment
part_is_long : (protocol : ℕ) (message : List ℕ) → protocol ≢ icmpv4_number → parts.first_part_refusal protocol message ≡ None
    → IsLong icmpv4_number protocol message
part_is_long protocol message other none = record {
  icmp = λ is. absurd (other is);
  udp = λ is.
      let udp : parts.first_part_refusal udp_number message ≡ None =
      subst (λ protocol. parts.first_part_refusal protocol message ≡ None) is none in
      let long : ipv6.header_len_refusal 8 message ≡ None = first_rule _ _ udp in
      at_most 8 (length message) (not_refused _ _ long);
  tcp = λ is.
      let long : ipv6.header_len_refusal 20 message ≡ None =
      subst (λ protocol. parts.first_part_refusal protocol message ≡ None) is none in
      at_most 20 (length message) (not_refused _ _ long);
}

module _ (prefixes : Prefixes) (packet : List ℕ) (len : ℕ) (old new : List ℕ)
    (none : parts.packet_refusal prefixes packet (length old) ≡ None)
    (counted : len ≡ parts.len_with (ipv4_header packet) prefixes (ipv6.message_of packet))
    (is : new ≡ parts.translated_packet prefixes packet ++ drop len old) (same_len : length new ≡ length old) where
  abbrev pub header : List ℕ
  header = ipv4_header packet

  abbrev pub message : List ℕ
  message = ipv6.message_of packet

  abbrev pub protocol : ℕ
  protocol = headers.protocol header

  whole_kept : ipv4_is_fragment header ≡ false → ipv6.is_icmp_error protocol message ≡ false
      → IsKeptAfter (transport_header_len icmpv4_number protocol) 40 message (take len new)
  whole_kept whole no_error =
      let refusal : ipv6.refusal_of protocol prefixes message (length old) ≡ None =
      (over_ipv4.accepted prefixes packet (length old) none whole).message in
      let other : ipv6.other_refusal protocol message (length old) ≡ None =
      sym (ap (λ test. if test then ipv6.error_packet_refusal prefixes message (length old)
      else ipv6.other_refusal protocol message (length old)) no_error)
      ∙ refusal in
      let rules = all_none (ipv6.message_refusal protocol message ∷ ipv6.space_refusal (length message) (length old) ∷ []) other in
      let kept : IsKept icmpv4_number protocol message (ipv6.updated_message prefixes header message) =
      message_kept icmpv4_number protocol (unwrap_or (type_over_ipv6 (slice_index message 0)) (slice_index message 0))
      (ipv6.new_udp_checksum prefixes header message) (ipv6.new_tcp_checksum prefixes header message) []
      (headers.new_pseudo_header prefixes header icmpv6_number (length message)) message
      (over_ipv4.is_long prefixes protocol message (length old) refusal no_error) in
      kept_in 40 len (transport_header_len icmpv4_number protocol) (headers.translated_header prefixes header)
      (ipv6.updated_message prefixes header message) message old new
      (record {
        bytes = is
            ∙ ap (λ test. (if test then parts.translated_part prefixes header message else ipv6.translation_of header prefixes message)
            ++ drop len old) whole
            ∙ ap (λ test. (if test then ipv6.error_packet header prefixes message
            else headers.translated_header prefixes header ++ ipv6.updated_message prefixes header message) ++ drop len old) no_error;
        same_len = same_len;
        room = has_room (40 + length message) (length old) rules.1.0;
        counted = counted
            ∙ ap (λ test. if test then parts.headers_len + length message else ipv6.translated_len header prefixes message) whole
            ∙ ap (λ test. 40 + (if test then length (error_over_ipv6 prefixes message) else length message)) no_error;
        part_len = kept.len;
      })
      kept.payload

  part_bytes : ipv4_is_fragment header ≡ true → new ≡ parts.translated_part prefixes header message ++ drop len old
  part_bytes part =
      is
      ∙ ap (λ test. (if test then parts.translated_part prefixes header message else ipv6.translation_of header prefixes message)
      ++ drop len old) part

  part_counted : ipv4_is_fragment header ≡ true → len ≡ 48 + length message
  part_counted part =
      counted ∙ ap (λ test. if test then parts.headers_len + length message else ipv6.translated_len header prefixes message) part

  -- the rules of a fragment
  part_rules : ipv4_is_fragment header ≡ true → parts.message_refusal header message (length old) ≡ None
  part_rules part =
      let rules = all_none (refused_if (not (ipv6.begins_with_header packet)) NoIpv4Header
      ∷ parts.refusal_with header prefixes packet (length old) ∷ []) none in
      let refusal : parts.part_refusal header prefixes packet (length old) ≡ None =
      sym (ap (λ test. if test then parts.part_refusal header prefixes packet (length old)
      else ipv6.refusal_after header prefixes packet (length old)) part)
      ∙ rules.1.0 in
      (all_none (option_map Header (headers.any_header_refusal prefixes header) ∷ ipv6.cut_off_refusal header (length packet)
      ∷ parts.message_refusal header message (length old) ∷ []) refusal).1.1.0

  first_kept : ipv4_is_fragment header ≡ true → parts.is_later header ≡ false
      → IsKeptAfter (transport_header_len icmpv4_number protocol) 48 message (take len new)
  first_kept part first =
      let rules = all_none (refused_if (protocol == icmpv4_number) IcmpFragment
      ∷ (if parts.is_later header then parts.space_refusal (length message) (length old)
      else parts.first_refusal protocol message (length old)) ∷ []) (part_rules part) in
      let refusal : parts.first_refusal protocol message (length old) ≡ None =
      sym (ap (λ test. if test then parts.space_refusal (length message) (length old)
      else parts.first_refusal protocol message (length old)) first)
      ∙ rules.1.0 in
      let both = all_none (parts.first_part_refusal protocol message ∷ parts.space_refusal (length message) (length old) ∷ []) refusal in
      let kept : IsKept icmpv4_number protocol message (ipv6.updated_message prefixes header message) =
      message_kept icmpv4_number protocol (unwrap_or (type_over_ipv6 (slice_index message 0)) (slice_index message 0))
      (ipv6.new_udp_checksum prefixes header message) (ipv6.new_tcp_checksum prefixes header message) []
      (headers.new_pseudo_header prefixes header icmpv6_number (length message)) message
      (part_is_long protocol message
      (different protocol icmpv4_number (not_refused (protocol == icmpv4_number) IcmpFragment rules.0)) both.0) in
      kept_in 48 len (transport_header_len icmpv4_number protocol) (parts.part_headers prefixes header)
      (ipv6.updated_message prefixes header message) message old new
      (record {
        bytes = part_bytes part
            ∙ ap (λ test. (parts.part_headers prefixes header
            ++ (if test then message else ipv6.updated_message prefixes header message)) ++ drop len old) first;
        same_len = same_len;
        room = has_room (48 + length message) (length old) both.1.0;
        counted = part_counted part;
        part_len = kept.len;
      })
      kept.payload

  later_kept : ipv4_is_fragment header ≡ true → parts.is_later header ≡ true → IsKeptAfter 0 48 message (take len new)
  later_kept part later =
      let rules = all_none (refused_if (protocol == icmpv4_number) IcmpFragment
      ∷ (if parts.is_later header then parts.space_refusal (length message) (length old)
      else parts.first_refusal protocol message (length old)) ∷ []) (part_rules part) in
      let refusal : parts.space_refusal (length message) (length old) ≡ None =
      sym (ap (λ test. if test then parts.space_refusal (length message) (length old)
      else parts.first_refusal protocol message (length old)) later)
      ∙ rules.1.0 in
      kept_in 48 len 0 (parts.part_headers prefixes header) message message old new
      (record {
        bytes = part_bytes part
            ∙ ap (λ test. (parts.part_headers prefixes header
            ++ (if test then message else ipv6.updated_message prefixes header message)) ++ drop len old) later;
        same_len = same_len;
        room = has_room (48 + length message) (length old) refusal;
        counted = part_counted part;
        part_len = refl;
      })
      refl

-- the payload of an IPv4 packet is kept
pub ipv4_payload_kept : (result : Result ℕ PacketTranslationError) (prefixes : Prefixes) (packet old new : List ℕ)
    → RefusesExactly result (parts.packet_refusal prefixes packet (length old))
    → IfOk result (λ len. len ≡ parts.len_with (ipv4_header packet) prefixes (ipv6.message_of packet))
    → IfOk result (λ len. new ≡ parts.translated_packet prefixes packet ++ drop len old)
    → length new ≡ length old
    → IfOk result (λ len. IsIpv4PayloadKept packet (take len new))
ipv4_payload_kept (Ok len) prefixes packet old new none counted is same_len = record {
  whole = whole_kept prefixes packet len old new none counted is same_len;
  first = first_kept prefixes packet len old new none counted is same_len;
  later = later_kept prefixes packet len old new none counted is same_len;
}
ipv4_payload_kept (Err error) prefixes packet old new refused counted is same_len = tt

-- ---- from IPv6

-- the part of a message in an accepted first fragment
direct_part_is_long : (number : ℕ) (message : List ℕ) → number ≢ icmpv6_number → ipv4.message_refusal number message ≡ None
    → IsLong icmpv6_number number message
direct_part_is_long number message other none = record {
  icmp = λ is. absurd (other is);
  udp = λ is.
      let udp : ipv4.message_refusal udp_number message ≡ None =
      subst (λ number. ipv4.message_refusal number message ≡ None) is none in
      let long : ipv6.header_len_refusal 8 message ≡ None = first_rule _ _ udp in
      at_most 8 (length message) (not_refused _ _ long);
  tcp = λ is.
      let long : ipv6.header_len_refusal 20 message ≡ None =
      subst (λ number. ipv4.message_refusal number message ≡ None) is none in
      at_most 20 (length message) (not_refused _ _ long);
}

module _ (prefixes : Prefixes) (packet : List ℕ) (identification len : ℕ) (old new : List ℕ)
    (none : ipv4.packet_refusal prefixes packet (length old) ≡ None)
    (counted : len ≡ ipv4.direct_len (ipv4.direct_header packet) prefixes (ipv4.fields_of identification packet).flags_and_offset
    (ipv4.message_of packet))
    (is : new ≡ ipv4.translated_packet prefixes identification packet ++ drop len old) (same_len : length new ≡ length old) where
  abbrev pub direct : List ℕ
  direct = ipv4.direct_header packet

  abbrev pub message_in : List ℕ
  message_in = ipv4.message_of packet

  abbrev pub number : ℕ
  number = back.next_header direct

  abbrev pub payload : List ℕ
  payload = ipv4.payload_of packet

  abbrev pub flags : Option ℕ
  flags = ipv4.flags_in (ipv6_header packet) payload

  abbrev pub fields : FragmentFields
  fields = ipv4.fields_of identification packet

  flags_same : fields.flags_and_offset ≡ flags
  flags_same = flags_of (unless_err (ipv4.skipped_in (ipv6_header packet) payload)).fragment identification

  -- the rules of the packet without its extension headers
  direct_rules : ipv4.direct_refusal direct prefixes flags message_in (length old) ≡ None
  direct_rules =
      let rules = all_none (refused_if (not (ipv4.begins_with_header packet)) NoIpv6Header
      ∷ ipv4.cut_off_refusal (ipv6_header packet) (length packet)
      ∷ ipv4.payload_refusal (ipv6_header packet) prefixes payload (length old) ∷ []) none in
      (all_none (error_of (ipv4.skipped_in (ipv6_header packet) payload)
      ∷ ipv4.direct_refusal direct prefixes flags message_in (length old) ∷ []) rules.1.1.0).1.0

  -- a message that is no ICMPv6 error
  other_kept : (front : List ℕ) → IsLong icmpv6_number number message_in
      → new ≡ (front ++ ipv4.updated_message prefixes direct message_in) ++ drop len old
      → len ≡ 20 + length message_in → ipv4.space_refusal (length message_in) (length old) ≡ None
      → IsKeptAfter (transport_header_len icmpv6_number number) 20 message_in (take len new)
  other_kept front long bytes counted_by none_by =
      let kept : IsKept icmpv6_number number message_in (ipv4.updated_message prefixes direct message_in) =
      message_kept icmpv6_number number (unwrap_or (type_over_ipv4 (slice_index message_in 0)) (slice_index message_in 0))
      (updated_udp_checksum_of (ipv6.udp_checksum message_in) (back.removed_addresses direct) (back.added_addresses prefixes direct))
      (updated_checksum_of (ipv6.tcp_checksum message_in) (back.removed_addresses direct) (back.added_addresses prefixes direct))
      (back.old_pseudo_header direct icmpv6_number (length message_in)) [] message_in long in
      kept_in 20 len (transport_header_len icmpv6_number number) front (ipv4.updated_message prefixes direct message_in) message_in old new
      (record {
        bytes = bytes;
        same_len = same_len;
        room = has_room (20 + length message_in) (length old) none_by;
        counted = counted_by;
        part_len = kept.len;
      })
      kept.payload

  direct_whole_kept : is_part flags ≡ false → ipv4.is_icmp_error number message_in ≡ false
      → IsKeptAfter (transport_header_len icmpv6_number number) 20 message_in (take len new)
  direct_whole_kept whole no_error =
      let is_whole : is_part fields.flags_and_offset ≡ false = ap is_part flags_same ∙ whole in
      let refusal : ipv4.refusal_of number prefixes message_in (length old) ≡ None =
      (over_ipv6.accepted prefixes packet (length old) none whole).message in
      let other : ipv4.other_refusal number message_in (length old) ≡ None =
      sym (ap (λ test. if test then ipv4.error_packet_refusal prefixes message_in (length old)
      else ipv4.other_refusal number message_in (length old)) no_error)
      ∙ refusal in
      let rules = all_none (ipv4.message_refusal number message_in ∷ ipv4.space_refusal (length message_in) (length old) ∷ []) other in
      other_kept (back.translated_header prefixes fields direct)
      (over_ipv6.is_long prefixes number message_in (length old) refusal no_error)
      (is
      ∙ ap (λ test. (if test then back.translated_header prefixes fields direct ++ ipv4.translated_part direct prefixes fields message_in
      else ipv4.translation_of direct prefixes fields message_in) ++ drop len old) is_whole
      ∙ ap (λ test. (if test then ipv4.error_packet direct prefixes fields message_in
      else back.translated_header prefixes fields direct ++ ipv4.updated_message prefixes direct message_in) ++ drop len old) no_error)
      (counted
      ∙ ap (λ test. if test then 20 + length message_in else ipv4.translated_len direct prefixes message_in) is_whole
      ∙ ap (λ test. 20 + (if test then length (error_over_ipv4 prefixes message_in) else length message_in)) no_error)
      rules.1.0

  direct_part_bytes : is_part flags ≡ true
      → new ≡ (back.translated_header prefixes fields direct ++ ipv4.translated_part direct prefixes fields message_in) ++ drop len old
  direct_part_bytes part =
      is
      ∙ ap (λ test. (if test then back.translated_header prefixes fields direct ++ ipv4.translated_part direct prefixes fields message_in
      else ipv4.translation_of direct prefixes fields message_in) ++ drop len old) (ap is_part flags_same ∙ part)

  direct_part_counted : is_part flags ≡ true → len ≡ 20 + length message_in
  direct_part_counted part =
      counted
      ∙ ap (λ test. if test then 20 + length message_in else ipv4.translated_len direct prefixes message_in) (ap is_part flags_same ∙ part)

  -- the rules of one of several fragments
  direct_part_rules : is_part flags ≡ true → AllNone (refused_if (number == icmpv6_number) IcmpFragment
      ∷ (if is_later flags then ipv4.space_refusal (length message_in) (length old)
      else ipv4.other_refusal number message_in (length old)) ∷ [])
  direct_part_rules part =
      let refusal : ipv4.part_refusal direct prefixes flags message_in (length old) ≡ None =
      sym (ap (λ test. if test then ipv4.part_refusal direct prefixes flags message_in (length old)
      else ipv4.whole_refusal direct prefixes message_in (length old)) part)
      ∙ direct_rules in
      (all_none (option_map Header (back.header_refusal prefixes direct) ∷ refused_if (number == icmpv6_number) IcmpFragment
      ∷ (if is_later flags then ipv4.space_refusal (length message_in) (length old)
      else ipv4.other_refusal number message_in (length old)) ∷ []) refusal).1

  direct_first_kept : is_part flags ≡ true → is_later flags ≡ false
      → IsKeptAfter (transport_header_len icmpv6_number number) 20 message_in (take len new)
  direct_first_kept part first =
      let rules = direct_part_rules part in
      let other : ipv4.other_refusal number message_in (length old) ≡ None =
      sym (ap (λ test. if test then ipv4.space_refusal (length message_in) (length old)
      else ipv4.other_refusal number message_in (length old)) first)
      ∙ rules.1.0 in
      let both = all_none (ipv4.message_refusal number message_in ∷ ipv4.space_refusal (length message_in) (length old) ∷ []) other in
      other_kept (back.translated_header prefixes fields direct)
      (direct_part_is_long number message_in (different number icmpv6_number (not_refused (number == icmpv6_number) IcmpFragment rules.0))
      both.0)
      (direct_part_bytes part
      ∙ ap (λ flags. (back.translated_header prefixes fields direct
      ++ (if is_later flags then message_in else ipv4.updated_message prefixes direct message_in)) ++ drop len old) flags_same
      ∙ ap (λ test. (back.translated_header prefixes fields direct
      ++ (if test then message_in else ipv4.updated_message prefixes direct message_in)) ++ drop len old) first)
      (direct_part_counted part) both.1.0

  direct_later_kept : is_part flags ≡ true → is_later flags ≡ true → IsKeptAfter 0 20 message_in (take len new)
  direct_later_kept part later =
      let rules = direct_part_rules part in
      let refusal : ipv4.space_refusal (length message_in) (length old) ≡ None =
      sym (ap (λ test. if test then ipv4.space_refusal (length message_in) (length old)
      else ipv4.other_refusal number message_in (length old)) later)
      ∙ rules.1.0 in
      kept_in 20 len 0 (back.translated_header prefixes fields direct) message_in message_in old new
      (record {
        bytes = direct_part_bytes part
            ∙ ap (λ flags. (back.translated_header prefixes fields direct
            ++ (if is_later flags then message_in else ipv4.updated_message prefixes direct message_in)) ++ drop len old) flags_same
            ∙ ap (λ test. (back.translated_header prefixes fields direct
            ++ (if test then message_in else ipv4.updated_message prefixes direct message_in)) ++ drop len old) later;
        same_len = same_len;
        room = has_room (20 + length message_in) (length old) refusal;
        counted = direct_part_counted part;
        part_len = refl;
      })
      refl

-- the payload of an IPv6 packet is kept
pub ipv6_payload_kept : (result : Result ℕ PacketTranslationError) (prefixes : Prefixes) (packet : List ℕ) (identification : ℕ)
    (old new : List ℕ)
    → RefusesExactly result (ipv4.packet_refusal prefixes packet (length old))
    → IfOk result (λ len. len ≡ ipv4.direct_len (ipv4.direct_header packet) prefixes
    (ipv4.fields_of identification packet).flags_and_offset (ipv4.message_of packet))
    → IfOk result (λ len. new ≡ ipv4.translated_packet prefixes identification packet ++ drop len old)
    → length new ≡ length old
    → IfOk result (λ len. IsIpv6PayloadKept packet (take len new))
ipv6_payload_kept (Ok len) prefixes packet identification old new none counted is same_len = record {
  whole = direct_whole_kept prefixes packet identification len old new none counted is same_len;
  first = direct_first_kept prefixes packet identification len old new none counted is same_len;
  later = direct_later_kept prefixes packet identification len old new none counted is same_len;
}
ipv6_payload_kept (Err error) prefixes packet identification old new refused counted is same_len = tt
