-- An IPv4 packet that is translated to IPv6 and back.
use Rattle.std.proofs.Common.{◌≡◌, ◌≢◌, ℕ, ◌-◌, ◌/◌, ◌==◌, ◌<◌, ◌≤◌, true, false, not, if◌then◌else◌, List, [], ◌∷◌, ◌++◌, length, take, slice_index, Some, None, refl, sym, subst, ap, ap₂, ◌∙◌, length-take, arith}
use Rattle.std.specs.Prelude.{is_none, nat_le, nat_lt}
use Rattle.std.specs.Option.{option_map, unwrap_or}
use Rattle.std.proofs.lemmas.Bool.{not-false}
use Rattle.std.proofs.lemmas.List.{get_or-take}
use Rattle.ip_part.specs.Ip.{ipv4_header}
use Rattle.net_base.specs.Bytes.{IsBytes}
use Rattle.net_base.specs.IpHeaders.{ipv4_header_len, ipv4_is_fragment, version}
use Rattle.net_base.specs.IpNumbers.{icmpv4_number, icmpv6_number, tcp_number, udp_number}
use Rattle.net_base.specs.PseudoHeader.{ipv6_pseudo_header}
use Rattle.net_base.specs.Refusals.{refused_if}
use Rattle.net_base.proofs.StoredChecksumLemmas.{length-with_checksum}
use Rattle.word_sum.specs.Checksum.{all_ones}
use Rattle.ip_translation.specs.EchoMessages.{translated_echo, type_over_ipv4, type_over_ipv6}
use Rattle.ip_translation.specs.Fragments.{whole}
use Rattle.ip_translation.specs.FragmentsToIpv6 as parts
use Rattle.ip_translation.specs.HeadersToIpv4 as back
use Rattle.ip_translation.specs.HeadersToIpv6 as headers
use Rattle.ip_translation.specs.PacketsToIpv4 as ipv4
use Rattle.ip_translation.specs.PacketsToIpv6 as ipv6
use Rattle.ip_translation.specs.AddressTables.{embedded}
use Rattle.ip_translation.specs.ThereAndBack.{IsRestored, IsRestoredPacket, header_back, packet_back, tcp_back, udp_back}
use Rattle.ip_translation.specs.declared.packet_translation_error.PacketTranslationError.TheVariants.{Header, NoIpv4Header}
use Rattle.ip_translation.specs.declared.prefixes.Prefixes.{Prefixes}
use Rattle.ip_translation.specs.declared.translation_error.TranslationError.TheVariants.{Fragment, TotalLength}
use Rattle.ip_translation.proofs.BackLemmas.{destination_of, source_of}
use Rattle.ip_translation.proofs.EchoBackLemmas.{echo_len, echo_over_ipv4, echo_type, some_pseudo_header, type_over_ipv4_back}
use Rattle.ip_translation.proofs.PacketBackLemmas.{AreAlike, IsLong, all_none, at_least, at_most, both, bytes_range, bytes_take, by_protocol, chosen, equal, first_rule, is_at_least, is_echo, is_no_error, next_alike, no_extension_next, not_mapped, not_refused, one_of, packet_to_ipv4, range_len}

-- ---- what the translation accepts

-- the parts of a whole packet that the translation accepts
pub record IsAccepted (prefixes : Prefixes) (packet : List ℕ) (room : ℕ) : Type 0 where
  pub there : 20 ≤ length packet
  pub is_version_4 : slice_index packet 0 / 16 ≡ 4
  pub counted : ipv4_header_len (ipv4_header packet) ≤ headers.total_len (ipv4_header packet)
  pub whole : headers.total_len (ipv4_header packet) ≤ length packet
  pub message : ipv6.refusal_of (headers.protocol (ipv4_header packet)) prefixes (ipv6.message_of packet) room ≡ None

-- the header states a total length that counts the header
counts : (prefixes : Prefixes) (header : List ℕ) → headers.header_refusal prefixes header ≡ None
    → ipv4_header_len header ≤ headers.total_len header
counts prefixes header none =
    let fields : headers.field_refusal header ≡ None = first_rule _ _ none in
    let any : headers.any_field_refusal header ≡ None =
    (all_none (refused_if (ipv4_is_fragment header) Fragment ∷ headers.any_field_refusal header ∷ []) fields).1.0 in
    let refusal = TotalLength (headers.total_len header) (ipv4_header_len header) in
    let first : refused_if (nat_lt (headers.total_len header) (ipv4_header_len header)) refusal ≡ None = first_rule _ _ any in
    at_most (ipv4_header_len header) (headers.total_len header) (not_refused _ _ first)

pub accepted : (prefixes : Prefixes) (packet : List ℕ) (room : ℕ) → parts.packet_refusal prefixes packet room ≡ None
    → ipv4_is_fragment (ipv4_header packet) ≡ false → IsAccepted prefixes packet room
accepted prefixes packet room none is_whole =
    let header : List ℕ = ipv4_header packet in
    let rules = all_none (refused_if (not (ipv6.begins_with_header packet)) NoIpv4Header
    ∷ parts.refusal_with header prefixes packet room ∷ []) none in
    let begins : ipv6.begins_with_header packet ≡ true =
    not-false (ipv6.begins_with_header packet) (not_refused (not (ipv6.begins_with_header packet)) NoIpv4Header rules.0) in
    let long = both (nat_le 20 (length packet)) _ begins in
    let numbered = both (version packet == 4) _ long.1 in
    let after : ipv6.refusal_after header prefixes packet room ≡ None =
    sym (ap (λ test. if test then parts.part_refusal header prefixes packet room else ipv6.refusal_after header prefixes packet room)
    is_whole)
    ∙ rules.1.0 in
    let later = all_none (option_map Header (headers.header_refusal prefixes header)
    ∷ ipv6.cut_off_refusal header (length packet)
    ∷ ipv6.refusal_of (headers.protocol header) prefixes (ipv6.message_after header packet) room ∷ []) after in
    record {
      there = at_least 20 (length packet) long.0;
      is_version_4 = equal (version packet) 4 numbered.0;
      counted = counts prefixes header (not_mapped Header (headers.header_refusal prefixes header) later.0);
      whole = at_most (headers.total_len header) (length packet) (not_refused _ _ later.1.0);
      message = later.1.1.0;
    }

-- ---- the message

refusal_by : (prefixes : Prefixes) (protocol known : ℕ) (message : List ℕ) (room : ℕ)
    → ipv6.refusal_of protocol prefixes message room ≡ None → protocol ≡ known → ipv6.refusal_of known prefixes message room ≡ None
refusal_by prefixes protocol known message room none is =
    subst (λ protocol. ipv6.refusal_of protocol prefixes message room ≡ None) is none

-- a message that the translation accepts and that is no ICMP error
pub is_long : (prefixes : Prefixes) (protocol : ℕ) (message : List ℕ) (room : ℕ) → ipv6.refusal_of protocol prefixes message room ≡ None
    → ipv6.is_icmp_error protocol message ≡ false → IsLong icmpv4_number protocol message
is_long prefixes protocol message room none no_error = record {
  icmp = λ is.
      let other : ipv6.other_refusal protocol message room ≡ None =
      sym (ap (λ test. if test then ipv6.error_packet_refusal prefixes message room else ipv6.other_refusal protocol message room) no_error)
      ∙ none in
      let icmp : ipv6.other_refusal icmpv4_number message room ≡ None =
      subst (λ protocol. ipv6.other_refusal protocol message room ≡ None) is other in
      let long : ipv6.header_len_refusal 8 message ≡ None = first_rule (ipv6.header_len_refusal 8 message) _ icmp in
      at_most 8 (length message) (not_refused _ _ long);
  udp = λ is.
      let udp : ipv6.udp_refusal message ≡ None =
      first_rule (ipv6.udp_refusal message) _ (refusal_by prefixes protocol udp_number message room none is) in
      let long : ipv6.header_len_refusal 8 message ≡ None = first_rule _ _ udp in
      at_most 8 (length message) (not_refused _ _ long);
  tcp = λ is.
      let long : ipv6.header_len_refusal 20 message ≡ None =
      first_rule (ipv6.header_len_refusal 20 message) _ (refusal_by prefixes protocol tcp_number message room none is) in
      at_most 20 (length message) (not_refused _ _ long);
}

module _ (prefixes : Prefixes) (header message : List ℕ) (fits : IsBytes message)
    (restored : IsRestored (headers.protocol header) message) (long : IsLong icmpv4_number (headers.protocol header) message)
    (sixteen : length (embedded prefixes.source (headers.source header)) ≡ 16)
    (sixteen_too : length (embedded prefixes.destination (headers.destination header)) ≡ 16) where
  abbrev pub protocol : ℕ
  protocol = headers.protocol header

  abbrev pub number : ℕ
  number = headers.next_header protocol

  abbrev pub translated : List ℕ
  translated = ipv6.updated_message prefixes header message

  abbrev pub ipv6_header : List ℕ
  ipv6_header = headers.translated_header prefixes header

  abbrev pub pseudo_header : List ℕ
  pseudo_header = headers.new_pseudo_header prefixes header icmpv6_number (length message)

  abbrev pub type : ℕ
  type = slice_index message 0

  -- the type of the translated echo message
  abbrev pub new_type : ℕ
  new_type = unwrap_or (type_over_ipv6 type) type

  alike : AreAlike icmpv6_number number icmpv4_number protocol
  alike = next_alike protocol restored.no_icmpv6

  enough : (protocol == icmpv4_number) ≡ true → 4 ≤ length message
  enough is = omega (arith, long.icmp (equal protocol icmpv4_number is))

  type_back : (protocol == icmpv4_number) ≡ true → type_over_ipv4 new_type ≡ Some type
  type_back is =
      type_over_ipv4_back type
      (is_echo (protocol == icmpv4_number) (nat_le 8 (length message)) (is_none (type_over_ipv6 type)) restored.no_error is
      (is_at_least 8 (length message) (long.icmp (equal protocol icmpv4_number is))))

  echo_type_is : (protocol == icmpv4_number) ≡ true → slice_index (ipv6.translated_icmp prefixes header message) 0 ≡ new_type
  echo_type_is is = echo_type new_type [] pseudo_header message (enough is)

  pub no_error_back : ipv4.is_icmp_error number translated ≡ false
  no_error_back =
      is_no_error (number == icmpv6_number) (nat_le 8 (length translated)) (is_none (type_over_ipv4 (slice_index translated 0)))
      (λ is.
      let icmp : (protocol == icmpv4_number) ≡ true = sym alike.icmp ∙ is in
      ap (λ test. is_none (type_over_ipv4 (slice_index (one_of test (protocol == udp_number) (protocol == tcp_number)
      (ipv6.translated_icmp prefixes header message) (ipv6.translated_udp prefixes header message)
      (ipv6.translated_tcp prefixes header message) message) 0))) icmp
      ∙ ap (λ type. is_none (type_over_ipv4 type)) (echo_type_is icmp)
      ∙ ap is_none (type_back icmp))

  pub translated_len : length translated ≡ length message
  translated_len =
      chosen (λ part. length part ≡ length message) (protocol == icmpv4_number) (protocol == udp_number) (protocol == tcp_number)
      (ipv6.translated_icmp prefixes header message) (ipv6.translated_udp prefixes header message)
      (ipv6.translated_tcp prefixes header message) message
      (λ is. echo_len new_type [] pseudo_header message (enough is))
      (λ is. length-with_checksum 6 message (ipv6.new_udp_checksum prefixes header message)
      (omega (arith, long.udp (equal protocol udp_number is))))
      (λ is. length-with_checksum 16 message (ipv6.new_tcp_checksum prefixes header message)
      (omega (arith, long.tcp (equal protocol tcp_number is))))
      refl

  source_is : back.source ipv6_header ≡ embedded prefixes.source (headers.source header)
  source_is =
      source_of (headers.type_of_service header) (headers.payload_len header) number (headers.time_to_live header - 1)
      (embedded prefixes.source (headers.source header)) (embedded prefixes.destination (headers.destination header)) sixteen

  destination_is : back.destination ipv6_header ≡ embedded prefixes.destination (headers.destination header)
  destination_is =
      destination_of (headers.type_of_service header) (headers.payload_len header) number (headers.time_to_live header - 1)
      (embedded prefixes.source (headers.source header)) (embedded prefixes.destination (headers.destination header)) sixteen sixteen_too

  echo_same : (protocol == icmpv4_number) ≡ true
      → ipv4.translated_icmp ipv6_header (ipv6.translated_icmp prefixes header message) ≡ message
  echo_same is =
      let there : List ℕ = ipv6.translated_icmp prefixes header message in
      ap (λ type. translated_echo (unwrap_or (type_over_ipv4 type) type)
      (back.old_pseudo_header ipv6_header icmpv6_number (length there)) [] there) (echo_type_is is)
      ∙ ap (λ type. translated_echo (unwrap_or type new_type) (back.old_pseudo_header ipv6_header icmpv6_number (length there)) [] there)
      (type_back is)
      ∙ ap₂ (λ source destination. translated_echo type (ipv6_pseudo_header source destination icmpv6_number (length there)) [] there)
      source_is destination_is
      ∙ ap (λ len. translated_echo type (headers.new_pseudo_header prefixes header icmpv6_number len) [] there)
      (echo_len new_type [] pseudo_header message (enough is))
      ∙ echo_over_ipv4 message new_type pseudo_header fits (enough is)
      (some_pseudo_header (embedded prefixes.source (headers.source header)) (embedded prefixes.destination (headers.destination header))
      icmpv6_number (length message) sixteen)
      (restored.echo (equal protocol icmpv4_number is))

  pub message_same : (protocol ≡ udp_number → udp_back prefixes header message ≡ message)
      → (protocol ≡ tcp_number → tcp_back prefixes header message ≡ message)
      → ipv4.updated_message prefixes ipv6_header translated ≡ message
  message_same udp tcp =
      ap₂ (λ icmp udp. one_of icmp udp (number == tcp_number) (ipv4.translated_icmp ipv6_header translated)
      (ipv4.translated_udp prefixes ipv6_header translated) (ipv4.translated_tcp prefixes ipv6_header translated) translated)
      alike.icmp alike.udp
      ∙ ap (λ tcp. one_of (protocol == icmpv4_number) (protocol == udp_number) tcp (ipv4.translated_icmp ipv6_header translated)
      (ipv4.translated_udp prefixes ipv6_header translated) (ipv4.translated_tcp prefixes ipv6_header translated) translated) alike.tcp
      ∙ by_protocol (protocol == icmpv4_number) (protocol == udp_number) (protocol == tcp_number) message
      (ipv6.translated_icmp prefixes header message) (ipv6.translated_udp prefixes header message)
      (ipv6.translated_tcp prefixes header message)
      (ipv4.translated_icmp ipv6_header) (ipv4.translated_udp prefixes ipv6_header) (ipv4.translated_tcp prefixes ipv6_header)
      echo_same (λ is. udp (equal protocol udp_number is)) (λ is. tcp (equal protocol tcp_number is))

-- ---- the packet

module _ (prefixes : Prefixes) (packet : List ℕ) (identification room : ℕ) (fits : IsBytes packet)
    (restored : IsRestoredPacket prefixes packet) (is : IsAccepted prefixes packet room)
    (sixteen : length (embedded prefixes.source (headers.source (ipv4_header packet))) ≡ 16)
    (sixteen_too : length (embedded prefixes.destination (headers.destination (ipv4_header packet))) ≡ 16) where
  abbrev pub header : List ℕ
  header = ipv4_header packet

  abbrev pub message : List ℕ
  message = ipv6.message_of packet

  fits_header : IsBytes header
  fits_header = bytes_take (ipv4_header_len packet) packet fits

  pub header_len : length header ≡ 20
  header_len = ap (λ len. length (take len packet)) restored.no_options ∙ omega (arith, length-take 20 packet, is.there)

  first_same : slice_index header 0 ≡ slice_index packet 0
  first_same = get_or-take (ipv4_header_len packet) packet 0 0 (omega (arith, restored.no_options))

  pub first : slice_index header 0 ≡ 0x45
  first = first_same ∙ omega (arith, is.is_version_4, restored.no_options)

  pub counted : 20 ≤ headers.total_len header
  counted = omega (arith, is.counted, first)

  message_len : length message ≡ headers.payload_len header
  message_len = range_len (ipv4_header_len header) (headers.total_len header) packet is.whole

  fits_message : IsBytes message
  fits_message = bytes_range (ipv4_header_len header) (headers.total_len header) packet fits

  pub there_and_back : (length header ≡ 20 → slice_index header 0 ≡ 0x45 → 20 ≤ headers.total_len header → headers.protocol header ≢ 58
      → back.translated_header prefixes (whole identification) (headers.translated_header prefixes header)
      ≡ header_back identification header)
      → (IsBytes message → 8 ≤ length message → ipv6.udp_checksum message ≢ 0 → udp_back prefixes header message ≡ message)
      → (IsBytes message → 20 ≤ length message → ipv6.tcp_checksum message ≢ all_ones → tcp_back prefixes header message ≡ message)
      → ipv4.translated_packet prefixes identification (parts.translated_packet prefixes packet) ≡ packet_back identification packet
  there_and_back header_law udp_law tcp_law =
      let protocol : ℕ = headers.protocol header in
      let restored_message : IsRestored protocol message = restored.message in
      let long : IsLong icmpv4_number protocol message =
      is_long prefixes protocol message room is.message restored_message.no_error in
      let there : List ℕ = ipv6.updated_message prefixes header message in
      let ipv6_header : List ℕ = headers.translated_header prefixes header in
      let there_len : length there ≡ headers.payload_len header =
      translated_len prefixes header message fits_message restored_message long sixteen sixteen_too ∙ message_len in
      let short : length there < 65536 = omega (arith, there_len, fits_header 2, fits_header 3) in
      ap (λ test. ipv4.translated_packet prefixes identification
      (if test then parts.translated_part prefixes header message else ipv6.translation_of header prefixes message)) restored.whole
      ∙ ap (λ test. ipv4.translated_packet prefixes identification
      (if test then ipv6.error_packet header prefixes message else ipv6_header ++ there)) restored_message.no_error
      ∙ packet_to_ipv4 (headers.type_of_service header) (headers.payload_len header) (headers.next_header protocol)
      (headers.time_to_live header - 1) (embedded prefixes.source (headers.source header))
      (embedded prefixes.destination (headers.destination header)) there (fits_header 1) short there_len sixteen sixteen_too
      (no_extension_next protocol restored.no_extension) prefixes identification
      ∙ ap (λ test. if test then ipv4.error_packet ipv6_header prefixes (whole identification) there
      else back.translated_header prefixes (whole identification) ipv6_header ++ ipv4.updated_message prefixes ipv6_header there)
      (no_error_back prefixes header message fits_message restored_message long sixteen sixteen_too)
      ∙ ap₂ (λ header message. header ++ message)
      (header_law header_len first counted restored_message.no_icmpv6)
      (message_same prefixes header message fits_message restored_message long sixteen sixteen_too
      (λ is. udp_law fits_message (long.udp is) (restored_message.udp is))
      (λ is. tcp_law fits_message (long.tcp is) (restored_message.tcp is)))
