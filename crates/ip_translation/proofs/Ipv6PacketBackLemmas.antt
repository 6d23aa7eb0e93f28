-- An IPv6 packet that is translated to IPv4 and back.
use Rattle.std.proofs.Common.{◌≡◌, ◌≢◌, ◌⊎◌, inl, inr, ℕ, ◌+◌, ◌-◌, ◌/◌, ◌%◌, ◌*◌, ◌==◌, ◌<◌, ◌≤◌, Bool, true, false, not, if◌then◌else◌, List, [], ◌∷◌, ◌++◌, length, drop, take, slice_index, Option, Some, None, refl, sym, subst, ap, ap₂, ◌∙◌, length-append, length-drop, length-take, arith}
use Rattle.std.specs.Prelude.{is_none, nat_eq, nat_le, nat_lt, slice_set}
use Rattle.std.specs.Cmp.Lexicographic.{pointwise}
use Rattle.std.specs.Int.{from_be_bytes, to_be_bytes, w16, w128}
use Rattle.std.specs.Option.{option_map, unwrap_or}
use Rattle.std.proofs.lemmas.Bool.{not-false}
use Rattle.std.proofs.lemmas.List.{drop_at, get_or-take, take-append-drop, take_all, take_at}
use Rattle.ip_part.specs.Ip.{error_of, ipv6_header}
use Rattle.net_base.specs.Bytes.{IsBytes}
use Rattle.net_base.specs.IpHeaders.{ipv4_is_fragment, version}
use Rattle.net_base.specs.IpNumbers.{icmpv4_number, icmpv6_number, tcp_number, udp_number}
use Rattle.net_base.specs.PseudoHeader.{ipv6_pseudo_header}
use Rattle.net_base.specs.Refusals.{refused_if}
use Rattle.net_base.specs.StoredChecksum.{with_checksum}
use Rattle.net_base.proofs.BytesLemmas.{one_byte}
use Rattle.net_base.proofs.StoredChecksumLemmas.{length-with_checksum, stored_checksum}
use Rattle.word_sum.specs.Checksum.{all_ones, checksum_of, complement, folded, total, udp_checksum_of}
use Rattle.word_sum.specs.UpdatedChecksum.{updated_udp_checksum_of}
use Rattle.word_sum.proofs.ChecksumLemmas.{folded-lt}
use Rattle.word_sum.proofs.ChecksumChangeLemmas.{updated_udp_reversed}
use Rattle.ip_translation.specs.AddressMappings.{longest_ipv6}
use Rattle.ip_translation.specs.AddressTables.{Ipv6ComesBack, embedded, extracted, extracted_by, to_ipv4_refusal}
use Rattle.ip_translation.specs.EchoMessages.{translated_echo, type_over_ipv4, type_over_ipv6}
use Rattle.ip_translation.specs.Fragments.{dont_fragment, flags, flags_and_offset, is_part, whole}
use Rattle.ip_translation.specs.FragmentsToIpv6 as parts
use Rattle.ip_translation.specs.HeadersToIpv4 as back
use Rattle.ip_translation.specs.HeadersToIpv6 as headers
use Rattle.ip_translation.specs.PacketsToIpv4 as ipv4
use Rattle.ip_translation.specs.PacketsToIpv6 as ipv6
use Rattle.ip_translation.specs.Prefixes as by_prefix
use Rattle.ip_translation.specs.Prefixes.{is_embedded, octet_count, octets, without_reserved}
use Rattle.ip_translation.specs.SkippedHeaders.{unless_err}
use Rattle.ip_translation.specs.ThereAndBack.{IsRestoredIpv6Packet, IsRestoredOverIpv6, ipv6_header_back, ipv6_packet_back}
use Rattle.ip_translation.specs.declared.address_error.AddressError.TheVariants.{NotEmbedded}
use Rattle.ip_translation.specs.declared.address_mapping.AddressMapping.{AddressMapping}
use Rattle.ip_translation.specs.declared.address_table.AddressTable.{AddressTable}
use Rattle.ip_translation.specs.declared.fragment_fields.FragmentFields.{FragmentFields}
use Rattle.ip_translation.specs.declared.packet_translation_error.PacketTranslationError.TheVariants.{Header, NoIpv6Header, NoUdpChecksum}
use Rattle.ip_translation.specs.declared.prefix64.Prefix64.{Prefix64}
use Rattle.ip_translation.specs.declared.prefix64.Prefix64.TheVariants.{Bits32, Bits40, Bits48, Bits56, Bits64, Bits96}
use Rattle.ip_translation.specs.declared.prefixes.Prefixes.{Prefixes}
use Rattle.ip_translation.specs.declared.translation_error.TranslationError.TheVariants.{Destination, ExtensionHeader, IllegalDestination, IllegalSource, PayloadLength, Source}
use Rattle.ip_translation.proofs.AddressTableLemmas.{embedded_without, extracted_is, extracted_without, to_ipv4_refusal_without}
use Rattle.ip_translation.proofs.BackLemmas.{checksum_small, destination_of, source_of, tcp_same, udp_same}
use Rattle.ip_translation.proofs.DirectLemmas.{flags_of}
use Rattle.ip_translation.proofs.EchoBackLemmas.{echo_len, echo_over_ipv6, echo_type, some_pseudo_header, type_over_ipv6_back}
use Rattle.ip_translation.proofs.EmbeddedLemmas.{begins_with, embedded_again}
use Rattle.ip_translation.proofs.PacketBackLemmas.{AreAlike, IsLong, all_none, at_least, at_most, both, by_protocol, bytes_drop, bytes_range, bytes_take, chosen, different, equal, first_rule, is_at_least, is_echo, is_no_error, not_mapped, not_refused, number_back, one_of, protocol_alike, range_len, unequal}

-- ---- addresses

octet_count_small : (prefix : Prefix64) → octet_count prefix ≤ 11
octet_count_small (Bits32 start) = omega arith
octet_count_small (Bits40 start) = omega arith
octet_count_small (Bits48 start) = omega arith
octet_count_small (Bits56 start) = omega arith
octet_count_small (Bits64 start) = omega arith
octet_count_small (Bits96 start) = omega arith

extracted_len_by_prefix : (prefix : Prefix64) (address : List ℕ) → length address ≡ 16 → length (by_prefix.extracted prefix address) ≡ 4
extracted_len_by_prefix prefix address sixteen =
    let fifteen : length (without_reserved address) ≡ 15 = omega (
      arith,
      sixteen,
      length-append (take 8 address) (drop 9 address),
      length-take 8 address,
      length-drop 9 address,
    ) in
    range_len (octet_count prefix) (octet_count prefix + 4) (without_reserved address)
    (omega (arith, octet_count_small prefix, fifteen))
    ∙ omega arith

extracted_len_by : (found : Option AddressMapping) (prefix : Prefix64) (address : List ℕ) → length address ≡ 16
    → length (extracted_by found prefix address) ≡ 4
extracted_len_by None prefix address sixteen = extracted_len_by_prefix prefix address sixteen
extracted_len_by (Some mapping) prefix address sixteen = refl

extracted_len : (table : AddressTable) (address : List ℕ) → length address ≡ 16 → length (extracted table address) ≡ 4
extracted_len table address sixteen =
    let found : Option AddressMapping = longest_ipv6 table.mappings.now (from_be_bytes w128 address) in
    ap length (extracted_is table address (from_be_bytes w128 address) found refl refl)
    ∙ extracted_len_by found table.prefix address sixteen

-- an address that the translation by a prefix accepts, and whose suffix consists of zeros
same_by_prefix : (prefix : Prefix64) (address : List ℕ) → length address ≡ 16 → by_prefix.to_ipv4_refusal prefix address ≡ None
    → by_prefix.with_zero_suffix prefix address ≡ address
    → by_prefix.embedded prefix (by_prefix.extracted prefix address) ≡ address
same_by_prefix prefix address sixteen none zeros =
    let rule : refused_if (not (is_embedded prefix address)) NotEmbedded ≡ None = first_rule _ _ none in
    let is : is_embedded prefix address ≡ true = not-false (is_embedded prefix address) (not_refused _ _ rule) in
    let begins = both (slice_index address 8 == 0)
    (pointwise nat_eq (take (octet_count prefix) (without_reserved address)) (octets prefix)) is in
    embedded_again prefix address sixteen
    (begins_with (take (octet_count prefix) (without_reserved address)) (octets prefix) begins.1)
    ∙ zeros

-- an address that the translation accepts and that comes back
same_address : (table : AddressTable) (address : List ℕ) → length address ≡ 16 → to_ipv4_refusal table address ≡ None
    → Ipv6ComesBack table address → embedded table (extracted table address) ≡ address
same_address table address sixteen none (inl (empty, zeros)) =
    embedded_without table (extracted table address) empty
    ∙ ap (by_prefix.embedded table.prefix) (extracted_without table address empty)
    ∙ same_by_prefix table.prefix address sixteen (sym (to_ipv4_refusal_without table address empty) ∙ none) zeros
same_address table address sixteen none (inr back) = back

-- ---- an IPv4 packet that consists of a header without options and a message

-- the flags of a packet that is no fragment
flags_cases : (flags_in : Option ℕ) (len : ℕ) → is_part flags_in ≡ false
    → (flags_and_offset flags_in len ≡ 0) ⊎ (flags_and_offset flags_in len ≡ dont_fragment)
flags_cases None len is = tested (nat_le len 1260)
  where
    tested : (test : Bool) → ((if test then 0 else dont_fragment) ≡ 0) ⊎ ((if test then 0 else dont_fragment) ≡ dont_fragment)
    tested true = inl refl
    tested false = inr refl
flags_cases (Some value) len is = inl (equal value 0 (not-false (value == 0) is))

flags_of_whole : (flags : ℕ) → (flags ≡ 0) ⊎ (flags ≡ dont_fragment)
    → ipv4_is_fragment (0 ∷ 0 ∷ 0 ∷ 0 ∷ 0 ∷ 0 ∷ to_be_bytes w16 flags) ≡ false
flags_of_whole flags (inl is) = ap (λ flags. ipv4_is_fragment (0 ∷ 0 ∷ 0 ∷ 0 ∷ 0 ∷ 0 ∷ to_be_bytes w16 flags)) is
flags_of_whole flags (inr is) = ap (λ flags. ipv4_is_fragment (0 ∷ 0 ∷ 0 ∷ 0 ∷ 0 ∷ 0 ∷ to_be_bytes w16 flags)) is

-- the translation of this IPv6 header
module _ (prefixes : Prefixes) (fields : FragmentFields) (direct : List ℕ)
    (sixteen : length (back.source direct) ≡ 16) (sixteen_too : length (back.destination direct) ≡ 16) where
  abbrev pub header : List ℕ
  header = back.translated_header prefixes fields direct

  four : length (extracted prefixes.source (back.source direct)) ≡ 4
  four = extracted_len prefixes.source (back.source direct) sixteen

  four_too : length (extracted prefixes.destination (back.destination direct)) ≡ 4
  four_too = extracted_len prefixes.destination (back.destination direct) sixteen_too

  header_len : length header ≡ 20
  header_len = omega (
    arith,
    four,
    four_too,
    length-append (extracted prefixes.source (back.source direct)) (extracted prefixes.destination (back.destination direct)),
  )

  pub source_is : headers.source header ≡ extracted prefixes.source (back.source direct)
  source_is =
      take_at (extracted prefixes.source (back.source direct)) (extracted prefixes.destination (back.destination direct)) 4 four

  pub destination_is : headers.destination header ≡ extracted prefixes.destination (back.destination direct)
  destination_is =
      ap (take 4)
      (drop_at (extracted prefixes.source (back.source direct)) (extracted prefixes.destination (back.destination direct)) 4 four)
      ∙ take_all 4 (extracted prefixes.destination (back.destination direct)) (omega (arith, four_too))

  pub total_is : back.payload_len direct + 20 < 65536 → headers.total_len header ≡ back.payload_len direct + 20
  total_is small = omega (arith, small)

  no_fragment : is_part fields.flags_and_offset ≡ false → ipv4_is_fragment header ≡ false
  no_fragment whole =
      flags_of_whole (flags_and_offset fields.flags_and_offset (back.payload_len direct + 20))
      (flags_cases fields.flags_and_offset (back.payload_len direct + 20) whole)

  pub packet_to_ipv6 : (message : List ℕ) → is_part fields.flags_and_offset ≡ false → length message ≡ back.payload_len direct
      → back.payload_len direct + 20 < 65536
      → parts.translated_packet prefixes (header ++ message) ≡ ipv6.translation_of header prefixes message
  packet_to_ipv6 message whole counted small =
      let message_is : ipv6.message_after header (header ++ message) ≡ message =
      ap (take (headers.total_len header - 20)) (drop_at header message 20 header_len)
      ∙ take_all (headers.total_len header - 20) message (omega (arith, total_is small, counted)) in
      ap (λ front. parts.translation_with front prefixes (ipv6.message_after front (header ++ message)))
      (take_at header message 20 header_len)
      ∙ ap (parts.translation_with header prefixes) message_is
      ∙ ap (λ test. if test then parts.translated_part prefixes header message else ipv6.translation_of header prefixes message)
      (no_fragment whole)

-- ---- the message

-- a checksum that is there is there after an update
some_checksum : (checksum removed added : ℕ) → checksum < 65536 → removed < 65536 → added < 65536 → checksum ≢ 0
    → updated_udp_checksum_of checksum removed added ≢ 0
some_checksum checksum removed added small small_too small_three some = λ none.
    some (
    sym (updated_udp_reversed checksum removed added (updated_udp_checksum_of checksum removed added) small small_too small_three refl)
    ∙ ap (λ result. updated_udp_checksum_of result added removed) none)

updated_small : (checksum removed added : ℕ) → updated_udp_checksum_of checksum removed added < 65536
updated_small checksum removed added = tested (checksum == 0) (checksum_of sum == 0)
  where
    sum : ℕ
    sum = complement checksum + complement removed + added

    tested : (missing zero : Bool) → (if missing then 0 else if zero then all_ones else checksum_of sum) < 65536
    tested true zero = omega arith
    tested false true = omega arith
    tested false false = omega arith

module _ (prefixes : Prefixes) (ipv6_header ipv4_header message : List ℕ) (fits : IsBytes message)
    (removed_same : ipv6.removed_addresses ipv4_header ≡ back.added_addresses prefixes ipv6_header)
    (added_same : ipv6.added_addresses prefixes ipv4_header ≡ back.removed_addresses ipv6_header)
    (protocol_is : headers.protocol ipv4_header ≡ back.protocol_of (back.next_header ipv6_header))
    (restored : IsRestoredOverIpv6 (back.next_header ipv6_header) message)
    (some_udp : back.next_header ipv6_header ≡ udp_number → ipv6.udp_checksum message ≢ 0)
    (long : IsLong icmpv6_number (back.next_header ipv6_header) message)
    (sixteen : length (back.source ipv6_header) ≡ 16)
    (source_again : embedded prefixes.source (headers.source ipv4_header) ≡ back.source ipv6_header)
    (destination_again : embedded prefixes.destination (headers.destination ipv4_header) ≡ back.destination ipv6_header) where
  abbrev pub next_number : ℕ
  next_number = back.next_header ipv6_header

  abbrev pub protocol : ℕ
  protocol = back.protocol_of next_number

  abbrev pub translated : List ℕ
  translated = ipv4.updated_message prefixes ipv6_header message

  abbrev pub pseudo_header : List ℕ
  pseudo_header = back.old_pseudo_header ipv6_header icmpv6_number (length message)

  abbrev pub type : ℕ
  type = slice_index message 0

  -- the type of the translated echo message
  abbrev pub new_type : ℕ
  new_type = unwrap_or (type_over_ipv4 type) type

  alike : AreAlike icmpv4_number protocol icmpv6_number next_number
  alike = protocol_alike next_number restored.no_icmp

  enough : (next_number == icmpv6_number) ≡ true → 4 ≤ length message
  enough is = omega (arith, long.icmp (equal next_number icmpv6_number is))

  type_back : (next_number == icmpv6_number) ≡ true → (type_over_ipv6 new_type ≡ Some type) × (0 < type)
  type_back is =
      type_over_ipv6_back type
      (is_echo (next_number == icmpv6_number) (nat_le 8 (length message)) (is_none (type_over_ipv4 type)) restored.no_error is
      (is_at_least 8 (length message) (long.icmp (equal next_number icmpv6_number is))))

  echo_type_is : (next_number == icmpv6_number) ≡ true → slice_index (ipv4.translated_icmp ipv6_header message) 0 ≡ new_type
  echo_type_is is = echo_type new_type pseudo_header [] message (enough is)

  pub no_error_back : ipv6.is_icmp_error (headers.protocol ipv4_header) translated ≡ false
  no_error_back =
      ap (λ protocol. ipv6.is_icmp_error protocol translated) protocol_is
      ∙ is_no_error (protocol == icmpv4_number) (nat_le 8 (length translated)) (is_none (type_over_ipv6 (slice_index translated 0)))
      (λ is.
      let icmp : (next_number == icmpv6_number) ≡ true = sym alike.icmp ∙ is in
      ap (λ test. is_none (type_over_ipv6 (slice_index (one_of test (next_number == udp_number) (next_number == tcp_number)
      (ipv4.translated_icmp ipv6_header message) (ipv4.translated_udp prefixes ipv6_header message)
      (ipv4.translated_tcp prefixes ipv6_header message) message) 0))) icmp
      ∙ ap (λ type. is_none (type_over_ipv6 type)) (echo_type_is icmp)
      ∙ ap is_none (type_back icmp).0)

  echo_same : (next_number == icmpv6_number) ≡ true
      → ipv6.translated_icmp prefixes ipv4_header (ipv4.translated_icmp ipv6_header message) ≡ message
  echo_same is =
      let there : List ℕ = ipv4.translated_icmp ipv6_header message in
      ap (λ type. translated_echo (unwrap_or (type_over_ipv6 type) type) []
      (headers.new_pseudo_header prefixes ipv4_header icmpv6_number (length there)) there) (echo_type_is is)
      ∙ ap (λ type. translated_echo (unwrap_or type new_type) []
      (headers.new_pseudo_header prefixes ipv4_header icmpv6_number (length there)) there) (type_back is).0
      ∙ ap₂ (λ source destination. translated_echo type [] (ipv6_pseudo_header source destination icmpv6_number (length there)) there)
      source_again destination_again
      ∙ ap (λ len. translated_echo type [] (back.old_pseudo_header ipv6_header icmpv6_number len) there)
      (echo_len new_type pseudo_header [] message (enough is))
      ∙ echo_over_ipv6 message new_type pseudo_header fits (enough is)
      (some_pseudo_header (back.source ipv6_header) (back.destination ipv6_header) icmpv6_number (length message) sixteen)
      (type_back is).1 (restored.echo (equal next_number icmpv6_number is))

  udp_there_and_back : 8 ≤ length message → ipv6.udp_checksum message ≢ 0
      → ipv6.translated_udp prefixes ipv4_header (ipv4.translated_udp prefixes ipv6_header message) ≡ message
  udp_there_and_back there some =
      let checksum : ℕ = ipv6.udp_checksum message in
      let removed : ℕ = back.removed_addresses ipv6_header in
      let added : ℕ = back.added_addresses prefixes ipv6_header in
      let between : ℕ = updated_udp_checksum_of checksum removed added in
      let removed_small : removed < 65536 =
      folded-lt (total (back.source ipv6_header) + total (back.destination ipv6_header)) in
      let added_small : added < 65536 =
      folded-lt (total (extracted prefixes.source (back.source ipv6_header))
      + total (extracted prefixes.destination (back.destination ipv6_header))) in
      let translated : List ℕ = with_checksum 6 message between in
      let stored : ipv6.udp_checksum translated ≡ between =
      stored_checksum 6 message between there (updated_small checksum removed added) in
      let test : (ipv6.udp_checksum translated == 0) ≡ false =
      ap (λ checksum. checksum == 0) stored
      ∙ unequal between 0 (some_checksum checksum removed added (checksum_small message 6 fits) removed_small added_small some) in
      let length_field : ℕ = ipv6.udp_length translated in
      ap (λ test. with_checksum 6 translated (if test
      then udp_checksum_of (total (headers.new_pseudo_header prefixes ipv4_header udp_number length_field)
      + total (take length_field translated))
      else updated_udp_checksum_of (ipv6.udp_checksum translated) (ipv6.removed_addresses ipv4_header)
      (ipv6.added_addresses prefixes ipv4_header))) test
      ∙ udp_same message removed added (ipv6.removed_addresses ipv4_header) (ipv6.added_addresses prefixes ipv4_header) fits there
      removed_small added_small removed_same added_same

  tcp_there_and_back : 20 ≤ length message → ipv6.tcp_checksum message ≢ all_ones
      → ipv6.translated_tcp prefixes ipv4_header (ipv4.translated_tcp prefixes ipv6_header message) ≡ message
  tcp_there_and_back there some =
      tcp_same message (back.removed_addresses ipv6_header) (back.added_addresses prefixes ipv6_header)
      (ipv6.removed_addresses ipv4_header) (ipv6.added_addresses prefixes ipv4_header) fits (omega (arith, there)) some
      (folded-lt (total (back.source ipv6_header) + total (back.destination ipv6_header)))
      (folded-lt (total (extracted prefixes.source (back.source ipv6_header))
      + total (extracted prefixes.destination (back.destination ipv6_header))))
      removed_same added_same

  pub translated_len : length translated ≡ length message
  translated_len =
      chosen (λ part. length part ≡ length message) (next_number == icmpv6_number) (next_number == udp_number) (next_number == tcp_number)
      (ipv4.translated_icmp ipv6_header message) (ipv4.translated_udp prefixes ipv6_header message)
      (ipv4.translated_tcp prefixes ipv6_header message) message
      (λ is. echo_len new_type pseudo_header [] message (enough is))
      (λ is. length-with_checksum 6 message _ (omega (arith, long.udp (equal next_number udp_number is))))
      (λ is. length-with_checksum 16 message _ (omega (arith, long.tcp (equal next_number tcp_number is))))
      refl

  pub message_same : ipv6.updated_message prefixes ipv4_header translated ≡ message
  message_same =
      ap (λ protocol. one_of (protocol == icmpv4_number) (protocol == udp_number) (protocol == tcp_number)
      (ipv6.translated_icmp prefixes ipv4_header translated) (ipv6.translated_udp prefixes ipv4_header translated)
      (ipv6.translated_tcp prefixes ipv4_header translated) translated) protocol_is
      ∙ ap₂ (λ icmp udp. one_of icmp udp (protocol == tcp_number) (ipv6.translated_icmp prefixes ipv4_header translated)
      (ipv6.translated_udp prefixes ipv4_header translated) (ipv6.translated_tcp prefixes ipv4_header translated) translated)
      alike.icmp alike.udp
      ∙ ap (λ tcp. one_of (next_number == icmpv6_number) (next_number == udp_number) tcp
      (ipv6.translated_icmp prefixes ipv4_header translated)
      (ipv6.translated_udp prefixes ipv4_header translated) (ipv6.translated_tcp prefixes ipv4_header translated) translated) alike.tcp
      ∙ by_protocol (next_number == icmpv6_number) (next_number == udp_number) (next_number == tcp_number) message
      (ipv4.translated_icmp ipv6_header message) (ipv4.translated_udp prefixes ipv6_header message)
      (ipv4.translated_tcp prefixes ipv6_header message)
      (ipv6.translated_icmp prefixes ipv4_header) (ipv6.translated_udp prefixes ipv4_header) (ipv6.translated_tcp prefixes ipv4_header)
      echo_same
      (λ is. let udp : next_number ≡ udp_number = equal next_number udp_number is in udp_there_and_back (long.udp udp) (some_udp udp))
      (λ is. let tcp : next_number ≡ tcp_number = equal next_number tcp_number is in tcp_there_and_back (long.tcp tcp) (restored.tcp tcp))

-- ---- the packet without its extension headers

-- the parts of a packet that is the same after the way back
pub record IsSame (prefixes : Prefixes) (class len number hop : ℕ) (source destination message : List ℕ) (fields : FragmentFields)
    : Type 0 where
  pub fits : IsBytes message
  pub class_small : class < 256
  pub counted : length message ≡ len
  pub short : len + 20 < 65536
  pub sixteen : length source ≡ 16
  pub sixteen_too : length destination ≡ 16
  pub source_back : embedded prefixes.source (extracted prefixes.source source) ≡ source
  pub destination_back : embedded prefixes.destination (extracted prefixes.destination destination) ≡ destination
  pub whole : is_part fields.flags_and_offset ≡ false
  pub restored : IsRestoredOverIpv6 number message
  pub some_udp : number ≡ udp_number → ipv6.udp_checksum message ≢ 0
  pub long : IsLong icmpv6_number number message

module _ (prefixes : Prefixes) (class len number hop : ℕ) (source destination message : List ℕ) (fields : FragmentFields)
    (is : IsSame prefixes class len number hop source destination message fields) where
  abbrev pub direct : List ℕ
  direct = headers.ipv6_header class len (number ∷ hop ∷ []) source destination

  abbrev pub ipv4_header : List ℕ
  ipv4_header = back.translated_header prefixes fields direct

  class_same : back.traffic_class direct ≡ class
  class_same = omega (arith, is.class_small)

  len_same : back.payload_len direct ≡ len
  len_same = omega (arith, is.short)

  source_same : back.source direct ≡ source
  source_same = source_of class len number hop source destination is.sixteen

  destination_same : back.destination direct ≡ destination
  destination_same = destination_of class len number hop source destination is.sixteen is.sixteen_too

  sixteen : length (back.source direct) ≡ 16
  sixteen = ap length source_same ∙ is.sixteen

  sixteen_too : length (back.destination direct) ≡ 16
  sixteen_too = ap length destination_same ∙ is.sixteen_too

  source_again : embedded prefixes.source (headers.source ipv4_header) ≡ source
  source_again =
      ap (embedded prefixes.source) (source_is prefixes fields direct sixteen sixteen_too)
      ∙ ap (λ source. embedded prefixes.source (extracted prefixes.source source)) source_same ∙ is.source_back

  destination_again : embedded prefixes.destination (headers.destination ipv4_header) ≡ destination
  destination_again =
      ap (embedded prefixes.destination) (destination_is prefixes fields direct sixteen sixteen_too)
      ∙ ap (λ destination. embedded prefixes.destination (extracted prefixes.destination destination)) destination_same
      ∙ is.destination_back

  removed_same : ipv6.removed_addresses ipv4_header ≡ back.added_addresses prefixes direct
  removed_same =
      ap₂ (λ source destination. folded (total source + total destination))
      (source_is prefixes fields direct sixteen sixteen_too) (destination_is prefixes fields direct sixteen sixteen_too)

  added_same : ipv6.added_addresses prefixes ipv4_header ≡ back.removed_addresses direct
  added_same =
      ap₂ (λ source destination. folded (total source + total destination))
      (source_again ∙ sym source_same) (destination_again ∙ sym destination_same)

  number_same : headers.next_header (headers.protocol ipv4_header) ≡ number
  number_same = number_back number is.restored.no_icmp

  payload_same : headers.payload_len ipv4_header ≡ len
  payload_same =
      ap (λ total. total - 20) (total_is prefixes fields direct sixteen sixteen_too (omega (arith, len_same, is.short)))
      ∙ omega (arith, len_same)

  hop_same : hop - 1 - 1 ≡ hop - 2
  hop_same = omega arith

  header_same : headers.translated_header prefixes ipv4_header
      ≡ headers.ipv6_header class len (number ∷ (hop - 2) ∷ []) source destination
  header_same =
      ap₂ (λ class len. headers.ipv6_header class len
      (headers.next_header (headers.protocol ipv4_header) ∷ (hop - 1 - 1) ∷ [])
      (embedded prefixes.source (headers.source ipv4_header)) (embedded prefixes.destination (headers.destination ipv4_header)))
      class_same payload_same
      ∙ ap₂ (λ number hop. headers.ipv6_header class len (number ∷ hop ∷ [])
      (embedded prefixes.source (headers.source ipv4_header)) (embedded prefixes.destination (headers.destination ipv4_header)))
      number_same hop_same
      ∙ ap₂ (headers.ipv6_header class len (number ∷ (hop - 2) ∷ [])) source_again destination_again

  pub direct_there_and_back : parts.translated_packet prefixes (ipv4.direct_translation direct prefixes fields message)
      ≡ slice_set direct 7 (hop - 2) ++ message
  direct_there_and_back =
      let translated : List ℕ = ipv4.updated_message prefixes direct message in
      let source_kept = source_again ∙ sym source_same in
      let destination_kept = destination_again ∙ sym destination_same in
      let translated_long : length translated ≡ back.payload_len direct =
      translated_len prefixes direct ipv4_header message is.fits removed_same added_same refl is.restored is.some_udp is.long sixteen
      source_kept destination_kept
      ∙ is.counted ∙ sym len_same in
      ap (λ test. parts.translated_packet prefixes (if test
      then ipv4_header ++ ipv4.translated_part direct prefixes fields message
      else ipv4.translation_of direct prefixes fields message)) is.whole
      ∙ ap (λ test. parts.translated_packet prefixes
      (if test then ipv4.error_packet direct prefixes fields message else ipv4_header ++ translated)) is.restored.no_error
      ∙ packet_to_ipv6 prefixes fields direct sixteen sixteen_too translated is.whole translated_long (omega (arith, len_same, is.short))
      ∙ ap (λ test. if test then ipv6.error_packet ipv4_header prefixes translated
      else headers.translated_header prefixes ipv4_header ++ ipv6.updated_message prefixes ipv4_header translated)
      (no_error_back prefixes direct ipv4_header message is.fits removed_same added_same refl is.restored is.some_udp is.long sixteen
      source_kept destination_kept)
      ∙ ap₂ (λ header message. header ++ message) header_same
      (message_same prefixes direct ipv4_header message is.fits removed_same added_same refl is.restored is.some_udp is.long sixteen
      source_kept destination_kept)

-- ---- the header

-- the first eight bytes of a header, and its addresses
pub eight : (header : List ℕ) → length header ≡ 40
    → slice_index header 0 ∷ slice_index header 1 ∷ slice_index header 2 ∷ slice_index header 3 ∷ slice_index header 4
    ∷ slice_index header 5 ∷ slice_index header 6 ∷ slice_index header 7 ∷ drop 8 header ≡ header
eight header len =
    one_byte header 0 1 _ _ refl (omega (arith, len)) refl
    (one_byte header 1 2 _ _ refl (omega (arith, len)) refl
    (one_byte header 2 3 _ _ refl (omega (arith, len)) refl
    (one_byte header 3 4 _ _ refl (omega (arith, len)) refl
    (one_byte header 4 5 _ _ refl (omega (arith, len)) refl
    (one_byte header 5 6 _ _ refl (omega (arith, len)) refl
    (one_byte header 6 7 _ _ refl (omega (arith, len)) refl
    (one_byte header 7 8 _ _ refl (omega (arith, len)) refl refl)))))))

-- the header after the way back, if these are its bytes
by_bytes : (len number b0 b1 b2 b3 b4 b5 b6 b7 : ℕ) (addresses : List ℕ) → b0 < 256 → b1 < 256 → b0 / 16 ≡ 6 → length addresses ≡ 32
    → headers.ipv6_header (back.traffic_class (b0 ∷ b1 ∷ b2 ∷ b3 ∷ b4 ∷ b5 ∷ b6 ∷ b7 ∷ addresses)) len (number ∷ (b7 - 2) ∷ [])
    (back.source (b0 ∷ b1 ∷ b2 ∷ b3 ∷ b4 ∷ b5 ∷ b6 ∷ b7 ∷ addresses))
    (back.destination (b0 ∷ b1 ∷ b2 ∷ b3 ∷ b4 ∷ b5 ∷ b6 ∷ b7 ∷ addresses))
    ≡ ipv6_header_back len number (b0 ∷ b1 ∷ b2 ∷ b3 ∷ b4 ∷ b5 ∷ b6 ∷ b7 ∷ addresses)
by_bytes len number b0 b1 b2 b3 b4 b5 b6 b7 addresses small small_too is_version_6 sizes =
    let class : ℕ = back.traffic_class (b0 ∷ b1 ∷ b2 ∷ b3 ∷ b4 ∷ b5 ∷ b6 ∷ b7 ∷ addresses) in
    let high : 0x60 + class / 16 ≡ b0 = omega (arith, small, small_too, is_version_6) in
    let low : class % 16 * 16 ≡ b1 / 16 * 16 = omega (arith, small, small_too) in
    let both_addresses : take 16 addresses ++ take 16 (drop 16 addresses) ≡ addresses =
    ap (λ destination. take 16 addresses ++ destination)
    (take_all 16 (drop 16 addresses) (omega (arith, sizes, length-drop 16 addresses)))
    ∙ take-append-drop 16 addresses in
    ap₂ (λ high low. high ∷ low ∷ 0 ∷ 0 ∷ (len / 256 % 256) ∷ (len % 256) ∷ number ∷ (b7 - 2)
    ∷ (take 16 addresses ++ take 16 (drop 16 addresses))) high low
    ∙ ap (λ addresses. b0 ∷ (b1 / 16 * 16) ∷ 0 ∷ 0 ∷ (len / 256 % 256) ∷ (len % 256) ∷ number ∷ (b7 - 2) ∷ addresses) both_addresses

header_back_is : (len number : ℕ) (header : List ℕ) → IsBytes header → length header ≡ 40 → slice_index header 0 / 16 ≡ 6
    → headers.ipv6_header (back.traffic_class header) len (number ∷ (back.hop_limit header - 2) ∷ []) (back.source header)
    (back.destination header)
    ≡ ipv6_header_back len number header
header_back_is len number header fits forty is_version_6 =
    subst (λ header. headers.ipv6_header (back.traffic_class header) len (number ∷ (back.hop_limit header - 2) ∷ []) (back.source header)
    (back.destination header) ≡ ipv6_header_back len number header)
    (eight header forty)
    (by_bytes len number (slice_index header 0) (slice_index header 1) (slice_index header 2) (slice_index header 3)
    (slice_index header 4) (slice_index header 5) (slice_index header 6) (slice_index header 7) (drop 8 header) (fits 0) (fits 1)
    is_version_6 (omega (arith, forty, length-drop 8 header)))

-- ---- what the translation accepts

udp_accepted : (prefixes : Prefixes) (number : ℕ) (message : List ℕ) (room : ℕ) → ipv4.refusal_of number prefixes message room ≡ None
    → number ≡ udp_number → ipv4.udp_refusal message ≡ None
udp_accepted prefixes number message room none is =
    let other : ipv4.other_refusal udp_number message room ≡ None =
    subst (λ number. ipv4.refusal_of number prefixes message room ≡ None) is none in
    first_rule (ipv4.udp_refusal message) _ other

-- an accepted UDP packet has a checksum
has_checksum : (prefixes : Prefixes) (number : ℕ) (message : List ℕ) (room : ℕ) → ipv4.refusal_of number prefixes message room ≡ None
    → number ≡ udp_number → ipv6.udp_checksum message ≢ 0
has_checksum prefixes number message room none is =
    let rules = all_none (ipv6.header_len_refusal 8 message ∷ refused_if (ipv6.udp_checksum message == 0) NoUdpChecksum ∷ [])
    (udp_accepted prefixes number message room none is) in
    different (ipv6.udp_checksum message) 0 (not_refused _ _ rules.1.0)

-- a message that the translation accepts and that is no ICMPv6 error
pub is_long : (prefixes : Prefixes) (number : ℕ) (message : List ℕ) (room : ℕ) → ipv4.refusal_of number prefixes message room ≡ None
    → ipv4.is_icmp_error number message ≡ false → IsLong icmpv6_number number message
is_long prefixes number message room none no_error = record {
  icmp = λ is.
      let other : ipv4.other_refusal number message room ≡ None =
      sym (ap (λ test. if test then ipv4.error_packet_refusal prefixes message room else ipv4.other_refusal number message room) no_error)
      ∙ none in
      let icmp : ipv4.other_refusal icmpv6_number message room ≡ None =
      subst (λ number. ipv4.other_refusal number message room ≡ None) is other in
      let long : ipv6.header_len_refusal 8 message ≡ None = first_rule (ipv6.header_len_refusal 8 message) _ icmp in
      at_most 8 (length message) (not_refused _ _ long);
  udp = λ is.
      let long : ipv6.header_len_refusal 8 message ≡ None = first_rule _ _ (udp_accepted prefixes number message room none is) in
      at_most 8 (length message) (not_refused _ _ long);
  tcp = λ is.
      let other : ipv4.other_refusal tcp_number message room ≡ None =
      subst (λ number. ipv4.refusal_of number prefixes message room ≡ None) is none in
      let long : ipv6.header_len_refusal 20 message ≡ None = first_rule (ipv6.header_len_refusal 20 message) _ other in
      at_most 20 (length message) (not_refused _ _ long);
}

-- the parts of a whole packet that the translation accepts
pub record IsAccepted (prefixes : Prefixes) (packet : List ℕ) (room : ℕ) : Type 0 where
  pub there : 40 ≤ length packet
  pub is_version_6 : slice_index packet 0 / 16 ≡ 6
  pub counted : back.payload_len (ipv4.direct_header packet) ≤ back.max_payload_len
  pub source : to_ipv4_refusal prefixes.source (back.source (ipv4.direct_header packet)) ≡ None
  pub destination : to_ipv4_refusal prefixes.destination (back.destination (ipv4.direct_header packet)) ≡ None
  pub message : ipv4.refusal_of (back.next_header (ipv4.direct_header packet)) prefixes (ipv4.message_of packet) room ≡ None

-- the header of the packet without its extension headers is accepted
by_rules : (prefixes : Prefixes) (packet : List ℕ) (room : ℕ) → 40 ≤ length packet → slice_index packet 0 / 16 ≡ 6
    → ipv4.whole_refusal (ipv4.direct_header packet) prefixes (ipv4.message_of packet) room ≡ None → IsAccepted prefixes packet room
by_rules prefixes packet room there is_version_6 none =
    let header : List ℕ = ipv4.direct_header packet in
    let rules = all_none (option_map Header (back.header_refusal prefixes header)
    ∷ ipv4.refusal_of (back.next_header header) prefixes (ipv4.message_of packet) room ∷ []) none in
    let parts = all_none (back.field_refusal header ∷ back.addresses_refusal prefixes header ∷ [])
    (not_mapped Header (back.header_refusal prefixes header) rules.0) in
    let fields : back.quoted_field_refusal header ≡ None = first_rule _ _ parts.0 in
    let lens = all_none (refused_if (back.is_extension (back.next_header header)) (ExtensionHeader (back.next_header header))
    ∷ refused_if (nat_lt back.max_payload_len (back.payload_len header)) (PayloadLength (back.payload_len header)) ∷ []) fields in
    let addresses = all_none (option_map Source (to_ipv4_refusal prefixes.source (back.source header))
    ∷ option_map Destination (to_ipv4_refusal prefixes.destination (back.destination header))
    ∷ refused_if (headers.is_illegal (extracted prefixes.source (back.source header))) IllegalSource
    ∷ refused_if (headers.is_illegal (extracted prefixes.destination (back.destination header))) IllegalDestination ∷ []) parts.1.0 in
    record {
      there = there;
      is_version_6 = is_version_6;
      counted = at_most (back.payload_len header) back.max_payload_len (not_refused _ _ lens.1.0);
      source = not_mapped Source (to_ipv4_refusal prefixes.source (back.source header)) addresses.0;
      destination = not_mapped Destination (to_ipv4_refusal prefixes.destination (back.destination header)) addresses.1.0;
      message = rules.1.0;
    }

pub accepted : (prefixes : Prefixes) (packet : List ℕ) (room : ℕ) → ipv4.packet_refusal prefixes packet room ≡ None
    → is_part (ipv4.flags_in (ipv6_header packet) (ipv4.payload_of packet)) ≡ false → IsAccepted prefixes packet room
accepted prefixes packet room none is_whole =
    let header : List ℕ = ipv6_header packet in
    let payload : List ℕ = ipv4.payload_of packet in
    let message : List ℕ = ipv4.message_of packet in
    let direct : List ℕ = ipv4.direct_header packet in
    let flags : Option ℕ = ipv4.flags_in header payload in
    let rules = all_none (refused_if (not (ipv4.begins_with_header packet)) NoIpv6Header
    ∷ ipv4.cut_off_refusal header (length packet)
    ∷ ipv4.payload_refusal header prefixes payload room ∷ []) none in
    let begins : ipv4.begins_with_header packet ≡ true =
    not-false (ipv4.begins_with_header packet) (not_refused (not (ipv4.begins_with_header packet)) NoIpv6Header rules.0) in
    let long = both (nat_le 40 (length packet)) (version packet == 6) begins in
    let inner = all_none (error_of (ipv4.skipped_in header payload)
    ∷ ipv4.direct_refusal direct prefixes flags message room ∷ []) rules.1.1.0 in
    let after : ipv4.whole_refusal direct prefixes message room ≡ None =
    sym (ap (λ test. if test then ipv4.part_refusal direct prefixes flags message room
    else ipv4.whole_refusal direct prefixes message room) is_whole)
    ∙ inner.1.0 in
    by_rules prefixes packet room (at_least 40 (length packet) long.0) (equal (version packet) 6 long.1) after

-- ---- the packet

pub there_and_back : (prefixes : Prefixes) (packet : List ℕ) (identification room : ℕ) → IsBytes packet
    → IsRestoredIpv6Packet prefixes packet → IsAccepted prefixes packet room
    → parts.translated_packet prefixes (ipv4.translated_packet prefixes identification packet) ≡ ipv6_packet_back packet
there_and_back prefixes packet identification room fits restored accepted =
    let header : List ℕ = ipv6_header packet in
    let payload : List ℕ = ipv4.payload_of packet in
    let message : List ℕ = ipv4.message_of packet in
    let class : ℕ = back.traffic_class header in
    let number : ℕ = (unless_err (ipv4.skipped_in header payload)).number in
    let hop : ℕ = back.hop_limit header in
    let fields : FragmentFields = ipv4.fields_of identification packet in
    let header_len : length header ≡ 40 = omega (arith, length-take 40 packet, accepted.there) in
    let sixteen : length (back.source header) ≡ 16 = range_len 8 24 header (omega (arith, header_len)) in
    let sixteen_too : length (back.destination header) ≡ 16 = range_len 24 40 header (omega (arith, header_len)) in
    let source_same = source_of class (length message) number hop (back.source header) (back.destination header) sixteen in
    let destination_same =
    destination_of class (length message) number hop (back.source header) (back.destination header) sixteen sixteen_too in
    let whole : is_part fields.flags_and_offset ≡ false =
    ap is_part (flags_of (unless_err (ipv4.skipped_in header payload)).fragment identification) ∙ restored.whole in
    let fits_payload : IsBytes payload = bytes_range 40 (40 + back.payload_len header) packet fits in
    let fits_header : IsBytes header = bytes_take 40 packet fits in
    let message_short : length message < 65536 = omega (
      arith,
      fits_header 4,
      fits_header 5,
      length-take (40 + back.payload_len header - 40) (drop 40 packet),
      length-drop (unless_err (ipv4.skipped_in header payload)).len payload,
    ) in
    direct_there_and_back prefixes class (length message) number hop (back.source header) (back.destination header) message fields
    (record {
      fits = bytes_drop (unless_err (ipv4.skipped_in header payload)).len payload fits_payload;
      class_small = omega arith;
      counted = refl;
      short = omega (arith, message_short, accepted.counted);
      sixteen = sixteen;
      sixteen_too = sixteen_too;
      source_back = same_address prefixes.source (back.source header) sixteen
          (ap (to_ipv4_refusal prefixes.source) (sym source_same) ∙ accepted.source) restored.source_back;
      destination_back = same_address prefixes.destination (back.destination header) sixteen_too
          (ap (to_ipv4_refusal prefixes.destination) (sym destination_same) ∙ accepted.destination) restored.destination_back;
      whole = whole;
      restored = restored.message;
      some_udp = has_checksum prefixes number message room accepted.message;
      long = is_long prefixes number message room accepted.message restored.message.no_error;
    })
    ∙ ap (λ header. header ++ message) (header_back_is (length message) number header fits_header header_len
    (ap (λ byte. byte / 16) (get_or-take 40 packet 0 0 (omega arith)) ∙ accepted.is_version_6))
