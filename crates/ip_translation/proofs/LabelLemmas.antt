-- A translation to IPv4 does not read the flow label, so the header without its flow label has the same translation.
use Rattle.std.proofs.Common.{◌≡◌, ◌↔◌, ℕ, Option, Some, None, ◌+◌, ◌-◌, ◌*◌, ◌/◌, ◌%◌, ◌<◌, if◌then◌else◌, List, [], ◌∷◌, ◌++◌, length, drop, take, take_all, length-drop, refl, sym, ap, ap₂, subst, ◌∙◌, arith}
use Rattle.std.specs.Prelude.{IfSome, IsSome, nat_lt, slice_index}
use Rattle.std.specs.Option.{option_map}
use Rattle.std.proofs.lemmas.List.{length-take-le, take-append-drop}
use Rattle.net_base.specs.IpHeaders.{BeginsWithIpv6Header}
use Rattle.net_base.specs.Refusals.{first_of, refused_if}
use Rattle.ip_translation.specs.AddressTables.{extracted}
use Rattle.ip_translation.specs.ErrorsToIpv4.{error_without_checksum, translated_error}
use Rattle.ip_translation.specs.HeadersToIpv4 as headers
use Rattle.ip_translation.specs.PacketsToIpv4 as specs
use Rattle.ip_translation.specs.declared.fragment_fields.FragmentFields.{FragmentFields}
use Rattle.ip_translation.specs.declared.packet_translation_error.PacketTranslationError.TheVariants.{Header}
use Rattle.ip_translation.specs.declared.prefixes.Prefixes.{Prefixes}
use Rattle.ip_translation.specs.declared.translation_error.TranslationError.TheVariants.{ExtensionHeader, PayloadLength, TimeExceeded}
use Rattle.ip_translation.proofs.Ipv6PacketBackLemmas.{eight}

-- whole packets with these two headers are translated alike
pub record IsSameWhole (header other : List ℕ) : Type 0 where
  pub refusal : (prefixes : Prefixes) (message : List ℕ) (room : ℕ)
      → specs.whole_refusal other prefixes message room ≡ specs.whole_refusal header prefixes message room
  pub len : (prefixes : Prefixes) (message : List ℕ)
      → specs.translated_len other prefixes message ≡ specs.translated_len header prefixes message
  pub translation : (prefixes : Prefixes) (fields : FragmentFields) (message : List ℕ)
      → specs.translation_of other prefixes fields message ≡ specs.translation_of header prefixes fields message
  pub alike : (prefixes : Prefixes) (message : List ℕ) → specs.AreAcceptedAlike prefixes header message
      → specs.AreAcceptedAlike prefixes other message

module _ (b0 b1 b2 b3 b4 b5 b6 b7 c0 c1 c2 c3 c4 c5 : ℕ) (addresses : List ℕ)
    (class_same : headers.traffic_class (c0 ∷ c1 ∷ c2 ∷ c3 ∷ c4 ∷ c5 ∷ b6 ∷ b7 ∷ addresses)
    ≡ headers.traffic_class (b0 ∷ b1 ∷ b2 ∷ b3 ∷ b4 ∷ b5 ∷ b6 ∷ b7 ∷ addresses))
    (len_same : headers.payload_len (c0 ∷ c1 ∷ c2 ∷ c3 ∷ c4 ∷ c5 ∷ b6 ∷ b7 ∷ addresses)
    ≡ headers.payload_len (b0 ∷ b1 ∷ b2 ∷ b3 ∷ b4 ∷ b5 ∷ b6 ∷ b7 ∷ addresses)) where
  abbrev pub header : List ℕ
  header = b0 ∷ b1 ∷ b2 ∷ b3 ∷ b4 ∷ b5 ∷ b6 ∷ b7 ∷ addresses

  abbrev pub other : List ℕ
  other = c0 ∷ c1 ∷ c2 ∷ c3 ∷ c4 ∷ c5 ∷ b6 ∷ b7 ∷ addresses

  abbrev ipv4_header : Prefixes → FragmentFields → ℕ → ℕ → List ℕ
  ipv4_header prefixes fields class total_len = headers.ipv4_header
      (headers.start_of_ipv4 class total_len fields (b7 - 1) (headers.protocol_of b6))
      (extracted prefixes.source (headers.source header)) (extracted prefixes.destination (headers.destination header))

  pub by_fields : IsSameWhole header other
  by_fields = record {
    refusal = λ prefixes message room. ap (λ len. first_of (
        option_map Header (first_of (
        first_of (
        first_of (
        refused_if (headers.is_extension b6) (ExtensionHeader b6)
        ∷ refused_if (nat_lt headers.max_payload_len len) (PayloadLength len) ∷ [])
        ∷ refused_if (nat_lt b7 2) TimeExceeded ∷ [])
        ∷ headers.addresses_refusal prefixes header ∷ []))
        ∷ specs.refusal_of b6 prefixes message room ∷ [])) len_same;
    len = λ prefixes message. refl;
    translation = λ prefixes fields message. ap₂ (λ class len.
        if specs.is_icmp_error b6 message
        then ipv4_header prefixes fields class (length (error_without_checksum prefixes message) + 20)
        ++ translated_error prefixes header message
        else ipv4_header prefixes fields class (len + 20) ++ specs.updated_message prefixes header message) class_same len_same;
    alike = λ prefixes message alike. record {
      error = alike.error;
      other = λ none. record { udp = (alike.other none).udp; tcp = (alike.other none).tcp; echo = (alike.other none).echo };
    };
  }

same_by_bytes : (b0 b1 b2 b3 b4 b5 b6 b7 : ℕ) (addresses message : List ℕ) → length addresses ≡ 32
    → length message ≡ headers.payload_len (b0 ∷ b1 ∷ b2 ∷ b3 ∷ b4 ∷ b5 ∷ b6 ∷ b7 ∷ addresses)
    → length message < 65536
    → IsSameWhole (b0 ∷ b1 ∷ b2 ∷ b3 ∷ b4 ∷ b5 ∷ b6 ∷ b7 ∷ addresses)
    (specs.header_before (b0 ∷ b1 ∷ b2 ∷ b3 ∷ b4 ∷ b5 ∷ b6 ∷ b7 ∷ addresses) b6 message)
same_by_bytes b0 b1 b2 b3 b4 b5 b6 b7 addresses message sizes counted small =
    let header : List ℕ = b0 ∷ b1 ∷ b2 ∷ b3 ∷ b4 ∷ b5 ∷ b6 ∷ b7 ∷ addresses in
    let class : ℕ = headers.traffic_class header in
    let both_addresses : take 16 addresses ++ take 16 (drop 16 addresses) ≡ addresses =
    ap (λ destination. take 16 addresses ++ destination)
    (take_all 16 (drop 16 addresses) (omega (arith, sizes, length-drop 16 addresses)))
    ∙ take-append-drop 16 addresses in
    subst (IsSameWhole header)
    (sym (ap (λ addresses. (0x60 + class / 16) ∷ (class % 16 * 16) ∷ 0 ∷ 0 ∷ (length message / 256 % 256) ∷ (length message % 256) ∷ b6 ∷ b7
    ∷ addresses) both_addresses))
    (by_fields b0 b1 b2 b3 b4 b5 b6 b7 (0x60 + class / 16) (class % 16 * 16) 0 0 (length message / 256 % 256) (length message % 256)
    addresses (omega arith) (omega (arith, counted, small)))

-- the header before this message, without the flow label
pub same_without_label : (header message : List ℕ) → length header ≡ 40 → length message ≡ headers.payload_len header
    → length message < 65536 → IsSameWhole header (specs.header_before header (headers.next_header header) message)
same_without_label header message forty counted small =
    subst (λ header. length message ≡ headers.payload_len header
    → IsSameWhole header (specs.header_before header (headers.next_header header) message)) (eight header forty)
    (λ counted. same_by_bytes (slice_index header 0) (slice_index header 1) (slice_index header 2) (slice_index header 3)
    (slice_index header 4) (slice_index header 5) (slice_index header 6) (slice_index header 7) (drop 8 header) message
    (omega (arith, forty, length-drop 8 header)) counted small)
    counted

-- a header at the front of a packet has 40 bytes
pub front_forty : (result : Option (List ℕ)) (packet : List ℕ) → (IsSome result) ↔ (BeginsWithIpv6Header packet)
    → IfSome result (λ header. header ≡ take 40 packet)
    → IfSome result (λ header. length header ≡ 40)
front_forty None packet found kept = tt
front_forty (Some header) packet found kept =
    let begins : BeginsWithIpv6Header packet = found.0 refl in
    ap length kept ∙ length-take-le 40 packet (omega (arith, begins))
