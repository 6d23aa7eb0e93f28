-- The packets that ICMPv6 errors quote, translated to IPv4 (RFC 7915, section 5.3), and the quoted packets that are not translated. A quote
-- may be a fragment, and it may end before the packet ends.
use Rattle.std.specs.Prelude.{◌≡◌, ◌≤◌, ℕ, ◌+◌, ◌-◌, ◌==◌, is_some, nat_lt, if◌then◌else◌, List, [], ◌∷◌, ◌++◌, drop, length, slice_index, take, Option, None, Result}
use Rattle.std.specs.Option.{option_map, unwrap_or}
use Rattle.ip_part.specs.Ip.{error_of}
use Rattle.net_base.specs.IpNumbers.{icmpv6_number, tcp_number, udp_number}
use Rattle.net_base.specs.Refusals.{first_of, refused_if}
use Rattle.net_base.specs.StoredChecksum.{tcp_checksum_place, udp_checksum_place, with_checksum}
use Rattle.word_sum.specs.UpdatedChecksum.{updated_checksum_of, updated_udp_checksum_of}
use Rattle.ip_translation.specs.EchoMessages.{quoted_echo_refusal, translated_echo, type_over_ipv4}
use Rattle.ip_translation.specs.Fragments.{is_later, is_part, whole}
use Rattle.ip_translation.specs.HeadersToIpv4.{added_addresses, next_header, old_pseudo_header, payload_len, quoted_header, quoted_header_refusal, removed_addresses}
use Rattle.ip_translation.specs.Ipv4Packets.{header_len_refusal, tcp_checksum, udp_checksum}
use Rattle.ip_translation.specs.Ipv6Packets.{header_counting, skipped_in}
use Rattle.ip_translation.specs.QuotedPackets.{max_quoted_len}
use Rattle.ip_translation.specs.SkippedHeaders.{unless_err}
use Rattle.ip_translation.specs.declared.fragment_fields.FragmentFields.{FragmentFields}
use Rattle.ip_translation.specs.declared.packet_translation_error.PacketTranslationError.{PacketTranslationError}
use Rattle.ip_translation.specs.declared.packet_translation_error.PacketTranslationError.TheVariants.{IcmpFragment, QuotedHeader}
use Rattle.ip_translation.specs.declared.prefixes.Prefixes.{Prefixes}
use Rattle.ip_translation.specs.declared.skipped_headers.SkippedHeaders.{SkippedHeaders}
use Rattle.ip_translation.specs.declared.translation_error.TranslationError.TheVariants.{ExtensionHeader}

-- ---- the message

-- The error of a quoted message of this protocol. At least eight bytes are needed, as over IPv4. An ICMPv6 error must not be about an
-- ICMPv6 error (RFC 4443, section 2.4). So an ICMPv6 message must be an echo message.
abbrev pub quoted_message_refusal : ℕ → List ℕ → Option PacketTranslationError
quoted_message_refusal protocol message =
    if protocol == icmpv6_number then quoted_echo_refusal type_over_ipv4 message
    else if protocol == udp_number then header_len_refusal 8 message
    else if protocol == tcp_number then header_len_refusal 8 message
    else None

-- The first error of the part of a message of this protocol in a quoted fragment. ICMPv6 messages in fragments are not translated (RFC
-- 7915, section 1.2). A later fragment has no transport header. `flags` is the flags and the offset.
abbrev pub part_refusal : Option ℕ → ℕ → List ℕ → Option PacketTranslationError
part_refusal flags protocol message = first_of (
    refused_if (protocol == icmpv6_number) IcmpFragment
    ∷ (if is_later flags then None else quoted_message_refusal protocol message)
    ∷ [])

-- the first error of the message, or the part of a message, of this protocol in a quoted packet
abbrev pub message_refusal : Option ℕ → ℕ → List ℕ → Option PacketTranslationError
message_refusal flags protocol message =
    if is_part flags then part_refusal flags protocol message else quoted_message_refusal protocol message

-- the quoted bytes contain the first eight bytes of a message of ICMPv6, UDP or TCP
abbrev pub HasQuotedHeader : ℕ → List ℕ → Type 0
HasQuotedHeader protocol message =
    (protocol ≡ icmpv6_number → 8 ≤ length message)
    × ((protocol ≡ udp_number → 8 ≤ length message) × (protocol ≡ tcp_number → 8 ≤ length message))

-- a quoted UDP packet; if it has no checksum, it stays without one
abbrev pub quoted_udp : Prefixes → List ℕ → List ℕ → List ℕ
quoted_udp prefixes header packet = with_checksum udp_checksum_place packet
    (updated_udp_checksum_of (udp_checksum packet) (removed_addresses header) (added_addresses prefixes header))

-- a quoted TCP segment; the quote may end before the checksum
abbrev pub quoted_tcp : Prefixes → List ℕ → List ℕ → List ℕ
quoted_tcp prefixes header segment =
    if nat_lt (length segment) 18 then segment
    else with_checksum tcp_checksum_place segment
    (updated_checksum_of (tcp_checksum segment) (removed_addresses header) (added_addresses prefixes header))

-- a quoted echo message; the length in its pseudo header counts also the bytes that are not quoted
abbrev pub quoted_icmp : List ℕ → List ℕ → List ℕ
quoted_icmp header message =
    translated_echo (unwrap_or (type_over_ipv4 (slice_index message 0)) (slice_index message 0))
    (old_pseudo_header header icmpv6_number (payload_len header)) [] message

-- the translation of a quoted message
abbrev pub translated_quote : Prefixes → List ℕ → List ℕ → List ℕ
translated_quote prefixes header message =
    if next_header header == icmpv6_number then quoted_icmp header message
    else if next_header header == udp_number then quoted_udp prefixes header message
    else if next_header header == tcp_number then quoted_tcp prefixes header message
    else message

-- the translation of a quoted message, or of its part: the bytes of a later fragment are unchanged
abbrev pub translated_message : Prefixes → Option ℕ → List ℕ → List ℕ → List ℕ
translated_message prefixes flags header message = if is_later flags then message else translated_quote prefixes header message

-- ---- a quoted packet without extension headers

-- the first error of a quoted packet that consists of this header and this message
abbrev pub direct_refusal : Prefixes → Option ℕ → List ℕ → List ℕ → Option PacketTranslationError
direct_refusal prefixes flags header message = first_of (
    option_map QuotedHeader (quoted_header_refusal prefixes header)
    ∷ message_refusal flags (next_header header) message
    ∷ [])

-- the translation of a quoted packet that consists of this header and this message
abbrev pub direct_packet : Prefixes → FragmentFields → List ℕ → List ℕ → List ℕ
direct_packet prefixes fields header message =
    quoted_header prefixes fields header ++ translated_message prefixes fields.flags_and_offset header message

-- ---- the quoted packet

-- the quoted bytes after this header that its payload length counts
abbrev pub quoted_payload : List ℕ → List ℕ → List ℕ
quoted_payload header quote = drop 40 (take (40 + payload_len header) quote)

-- The error of a quoted packet with an extension header that is refused, or that ends after the quote. The error contains the next header
-- of the quoted packet.
abbrev pub extension_refusal : List ℕ → Result SkippedHeaders PacketTranslationError → Option PacketTranslationError
extension_refusal header skipped = refused_if (is_some (error_of skipped)) (QuotedHeader (ExtensionHeader (next_header header)))

-- The header of the quoted packet without these extension headers. Its payload length counts also the bytes that are not quoted.
abbrev pub direct_header : List ℕ → SkippedHeaders → List ℕ
direct_header header skipped = header_counting header skipped.number (payload_len header - skipped.len)

-- the bytes of the quoted message after these extension headers, as far as there is room for them
abbrev pub message_after : SkippedHeaders → List ℕ → List ℕ
message_after skipped payload = take max_quoted_len (drop skipped.len payload)

-- the fields for the IPv4 header; a packet without a fragment header gets the identification 0
abbrev pub fields_after : SkippedHeaders → FragmentFields
fields_after skipped = unwrap_or skipped.fragment (whole 0)

-- the first error of a quoted packet without these extension headers, with this header and this payload
abbrev pub refusal_after : Prefixes → List ℕ → List ℕ → SkippedHeaders → Option PacketTranslationError
refusal_after prefixes header payload skipped =
    direct_refusal prefixes (fields_after skipped).flags_and_offset (direct_header header skipped) (message_after skipped payload)

-- the translation of a quoted packet without these extension headers, with this header and this payload
abbrev pub packet_after : Prefixes → List ℕ → List ℕ → SkippedHeaders → List ℕ
packet_after prefixes header payload skipped =
    direct_packet prefixes (fields_after skipped) (direct_header header skipped) (message_after skipped payload)

-- the first error of a quoted packet with this header and this payload; `skipped` is its extension headers, or the error of one of them
abbrev pub payload_refusal : Prefixes → List ℕ → List ℕ → Result SkippedHeaders PacketTranslationError → Option PacketTranslationError
payload_refusal prefixes header payload skipped = first_of (
    extension_refusal header skipped
    ∷ refusal_after prefixes header payload (unless_err skipped)
    ∷ [])

-- the first error of a quoted packet with this header
abbrev pub quoted_refusal : Prefixes → List ℕ → List ℕ → Option PacketTranslationError
quoted_refusal prefixes header quote =
    payload_refusal prefixes header (quoted_payload header quote) (skipped_in header (quoted_payload header quote))

-- The translation of a quoted packet with this header. Its extension headers are skipped, and a fragment header becomes the fields of a
-- fragment (RFC 7915, section 5.1).
abbrev pub quoted_packet : Prefixes → List ℕ → List ℕ → List ℕ
quoted_packet prefixes header quote = packet_after prefixes header (quoted_payload header quote)
    (unless_err (skipped_in header (quoted_payload header quote)))
