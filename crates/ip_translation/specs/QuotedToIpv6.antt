-- The packets that ICMP errors quote, translated to IPv6 (RFC 7915, section 4.3), and the quoted packets that are not translated. A quote
-- may be a fragment, and it may end before the packet ends.
use Rattle.std.specs.Prelude.{◌≡◌, ◌≤◌, ℕ, ◌-◌, ◌==◌, nat_lt, if◌then◌else◌, List, [], ◌∷◌, ◌++◌, drop, length, slice_index, take, Option, None}
use Rattle.std.specs.Option.{option_map, unwrap_or}
use Rattle.net_base.specs.IpHeaders.{ipv4_header_len, ipv4_is_fragment}
use Rattle.net_base.specs.IpNumbers.{icmpv4_number, icmpv6_number, tcp_number, udp_number}
use Rattle.net_base.specs.Refusals.{first_of, refused_if}
use Rattle.net_base.specs.StoredChecksum.{tcp_checksum_place, udp_checksum_place, with_checksum}
use Rattle.word_sum.specs.UpdatedChecksum.{updated_checksum_of, updated_udp_checksum_of}
use Rattle.ip_translation.specs.EchoMessages.{quoted_echo_refusal, translated_echo, type_over_ipv6}
use Rattle.ip_translation.specs.FragmentHeaders.{headers_len, headers_with, is_later}
use Rattle.ip_translation.specs.HeadersToIpv6.{new_pseudo_header, payload_len, protocol, quoted_header, quoted_header_refusal, time_to_live, total_len}
use Rattle.ip_translation.specs.Ipv4Packets.{added_addresses, header_len_refusal, removed_addresses, tcp_checksum, udp_checksum}
use Rattle.ip_translation.specs.QuotedPackets.{max_packet_len}
use Rattle.ip_translation.specs.declared.packet_translation_error.PacketTranslationError.{PacketTranslationError}
use Rattle.ip_translation.specs.declared.packet_translation_error.PacketTranslationError.TheVariants.{IcmpFragment, QuotedHeader}
use Rattle.ip_translation.specs.declared.prefixes.Prefixes.{Prefixes}

-- ---- the headers

-- the length of the headers of the translated packet; only a fragment has a fragment header
abbrev pub quoted_headers_len : List ℕ → ℕ
quoted_headers_len header = if ipv4_is_fragment header then headers_len else 40

-- the headers of the translated packet, which keeps its time to live
abbrev pub quoted_headers : Prefixes → List ℕ → List ℕ
quoted_headers prefixes header =
    if ipv4_is_fragment header then headers_with prefixes (payload_len header) (time_to_live header) header
    else quoted_header prefixes header

-- ---- the message

-- the greatest length of the quoted message
abbrev pub message_room : List ℕ → ℕ
message_room header = max_packet_len - quoted_headers_len header

-- the bytes of the quoted message: the bytes after this header of the quoted packet, up to its total length, as far as there is room for
-- them
abbrev pub quoted_message : List ℕ → List ℕ → List ℕ
quoted_message header quote = take (message_room header) (drop (ipv4_header_len header) (take (total_len header) quote))

-- The error of a quoted message of this protocol. An ICMP error quotes at least eight bytes of a message (RFC 792), and it must not be
-- about an ICMP error. So an ICMP message must be an echo message.
abbrev pub quoted_message_refusal : ℕ → List ℕ → Option PacketTranslationError
quoted_message_refusal protocol message =
    if protocol == icmpv4_number then quoted_echo_refusal type_over_ipv6 message
    else if protocol == udp_number then header_len_refusal 8 message
    else if protocol == tcp_number then header_len_refusal 8 message
    else None

-- The first error of the part of a message in a quoted fragment. ICMP messages in fragments are not translated (RFC 7915, section 1.2). A
-- later fragment has no transport header.
abbrev pub part_refusal : List ℕ → List ℕ → Option PacketTranslationError
part_refusal header message = first_of (
    refused_if (protocol header == icmpv4_number) IcmpFragment
    ∷ (if is_later header then None else quoted_message_refusal (protocol header) message)
    ∷ [])

-- the first error of the message, or the part of a message, of a quoted packet
abbrev pub message_refusal : List ℕ → List ℕ → Option PacketTranslationError
message_refusal header message =
    if ipv4_is_fragment header then part_refusal header message else quoted_message_refusal (protocol header) message

-- the quoted bytes contain the first eight bytes of a message of ICMP, UDP or TCP
abbrev pub HasQuotedHeader : ℕ → List ℕ → Type 0
HasQuotedHeader protocol message =
    (protocol ≡ icmpv4_number → 8 ≤ length message)
    × ((protocol ≡ udp_number → 8 ≤ length message) × (protocol ≡ tcp_number → 8 ≤ length message))

-- a quoted UDP packet; if it has no checksum, it stays without one, since bytes may be missing
abbrev pub quoted_udp : Prefixes → List ℕ → List ℕ → List ℕ
quoted_udp prefixes header packet = with_checksum udp_checksum_place packet
    (updated_udp_checksum_of (udp_checksum packet) (removed_addresses header) (added_addresses prefixes header))

-- a quoted TCP segment; often the quote ends before the checksum
abbrev pub quoted_tcp : Prefixes → List ℕ → List ℕ → List ℕ
quoted_tcp prefixes header segment =
    if nat_lt (length segment) 18 then segment
    else with_checksum tcp_checksum_place segment
    (updated_checksum_of (tcp_checksum segment) (removed_addresses header) (added_addresses prefixes header))

-- a quoted echo message; the length in its pseudo header counts also the bytes that are not quoted
abbrev pub quoted_icmp : Prefixes → List ℕ → List ℕ → List ℕ
quoted_icmp prefixes header message =
    translated_echo (unwrap_or (type_over_ipv6 (slice_index message 0)) (slice_index message 0)) []
    (new_pseudo_header prefixes header icmpv6_number (payload_len header)) message

-- the translation of a quoted message
abbrev pub translated_quote : Prefixes → List ℕ → List ℕ → List ℕ
translated_quote prefixes header message =
    if protocol header == icmpv4_number then quoted_icmp prefixes header message
    else if protocol header == udp_number then quoted_udp prefixes header message
    else if protocol header == tcp_number then quoted_tcp prefixes header message
    else message

-- the translation of a quoted message, or of its part: the bytes of a later fragment are unchanged
abbrev pub translated_message : Prefixes → List ℕ → List ℕ → List ℕ
translated_message prefixes header message = if is_later header then message else translated_quote prefixes header message

-- ---- the quoted packet

-- the first error of a quoted packet with this header
abbrev pub quoted_refusal : Prefixes → List ℕ → List ℕ → Option PacketTranslationError
quoted_refusal prefixes header quote = first_of (
    option_map QuotedHeader (quoted_header_refusal prefixes header)
    ∷ message_refusal header (quoted_message header quote)
    ∷ [])

-- the translation of a quoted packet with this header
abbrev pub quoted_packet : Prefixes → List ℕ → List ℕ → List ℕ
quoted_packet prefixes header quote =
    quoted_headers prefixes header ++ translated_message prefixes header (quoted_message header quote)
