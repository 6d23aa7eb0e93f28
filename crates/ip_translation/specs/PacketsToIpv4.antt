-- The translation of IPv6 packets to IPv4 (RFC 7915, section 5), and the packets that are not translated.
use Rattle.std.specs.Prelude.{◌≡◌, ◌≢◌, ◌↔◌, ℕ, ◌+◌, ◌-◌, ◌==◌, Bool, true, false, ◌&&◌, not, nat_le, nat_lt, if◌then◌else◌, List, [], ◌∷◌, ◌++◌, is_none, length, slice_index, Option, None}
use Rattle.std.specs.Option.{option_map, unwrap_or}
use Rattle.ip_part.specs.Ip.{error_of, ipv6_header}
use Rattle.net_base.specs.IpNumbers.{icmpv6_number, tcp_number, udp_number}
use Rattle.net_base.specs.Refusals.{first_of, refused_if}
use Rattle.net_base.specs.StoredChecksum.{tcp_checksum_place, udp_checksum_place, with_checksum}
use Rattle.word_sum.specs.Checksum.{Verifies}
use Rattle.word_sum.specs.UpdatedChecksum.{updated_checksum_of, updated_udp_checksum_of}
use Rattle.ip_translation.specs.EchoMessages.{translated_echo, type_over_ipv4}
use Rattle.ip_translation.specs.ErrorsToIpv4.{error_refusal, error_without_checksum, translated_error, with_new_checksum}
use Rattle.ip_translation.specs.Fragments.{is_later, is_part}
use Rattle.ip_translation.specs.HeadersToIpv4.{added_addresses, header_refusal, header_with, hop_limit, new_pseudo_header, next_header, old_pseudo_header, payload_len, removed_addresses, translated_header}
use Rattle.ip_translation.specs.PacketsToIpv6.{VerifiesAlike, header_len_refusal, tcp_checksum, udp_checksum}
use Rattle.ip_translation.specs.declared.fragment_fields.FragmentFields.{FragmentFields}
use Rattle.ip_translation.specs.declared.packet_translation_error.PacketTranslationError.{PacketTranslationError}
use Rattle.ip_translation.specs.declared.packet_translation_error.PacketTranslationError.TheVariants.{CutOff, Header, IcmpFragment, NoIpv6Header, NoUdpChecksum, Space}
use Rattle.ip_translation.specs.declared.prefixes.Prefixes.{Prefixes}
pub use Rattle.ip_translation.specs.Ipv6Packets.{begins_with_header, direct_header, direct_in, fields_in, fields_of, flags_in, header_before, message_in, message_of, payload_after, payload_of, skipped_in}

-- ---- errors

-- the error of a packet if its header counts more than these `len` bytes
abbrev pub cut_off_refusal : List ℕ → ℕ → Option PacketTranslationError
cut_off_refusal header len = refused_if (nat_lt len (40 + payload_len header)) (CutOff (40 + payload_len header) len)

-- The error of a UDP packet that is shorter than its header or has no checksum. IPv6 requires a checksum (RFC 8200, section 8.1).
abbrev pub udp_refusal : List ℕ → Option PacketTranslationError
udp_refusal packet = first_of (
    header_len_refusal 8 packet
    ∷ refused_if (udp_checksum packet == 0) NoUdpChecksum
    ∷ [])

-- this is an ICMPv6 message that is no echo message; it is translated as an error, or refused
abbrev pub is_icmp_error : ℕ → List ℕ → Bool
is_icmp_error protocol message =
    protocol == icmpv6_number && (nat_le 8 (length message) && is_none (type_over_ipv4 (slice_index message 0)))

-- the error of a message of this protocol that is no ICMPv6 error, if the message has no translation
abbrev pub message_refusal : ℕ → List ℕ → Option PacketTranslationError
message_refusal protocol message =
    if protocol == icmpv6_number then header_len_refusal 8 message
    else if protocol == udp_number then udp_refusal message
    else if protocol == tcp_number then header_len_refusal 20 message
    else None

-- the error of a buffer of `room` bytes that is shorter than a packet with a translated message of `len` bytes
abbrev pub space_refusal : ℕ → ℕ → Option PacketTranslationError
space_refusal len room = refused_if (nat_lt room (20 + len)) (Space (20 + len) room)

-- the first error of an ICMPv6 error; `room` is the length of the buffer
abbrev pub error_packet_refusal : Prefixes → List ℕ → ℕ → Option PacketTranslationError
error_packet_refusal prefixes message room = first_of (
    error_refusal prefixes message
    ∷ space_refusal (length (error_without_checksum prefixes message)) room
    ∷ [])

-- the first error of a message of this protocol that is no ICMP error; `room` is the length of the buffer
abbrev pub other_refusal : ℕ → List ℕ → ℕ → Option PacketTranslationError
other_refusal protocol message room = first_of (message_refusal protocol message ∷ space_refusal (length message) room ∷ [])

-- the first error of a message of this protocol
abbrev pub refusal_of : ℕ → Prefixes → List ℕ → ℕ → Option PacketTranslationError
refusal_of protocol prefixes message room =
    if is_icmp_error protocol message then error_packet_refusal prefixes message room
    else other_refusal protocol message room

-- the first error of a whole packet that consists of this header and this message; `room` is the length of the buffer
abbrev pub whole_refusal : List ℕ → Prefixes → List ℕ → ℕ → Option PacketTranslationError
whole_refusal header prefixes message room = first_of (
    option_map Header (header_refusal prefixes header)
    ∷ refusal_of (next_header header) prefixes message room
    ∷ [])

-- The first error of one of several fragments, which consists of this header and this part of a message. ICMPv6 messages in fragments are
-- not translated (RFC 7915, section 1.2). A later fragment has no transport header. `flags` is the flags and the offset.
abbrev pub part_refusal : List ℕ → Prefixes → Option ℕ → List ℕ → ℕ → Option PacketTranslationError
part_refusal header prefixes flags message room = first_of (
    option_map Header (header_refusal prefixes header)
    ∷ refused_if (next_header header == icmpv6_number) IcmpFragment
    ∷ (if is_later flags then space_refusal (length message) room else other_refusal (next_header header) message room)
    ∷ [])

-- the first error of a packet or a fragment that consists of this header and this message
abbrev pub direct_refusal : List ℕ → Prefixes → Option ℕ → List ℕ → ℕ → Option PacketTranslationError
direct_refusal header prefixes flags message room =
    if is_part flags then part_refusal header prefixes flags message room else whole_refusal header prefixes message room

-- The first error of a packet with this header and this payload. An extension header is refused, or the packet without its extension
-- headers
-- is refused.
abbrev pub payload_refusal : List ℕ → Prefixes → List ℕ → ℕ → Option PacketTranslationError
payload_refusal header prefixes payload room = first_of (
    error_of (skipped_in header payload)
    ∷ direct_refusal (direct_in header payload) prefixes (flags_in header payload) (message_in header payload) room
    ∷ [])

-- the first error of a packet, which must begin with an IPv6 header and must be whole; `room` is the length of the buffer
abbrev pub packet_refusal : Prefixes → List ℕ → ℕ → Option PacketTranslationError
packet_refusal prefixes packet room = first_of (
    refused_if (not (begins_with_header packet)) NoIpv6Header
    ∷ cut_off_refusal (ipv6_header packet) (length packet)
    ∷ payload_refusal (ipv6_header packet) prefixes (payload_of packet) room
    ∷ [])

-- ---- the translated message

-- a UDP packet with its checksum updated for the new addresses
abbrev pub translated_udp : Prefixes → List ℕ → List ℕ → List ℕ
translated_udp prefixes header packet = with_checksum udp_checksum_place packet
    (updated_udp_checksum_of (udp_checksum packet) (removed_addresses header) (added_addresses prefixes header))

-- a TCP segment with its checksum updated for the new addresses
abbrev pub translated_tcp : Prefixes → List ℕ → List ℕ → List ℕ
translated_tcp prefixes header segment = with_checksum tcp_checksum_place segment
    (updated_checksum_of (tcp_checksum segment) (removed_addresses header) (added_addresses prefixes header))

-- an ICMPv6 echo message as an ICMP echo message; the new checksum covers no pseudo header
abbrev pub translated_icmp : List ℕ → List ℕ → List ℕ
translated_icmp header message =
    translated_echo (unwrap_or (type_over_ipv4 (slice_index message 0)) (slice_index message 0))
    (old_pseudo_header header icmpv6_number (length message)) [] message

-- The translation of a message that is no ICMPv6 error. Its length stays. A message of a protocol other than ICMPv6, UDP and TCP is
-- unchanged.
abbrev pub updated_message : Prefixes → List ℕ → List ℕ → List ℕ
updated_message prefixes header message =
    if next_header header == icmpv6_number then translated_icmp header message
    else if next_header header == udp_number then translated_udp prefixes header message
    else if next_header header == tcp_number then translated_tcp prefixes header message
    else message

-- ---- the translated packet

-- the IPv4 packet with the error; its total length counts the translated error
abbrev pub error_packet : List ℕ → Prefixes → FragmentFields → List ℕ → List ℕ
error_packet header prefixes fields message =
    header_with prefixes fields (length (error_without_checksum prefixes message) + 20) (hop_limit header - 1) header
    ++ translated_error prefixes header message

-- the translation of a whole packet that consists of this IPv6 header and this message; the IPv4 header has these fields
abbrev pub translation_of : List ℕ → Prefixes → FragmentFields → List ℕ → List ℕ
translation_of header prefixes fields message =
    if is_icmp_error (next_header header) message then error_packet header prefixes fields message
    else translated_header prefixes fields header ++ updated_message prefixes header message

-- the part of a message in a fragment: the first part contains the transport header, and every later part is unchanged
abbrev pub translated_part : List ℕ → Prefixes → FragmentFields → List ℕ → List ℕ
translated_part header prefixes fields message =
    if is_later fields.flags_and_offset then message else updated_message prefixes header message

-- the translation of a packet or a fragment that consists of this IPv6 header and this message
abbrev pub direct_translation : List ℕ → Prefixes → FragmentFields → List ℕ → List ℕ
direct_translation header prefixes fields message =
    if is_part fields.flags_and_offset then translated_header prefixes fields header ++ translated_part header prefixes fields message
    else translation_of header prefixes fields message

-- the length of a translated whole packet
abbrev pub translated_len : List ℕ → Prefixes → List ℕ → ℕ
translated_len header prefixes message =
    20 + (if is_icmp_error (next_header header) message then length (error_without_checksum prefixes message) else length message)

-- the length of the translated packet or fragment
abbrev pub direct_len : List ℕ → Prefixes → Option ℕ → List ℕ → ℕ
direct_len header prefixes flags message =
    if is_part flags then 20 + length message else translated_len header prefixes message

-- The translation of a packet that begins with an IPv6 header. Its extension headers are skipped (RFC 7915, section 5.1). If it has no
-- fragment
-- header, the IPv4 header has this identification.
abbrev pub translated_packet : Prefixes → ℕ → List ℕ → List ℕ
translated_packet prefixes identification packet =
    direct_translation (direct_header packet) prefixes (fields_of identification packet) (message_of packet)

-- ---- a receiver's check

-- a receiver accepts this error with its new checksum exactly if it accepts the ICMPv6 message
abbrev pub IsChecksumAlike : List ℕ → List ℕ → List ℕ → Type 0
IsChecksumAlike header message error =
    (Verifies [] (with_new_checksum header message error)) ↔ (Verifies (old_pseudo_header header icmpv6_number (length message)) message)

-- a receiver accepts the ICMP error exactly if it accepts the ICMPv6 error
abbrev pub IsErrorAcceptedAlike : Prefixes → List ℕ → List ℕ → Type 0
IsErrorAcceptedAlike prefixes header message = IsChecksumAlike header message (error_without_checksum prefixes message)

-- A receiver accepts the translated message exactly if it accepts the original message. This holds for a UDP packet with a checksum, for a
-- TCP segment and for an echo message.
pub record IsAcceptedAlike (prefixes : Prefixes) (header message translated : List ℕ) : Type 0 where
  pub udp : next_header header ≡ udp_number → udp_checksum message ≢ 0
      → VerifiesAlike 8 (old_pseudo_header header udp_number) (new_pseudo_header prefixes header udp_number) message translated
  pub tcp : next_header header ≡ tcp_number
      → VerifiesAlike 18 (old_pseudo_header header tcp_number) (new_pseudo_header prefixes header tcp_number) message translated
  pub echo : next_header header ≡ icmpv6_number
      → (Verifies [] translated) ↔ (Verifies (old_pseudo_header header icmpv6_number (length message)) message)

-- a receiver accepts the message of a translated whole packet exactly if it accepts the message of the packet
pub record AreAcceptedAlike (prefixes : Prefixes) (header message : List ℕ) : Type 0 where
  pub error : is_icmp_error (next_header header) message ≡ true → IsErrorAcceptedAlike prefixes header message
  pub other : is_icmp_error (next_header header) message ≡ false
      → IsAcceptedAlike prefixes header message (updated_message prefixes header message)

-- A receiver accepts the message of the translated packet exactly if it accepts the message of the packet. For the first of several
-- fragments,
-- `VerifiesAlike` allows any bytes after its part of the message. A later fragment has no checksum.
pub record IsPacketAlike (prefixes : Prefixes) (header : List ℕ) (flags : Option ℕ) (message : List ℕ) : Type 0 where
  pub whole : is_part flags ≡ false → AreAcceptedAlike prefixes header message
  pub first : is_part flags ≡ true → is_later flags ≡ false
      → IsAcceptedAlike prefixes header message (updated_message prefixes header message)
