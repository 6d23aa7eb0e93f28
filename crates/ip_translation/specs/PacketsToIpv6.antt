-- The translation of IPv4 packets to IPv6 (RFC 7915, section 4), and the packets that are not translated.
use Rattle.std.specs.Prelude.{◌≡◌, ◌≢◌, ◌≤◌, ◌↔◌, ℕ, ◌+◌, ◌-◌, ◌==◌, Bool, true, false, ◌&&◌, ◌||◌, nat_le, nat_lt, if◌then◌else◌, List, [], ◌∷◌, ◌++◌, is_none, length, slice_index, take, Option, None}
use Rattle.std.specs.Option.{option_map, unwrap_or}
use Rattle.net_base.specs.IpNumbers.{icmpv4_number, icmpv6_number, tcp_number, udp_number}
use Rattle.net_base.specs.PseudoHeader.{max_len_over_ipv4}
use Rattle.net_base.specs.Refusals.{first_of, refused_if}
use Rattle.net_base.specs.StoredChecksum.{tcp_checksum_place, udp_checksum_place, with_checksum}
use Rattle.word_sum.specs.Checksum.{Verifies, total, udp_checksum_of}
use Rattle.word_sum.specs.UpdatedChecksum.{updated_checksum_of, updated_udp_checksum_of}
use Rattle.ip_translation.specs.EchoMessages.{translated_echo, type_over_ipv6}
use Rattle.ip_translation.specs.ErrorsToIpv6.{error_refusal, error_without_checksum, translated_error, with_new_checksum}
use Rattle.ip_translation.specs.HeadersToIpv6.{header_refusal, header_with, new_pseudo_header, old_pseudo_header, protocol, time_to_live, total_len, translated_header}
use Rattle.ip_translation.specs.declared.packet_translation_error.PacketTranslationError.{PacketTranslationError}
use Rattle.ip_translation.specs.declared.packet_translation_error.PacketTranslationError.TheVariants.{CutOff, Header, Space, UdpLength}
use Rattle.ip_translation.specs.declared.prefixes.Prefixes.{Prefixes}
pub use Rattle.ip_translation.specs.Ipv4Packets.{added_addresses, begins_with_header, header_len_refusal, message_after, message_of, removed_addresses, tcp_checksum, udp_checksum, udp_length}

-- ---- errors

-- the error of a packet if its total length counts more than these `len` bytes
abbrev pub cut_off_refusal : List ℕ → ℕ → Option PacketTranslationError
cut_off_refusal header len = refused_if (nat_lt len (total_len header)) (CutOff (total_len header) len)

-- The UDP packet has no checksum, and the checksum can't be computed. The length field is below 8, or above the length of the message.
abbrev pub has_no_sum : List ℕ → Bool
has_no_sum packet = udp_checksum packet == 0 && (nat_lt (udp_length packet) 8 || nat_lt (length packet) (udp_length packet))

-- the error of a UDP packet that is shorter than its header, or whose checksum is missing and can't be computed
abbrev pub udp_refusal : List ℕ → Option PacketTranslationError
udp_refusal packet = first_of (
    header_len_refusal 8 packet
    ∷ refused_if (has_no_sum packet) (UdpLength (udp_length packet) (length packet))
    ∷ [])

-- The UDP packet contains its whole header. If it has no checksum, its length field counts at least the header.
pub record IsWholeUdp (packet : List ℕ) : Type 0 where
  pub there : 8 ≤ length packet
  pub counted : udp_checksum packet ≡ 0 → 8 ≤ udp_length packet

-- this is an ICMP message that is no echo message; it is translated as an error, or refused
abbrev pub is_icmp_error : ℕ → List ℕ → Bool
is_icmp_error protocol message =
    protocol == icmpv4_number && (nat_le 8 (length message) && is_none (type_over_ipv6 (slice_index message 0)))

-- the error of a message of this protocol that is no ICMP error, if the message has no translation
abbrev pub message_refusal : ℕ → List ℕ → Option PacketTranslationError
message_refusal protocol message =
    if protocol == icmpv4_number then header_len_refusal 8 message
    else if protocol == udp_number then udp_refusal message
    else if protocol == tcp_number then header_len_refusal 20 message
    else None

-- the error of a buffer of `room` bytes that is shorter than a packet with a translated message of `len` bytes
abbrev pub space_refusal : ℕ → ℕ → Option PacketTranslationError
space_refusal len room = refused_if (nat_lt room (40 + len)) (Space (40 + len) room)

-- the first error of an ICMP error; `room` is the length of the buffer
abbrev pub error_packet_refusal : Prefixes → List ℕ → ℕ → Option PacketTranslationError
error_packet_refusal prefixes message room = first_of (
    error_refusal prefixes message
    ∷ space_refusal (length (error_without_checksum prefixes message)) room
    ∷ [])

-- the first error of a message of this protocol that is no ICMP error; `room` is the length of the buffer
abbrev pub other_refusal : ℕ → List ℕ → ℕ → Option PacketTranslationError
other_refusal protocol message room = first_of (message_refusal protocol message ∷ space_refusal (length message) room ∷ [])

-- the first error of a message of this protocol
abbrev pub refusal_of : ℕ → Prefixes → List ℕ → ℕ → Option PacketTranslationError
refusal_of protocol prefixes message room =
    if is_icmp_error protocol message then error_packet_refusal prefixes message room
    else other_refusal protocol message room

-- the first error of a whole packet with this header; `room` is the length of the buffer
abbrev pub refusal_after : List ℕ → Prefixes → List ℕ → ℕ → Option PacketTranslationError
refusal_after header prefixes packet room = first_of (
    option_map Header (header_refusal prefixes header)
    ∷ cut_off_refusal header (length packet)
    ∷ refusal_of (protocol header) prefixes (message_after header packet) room
    ∷ [])

-- ---- the translated message

-- The checksum of a UDP packet, updated for the new addresses. If the packet has no checksum, the checksum is computed (RFC 7915, section
-- 4.5). Then it covers the pseudo header and the bytes that the length field counts.
abbrev pub new_udp_checksum : Prefixes → List ℕ → List ℕ → ℕ
new_udp_checksum prefixes header packet =
    if udp_checksum packet == 0
    then udp_checksum_of (total (new_pseudo_header prefixes header udp_number (udp_length packet))
    + total (take (udp_length packet) packet))
    else updated_udp_checksum_of (udp_checksum packet) (removed_addresses header) (added_addresses prefixes header)

-- the checksum of a TCP segment, updated for the new addresses
abbrev pub new_tcp_checksum : Prefixes → List ℕ → List ℕ → ℕ
new_tcp_checksum prefixes header segment =
    updated_checksum_of (tcp_checksum segment) (removed_addresses header) (added_addresses prefixes header)

-- a UDP packet with its new checksum
abbrev pub translated_udp : Prefixes → List ℕ → List ℕ → List ℕ
translated_udp prefixes header packet = with_checksum udp_checksum_place packet (new_udp_checksum prefixes header packet)

-- a TCP segment with its new checksum
abbrev pub translated_tcp : Prefixes → List ℕ → List ℕ → List ℕ
translated_tcp prefixes header segment = with_checksum tcp_checksum_place segment (new_tcp_checksum prefixes header segment)

-- an ICMP echo message as an ICMPv6 echo message; the new checksum covers a pseudo header
abbrev pub translated_icmp : Prefixes → List ℕ → List ℕ → List ℕ
translated_icmp prefixes header message =
    translated_echo (unwrap_or (type_over_ipv6 (slice_index message 0)) (slice_index message 0)) []
    (new_pseudo_header prefixes header icmpv6_number (length message)) message

-- the translation of a message that is no ICMP error; its length stays, and a message of a protocol other than ICMP, UDP and TCP is
-- unchanged
abbrev pub updated_message : Prefixes → List ℕ → List ℕ → List ℕ
updated_message prefixes header message =
    if protocol header == icmpv4_number then translated_icmp prefixes header message
    else if protocol header == udp_number then translated_udp prefixes header message
    else if protocol header == tcp_number then translated_tcp prefixes header message
    else message

-- ---- the translated packet

-- the IPv6 packet with the error; its payload length counts the translated error
abbrev pub error_packet : List ℕ → Prefixes → List ℕ → List ℕ
error_packet header prefixes message =
    header_with prefixes (length (error_without_checksum prefixes message)) (time_to_live header - 1) header
    ++ translated_error prefixes header message

-- the translation of a whole packet with this IPv4 header and this message
abbrev pub translation_of : List ℕ → Prefixes → List ℕ → List ℕ
translation_of header prefixes message =
    if is_icmp_error (protocol header) message then error_packet header prefixes message
    else translated_header prefixes header ++ updated_message prefixes header message

-- the length of a translated whole packet
abbrev pub translated_len : List ℕ → Prefixes → List ℕ → ℕ
translated_len header prefixes message =
    40 + (if is_icmp_error (protocol header) message then length (error_without_checksum prefixes message) else length message)

-- ---- a receiver's check

-- A receiver accepts the translated message with the new pseudo header exactly if it accepts the original message with the old pseudo
-- header. This holds for each length in the pseudo header. It also holds if the receiver sums only the first `count` bytes, since the
-- length field of UDP may end the packet there. The same bytes may follow in both sums.
abbrev pub VerifiesAlike : ℕ → (ℕ → List ℕ) → (ℕ → List ℕ) → List ℕ → List ℕ → Type 0
VerifiesAlike least old new message translated = (len count : ℕ) (missing : List ℕ) → len ≤ max_len_over_ipv4 → least ≤ count
    → (Verifies (new len) (take count translated ++ missing)) ↔ (Verifies (old len) (take count message ++ missing))

-- a receiver accepts this error with its new checksum exactly if it accepts the ICMP message
abbrev pub IsChecksumAlike : Prefixes → List ℕ → List ℕ → List ℕ → Type 0
IsChecksumAlike prefixes header message error =
    (Verifies (new_pseudo_header prefixes header icmpv6_number (length error)) (with_new_checksum prefixes header message error))
    ↔ (Verifies [] message)

-- a receiver accepts the ICMPv6 error exactly if it accepts the ICMP error
abbrev pub IsErrorAcceptedAlike : Prefixes → List ℕ → List ℕ → Type 0
IsErrorAcceptedAlike prefixes header message = IsChecksumAlike prefixes header message (error_without_checksum prefixes message)

-- A receiver accepts the translated message exactly if it accepts the original message. This holds for a UDP packet with a checksum, for a
-- TCP segment, and for an echo message that does not consist of zeros. If a UDP packet had no checksum, a receiver accepts the translated
-- packet.
pub record IsAcceptedAlike (prefixes : Prefixes) (header message translated : List ℕ) : Type 0 where
  pub udp : protocol header ≡ udp_number → udp_checksum message ≢ 0
      → VerifiesAlike 8 (old_pseudo_header header udp_number) (new_pseudo_header prefixes header udp_number) message translated
  pub computed : protocol header ≡ udp_number → udp_checksum message ≡ 0
      → Verifies (new_pseudo_header prefixes header udp_number (udp_length message)) (take (udp_length message) translated)
  pub tcp : protocol header ≡ tcp_number
      → VerifiesAlike 18 (old_pseudo_header header tcp_number) (new_pseudo_header prefixes header tcp_number) message translated
  pub echo : protocol header ≡ icmpv4_number → total message ≢ 0
      → (Verifies (new_pseudo_header prefixes header icmpv6_number (length message)) translated) ↔ (Verifies [] message)

-- A receiver accepts the message of a translated whole packet exactly if it accepts the message of the packet. `IsAcceptedAlike` states the
-- exceptions.
pub record AreAcceptedAlike (prefixes : Prefixes) (header message : List ℕ) : Type 0 where
  pub error : is_icmp_error (protocol header) message ≡ true → IsErrorAcceptedAlike prefixes header message
  pub other : is_icmp_error (protocol header) message ≡ false
      → IsAcceptedAlike prefixes header message (updated_message prefixes header message)
