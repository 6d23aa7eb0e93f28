-- The translation of fragments of IPv4 packets to IPv6 (RFC 7915, section 4.1), and the fragments that are not translated.
use Rattle.std.specs.Prelude.{◌≡◌, ℕ, ◌+◌, ◌-◌, ◌==◌, true, false, not, nat_lt, if◌then◌else◌, List, [], ◌∷◌, ◌++◌, length, Option, None}
use Rattle.std.specs.Option.{option_map}
use Rattle.ip_part.specs.Ip.{ipv4_header}
use Rattle.net_base.specs.IpHeaders.{ipv4_is_fragment}
use Rattle.net_base.specs.IpNumbers.{icmpv4_number, tcp_number, udp_number}
use Rattle.net_base.specs.Refusals.{first_of, refused_if}
use Rattle.ip_translation.specs.HeadersToIpv6.{any_header_refusal, payload_len, protocol, time_to_live}
use Rattle.ip_translation.specs.Ipv4Packets.{begins_with_header, header_len_refusal, message_after, message_of, udp_checksum}
use Rattle.ip_translation.specs.PacketsToIpv6.{AreAcceptedAlike, IsAcceptedAlike, cut_off_refusal, refusal_after, translated_len, translation_of, updated_message}
use Rattle.ip_translation.specs.declared.packet_translation_error.PacketTranslationError.{PacketTranslationError}
use Rattle.ip_translation.specs.declared.packet_translation_error.PacketTranslationError.TheVariants.{FragmentChecksum, Header, IcmpFragment, NoIpv4Header, Space}
use Rattle.ip_translation.specs.declared.prefixes.Prefixes.{Prefixes}
pub use Rattle.ip_translation.specs.FragmentHeaders.{headers_len, headers_with, is_later}

-- ---- errors

-- The error of the first part of a UDP packet. It is shorter than its header, or has no checksum. The checksum can't be computed, since it
-- covers the other parts (RFC 7915, section 4.5).
abbrev pub udp_part_refusal : List ℕ → Option PacketTranslationError
udp_part_refusal message = first_of (
    header_len_refusal 8 message
    ∷ refused_if (udp_checksum message == 0) FragmentChecksum
    ∷ [])

-- the error of the first part of a message of this protocol
abbrev pub first_part_refusal : ℕ → List ℕ → Option PacketTranslationError
first_part_refusal protocol message =
    if protocol == udp_number then udp_part_refusal message
    else if protocol == tcp_number then header_len_refusal 20 message
    else None

-- the error of a buffer of `room` bytes that is shorter than a fragment with a part of `len` bytes
abbrev pub space_refusal : ℕ → ℕ → Option PacketTranslationError
space_refusal len room = refused_if (nat_lt room (headers_len + len)) (Space (headers_len + len) room)

-- the first error of the first part of a message of this protocol; `room` is the length of the buffer
abbrev pub first_refusal : ℕ → List ℕ → ℕ → Option PacketTranslationError
first_refusal protocol message room = first_of (first_part_refusal protocol message ∷ space_refusal (length message) room ∷ [])

-- The first error of the part of a message in a fragment with this header. ICMP messages in fragments are not translated (RFC 7915, section
-- 1.2). A later fragment has no transport header.
abbrev pub message_refusal : List ℕ → List ℕ → ℕ → Option PacketTranslationError
message_refusal header message room = first_of (
    refused_if (protocol header == icmpv4_number) IcmpFragment
    ∷ (if is_later header then space_refusal (length message) room else first_refusal (protocol header) message room)
    ∷ [])

-- the first error of a fragment with this header; `room` is the length of the buffer
abbrev pub part_refusal : List ℕ → Prefixes → List ℕ → ℕ → Option PacketTranslationError
part_refusal header prefixes packet room = first_of (
    option_map Header (any_header_refusal prefixes header)
    ∷ cut_off_refusal header (length packet)
    ∷ message_refusal header (message_after header packet) room
    ∷ [])

-- ---- the translated fragment

-- the IPv6 header and the fragment header for this IPv4 header
abbrev pub part_headers : Prefixes → List ℕ → List ℕ
part_headers prefixes header = headers_with prefixes (payload_len header) (time_to_live header - 1) header

-- the part of a message in a fragment: the first part contains the transport header, and every later part is unchanged
abbrev pub part_of : Prefixes → List ℕ → List ℕ → List ℕ
part_of prefixes header message = if is_later header then message else updated_message prefixes header message

-- the translation of a fragment with this IPv4 header and this part of a message
abbrev pub translated_part : Prefixes → List ℕ → List ℕ → List ℕ
translated_part prefixes header message = part_headers prefixes header ++ part_of prefixes header message

-- ---- packets and fragments

-- the first error of a packet or a fragment with this header; `room` is the length of the buffer
abbrev pub refusal_with : List ℕ → Prefixes → List ℕ → ℕ → Option PacketTranslationError
refusal_with header prefixes packet room =
    if ipv4_is_fragment header then part_refusal header prefixes packet room else refusal_after header prefixes packet room

-- the first error of a packet, which must begin with an IPv4 header; `room` is the length of the buffer
abbrev pub packet_refusal : Prefixes → List ℕ → ℕ → Option PacketTranslationError
packet_refusal prefixes packet room = first_of (
    refused_if (not (begins_with_header packet)) NoIpv4Header
    ∷ refusal_with (ipv4_header packet) prefixes packet room
    ∷ [])

-- the translation of a packet or a fragment with this IPv4 header and this message
abbrev pub translation_with : List ℕ → Prefixes → List ℕ → List ℕ
translation_with header prefixes message =
    if ipv4_is_fragment header then translated_part prefixes header message else translation_of header prefixes message

-- the length of the translated packet or fragment
abbrev pub len_with : List ℕ → Prefixes → List ℕ → ℕ
len_with header prefixes message = if ipv4_is_fragment header then headers_len + length message else translated_len header prefixes message

-- the translation of a packet that begins with an IPv4 header
abbrev pub translated_packet : Prefixes → List ℕ → List ℕ
translated_packet prefixes packet = translation_with (ipv4_header packet) prefixes (message_of packet)

-- A receiver accepts the message of the translated packet exactly if it accepts the message of the packet. For the first of several
-- fragments, `VerifiesAlike` allows any bytes after its part of the message. A later fragment has no checksum.
pub record IsPacketAlike (prefixes : Prefixes) (header message : List ℕ) : Type 0 where
  pub whole : ipv4_is_fragment header ≡ false → AreAcceptedAlike prefixes header message
  pub first : ipv4_is_fragment header ≡ true → is_later header ≡ false
      → IsAcceptedAlike prefixes header message (updated_message prefixes header message)
