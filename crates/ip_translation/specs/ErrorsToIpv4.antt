-- ICMPv6 errors as ICMP errors, with the packet that they quote (RFC 7915, sections 5.2 and 5.3).
use Rattle.std.specs.Prelude.{ℕ, ◌*◌, ◌/◌, ◌==◌, ◌&&◌, ◌||◌, not, if◌then◌else◌, List, [], ◌∷◌, drop, is_none, length, slice_index, take, Option, None}
use Rattle.std.specs.Int.{to_be_bytes, w16}
use Rattle.std.specs.Option.{unwrap_or}
use Rattle.ip_part.specs.Ip.{ipv6_header}
use Rattle.net_base.specs.Bytes.{be_number}
use Rattle.net_base.specs.IpNumbers.{icmpv6_number}
use Rattle.net_base.specs.Refusals.{first_of, refused_if}
use Rattle.net_base.specs.StoredChecksum.{icmp_checksum_place, with_checksum}
use Rattle.ip_translation.specs.EchoMessages.{changed_checksum}
use Rattle.ip_translation.specs.Extensions.{extended, extension_of, is_wrong_len, padded_len, without_extension}
use Rattle.ip_translation.specs.HeadersToIpv4.{old_pseudo_header}
use Rattle.ip_translation.specs.IcmpErrors.{error_in, errors_to_ipv4, mtu_to_ipv4, pointer_in, pointers_to_ipv4}
use Rattle.ip_translation.specs.Ipv6Packets.{begins_with_header}
use Rattle.ip_translation.specs.QuotedPackets.{exchanged, joined, quote_of}
use Rattle.ip_translation.specs.QuotedToIpv4.{quoted_packet, quoted_refusal}
use Rattle.ip_translation.specs.declared.packet_translation_error.PacketTranslationError.{PacketTranslationError}
use Rattle.ip_translation.specs.declared.packet_translation_error.PacketTranslationError.TheVariants.{IcmpExtension, IcmpMessage, IcmpPointer, NoQuotedHeader}
use Rattle.ip_translation.specs.declared.prefixes.Prefixes.{Prefixes}

-- ---- type and code

-- The length of the quoted packet that the error states, in bytes. Byte 4 of "destination unreachable" and "time exceeded" counts units of
-- eight bytes (RFC 4884, section 4). All other errors state no length, so the result is 0.
abbrev pub stated_len : List ℕ → ℕ
stated_len message = if slice_index message 0 == 1 || slice_index message 0 == 3 then slice_index message 4 * 8 else 0

-- the error of a message that is not an error with a translation, or that states a wrong length of the quoted packet
abbrev pub kind_refusal : List ℕ → Option PacketTranslationError
kind_refusal message = first_of (
    refused_if (is_none (error_in (errors_to_ipv4 (slice_index message 1)) (slice_index message 0) (slice_index message 1)))
    (IcmpMessage (slice_index message 0) (slice_index message 1))
    ∷ refused_if (is_wrong_len (stated_len message) message) (IcmpExtension (slice_index message 4))
    ∷ [])

-- the ICMP type and code
abbrev pub kind : List ℕ → ℕ × ℕ
kind message =
    unwrap_or (error_in (errors_to_ipv4 (slice_index message 1)) (slice_index message 0) (slice_index message 1))
    (slice_index message 0, slice_index message 1)

-- ---- the word after the checksum

-- the pointer of a parameter problem, or the MTU of "packet too big"
abbrev pub number_of : List ℕ → ℕ
number_of message = be_number message 4 4

-- the error of a pointer to a field that has no place in an IPv4 header; only a parameter problem contains a pointer
abbrev pub pointer_refusal : ℕ × ℕ → List ℕ → Option PacketTranslationError
pointer_refusal new_kind message =
    if new_kind.0 == 12
    then refused_if (is_none (pointer_in pointers_to_ipv4 (number_of message))) (IcmpPointer (number_of message))
    else None

-- The word after the checksum. The pointer of a parameter problem is its first byte. The MTU of "fragmentation needed" is in its last two
-- bytes.
abbrev pub word : ℕ × ℕ → List ℕ → List ℕ
word new_kind message =
    if new_kind.0 == 12 then unwrap_or (pointer_in pointers_to_ipv4 (number_of message)) 0 ∷ 0 ∷ 0 ∷ 0 ∷ []
    else if new_kind.0 == 3 && new_kind.1 == 4 then 0 ∷ 0 ∷ to_be_bytes w16 (mtu_to_ipv4 (number_of message))
    else 0 ∷ 0 ∷ 0 ∷ 0 ∷ []

-- ---- the quoted packet

-- the error without its extension
abbrev pub quoting : List ℕ → List ℕ
quoting message = without_extension (stated_len message) message

-- the header of the packet that an error without an extension quotes
abbrev pub quoted_ipv6 : List ℕ → List ℕ
quoted_ipv6 message = ipv6_header (quote_of message)

-- ---- the translated error

-- the first error about a message that becomes an error of this kind, and quotes a packet with this header; the prefixes are those of the
-- quoted packet
abbrev pub refusal_about : List ℕ → ℕ × ℕ → Prefixes → List ℕ → Option PacketTranslationError
refusal_about quoted new_kind prefixes message = first_of (
    quoted_refusal prefixes quoted (quote_of message)
    ∷ pointer_refusal new_kind message
    ∷ [])

-- the first error about a message of at least eight bytes, which is not an echo message
abbrev pub error_refusal : Prefixes → List ℕ → Option PacketTranslationError
error_refusal prefixes message = first_of (
    kind_refusal message
    ∷ refused_if (not (begins_with_header (quote_of (quoting message)))) NoQuotedHeader
    ∷ refusal_about (quoted_ipv6 (quoting message)) (kind message) (exchanged prefixes) (quoting message)
    ∷ [])

-- the ICMP error of this kind about a packet with this header, with 0 instead of its checksum; the prefixes are those of the quoted packet
abbrev pub error_about : List ℕ → ℕ × ℕ → Prefixes → List ℕ → List ℕ
error_about quoted new_kind prefixes message = joined new_kind (word new_kind message) (quoted_packet prefixes quoted (quote_of message))

-- the greatest length of a quoted packet before an extension: the length attribute is a byte, and counts units of four bytes
abbrev pub max_stated_len : ℕ
max_stated_len = 255 * 4

-- the ICMP error of this kind about this quoted packet with this extension; the second byte of its word counts units of four bytes
abbrev pub extended_error : ℕ × ℕ → List ℕ → List ℕ → List ℕ
extended_error new_kind quote extension = extended new_kind (0 ∷ padded_len 4 (length quote) / 4 ∷ 0 ∷ 0 ∷ [])
    (padded_len 4 (length quote)) quote extension

-- The ICMP error of this kind with this extension. `error` is the error without the extension. Each ICMPv6 error with an extension becomes
-- "destination unreachable" or "time exceeded", whose byte 5 is the length attribute (RFC 4884, section 4).
abbrev pub with_extension : ℕ × ℕ → List ℕ → List ℕ → List ℕ
with_extension new_kind extension error =
    if length extension == 0 then error else extended_error new_kind (take max_stated_len (drop 8 error)) extension

-- the ICMP error, with 0 instead of its checksum
abbrev pub error_without_checksum : Prefixes → List ℕ → List ℕ
error_without_checksum prefixes message = with_extension (kind message) (extension_of (stated_len message) message)
    (error_about (quoted_ipv6 (quoting message)) (kind message) (exchanged prefixes) (quoting message))

-- An error with its checksum, if `error` is this error with 0 instead of its checksum. The checksum is that of the ICMPv6 error, updated
-- for all words of both messages, and without a pseudo header. The ICMPv6 error is the payload of a packet with this IPv6 header.
abbrev pub with_new_checksum : List ℕ → List ℕ → List ℕ → List ℕ
with_new_checksum header message error = with_checksum icmp_checksum_place error
    (changed_checksum (old_pseudo_header header icmpv6_number (length message)) [] message error)

-- the ICMP error for an ICMPv6 error
abbrev pub translated_error : Prefixes → List ℕ → List ℕ → List ℕ
translated_error prefixes header message = with_new_checksum header message (error_without_checksum prefixes message)
