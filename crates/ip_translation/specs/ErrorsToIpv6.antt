-- ICMP errors as ICMPv6 errors, with the packet that they quote (RFC 7915, sections 4.2 and 4.3).
use Rattle.std.specs.Prelude.{ℕ, ◌*◌, ◌/◌, ◌==◌, Bool, ◌&&◌, ◌||◌, not, if◌then◌else◌, List, [], ◌∷◌, drop, is_none, length, slice_index, Option, None}
use Rattle.std.specs.Int.{to_be_bytes, w32}
use Rattle.std.specs.Option.{unwrap_or}
use Rattle.ip_part.specs.Ip.{ipv4_header}
use Rattle.net_base.specs.Bytes.{be_number}
use Rattle.net_base.specs.IpNumbers.{icmpv6_number}
use Rattle.net_base.specs.Refusals.{first_of, refused_if}
use Rattle.net_base.specs.StoredChecksum.{icmp_checksum_place, with_checksum}
use Rattle.ip_translation.specs.EchoMessages.{changed_checksum}
use Rattle.ip_translation.specs.Extensions.{extended, extension_of, is_wrong_len, padded_len, without_extension}
use Rattle.ip_translation.specs.HeadersToIpv6.{new_pseudo_header, total_len}
use Rattle.ip_translation.specs.IcmpErrors.{error_in, errors_to_ipv6, mtu_to_ipv6, pointer_in, pointers_to_ipv6}
use Rattle.ip_translation.specs.Ipv4Packets.{begins_with_header}
use Rattle.ip_translation.specs.QuotedPackets.{exchanged, joined, quote_of}
use Rattle.ip_translation.specs.QuotedToIpv6.{quoted_packet, quoted_refusal}
use Rattle.ip_translation.specs.declared.packet_translation_error.PacketTranslationError.{PacketTranslationError}
use Rattle.ip_translation.specs.declared.packet_translation_error.PacketTranslationError.TheVariants.{IcmpExtension, IcmpMessage, IcmpPointer, NoQuotedHeader}
use Rattle.ip_translation.specs.declared.prefixes.Prefixes.{Prefixes}

-- ---- type and code

-- the length of the quoted packet that the error states, in bytes: byte 5 counts units of four bytes (RFC 4884, section 4)
abbrev pub stated_len : List ℕ → ℕ
stated_len message = slice_index message 5 * 4

-- the error of a message that is not an error with a translation, or that states a wrong length of the quoted packet
abbrev pub kind_refusal : List ℕ → Option PacketTranslationError
kind_refusal message = first_of (
    refused_if (is_none (error_in (errors_to_ipv6 (slice_index message 1)) (slice_index message 0) (slice_index message 1)))
    (IcmpMessage (slice_index message 0) (slice_index message 1))
    ∷ refused_if (is_wrong_len (stated_len message) message) (IcmpExtension (slice_index message 5))
    ∷ [])

-- the ICMPv6 type and code
abbrev pub kind : List ℕ → ℕ × ℕ
kind message =
    unwrap_or (error_in (errors_to_ipv6 (slice_index message 1)) (slice_index message 0) (slice_index message 1))
    (slice_index message 0, slice_index message 1)

-- ---- the word after the checksum

-- the error of a pointer to a field that has no place in an IPv6 header; only a parameter problem with code 0 contains a pointer
abbrev pub pointer_refusal : ℕ × ℕ → List ℕ → Option PacketTranslationError
pointer_refusal new_kind message =
    if new_kind.0 == 4 then (if new_kind.1 == 0
    then refused_if (is_none (pointer_in pointers_to_ipv6 (slice_index message 4))) (IcmpPointer (slice_index message 4))
    else None)
    else None

-- The word after the checksum: the MTU of "packet too big", or the pointer of a parameter problem. The message "protocol unreachable"
-- becomes
-- a parameter problem with a pointer to the next header. `total_len` is the total length of the quoted packet.
abbrev pub word : ℕ × ℕ → List ℕ → ℕ → ℕ
word new_kind message total_len =
    if new_kind.0 == 2 then mtu_to_ipv6 (be_number message 6 2) total_len
    else if new_kind.0 == 4 then (if new_kind.1 == 0 then unwrap_or (pointer_in pointers_to_ipv6 (slice_index message 4)) 0 else 6)
    else 0

-- ---- the quoted packet

-- the error without its extension
abbrev pub quoting : List ℕ → List ℕ
quoting message = without_extension (stated_len message) message

-- the header of the packet that an error without an extension quotes
abbrev pub quoted_ipv4 : List ℕ → List ℕ
quoted_ipv4 message = ipv4_header (quote_of message)

-- ---- the translated error

-- the first error about a message that becomes an error of this kind, and quotes a packet with this header; the prefixes are those of the
-- quoted packet
abbrev pub refusal_about : List ℕ → ℕ × ℕ → Prefixes → List ℕ → Option PacketTranslationError
refusal_about quoted new_kind prefixes message = first_of (
    quoted_refusal prefixes quoted (quote_of message)
    ∷ pointer_refusal new_kind message
    ∷ [])

-- the first error about a message of at least eight bytes, which is not an echo message
abbrev pub error_refusal : Prefixes → List ℕ → Option PacketTranslationError
error_refusal prefixes message = first_of (
    kind_refusal message
    ∷ refused_if (not (begins_with_header (quote_of (quoting message)))) NoQuotedHeader
    ∷ refusal_about (quoted_ipv4 (quoting message)) (kind message) (exchanged prefixes) (quoting message)
    ∷ [])

-- the ICMPv6 error of this kind about a packet with this header, with 0 instead of its checksum; the prefixes are those of the quoted
-- packet
abbrev pub error_about : List ℕ → ℕ × ℕ → Prefixes → List ℕ → List ℕ
error_about quoted new_kind prefixes message = joined new_kind (to_be_bytes w32 (word new_kind message (total_len quoted)))
    (quoted_packet prefixes quoted (quote_of message))

-- The ICMPv6 messages "destination unreachable" and "time exceeded" contain a length attribute. All other errors have no extension (RFC
-- 4884, section 4).
abbrev pub may_be_extended : ℕ × ℕ → Bool
may_be_extended new_kind = new_kind.0 == 1 || new_kind.0 == 3

-- the ICMPv6 error of this kind about this quoted packet with this extension; the first byte of its word counts units of eight bytes
abbrev pub extended_error : ℕ × ℕ → List ℕ → List ℕ → List ℕ
extended_error new_kind quote extension = extended new_kind (padded_len 8 (length quote) / 8 ∷ 0 ∷ 0 ∷ 0 ∷ [])
    (padded_len 8 (length quote)) quote extension

-- The ICMPv6 error of this kind with this extension. `error` is the error without the extension, which is left out if it is empty, or if an
-- error of this kind has none.
abbrev pub with_extension : ℕ × ℕ → List ℕ → List ℕ → List ℕ
with_extension new_kind extension error =
    if may_be_extended new_kind && not (length extension == 0) then extended_error new_kind (drop 8 error) extension else error

-- the ICMPv6 error, with 0 instead of its checksum
abbrev pub error_without_checksum : Prefixes → List ℕ → List ℕ
error_without_checksum prefixes message = with_extension (kind message) (extension_of (stated_len message) message)
    (error_about (quoted_ipv4 (quoting message)) (kind message) (exchanged prefixes) (quoting message))

-- An error with its checksum, if `error` is this error with 0 instead of its checksum. The checksum is that of the ICMP error, updated for
-- all words of both messages. The error is the payload of a packet with this IPv4 header.
abbrev pub with_new_checksum : Prefixes → List ℕ → List ℕ → List ℕ → List ℕ
with_new_checksum prefixes header message error = with_checksum icmp_checksum_place error
    (changed_checksum [] (new_pseudo_header prefixes header icmpv6_number (length error)) message error)

-- the ICMPv6 error for an ICMP error
abbrev pub translated_error : Prefixes → List ℕ → List ℕ → List ℕ
translated_error prefixes header message = with_new_checksum prefixes header message (error_without_checksum prefixes message)
