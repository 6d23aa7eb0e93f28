-- Echo messages of ICMP and ICMPv6, translated into each other (RFC 7915, sections 4.2 and 5.2).
use Rattle.std.specs.Prelude.{ℕ, ◌+◌, ◌*◌, ◌==◌, nat_lt, if◌then◌else◌, List, [], ◌∷◌, drop, length, slice_index, slice_set, Option, Some, None, is_none}
use Rattle.net_base.specs.Bytes.{be_number}
use Rattle.net_base.specs.Refusals.{first_of, refused_if}
use Rattle.net_base.specs.StoredChecksum.{icmp_checksum_place, with_checksum}
use Rattle.word_sum.specs.Checksum.{folded, total, zero_as_all_ones}
use Rattle.word_sum.specs.UpdatedChecksum.{updated_checksum_of}
use Rattle.ip_translation.specs.declared.packet_translation_error.PacketTranslationError.{PacketTranslationError}
use Rattle.ip_translation.specs.declared.packet_translation_error.PacketTranslationError.TheVariants.{QuotedIcmp, TransportHeader}

-- the ICMPv6 type for the type of an ICMPv4 echo request or echo reply; `None` for any other type
abbrev pub type_over_ipv6 : ℕ → Option ℕ
type_over_ipv6 type =
    if type == 8 then Some 128
    else if type == 0 then Some 129
    else None

-- the ICMPv4 type for the type of an ICMPv6 echo request or echo reply; `None` for any other type
abbrev pub type_over_ipv4 : ℕ → Option ℕ
type_over_ipv4 type =
    if type == 128 then Some 8
    else if type == 129 then Some 0
    else None

-- The error of a quoted message that is shorter than an echo header or is not an echo message. `new_type` maps a type to the type after the
-- translation.
abbrev pub quoted_echo_refusal : (ℕ → Option ℕ) → List ℕ → Option PacketTranslationError
quoted_echo_refusal new_type message = first_of (
    refused_if (nat_lt (length message) 8) (TransportHeader 8 (length message))
    ∷ refused_if (is_none (new_type (slice_index message 0))) (QuotedIcmp (slice_index message 0) (slice_index message 1))
    ∷ [])

-- the checksum field of an ICMP message
abbrev pub icmp_checksum : List ℕ → ℕ
icmp_checksum message = be_number message icmp_checksum_place 2

-- the first 16-bit word of a message with this type and this code
abbrev pub first_word : ℕ → ℕ → ℕ
first_word type code = type * 256 + code

-- the first 16-bit word of a message: its type and its code
abbrev pub type_and_code : List ℕ → ℕ
type_and_code message = first_word (slice_index message 0) (slice_index message 1)

-- the message with this type instead of its own type
abbrev pub with_type : ℕ → List ℕ → List ℕ
with_type type message = slice_set message 0 type

-- the checksum, updated for the new type and for the new pseudo header; the pseudo header of ICMPv4 is empty
abbrev pub updated_checksum : ℕ → List ℕ → List ℕ → List ℕ → ℕ
updated_checksum type old new message =
    updated_checksum_of (icmp_checksum message) (folded (type_and_code message + total old))
    (folded (first_word type (slice_index message 1) + total new))

-- The checksum of the translated message. Without a pseudo header, all other bytes of a reply may be 0. Then its checksum must be all ones,
-- but the update returns 0 (RFC 1624). So 0 is replaced by all ones. In any other message a receiver accepts both values.
abbrev pub new_checksum : ℕ → List ℕ → List ℕ → List ℕ → ℕ
new_checksum type old new message =
    if length new == 0 then zero_as_all_ones (updated_checksum type old new message) else updated_checksum type old new message

-- the message with its new type and its new checksum
abbrev pub translated_echo : ℕ → List ℕ → List ℕ → List ℕ → List ℕ
translated_echo type old new message = with_checksum icmp_checksum_place (with_type type message) (new_checksum type old new message)

-- ---- any message

-- the sum of a message without its checksum, which is its second word
abbrev pub total_without_checksum : List ℕ → ℕ
total_without_checksum message = type_and_code message + total (drop 4 message)

-- the checksum of a message that becomes another message, updated for all words of both messages and for the pseudo headers
abbrev pub changed_checksum : List ℕ → List ℕ → List ℕ → List ℕ → ℕ
changed_checksum old new message changed =
    updated_checksum_of (icmp_checksum message) (folded (total_without_checksum message + total old))
    (folded (total_without_checksum changed + total new))
