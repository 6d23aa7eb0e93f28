-- The extension headers of an IPv6 packet that a translation to IPv4 skips (RFC 7915, section 5.1), and the ones that it refuses.
use Rattle.std.specs.Prelude.{ℕ, zero, suc, ◌+◌, ◌*◌, ◌%◌, ◌==◌, Bool, ◌||◌, nat_lt, if◌then◌else◌, List, [], ◌∷◌, drop, length, slice_index, take, Option, Some, None, Result, Ok, Err}
use Rattle.ip_part.specs.ExtensionHeaders.{destination_options, fragment, fragment_offset, has_segments_left, hop_by_hop_options, is_extension, next_number, routing}
use Rattle.ip_part.specs.Ip.{unless_refused}
use Rattle.net_base.specs.Bytes.{be_number}
use Rattle.net_base.specs.Refusals.{first_of, refused_if}
use Rattle.ip_translation.specs.Fragments.{more_fragments}
use Rattle.ip_translation.specs.declared.fragment_fields.FragmentFields.{FragmentFields}
use Rattle.ip_translation.specs.declared.packet_translation_error.PacketTranslationError.{PacketTranslationError}
use Rattle.ip_translation.specs.declared.packet_translation_error.PacketTranslationError.TheVariants.{ExtensionHeaderCutOff, Header, SegmentsLeft}
use Rattle.ip_translation.specs.declared.skipped_headers.SkippedHeaders.{SkippedHeaders}
use Rattle.ip_translation.specs.declared.translation_error.TranslationError.TheVariants.{ExtensionHeader}

-- This is the number of a header that is skipped: hop-by-hop options, a routing header, or destination options.
abbrev pub is_skipped : ℕ → Bool
is_skipped number = number == hop_by_hop_options || (number == routing || number == destination_options)

-- The length in bytes of the header at the front of `rest`. Its length byte counts the words of eight bytes after the first word (RFC 8200,
-- sections 4.3, 4.4 and 4.6).
abbrev pub skipped_len : List ℕ → ℕ
skipped_len rest = (slice_index rest 1 + 1) * 8

-- the length of an IPv6 header (RFC 8200, section 3)
abbrev pub ipv6_header_len : ℕ
ipv6_header_len = 40

-- the place of the field "segments left" in a packet; the routing header begins after these headers (RFC 8200, section 4.4)
abbrev pub segments_left_at : SkippedHeaders → ℕ
segments_left_at skipped = ipv6_header_len + (skipped.len + 3)

-- The error of the header after these headers, if it is the header at the front of `rest`. The header is cut off, or it is a routing header
-- with segments left.
abbrev pub skipped_refusal : SkippedHeaders → List ℕ → Option PacketTranslationError
skipped_refusal skipped rest = first_of (
    refused_if (nat_lt (length rest) 8) (ExtensionHeaderCutOff skipped.number 8 (length rest))
    ∷ refused_if (nat_lt (length rest) (skipped_len rest)) (ExtensionHeaderCutOff skipped.number (skipped_len rest) (length rest))
    ∷ refused_if (has_segments_left skipped.number rest) (SegmentsLeft (segments_left_at skipped))
    ∷ [])

-- the header at the front of `rest`
abbrev pub skipped_header : List ℕ → List ℕ
skipped_header rest = take (skipped_len rest) rest

-- these headers and one more
abbrev pub skipped_after : SkippedHeaders → List ℕ → SkippedHeaders
skipped_after skipped header = record { number = next_number header; len = skipped.len + length header; fragment = skipped.fragment }

-- Skips all headers that follow these headers in a payload. At most this number of headers is read.
unfoldable pub skipped_from : ℕ → SkippedHeaders → List ℕ → Result SkippedHeaders PacketTranslationError
skipped_from zero skipped payload = Ok skipped
skipped_from (suc more) skipped payload =
    if is_skipped skipped.number
    then unless_refused (skipped_refusal skipped (drop skipped.len payload))
    (skipped_from more (skipped_after skipped (skipped_header (drop skipped.len payload))) payload)
    else Ok skipped

-- no headers; this is the number of the header or protocol after the IPv6 header
abbrev pub none_skipped : ℕ → SkippedHeaders
none_skipped number = record { number = number; len = 0; fragment = None }

-- The headers that are skipped in the payload after an IPv6 header with this next header. Each header has at least 8 bytes, so the number
-- of
-- bytes limits the number of headers.
abbrev pub skipped_headers : ℕ → List ℕ → Result SkippedHeaders PacketTranslationError
skipped_headers number payload = skipped_from (suc (length payload)) (none_skipped number) payload

-- ---- the fragment header (RFC 8200, section 4.5)

-- The error of a fragment header at the front of `rest`. It is cut off, or the number of another extension header follows it. RFC 7915,
-- section
-- 5.1.1, drops such a packet. `is_extension` does not contain the number of Encapsulating Security Payload.
abbrev pub fragment_header_refusal : List ℕ → Option PacketTranslationError
fragment_header_refusal rest = first_of (
    refused_if (nat_lt (length rest) 8) (ExtensionHeaderCutOff fragment 8 (length rest))
    ∷ refused_if (is_extension (next_number rest)) (Header (ExtensionHeader (next_number rest)))
    ∷ [])

-- The fields of the IPv4 header for this fragment header (RFC 7915, section 5.1.1): the low 16 bits of the identification, and the flag
-- "more
-- fragments" before the fragment offset. "Don't fragment" is 0.
abbrev pub fields_by : List ℕ → FragmentFields
fields_by rest = record {
  identification = be_number rest 6 2;
  flags_and_offset = Some (be_number rest 2 2 % 2 * more_fragments + fragment_offset rest);
}

-- these headers and the fragment header at the front of `rest`
abbrev pub fragment_after : SkippedHeaders → List ℕ → SkippedHeaders
fragment_after skipped rest = record { number = next_number rest; len = skipped.len + 8; fragment = Some (fields_by rest) }

-- adds the fragment header to these headers, if it follows them in a payload
abbrev pub with_fragment_header : Result SkippedHeaders PacketTranslationError → List ℕ → Result SkippedHeaders PacketTranslationError
with_fragment_header (Err error) payload = Err error
with_fragment_header (Ok skipped) payload =
    if skipped.number == fragment
    then unless_refused (fragment_header_refusal (drop skipped.len payload)) (Ok (fragment_after skipped (drop skipped.len payload)))
    else Ok skipped

-- all headers between an IPv6 header with this next header and the message: the headers that are skipped, and then a fragment header
abbrev pub headers_before : ℕ → List ℕ → Result SkippedHeaders PacketTranslationError
headers_before number payload = with_fragment_header (skipped_headers number payload) payload

-- these headers, or no headers if one of them is refused
abbrev pub unless_err : Result SkippedHeaders PacketTranslationError → SkippedHeaders
unless_err (Ok skipped) = skipped
unless_err (Err error) = none_skipped 0
