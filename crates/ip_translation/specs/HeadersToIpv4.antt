-- The IPv4 header for an IPv6 header (RFC 7915, section 5.1), and the IPv6 headers that are not translated.
use Rattle.std.specs.Prelude.{ℕ, ◌+◌, ◌-◌, ◌/◌, ◌%◌, ◌==◌, Bool, ◌||◌, nat_lt, if◌then◌else◌, List, [], ◌∷◌, ◌++◌, slice_index, slice_range, Option}
use Rattle.std.specs.Int.{to_be_bytes, w16}
use Rattle.std.specs.Option.{option_map}
use Rattle.net_base.specs.Bytes.{be_number}
use Rattle.net_base.specs.IpNumbers.{icmpv4_number, icmpv6_number}
use Rattle.net_base.specs.PseudoHeader.{ipv4_pseudo_header, ipv6_pseudo_header, max_len_over_ipv4}
use Rattle.net_base.specs.Refusals.{first_of, refused_if}
use Rattle.word_sum.specs.Checksum.{checksum_of, folded, total}
use Rattle.ip_translation.specs.Fragments.{flags_and_offset}
use Rattle.ip_translation.specs.HeadersToIpv6.{is_illegal}
use Rattle.ip_translation.specs.AddressTables.{extracted, to_ipv4_refusal}
use Rattle.ip_translation.specs.declared.fragment_fields.FragmentFields.{FragmentFields}
use Rattle.ip_translation.specs.declared.prefixes.Prefixes.{Prefixes}
use Rattle.ip_translation.specs.declared.translation_error.TranslationError.{TranslationError}
use Rattle.ip_translation.specs.declared.translation_error.TranslationError.TheVariants.{Destination, ExtensionHeader, IllegalDestination, IllegalSource, PayloadLength, Source, TimeExceeded}

-- ---- the fields of an IPv6 header (RFC 8200, section 3)

-- the traffic class
abbrev pub traffic_class : List ℕ → ℕ
traffic_class header = be_number header 0 2 / 16 % 256

-- the payload length of the packet
abbrev pub payload_len : List ℕ → ℕ
payload_len header = be_number header 4 2

-- the next header
abbrev pub next_header : List ℕ → ℕ
next_header header = slice_index header 6

-- the hop limit
abbrev pub hop_limit : List ℕ → ℕ
hop_limit header = slice_index header 7

-- the source address
abbrev pub source : List ℕ → List ℕ
source header = slice_range header 8 24

-- the destination address
abbrev pub destination : List ℕ → List ℕ
destination header = slice_range header 24 40

-- ---- errors

-- This is the number of hop-by-hop options, or of a routing, fragment or destination options header. RFC 7915, section 5.1, describes them,
-- and this library does not translate them.
abbrev pub is_extension : ℕ → Bool
is_extension number = number == 0 || (number == 43 || (number == 44 || number == 60))

-- the longest payload that the total length of IPv4 can count
abbrev pub max_payload_len : ℕ
max_payload_len = max_len_over_ipv4 - 20

-- The first error about the fields of the header of a quoted packet. Its hop limit is not checked, since routers change it.
abbrev pub quoted_field_refusal : List ℕ → Option TranslationError
quoted_field_refusal header = first_of (
    refused_if (is_extension (next_header header)) (ExtensionHeader (next_header header))
    ∷ refused_if (nat_lt max_payload_len (payload_len header)) (PayloadLength (payload_len header))
    ∷ [])

-- the first error about the fields of a header
abbrev pub field_refusal : List ℕ → Option TranslationError
field_refusal header = first_of (
    quoted_field_refusal header
    ∷ refused_if (nat_lt (hop_limit header) 2) TimeExceeded
    ∷ [])

-- The first error about the addresses. An address has no translation, or its translation is not the address of a host.
abbrev pub addresses_refusal : Prefixes → List ℕ → Option TranslationError
addresses_refusal prefixes header = first_of (
    option_map Source (to_ipv4_refusal prefixes.source (source header))
    ∷ option_map Destination (to_ipv4_refusal prefixes.destination (destination header))
    ∷ refused_if (is_illegal (extracted prefixes.source (source header))) IllegalSource
    ∷ refused_if (is_illegal (extracted prefixes.destination (destination header))) IllegalDestination
    ∷ [])

-- the first error about a header: about its fields, and then about its addresses
abbrev pub header_refusal : Prefixes → List ℕ → Option TranslationError
header_refusal prefixes header = first_of (field_refusal header ∷ addresses_refusal prefixes header ∷ [])

-- the first error about the header of a quoted packet
abbrev pub quoted_header_refusal : Prefixes → List ℕ → Option TranslationError
quoted_header_refusal prefixes header = first_of (quoted_field_refusal header ∷ addresses_refusal prefixes header ∷ [])

-- ---- the translated header

-- the protocol for this next header: ICMP for ICMPv6, otherwise the next header itself
abbrev pub protocol_of : ℕ → ℕ
protocol_of number = if number == icmpv6_number then icmpv4_number else number

-- The first ten bytes of an IPv4 header (RFC 791, section 3.1). They are version, header length, type of service, total length,
-- identification, flags, fragment offset, time to live and protocol.
abbrev pub start_of_ipv4 : ℕ → ℕ → FragmentFields → ℕ → ℕ → List ℕ
start_of_ipv4 service total_len fields time_to_live protocol =
    0x45 ∷ service ∷ to_be_bytes w16 total_len ++ (to_be_bytes w16 fields.identification
    ++ (to_be_bytes w16 (flags_and_offset fields.flags_and_offset total_len) ++ (time_to_live ∷ protocol ∷ [])))

-- an IPv4 header with these first ten bytes, this checksum, and these addresses
abbrev pub with_header_checksum : List ℕ → ℕ → List ℕ → List ℕ → List ℕ
with_header_checksum start checksum source destination = start ++ (to_be_bytes w16 checksum ++ (source ++ destination))

-- an IPv4 header with its checksum, which is computed with 0 in the checksum field
abbrev pub ipv4_header : List ℕ → List ℕ → List ℕ → List ℕ
ipv4_header start source destination =
    with_header_checksum start (checksum_of (total (with_header_checksum start 0 source destination))) source destination

-- the IPv4 header for this IPv6 header, with these fields of a fragment, this total length and this time to live
abbrev pub header_with : Prefixes → FragmentFields → ℕ → ℕ → List ℕ → List ℕ
header_with prefixes fields total_len time_to_live header = ipv4_header
    (start_of_ipv4 (traffic_class header) total_len fields time_to_live (protocol_of (next_header header)))
    (extracted prefixes.source (source header))
    (extracted prefixes.destination (destination header))

-- the IPv4 header for this IPv6 header
abbrev pub translated_header : Prefixes → FragmentFields → List ℕ → List ℕ
translated_header prefixes fields header =
    header_with prefixes fields (payload_len header + 20) (hop_limit header - 1) header

-- the IPv4 header for the header of a quoted packet, which keeps its hop limit
abbrev pub quoted_header : Prefixes → FragmentFields → List ℕ → List ℕ
quoted_header prefixes fields header = header_with prefixes fields (payload_len header + 20) (hop_limit header) header

-- ---- the pseudo headers of UDP and TCP

-- the pseudo header before the translation, with this protocol and length
abbrev pub old_pseudo_header : List ℕ → ℕ → ℕ → List ℕ
old_pseudo_header header protocol len = ipv6_pseudo_header (source header) (destination header) protocol len

-- the pseudo header after the translation, with this protocol and length
abbrev pub new_pseudo_header : Prefixes → List ℕ → ℕ → ℕ → List ℕ
new_pseudo_header prefixes header protocol len =
    ipv4_pseudo_header (extracted prefixes.source (source header)) (extracted prefixes.destination (destination header)) protocol len

-- the one's complement sum of the two IPv6 addresses, which the translation removes from the pseudo header
abbrev pub removed_addresses : List ℕ → ℕ
removed_addresses header = folded (total (source header) + total (destination header))

-- the one's complement sum of the two IPv4 addresses, which the translation adds to the pseudo header
abbrev pub added_addresses : Prefixes → List ℕ → ℕ
added_addresses prefixes header =
    folded (total (extracted prefixes.source (source header)) + total (extracted prefixes.destination (destination header)))
