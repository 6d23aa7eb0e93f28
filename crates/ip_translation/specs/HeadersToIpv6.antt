-- The IPv6 header for an IPv4 header (RFC 7915, section 4.1), and the IPv4 headers that are not translated.
use Rattle.std.specs.Prelude.{ℕ, ◌+◌, ◌-◌, ◌*◌, ◌/◌, ◌%◌, ◌==◌, Bool, not, ◌||◌, nat_lt, if◌then◌else◌, List, [], ◌∷◌, ◌++◌, drop, is_some, slice_index, slice_range, Option}
use Rattle.std.specs.Int.{to_be_bytes, w16}
use Rattle.std.specs.List.{find}
use Rattle.std.specs.Option.{option_map}
use Rattle.ip_part.specs.Options.{ipv4_option, is_unexpired_route, options_of}
use Rattle.net_base.specs.Bytes.{be_number}
use Rattle.net_base.specs.IpHeaders.{ipv4_header_len, ipv4_is_fragment}
use Rattle.net_base.specs.IpNumbers.{icmpv4_number, icmpv6_number}
use Rattle.net_base.specs.PseudoHeader.{ipv4_pseudo_header, ipv6_pseudo_header}
use Rattle.net_base.specs.Refusals.{first_of, refused_if}
use Rattle.word_sum.specs.Checksum.{all_ones, folded, total}
use Rattle.ip_translation.specs.AddressTables.{embedded, to_ipv6_refusal}
use Rattle.ip_translation.specs.declared.prefixes.Prefixes.{Prefixes}
use Rattle.ip_translation.specs.declared.translation_error.TranslationError.{TranslationError}
use Rattle.ip_translation.specs.declared.translation_error.TranslationError.TheVariants.{Destination, Fragment, HeaderChecksum, IllegalDestination, IllegalSource, Source, SourceRoute, TimeExceeded, TotalLength}

-- ---- the fields of an IPv4 header (RFC 791, section 3.1)

-- the type of service
abbrev pub type_of_service : List ℕ → ℕ
type_of_service header = slice_index header 1

-- the total length of the packet
abbrev pub total_len : List ℕ → ℕ
total_len header = be_number header 2 2

-- the time to live
abbrev pub time_to_live : List ℕ → ℕ
time_to_live header = slice_index header 8

-- the protocol
abbrev pub protocol : List ℕ → ℕ
protocol header = slice_index header 9

-- the source address
abbrev pub source : List ℕ → List ℕ
source header = slice_range header 12 16

-- the destination address
abbrev pub destination : List ℕ → List ℕ
destination header = slice_range header 16 20

-- ---- errors

-- this is not the address of a host, but an address of network 0 or 127, a multicast address, or a reserved address (RFC 1812, sections
-- 4.2.2.11 and 5.3.7)
abbrev pub is_illegal : List ℕ → Bool
is_illegal address = slice_index address 0 == 0 || (slice_index address 0 == 127 || nat_lt 223 (slice_index address 0))

-- the first error about the addresses: the source or the destination is not the address of a host
abbrev pub addresses_refusal : List ℕ → Option TranslationError
addresses_refusal header = first_of (
    refused_if (is_illegal (source header)) IllegalSource
    ∷ refused_if (is_illegal (destination header)) IllegalDestination
    ∷ [])

-- The options contain a loose or strict source route that is not at its end (RFC 791, section 3.1). RFC 7915, section 4.1, discards only
-- such a packet.
abbrev pub has_unexpired_source_route : List ℕ → Bool
has_unexpired_source_route header = is_some (find is_unexpired_route (options_of ipv4_option (drop 20 header)))

-- the first error about the fields of a header, which may be the header of a fragment
abbrev pub any_field_refusal : List ℕ → Option TranslationError
any_field_refusal header = first_of (
    refused_if (nat_lt (total_len header) (ipv4_header_len header)) (TotalLength (total_len header) (ipv4_header_len header))
    ∷ refused_if (not (folded (total header) == all_ones)) HeaderChecksum
    ∷ refused_if (has_unexpired_source_route header) SourceRoute
    ∷ refused_if (nat_lt (time_to_live header) 2) TimeExceeded
    ∷ addresses_refusal header
    ∷ [])

-- the first error about the fields of the header of a whole packet
abbrev pub field_refusal : List ℕ → Option TranslationError
field_refusal header = first_of (refused_if (ipv4_is_fragment header) Fragment ∷ any_field_refusal header ∷ [])

-- the first error about an address that has no translation
abbrev pub embedding_refusal : Prefixes → List ℕ → Option TranslationError
embedding_refusal prefixes header = first_of (
    option_map Source (to_ipv6_refusal prefixes.source (source header))
    ∷ option_map Destination (to_ipv6_refusal prefixes.destination (destination header))
    ∷ [])

-- the first error about a header: about its fields, and then about an address that has no translation
abbrev pub header_refusal : Prefixes → List ℕ → Option TranslationError
header_refusal prefixes header = first_of (field_refusal header ∷ embedding_refusal prefixes header ∷ [])

-- the first error about a header, which may be the header of a fragment
abbrev pub any_header_refusal : Prefixes → List ℕ → Option TranslationError
any_header_refusal prefixes header = first_of (any_field_refusal header ∷ embedding_refusal prefixes header ∷ [])

-- The first error about the fields of the header of a quoted packet, which may be a fragment. Its checksum and its time to live are not
-- checked, since routers change them. It has no source route, since this translator never sends one.
abbrev pub quoted_field_refusal : List ℕ → Option TranslationError
quoted_field_refusal header = first_of (
    refused_if (nat_lt (total_len header) (ipv4_header_len header)) (TotalLength (total_len header) (ipv4_header_len header))
    ∷ addresses_refusal header
    ∷ [])

-- the first error about the header of a quoted packet
abbrev pub quoted_header_refusal : Prefixes → List ℕ → Option TranslationError
quoted_header_refusal prefixes header = first_of (quoted_field_refusal header ∷ embedding_refusal prefixes header ∷ [])

-- ---- the translated header

-- the next header for this protocol: ICMPv6 for ICMP, otherwise the protocol itself
abbrev pub next_header : ℕ → ℕ
next_header protocol = if protocol == icmpv4_number then icmpv6_number else protocol

-- An IPv6 header (RFC 8200, section 3). Version 6 has four bits, the traffic class has eight bits, and the flow label is 0. `next` is two
-- bytes: the next header and the hop limit.
abbrev pub ipv6_header : ℕ → ℕ → List ℕ → List ℕ → List ℕ → List ℕ
ipv6_header traffic_class payload_len next source destination =
    (0x60 + traffic_class / 16) ∷ (traffic_class % 16 * 16) ∷ 0 ∷ 0 ∷ to_be_bytes w16 payload_len ++ (next ++ (source ++ destination))

-- the IPv6 header for this IPv4 header, with this payload length and this hop limit
abbrev pub header_with : Prefixes → ℕ → ℕ → List ℕ → List ℕ
header_with prefixes payload_len hop_limit header = ipv6_header
    (type_of_service header)
    payload_len
    (next_header (protocol header) ∷ hop_limit ∷ [])
    (embedded prefixes.source (source header))
    (embedded prefixes.destination (destination header))

-- the length of the payload
abbrev pub payload_len : List ℕ → ℕ
payload_len header = total_len header - ipv4_header_len header

-- the IPv6 header for this IPv4 header
abbrev pub translated_header : Prefixes → List ℕ → List ℕ
translated_header prefixes header = header_with prefixes (payload_len header) (time_to_live header - 1) header

-- the bytes before the addresses in the IPv6 header for this IPv4 header
abbrev pub start_of_ipv6 : List ℕ → List ℕ
start_of_ipv6 header = ipv6_header
    (type_of_service header)
    (payload_len header)
    (next_header (protocol header) ∷ (time_to_live header - 1) ∷ [])
    [] []

-- the IPv6 header for the header of a quoted packet, which keeps its time to live
abbrev pub quoted_header : Prefixes → List ℕ → List ℕ
quoted_header prefixes header = header_with prefixes (payload_len header) (time_to_live header) header

-- ---- the pseudo headers of UDP and TCP

-- the pseudo header before the translation, with this protocol and length
abbrev pub old_pseudo_header : List ℕ → ℕ → ℕ → List ℕ
old_pseudo_header header protocol len = ipv4_pseudo_header (source header) (destination header) protocol len

-- the pseudo header after the translation, with this protocol and length
abbrev pub new_pseudo_header : Prefixes → List ℕ → ℕ → ℕ → List ℕ
new_pseudo_header prefixes header protocol len =
    ipv6_pseudo_header (embedded prefixes.source (source header)) (embedded prefixes.destination (destination header)) protocol len
