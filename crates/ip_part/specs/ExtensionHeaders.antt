-- The extension headers of IPv6 (RFC 8200, section 4), and the authentication header of both versions (RFC 4302): their numbers, their
-- lengths, their contents, and their order.
use Rattle.std.specs.Prelude.{◌≡◌, ◌≢◌, ◌≤◌, ◌<◌, ◌⊎◌, ℕ, ◌+◌, ◌-◌, ◌*◌, ◌/◌, ◌==◌, Bool, true, false, not, ◌&&◌, ◌||◌, nat_lt, if◌then◌else◌, List, [], ◌∷◌, length, take, is_some, slice_index, slice_range, Option, Some, None}
use Rattle.std.specs.List.{flat_map, fold, list_any}
use Rattle.net_base.specs.Bytes.{be_number, flag}
use Rattle.ip_part.specs.Options.{home_address_after, jumbo_payload_len}
use Rattle.ip_part.specs.declared.ip_error.IpError.{IpError}
use Rattle.ip_part.specs.declared.ip_error.IpError.TheVariants.{ExtensionHeaderCutOff, HeaderCutOff, HeaderLength, JumboPayloadFragment, JumboPayloadLength, JumboPayloadMissing, JumboPayloadUnexpected, PacketCutOff, TotalLength, Version}

-- ---- numbers and lengths

-- the number of hop-by-hop options (RFC 8200, section 4.3)
abbrev pub hop_by_hop_options : ℕ
hop_by_hop_options = 0

-- the number of a routing header (RFC 8200, section 4.4)
abbrev pub routing : ℕ
routing = 43

-- the number of a fragment header (RFC 8200, section 4.5)
abbrev pub fragment : ℕ
fragment = 44

-- the number of an authentication header (RFC 4302, section 2)
abbrev pub authentication : ℕ
authentication = 51

-- the number of destination options (RFC 8200, section 4.6)
abbrev pub destination_options : ℕ
destination_options = 60

-- the number of a mobility header (RFC 6275, section 6.1)
abbrev pub mobility : ℕ
mobility = 135

-- the number of a Host Identity Protocol header (RFC 7401, section 5.1)
abbrev pub host_identity : ℕ
host_identity = 139

-- the number of a Shim6 header (RFC 5533, section 5.1)
abbrev pub shim6 : ℕ
shim6 = 140

-- This is the number of an extension header that is skipped. These are the numbers that IANA lists, except 50, 253 and 254. Encapsulating
-- Security Payload, 50, encrypts the bytes after it. 253 and 254 are for experiments (RFC 3692; RFC 4727), and their headers have no agreed
-- layout.
abbrev pub is_extension : ℕ → Bool
is_extension number =
    number == hop_by_hop_options
    || (number == routing
    || (number == fragment
    || (number == authentication
    || (number == destination_options
    || (number == mobility
    || (number == host_identity
    || number == shim6))))))

-- The length in bytes of the extension header at the front of some bytes. A fragment header is 8 bytes long (RFC 8200, section 4.5). The
-- length byte of an authentication header counts the words of four bytes after the first two words (RFC 4302, section 2.2). The length byte
-- of any other header counts the words of eight bytes after the first word (RFC 8200, sections 4.3, 4.4 and 4.6; RFC 6275, section 6.1.1;
-- RFC 7401, section 5.1; RFC 5533, section 5.1).
abbrev pub extension_len : ℕ → List ℕ → ℕ
extension_len number bytes =
    if number == fragment then 8
    else if number == authentication then (slice_index bytes 1 + 2) * 4
    else (slice_index bytes 1 + 1) * 8

-- the length of the longest extension header, in bytes: 256 words of eight bytes, since the length byte is at most 255
abbrev pub max_extension_len : ℕ
max_extension_len = 2048

-- the number of the header or protocol that follows an extension header (RFC 8200, section 4)
abbrev pub next_number : List ℕ → ℕ
next_number bytes = slice_index bytes 0

-- ---- fragments

-- the offset of a fragment in its packet, in units of 8 bytes: the high 13 bits of bytes 2 and 3 (RFC 8200, section 4.5)
abbrev pub fragment_offset : List ℕ → ℕ
fragment_offset bytes = be_number bytes 2 2 / 8

-- these bytes are the fragment header of a later fragment
abbrev pub is_later_fragment : ℕ → List ℕ → Bool
is_later_fragment number bytes = number == fragment && not (fragment_offset bytes == 0)

-- these bytes are a fragment header after which more fragments follow (the bit 0x01 of byte 3)
abbrev pub has_more_fragments : ℕ → List ℕ → Bool
has_more_fragments number bytes = number == fragment && flag bytes 3 1

-- These bytes are the fragment header of a packet with several fragments: its offset is above 0, or more fragments follow. For an atomic
-- fragment neither is true (RFC 6946).
abbrev pub is_one_of_fragments : ℕ → List ℕ → Bool
is_one_of_fragments number bytes = is_later_fragment number bytes || has_more_fragments number bytes

-- ---- routing

-- these bytes are a routing header with segments left; byte 3 is the number of segments left (RFC 8200, section 4.4)
abbrev pub has_segments_left : ℕ → List ℕ → Bool
has_segments_left number bytes = number == routing && not (slice_index bytes 3 == 0)

-- the entry at this index in a routing header: an address of 16 bytes; the first entry follows the first eight bytes (RFC 2460, section
-- 4.4; RFC 6275, section 6.4.1; RFC 8754, section 2)
abbrev pub entry : List ℕ → ℕ → List ℕ
entry bytes index = slice_range bytes (8 + index * 16) (24 + index * 16)

-- The final destination in a routing header that has segments left. In type 0 it is the last address of the header, and the length byte is
-- twice the number of addresses (RFC 2460, section 4.4). In type 2 it is the home address (RFC 6275, section 6.4.1). In type 4 it is the
-- first entry of the segment list, which is the last segment (RFC 8754, section 2). For any other type, or if the header contains no
-- address, it is unknown.
abbrev pub final_destination : List ℕ → Option (List ℕ)
final_destination bytes =
    let words : ℕ = slice_index bytes 1 in
    if nat_lt words 2 then None
    else if slice_index bytes 2 == 0 then Some (entry bytes (words / 2 - 1))
    else if slice_index bytes 2 == 2 || slice_index bytes 2 == 4 then Some (entry bytes 0)
    else None

-- the final destination, updated by this extension header; only a routing header with segments left changes it
abbrev pub destination_after : Option (List ℕ) → ℕ → List ℕ → Option (List ℕ)
destination_after destination number bytes = if has_segments_left number bytes then final_destination bytes else destination

-- ---- home address

-- the source, updated by this extension header; only destination options with a home address change it (RFC 6275, sections 6.3 and 9.3.1)
abbrev pub source_after : List ℕ → ℕ → List ℕ → List ℕ
source_after source number bytes = if number == destination_options then home_address_after source bytes else source

-- ---- chains of extension headers

-- An extension header of a packet: its bytes, and its number, which the header before it contains.
pub record ExtensionHeader : Type 0 where
  pub number : ℕ
  pub bytes : List ℕ

-- The extension header is whole. Its number is known, and it has exactly as many bytes as it states, at least 8.
pub record IsWhole (header : ExtensionHeader) : Type 0 where
  pub known : is_extension header.number ≡ true
  pub shortest : 8 ≤ length header.bytes
  pub len : length header.bytes ≡ extension_len header.number header.bytes

-- Extension headers, one after the other. The first header has the number `number`. Each header contains the number of the next header, and
-- the last header contains the number of the protocol. `is_ipv6` is true over IPv6. `may_be_extended` is true if an extension header may
-- come next. Over IPv4 no second extension header follows. Over IPv6 no extension header follows the fragment header of a later fragment,
-- since its payload is a later part of a packet. If an extension header may come next, the protocol is not the number of an extension
-- header.
abbrev pub IsChain : Bool → Bool → ℕ → List ExtensionHeader → ℕ → Type 0
IsChain is_ipv6 may_be_extended number [] protocol = (number ≡ protocol) × (may_be_extended && is_extension number ≡ false)
IsChain is_ipv6 may_be_extended number (header ∷ headers) protocol =
    (may_be_extended ≡ true) × (header.number ≡ number) × IsWhole header
    × IsChain is_ipv6 (is_ipv6 && not (is_later_fragment header.number header.bytes)) (next_number header.bytes) headers protocol

-- Extension headers, one after the other, as in `IsChain`. After them comes another extension header, with the number `next`. This is the
-- extension header that is refused.
abbrev pub LeadsTo : Bool → Bool → ℕ → List ExtensionHeader → ℕ → Type 0
LeadsTo is_ipv6 may_be_extended number [] next = (number ≡ next) × (may_be_extended ≡ true) × (is_extension next ≡ true)
LeadsTo is_ipv6 may_be_extended number (header ∷ headers) next =
    (may_be_extended ≡ true) × (header.number ≡ number) × IsWhole header
    × LeadsTo is_ipv6 (is_ipv6 && not (is_later_fragment header.number header.bytes)) (next_number header.bytes) headers next

-- the bytes of these extension headers, one after the other
abbrev pub bytes_of : List ExtensionHeader → List ℕ
bytes_of headers = flat_map (λ header. header.bytes) headers

-- a packet with these extension headers is one of several fragments
abbrev pub is_fragment_by : List ExtensionHeader → Bool
is_fragment_by headers = list_any (λ header. is_one_of_fragments header.number header.bytes) headers

-- one of these extension headers is the fragment header of a later fragment
abbrev pub is_later_fragment_by : List ExtensionHeader → Bool
is_later_fragment_by headers = list_any (λ header. is_later_fragment header.number header.bytes) headers

-- one of these extension headers is a fragment header
abbrev pub has_fragment_header : List ExtensionHeader → Bool
has_fragment_header headers = list_any (λ header. header.number == fragment) headers

-- the first of these extension headers is hop-by-hop options with a jumbo payload option
abbrev pub begins_with_jumbo_payload : List ExtensionHeader → Bool
begins_with_jumbo_payload [] = false
begins_with_jumbo_payload (header ∷ headers) = header.number == hop_by_hop_options && is_some (jumbo_payload_len header.bytes)

-- ---- what is refused

-- the extension header of this number at the front of these bytes
abbrev pub front_of : ℕ → List ℕ → ExtensionHeader
front_of number rest = record { number = number; bytes = take (extension_len number rest) rest }

-- The bytes are too few for an extension header of this number. There are fewer than 8 bytes, the least length of an extension header, or
-- fewer bytes than the header states. `required_len` is 8 or the stated length.
abbrev pub LacksBytes : ℕ → List ℕ → ℕ → Type 0
LacksBytes number rest required_len =
    ((length rest < 8) × (required_len ≡ 8))
    ⊎ ((8 ≤ length rest) × (length rest < extension_len number rest) × (required_len ≡ extension_len number rest))

-- This error refuses the extension header of this number at the front of `rest`. The header begins at `offset` in a packet with this
-- payload length. It is cut off, or it breaks RFC 2675, section 3. Two headers break it: hop-by-hop options with a jumbo payload option
-- directly after an IPv6 header whose payload length is not 0, and a fragment header in a jumbogram.
abbrev pub RefusesNext : ℕ → Bool → ℕ → ℕ → List ℕ → IpError → Type 0
RefusesNext payload_len is_jumbogram offset number rest (ExtensionHeaderCutOff protocol place required_len len) =
    (protocol.0 ≡ number) × (place ≡ offset) × (len ≡ length rest) × LacksBytes number rest required_len
RefusesNext payload_len is_jumbogram offset number rest (JumboPayloadUnexpected len) =
    (len ≡ payload_len) × (len ≢ 0) × (offset ≡ 40) × IsWhole (front_of number rest)
    × (begins_with_jumbo_payload (front_of number rest ∷ []) ≡ true)
RefusesNext payload_len is_jumbogram offset number rest (JumboPayloadFragment place) =
    (place ≡ offset) × (is_jumbogram ≡ true) × (number ≡ fragment) × IsWhole (front_of number rest)
RefusesNext payload_len is_jumbogram offset number rest (HeaderCutOff required_len len) = ⊥
RefusesNext payload_len is_jumbogram offset number rest (Version version) = ⊥
RefusesNext payload_len is_jumbogram offset number rest (HeaderLength header_len) = ⊥
RefusesNext payload_len is_jumbogram offset number rest (TotalLength total_len header_len) = ⊥
RefusesNext payload_len is_jumbogram offset number rest JumboPayloadMissing = ⊥
RefusesNext payload_len is_jumbogram offset number rest (JumboPayloadLength jumbo_payload_len) = ⊥
RefusesNext payload_len is_jumbogram offset number rest (PacketCutOff required_len len) = ⊥

-- ---- the addresses with all extension headers

-- the final destination of a packet with these extension headers; the last routing header with segments left decides
abbrev pub destination_by : Option (List ℕ) → List ExtensionHeader → Option (List ℕ)
destination_by destination headers =
    fold (λ destination header. destination_after destination header.number header.bytes) destination headers

-- the source of a packet with these extension headers: the last home address in destination options, or `source` if there is no home
-- address
abbrev pub source_by : List ℕ → List ExtensionHeader → List ℕ
source_by source headers = fold (λ source header. source_after source header.number header.bytes) source headers
