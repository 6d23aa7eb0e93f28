-- The transport in an IP packet (RFC 791, section 3.1; RFC 8200, sections 3 and 4; RFC 2675): which packets are refused, which bytes the IP
-- header counts, where the headers end, and what they contain.
use Rattle.std.specs.Prelude.{◌≡◌, ◌≢◌, ◌≤◌, ℕ, zero, suc, ◌+◌, ◌==◌, Bool, true, false, not, ◌&&◌, ◌||◌, nat_lt, nat_le, if◌then◌else◌, List, [], ◌∷◌, ◌++◌, length, take, drop, slice_index, slice_range, Option, Some, None, is_some, is_none, unwrap_or, Result, Ok, Err}
use Rattle.net_base.specs.Bytes.{be_number}
use Rattle.net_base.specs.IpHeaders.{ipv4_fragment_offset, ipv4_header_len, ipv4_is_fragment, version}
use Rattle.net_base.specs.Refusals.{first_of, refused_if}
use Rattle.ip_part.specs.Addresses.{Addresses, Ipv4, Ipv6, by_value, is_ipv6}
use Rattle.ip_part.specs.ExtensionHeaders.{ExtensionHeader, IsChain, LeadsTo, RefusesNext, authentication, begins_with_jumbo_payload, bytes_of, destination_after, destination_by, extension_len, fragment, has_fragment_header, hop_by_hop_options, is_extension, is_fragment_by, is_later_fragment, is_later_fragment_by, is_one_of_fragments, next_number, source_after, source_by}
use Rattle.ip_part.specs.FixedHeaders.{fixed_by_value, fixed_header}
use Rattle.ip_part.specs.Headers.{Headers}
use Rattle.ip_part.specs.Options.{AreOptions, ipv4_destination_by, ipv4_option, ipv6_option, jumbo_payload_len, options_of}
use Rattle.ip_part.specs.declared.ip_error.IpError.{IpError}
use Rattle.ip_part.specs.declared.ip_error.IpError.TheVariants.{ExtensionHeaderCutOff, HeaderCutOff, HeaderLength, JumboPayloadFragment, JumboPayloadLength, JumboPayloadMissing, JumboPayloadUnexpected, PacketCutOff, TotalLength, Version}
use Rattle.ip_part.specs.declared.transport.TransportInIp.{TransportInIp}

-- ---- the IP header

-- the bytes of an IPv4 header with its options (RFC 791, section 3.1)
abbrev pub ipv4_header : List ℕ → List ℕ
ipv4_header packet = take (ipv4_header_len packet) packet

-- the bytes of an IPv6 header (RFC 8200, section 3)
abbrev pub ipv6_header : List ℕ → List ℕ
ipv6_header packet = take 40 packet

-- the total length of an IPv4 packet, header and payload (RFC 791, section 3.1)
abbrev pub total_len : List ℕ → ℕ
total_len packet = be_number (ipv4_header packet) 2 2

-- The error of an IPv4 header, if it has an error. The header states a length below 20 bytes, or it is cut off.
abbrev pub ipv4_header_refusal : List ℕ → Option IpError
ipv4_header_refusal packet = first_of (
    refused_if (nat_lt (length packet) 20) (HeaderCutOff 20 (length packet))
    ∷ refused_if (nat_lt (ipv4_header_len packet) 20) (HeaderLength (ipv4_header_len packet))
    ∷ refused_if (nat_lt (length packet) (ipv4_header_len packet)) (HeaderCutOff (ipv4_header_len packet) (length packet))
    ∷ [])

-- The error of an IPv4 header, or the error for a total length below the header length. A total length of 0 states no length, so it is
-- accepted here.
abbrev pub ipv4_refusal : List ℕ → Option IpError
ipv4_refusal packet = first_of (
    ipv4_header_refusal packet
    ∷ refused_if (not (total_len packet == 0) && nat_lt (total_len packet) (ipv4_header_len packet))
    (TotalLength (total_len packet) (ipv4_header_len packet))
    ∷ [])

-- the payload length of an IPv6 packet (RFC 8200, section 3)
abbrev pub payload_len : List ℕ → ℕ
payload_len packet = be_number (ipv6_header packet) 4 2

-- the number of the header or protocol after the IPv6 header (RFC 8200, section 3)
abbrev pub next_header : List ℕ → ℕ
next_header packet = slice_index (ipv6_header packet) 6

-- The packet has payload length 0, and hop-by-hop options follow the IPv6 header. Then these options must contain the length (RFC 2675,
-- section 3).
abbrev pub has_len_in_options : List ℕ → Bool
has_len_in_options packet = payload_len packet == 0 && next_header packet == hop_by_hop_options

-- the hop-by-hop options at the front of `rest`, the bytes after an IPv6 header
abbrev pub options_at : List ℕ → List ℕ
options_at rest = take (extension_len hop_by_hop_options rest) rest

-- the jumbo payload length in the hop-by-hop options at the front of `rest`, if they contain a jumbo payload option
abbrev pub len_in_options : List ℕ → Option ℕ
len_in_options rest = jumbo_payload_len (options_at rest)

-- the jumbo payload length of a packet, if the packet has one; it counts the bytes after the IPv6 header
abbrev pub jumbo_len : List ℕ → Option ℕ
jumbo_len packet = if has_len_in_options packet then len_in_options (drop 40 packet) else None

-- the packet has a jumbo payload length
abbrev pub is_jumbogram : List ℕ → Bool
is_jumbogram packet = is_some (jumbo_len packet)

-- the error for hop-by-hop options that must contain the length and are cut off, so that the length is unknown
abbrev pub options_refusal : List ℕ → Option IpError
options_refusal rest = first_of (
    refused_if (nat_lt (length rest) 8) (HeaderCutOff 48 (40 + length rest))
    ∷ refused_if (nat_lt (length rest) (extension_len hop_by_hop_options rest))
    (HeaderCutOff (40 + extension_len hop_by_hop_options rest) (40 + length rest))
    ∷ [])

-- The greatest length that the payload length field can state. A jumbo payload length must be greater (RFC 2675, section 2).
abbrev pub max_payload_len : ℕ
max_payload_len = 65535

-- the error for a jumbo payload length that is not above `max_payload_len`
abbrev pub jumbo_len_refusal : Option ℕ → Option IpError
jumbo_len_refusal None = None
jumbo_len_refusal (Some len) = refused_if (nat_le len max_payload_len) (JumboPayloadLength len)

-- The error of the hop-by-hop options that must contain the length. They are cut off, or else their jumbo payload length is too small.
abbrev pub len_in_options_refusal : List ℕ → Option IpError
len_in_options_refusal rest = first_of (options_refusal rest ∷ jumbo_len_refusal (len_in_options rest) ∷ [])

-- the error of the hop-by-hop options of a packet, if they must contain the length
abbrev pub jumbo_refusal : List ℕ → Option IpError
jumbo_refusal packet = if has_len_in_options packet then len_in_options_refusal (drop 40 packet) else None

-- The error of an IPv6 header, if it has an error. The header is cut off, or else the hop-by-hop options that must contain the length have
-- an error.
abbrev pub ipv6_refusal : List ℕ → Option IpError
ipv6_refusal packet = first_of (
    refused_if (nat_lt (length packet) 40) (HeaderCutOff 40 (length packet))
    ∷ jumbo_refusal packet
    ∷ [])

-- the error of an IP header, if there is one: the slice is empty, the version is neither 4 nor 6, or the header of this version has an
-- error
abbrev pub header_refusal : List ℕ → Option IpError
header_refusal packet =
    if length packet == 0 then Some (HeaderCutOff 1 0)
    else if version packet == 4 then ipv4_refusal packet
    else if version packet == 6 then ipv6_refusal packet
    else Some (Version (version packet))

-- the packet length that an IPv4 header states: its total length (RFC 791, section 3.1); a total length of 0 states no length
abbrev pub ipv4_stated_len : List ℕ → Option ℕ
ipv4_stated_len packet = if total_len packet == 0 then None else Some (total_len packet)

-- the number "no next header", which states that nothing follows a header (RFC 8200, section 4.7)
abbrev pub no_next_header : ℕ
no_next_header = 59

-- The packet length that an IPv6 header states, including the header itself. It is 40 plus the jumbo payload length, if there is one (RFC
-- 2675, section 2), and otherwise 40 plus the payload length (RFC 8200, section 3). A payload length of 0 states no length, except if the
-- next header is "no next header". Then the packet ends with its header (RFC 8200, section 4.7).
abbrev pub ipv6_stated_len : Option ℕ → ℕ → ℕ → Option ℕ
ipv6_stated_len (Some jumbo_len) payload_len next_header = Some (40 + jumbo_len)
ipv6_stated_len None payload_len next_header =
    if payload_len == 0 && not (next_header == no_next_header) then None else Some (40 + payload_len)

-- the packet length that the IP header states, if it states a length
abbrev pub stated_len : List ℕ → Option ℕ
stated_len packet =
    if version packet == 4 then ipv4_stated_len packet else ipv6_stated_len (jumbo_len packet) (payload_len packet) (next_header packet)

-- The header states no length. This occurs in packets that a host captures before its network card splits them.
abbrev pub lacks_len : List ℕ → Bool
lacks_len packet = is_none (stated_len packet)

-- The number of bytes that the header counts, including the header itself. If `is_length_missing` is true, all bytes are counted. Otherwise
-- the number is the stated length. For an IPv6 header that states no length, it is 40.
abbrev pub counted_len : Bool → List ℕ → ℕ
counted_len is_length_missing packet =
    if is_length_missing then length packet
    else if version packet == 4 then total_len packet
    else 40 + unwrap_or (jumbo_len packet) (payload_len packet)

-- the bytes of the packet that the header counts; the bytes after them are padding
abbrev pub counted : Bool → List ℕ → List ℕ
counted is_length_missing packet = take (counted_len is_length_missing packet) packet

-- the final destination of an IPv4 packet, as its header and the source route in its options state it
abbrev pub ipv4_destination : List ℕ → List ℕ
ipv4_destination header = ipv4_destination_by (slice_range header 16 20) (options_of ipv4_option (drop 20 header))

-- An authentication header follows the IPv4 header directly. The protocol of the IPv4 header is 51 (RFC 4302, section 3.1), and the packet
-- is not a later fragment. In a later fragment, payload follows the IPv4 header instead.
abbrev pub has_authentication : List ℕ → Bool
has_authentication header = slice_index header 9 == authentication && ipv4_fragment_offset header == 0

-- the contents of an IPv4 header
abbrev pub ipv4_headers : ℕ → List ℕ → Headers
ipv4_headers len header = record {
  addresses = Ipv4 (slice_range header 12 16) (ipv4_destination header);
  protocol = record { 0 = slice_index header 9 };
  len = len;
  is_fragment = ipv4_is_fragment header;
  is_later_fragment = not (ipv4_fragment_offset header == 0);
  may_be_extended = has_authentication header;
  payload_len = 0;
  is_jumbogram = false;
}

-- the contents of an IPv6 header
abbrev pub ipv6_headers : Bool → List ℕ → Headers
ipv6_headers is_jumbogram header = record {
  addresses = Ipv6 (slice_range header 8 24) (Some (slice_range header 24 40));
  protocol = record { 0 = slice_index header 6 };
  len = 40;
  is_fragment = false;
  is_later_fragment = false;
  may_be_extended = true;
  payload_len = be_number header 4 2;
  is_jumbogram = is_jumbogram;
}

-- the contents of the IP header of a packet
abbrev pub first_headers : List ℕ → Headers
first_headers packet =
    if version packet == 4 then ipv4_headers (ipv4_header_len packet) (ipv4_header packet)
    else ipv6_headers (is_jumbogram packet) (ipv6_header packet)

-- The error of a header that states no length although it must state one. The total length of IPv4 counts at least the header (RFC 791,
-- section 3.1). If the payload length of IPv6 is 0 and hop-by-hop options follow the header, they must contain the length (RFC 2675,
-- section 3).
abbrev pub own_len_refusal : Addresses → ℕ → ℕ → Option IpError
own_len_refusal (Ipv4 source destination) number len = Some (TotalLength 0 len)
own_len_refusal (Ipv6 source destination) number len = refused_if (number == hop_by_hop_options) JumboPayloadMissing

-- the error of an IP header with these contents that states no length, if it must state one
abbrev pub missing_len_refusal : Headers → Option IpError
missing_len_refusal headers = own_len_refusal headers.addresses headers.protocol.0 headers.len

-- the error of an IP header, or the error of a header that states no length although it must state one
abbrev pub strict_header_refusal : List ℕ → Option IpError
strict_header_refusal packet = first_of (
    header_refusal packet
    ∷ (if lacks_len packet then missing_len_refusal (first_headers packet) else None)
    ∷ [])

-- ---- one extension header

-- an extension header comes next
abbrev pub is_extended : Headers → Bool
is_extended headers = headers.may_be_extended && is_extension headers.protocol.0

-- the extension header at the front of some bytes
abbrev pub extension_header : Headers → List ℕ → List ℕ
extension_header headers rest = take (extension_len headers.protocol.0 rest) rest

-- hop-by-hop options follow the IPv6 header directly
abbrev pub is_first_options : Headers → Bool
is_first_options headers = headers.len == 40 && headers.protocol.0 == hop_by_hop_options

-- The error of an extension header that breaks RFC 2675, section 3. It contains a jumbo payload option directly after an IPv6 header whose
-- payload length is not 0. Or it is a fragment header in a jumbogram.
abbrev pub jumbogram_refusal : Headers → List ℕ → Option IpError
jumbogram_refusal headers header = first_of (
    refused_if (not (headers.payload_len == 0) && (is_first_options headers && is_some (jumbo_payload_len header)))
    (JumboPayloadUnexpected headers.payload_len)
    ∷ refused_if (headers.is_jumbogram && headers.protocol.0 == fragment) (JumboPayloadFragment headers.len)
    ∷ [])

-- the error of the next extension header, if there is one: it is cut off, or it breaks RFC 2675, section 3
abbrev pub extension_refusal : Headers → List ℕ → Option IpError
extension_refusal headers rest = first_of (
    refused_if (nat_lt (length rest) 8) (ExtensionHeaderCutOff headers.protocol headers.len 8 (length rest))
    ∷ refused_if (nat_lt (length rest) (extension_len headers.protocol.0 rest))
    (ExtensionHeaderCutOff headers.protocol headers.len (extension_len headers.protocol.0 rest) (length rest))
    ∷ jumbogram_refusal headers (extension_header headers rest)
    ∷ [])

-- the addresses, updated by an extension header of this number
abbrev pub with_header : Addresses → ℕ → List ℕ → Addresses
with_header (Ipv4 source destination) number header = Ipv4 source destination
with_header (Ipv6 source destination) number header = Ipv6 (source_after source number header) (destination_after destination number header)

-- the addresses, updated by the next extension header
abbrev pub addresses_after : Headers → List ℕ → Addresses
addresses_after headers header = with_header headers.addresses headers.protocol.0 header

-- Adds the next extension header to the contents of the headers. No header follows the fragment header of a later fragment, since its
-- payload is a later part of a packet. Over IPv4 no second extension header follows.
abbrev pub headers_after : Headers → List ℕ → Headers
headers_after headers header = record {
  addresses = addresses_after headers header;
  protocol = record { 0 = next_number header };
  len = headers.len + length header;
  is_fragment = headers.is_fragment || is_one_of_fragments headers.protocol.0 header;
  is_later_fragment = headers.is_later_fragment || is_later_fragment headers.protocol.0 header;
  may_be_extended = is_ipv6 headers.addresses && not (is_later_fragment headers.protocol.0 header);
  payload_len = headers.payload_len;
  is_jumbogram = headers.is_jumbogram;
}

-- ---- all headers

-- the error, or this result if there is no error
abbrev pub unless_refused : {T E : Type 0} → Option E → Result T E → Result T E
unless_refused (Some error) result = Err error
unless_refused None result = result

-- Adds all extension headers that follow to the contents of these headers. At most this number of extension headers is read.
unfoldable pub headers_to_transport : ℕ → Headers → List ℕ → Result Headers IpError
headers_to_transport zero headers bytes = Ok headers
headers_to_transport (suc more) headers bytes =
    if is_extended headers
    then unless_refused (extension_refusal headers (drop headers.len bytes))
    (headers_to_transport more (headers_after headers (extension_header headers (drop headers.len bytes))) bytes)
    else Ok headers

-- The contents of all headers of a packet up to its transport. Each extension header has at least one byte, so the number of bytes limits
-- the number of headers.
abbrev pub headers_of : Bool → List ℕ → Result Headers IpError
headers_of is_length_missing packet =
    headers_to_transport (suc (length (counted is_length_missing packet))) (first_headers packet) (counted is_length_missing packet)

-- ---- the two calls

-- the error of a result, if the result is an error
abbrev pub error_of : {T E : Type 0} → Result T E → Option E
error_of (Ok value) = None
error_of (Err error) = Some error

-- the IP header counts more bytes than the packet contains
abbrev pub is_cut_off : Bool → List ℕ → Bool
is_cut_off is_length_missing packet = nat_lt (length packet) (counted_len is_length_missing packet)

-- The error that refuses a packet. The call checks the IP header first. Then it checks that the packet is not cut off, and then each
-- extension header. The first error counts.
abbrev pub refusal : List ℕ → Option IpError
refusal packet = first_of (
    strict_header_refusal packet
    ∷ refused_if (is_cut_off false packet) (PacketCutOff (counted_len false packet) (length packet))
    ∷ error_of (headers_of false packet)
    ∷ [])

-- the error that refuses a packet in the lax call, which accepts a packet that is cut off or states no length
abbrev pub lax_refusal : List ℕ → Option IpError
lax_refusal packet = first_of (header_refusal packet ∷ error_of (headers_of (lacks_len packet) packet) ∷ [])

-- This is the transport of the packet. It consists of the contents of all headers, and of the counted bytes after the headers.
pub record Carries (packet : List ℕ) (transport : TransportInIp) : Type 0 where
  pub headers : Headers
  pub read : headers_of transport.is_length_missing packet ≡ Ok headers
  pub ended : is_extended headers ≡ false
  pub addresses : by_value transport.addresses ≡ headers.addresses
  pub protocol : transport.protocol ≡ headers.protocol
  pub is_fragment : transport.is_fragment ≡ headers.is_fragment
  pub is_later_fragment : transport.is_later_fragment ≡ headers.is_later_fragment
  pub within : headers.len ≤ length (counted transport.is_length_missing packet)
  pub payload : transport.payload.now ≡ drop headers.len (counted transport.is_length_missing packet)
  pub payload_offset : transport.payload_offset ≡ headers.len
  pub is_cut_off : transport.is_cut_off ≡ is_cut_off transport.is_length_missing packet
  pub is_length_missing : transport.is_length_missing ≡ true → lacks_len packet ≡ true
  pub fixed_header : fixed_header packet ≡ Some (fixed_by_value transport.fixed_header)
  pub header_len : transport.header_len ≡ (first_headers packet).len
  pub counted_len : transport.counted_len ≡ counted_len transport.is_length_missing packet

-- the counted bytes after an IPv4 header; if the length is missing, all bytes after the header
abbrev pub after_ipv4_header : Bool → List ℕ → List ℕ
after_ipv4_header is_length_missing packet =
    drop (ipv4_header_len packet) (if is_length_missing then packet else take (total_len packet) packet)

-- The protocol number of an IPv4 packet. If an authentication header follows the IPv4 header, it contains the number.
abbrev pub ipv4_protocol : List ℕ → List ℕ → ℕ
ipv4_protocol header after = if has_authentication header then next_number after else slice_index header 9

-- the payload of an IPv4 packet, given its header and the bytes after the header
abbrev pub ipv4_payload : List ℕ → List ℕ → List ℕ
ipv4_payload header after = if has_authentication header then drop (extension_len authentication after) after else after

-- This is the transport of an IPv4 packet, as its header states it. If an authentication header follows the IPv4 header, the authentication
-- header states the protocol.
pub record IsOverIpv4 (packet : List ℕ) (transport : TransportInIp) : Type 0 where
  pub options : List (List ℕ)
  pub are_options : AreOptions ipv4_option (drop 20 (ipv4_header packet)) options
  pub addresses : by_value transport.addresses ≡ Ipv4 (slice_range (ipv4_header packet) 12 16)
      (ipv4_destination_by (slice_range (ipv4_header packet) 16 20) options)
  pub protocol : transport.protocol.0 ≡ ipv4_protocol (ipv4_header packet) (after_ipv4_header transport.is_length_missing packet)
  pub is_fragment : transport.is_fragment ≡ ipv4_is_fragment (ipv4_header packet)
  pub is_later_fragment : transport.is_later_fragment ≡ not (ipv4_fragment_offset (ipv4_header packet) == 0)
  pub payload : transport.payload.now ≡ ipv4_payload (ipv4_header packet) (after_ipv4_header transport.is_length_missing packet)
  pub header_len : transport.header_len ≡ ipv4_header_len packet

-- this is the transport of an IPv6 packet without extension headers
pub record IsOverIpv6 (packet : List ℕ) (transport : TransportInIp) : Type 0 where
  pub addresses : by_value transport.addresses
      ≡ Ipv6 (slice_range (ipv6_header packet) 8 24) (Some (slice_range (ipv6_header packet) 24 40))
  pub protocol : transport.protocol.0 ≡ next_header packet
  pub is_fragment : transport.is_fragment ≡ false
  pub is_later_fragment : transport.is_later_fragment ≡ false
  pub payload : transport.payload.now ≡ drop 40 (if transport.is_length_missing then packet else take (40 + payload_len packet) packet)
  pub header_len : transport.header_len ≡ 40

-- the bytes of a packet after the bytes that the IP header counts
abbrev pub padding : Bool → List ℕ → List ℕ
padding is_length_missing packet = drop (counted_len is_length_missing packet) packet

-- ---- the parts of a packet

-- the IP header, with its options
abbrev pub ip_header : List ℕ → List ℕ
ip_header packet = if version packet == 4 then ipv4_header packet else ipv6_header packet

-- the number of the header or protocol after the IP header
abbrev pub first_number : List ℕ → ℕ
first_number packet = if version packet == 4 then slice_index (ipv4_header packet) 9 else next_header packet

-- An extension header may follow the IP header directly: any extension header over IPv6, and only an authentication header over IPv4.
abbrev pub may_be_extended : List ℕ → Bool
may_be_extended packet = if version packet == 4 then has_authentication (ipv4_header packet) else true

-- the packet consists of the IP header, these extension headers, the payload and the padding
pub record Reads (is_length_missing : Bool) (packet : List ℕ) (extensions : List ExtensionHeader) (protocol : ℕ) (payload : List ℕ) : Type 0 where
  pub whole : packet ≡ ip_header packet ++ (bytes_of extensions ++ (payload ++ padding is_length_missing packet))
  pub chain : IsChain (not (version packet == 4)) (may_be_extended packet) (first_number packet) extensions protocol

-- the addresses of a packet with these extension headers
abbrev pub addresses_by : List ℕ → List ExtensionHeader → Addresses
addresses_by packet extensions =
    if version packet == 4 then Ipv4 (slice_range (ipv4_header packet) 12 16) (ipv4_destination (ipv4_header packet))
    else Ipv6 (source_by (slice_range (ipv6_header packet) 8 24) extensions)
    (destination_by (Some (slice_range (ipv6_header packet) 24 40)) extensions)

-- a packet with these extension headers is one of several fragments
abbrev pub is_fragment : List ℕ → List ExtensionHeader → Bool
is_fragment packet extensions = if version packet == 4 then ipv4_is_fragment (ipv4_header packet) else is_fragment_by extensions

-- The fragment offset of a packet with these extension headers is above 0. The offset is in the IPv4 header (RFC 791, section 3.1), or over
-- IPv6 in the fragment header (RFC 8200, section 4.5).
abbrev pub has_fragment_offset : List ℕ → List ExtensionHeader → Bool
has_fragment_offset packet extensions =
    if version packet == 4 then not (ipv4_fragment_offset (ipv4_header packet) == 0) else is_later_fragment_by extensions

-- The packet consists of its headers and the payload of this transport, and no other transport fits the packet. The options in each
-- extension header follow one another.
pub record IsAfterHeaders (packet : List ℕ) (transport : TransportInIp) : Type 0 where
  pub extensions : List ExtensionHeader
  pub reads : Reads transport.is_length_missing packet extensions transport.protocol.0 transport.payload.now
  pub offset : transport.payload_offset ≡ length (ip_header packet) + length (bytes_of extensions)
  pub options : (header : List ℕ) → AreOptions ipv6_option (drop 2 header) (options_of ipv6_option (drop 2 header))
  pub addresses : by_value transport.addresses ≡ addresses_by packet extensions
  pub is_fragment : transport.is_fragment ≡ is_fragment packet extensions
  pub is_later_fragment : transport.is_later_fragment ≡ has_fragment_offset packet extensions
  pub alone : (others : List ExtensionHeader) (protocol : ℕ) (payload : List ℕ)
      → Reads transport.is_length_missing packet others protocol payload
      → (others ≡ extensions) × (protocol ≡ transport.protocol.0) × (payload ≡ transport.payload.now)

-- This error refuses the packet after its IP header. The packet consists of the IP header, whole extension headers, the rest of the counted
-- bytes, and the padding. The extension header at the front of the rest is refused.
pub record IsRefusedAfterHeaders (is_length_missing : Bool) (packet : List ℕ) (error : IpError) : Type 0 where
  pub extensions : List ExtensionHeader
  pub number : ℕ
  pub rest : List ℕ
  pub whole : packet ≡ ip_header packet ++ (bytes_of extensions ++ (rest ++ padding is_length_missing packet))
  pub chain : LeadsTo (not (version packet == 4)) (may_be_extended packet) (first_number packet) extensions number
  pub no_jumbo_payload : (first_headers packet).payload_len ≢ 0 → begins_with_jumbo_payload extensions ≡ false
  pub no_fragment : (first_headers packet).is_jumbogram ≡ true → has_fragment_header extensions ≡ false
  pub refuses : RefusesNext (first_headers packet).payload_len (first_headers packet).is_jumbogram
      (length (ip_header packet) + length (bytes_of extensions)) number rest error

-- all fields of both transports are equal; addresses, payloads and fixed headers are compared by their bytes
abbrev pub AreAlike : TransportInIp → TransportInIp → Type 0
AreAlike a b = (by_value a.addresses ≡ by_value b.addresses) × (a.protocol ≡ b.protocol) × (a.payload.now ≡ b.payload.now)
    × (a.payload_offset ≡ b.payload_offset) × (a.is_fragment ≡ b.is_fragment) × (a.is_later_fragment ≡ b.is_later_fragment)
    × (a.is_cut_off ≡ b.is_cut_off) × (a.is_length_missing ≡ b.is_length_missing)
    × (fixed_by_value a.fixed_header ≡ fixed_by_value b.fixed_header) × (a.header_len ≡ b.header_len) × (a.counted_len ≡ b.counted_len)
