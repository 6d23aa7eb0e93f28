-- The parts of an IPv6 packet, which the translations to IPv4 share.
use Rattle.std.specs.Prelude.{ℕ, ◌+◌, ◌==◌, Bool, ◌&&◌, nat_le, List, [], ◌∷◌, drop, length, slice_range, Option, Some, None, Result}
use Rattle.std.specs.Option.{unwrap_or}
use Rattle.ip_part.specs.Ip.{ipv6_header}
use Rattle.net_base.specs.IpHeaders.{version}
use Rattle.ip_translation.specs.HeadersToIpv4.{destination, hop_limit, next_header, payload_len, source, traffic_class}
use Rattle.ip_translation.specs.HeadersToIpv6.{ipv6_header as built_header}
use Rattle.ip_translation.specs.Fragments.{whole}
use Rattle.ip_translation.specs.SkippedHeaders.{headers_before, unless_err}
use Rattle.ip_translation.specs.declared.fragment_fields.FragmentFields.{FragmentFields}
use Rattle.ip_translation.specs.declared.packet_translation_error.PacketTranslationError.{PacketTranslationError}
use Rattle.ip_translation.specs.declared.skipped_headers.SkippedHeaders.{SkippedHeaders}

-- the bytes begin with a whole IPv6 header (RFC 8200, section 3)
abbrev pub begins_with_header : List ℕ → Bool
begins_with_header packet = nat_le 40 (length packet) && version packet == 6

-- the payload: the bytes after the header that its payload length counts; all later bytes are padding
abbrev pub payload_after : List ℕ → List ℕ → List ℕ
payload_after header packet = slice_range packet 40 (40 + payload_len header)

-- the extension headers between this header and the message in this payload, or the error of one of them
abbrev pub skipped_in : List ℕ → List ℕ → Result SkippedHeaders PacketTranslationError
skipped_in header payload = headers_before (next_header header) payload

-- the message, or its part: the bytes of the payload after these extension headers
abbrev pub message_in : List ℕ → List ℕ → List ℕ
message_in header payload = drop (unless_err (skipped_in header payload)).len payload

-- This header, but with the number of this header or protocol after it, and with this payload length. The flow label is 0, since no
-- translation reads it.
abbrev pub header_counting : List ℕ → ℕ → ℕ → List ℕ
header_counting header number len =
    built_header (traffic_class header) len (number ∷ hop_limit header ∷ []) (source header) (destination header)

-- this header, but with the number of this header or protocol after it, and with a payload length that counts this message
abbrev pub header_before : List ℕ → ℕ → List ℕ → List ℕ
header_before header number message = header_counting header number (length message)

-- the header of the packet without its extension headers
abbrev pub direct_in : List ℕ → List ℕ → List ℕ
direct_in header payload = header_before header (unless_err (skipped_in header payload)).number (message_in header payload)

-- the fields for the IPv4 header, by the fragment header of the packet; without a fragment header, the packet has this identification
abbrev pub fields_in : ℕ → List ℕ → List ℕ → FragmentFields
fields_in identification header payload = unwrap_or (unless_err (skipped_in header payload)).fragment (whole identification)

-- the flags and the fragment offset in these fields, if there are fields
abbrev pub flags_by : Option FragmentFields → Option ℕ
flags_by None = None
flags_by (Some fields) = fields.flags_and_offset

-- the flags and the fragment offset for the IPv4 header, if the packet has a fragment header
abbrev pub flags_in : List ℕ → List ℕ → Option ℕ
flags_in header payload = flags_by (unless_err (skipped_in header payload)).fragment

-- the payload of a packet that begins with an IPv6 header
abbrev pub payload_of : List ℕ → List ℕ
payload_of packet = payload_after (ipv6_header packet) packet

-- the message of a packet that begins with an IPv6 header
abbrev pub message_of : List ℕ → List ℕ
message_of packet = message_in (ipv6_header packet) (payload_of packet)

-- the header of a packet that begins with an IPv6 header, without its extension headers
abbrev pub direct_header : List ℕ → List ℕ
direct_header packet = direct_in (ipv6_header packet) (payload_of packet)

-- the fields for the IPv4 header of a packet that begins with an IPv6 header; without a fragment header, this is its identification
abbrev pub fields_of : ℕ → List ℕ → FragmentFields
fields_of identification packet = fields_in identification (ipv6_header packet) (payload_of packet)
