-- The parts of an IPv4 packet and of its message, which the translations to IPv6 share.
use Rattle.std.specs.Prelude.{ℕ, ◌+◌, ◌==◌, Bool, ◌&&◌, nat_le, nat_lt, List, length, slice_range, Option}
use Rattle.ip_part.specs.Ip.{ipv4_header}
use Rattle.net_base.specs.Bytes.{be_number}
use Rattle.net_base.specs.IpHeaders.{ipv4_header_len, version}
use Rattle.net_base.specs.Refusals.{refused_if}
use Rattle.net_base.specs.StoredChecksum.{tcp_checksum_place, udp_checksum_place}
use Rattle.word_sum.specs.Checksum.{folded, total}
use Rattle.ip_translation.specs.HeadersToIpv6.{destination, source, total_len}
use Rattle.ip_translation.specs.AddressTables.{embedded}
use Rattle.ip_translation.specs.declared.packet_translation_error.PacketTranslationError.{PacketTranslationError}
use Rattle.ip_translation.specs.declared.packet_translation_error.PacketTranslationError.TheVariants.{TransportHeader}
use Rattle.ip_translation.specs.declared.prefixes.Prefixes.{Prefixes}

-- ---- the parts of a packet

-- the bytes begin with a whole IPv4 header, which states a length of at least 20 bytes (RFC 791, section 3.1)
abbrev pub begins_with_header : List ℕ → Bool
begins_with_header packet =
    nat_le 20 (length packet)
    && (version packet == 4
    && (nat_le 20 (ipv4_header_len packet)
    && nat_le (ipv4_header_len packet) (length packet)))

-- the message: the bytes after the header, up to the total length; all later bytes are padding
abbrev pub message_after : List ℕ → List ℕ → List ℕ
message_after header packet = slice_range packet (ipv4_header_len header) (total_len header)

-- the message of a packet that begins with an IPv4 header
abbrev pub message_of : List ℕ → List ℕ
message_of packet = message_after (ipv4_header packet) packet

-- the length field of a UDP packet (RFC 768)
abbrev pub udp_length : List ℕ → ℕ
udp_length packet = be_number packet 4 2

-- the checksum field of a UDP packet (RFC 768)
abbrev pub udp_checksum : List ℕ → ℕ
udp_checksum packet = be_number packet udp_checksum_place 2

-- the checksum field of a TCP segment (RFC 9293, section 3.1)
abbrev pub tcp_checksum : List ℕ → ℕ
tcp_checksum segment = be_number segment tcp_checksum_place 2

-- the error of a message that is shorter than its transport header
abbrev pub header_len_refusal : ℕ → List ℕ → Option PacketTranslationError
header_len_refusal required_len message = refused_if (nat_lt (length message) required_len) (TransportHeader required_len (length message))

-- ---- the addresses in a pseudo header

-- the one's complement sum of the two IPv4 addresses, which the translation removes from the pseudo header
abbrev pub removed_addresses : List ℕ → ℕ
removed_addresses header = folded (total (source header) + total (destination header))

-- the one's complement sum of the two IPv6 addresses, which the translation adds to the pseudo header
abbrev pub added_addresses : Prefixes → List ℕ → ℕ
added_addresses prefixes header =
    folded (total (embedded prefixes.source (source header)) + total (embedded prefixes.destination (destination header)))
