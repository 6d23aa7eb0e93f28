-- UDP in the interface to C.
use Rattle.std.specs.Prelude.{ℕ, Bool, ◌==◌, ◌+◌, ◌-◌, List, length, Option}
use Rattle.std.specs.Option.{option_map}
use Rattle.net_base.specs.Bytes.{be_number}
use Rattle.net_base.specs.PseudoHeader.{ipv4_pseudo_header, ipv6_pseudo_header}
use Rattle.net_base.specs.Refusals.{too_big}
use Rattle.net_base.specs.declared.err.value_type.ValueType.{ValueType}
use Rattle.net_base.specs.declared.err.value_type.ValueType.TheVariants.{UdpPayloadLengthIpv4, UdpPayloadLengthIpv6}
use Rattle.word_sum.specs.Checksum.{total}
use Rattle.udp_part.specs.UdpFormat as udp
use Rattle.udp_part.specs.UdpFormat.{max_payload_len, max_payload_len_of_32_bits}
use Rattle.udp_part.specs.UdpSlice.{cut, len_source_of, strict_refusal}
use Rattle.udp_part.specs.UdpValidity.{IsValidUdpIpv4, IsValidUdpIpv6}
use Rattle.udp_part.specs.declared.udp_header.UdpHeader.{UdpHeader}
use Rattle.etherparse_transport_c.specs.Checksums.{with_checksum}
use Rattle.etherparse_transport_c.specs.Errors.{Tells, first_refusal, len_source_number, of_len, of_value}
use Rattle.etherparse_transport_c.specs.Numbers as numbers
use Rattle.etherparse_transport_c.specs.declared.error.EtherparseError.{EtherparseError}
use Rattle.etherparse_transport_c.specs.declared.udp.EtherparseUdpHeader.{EtherparseUdpHeader}
use Rattle.etherparse_transport_c.specs.declared.udp.EtherparseUdpPacket.{EtherparseUdpPacket}

-- the fields of a header
abbrev pub fields_of : UdpHeader → EtherparseUdpHeader
fields_of header = record {
  source_port = header.source_port;
  destination_port = header.destination_port;
  length = header.length;
  checksum = header.checksum;
}

-- the header with these fields
abbrev pub header_in : EtherparseUdpHeader → UdpHeader
header_in fields = record {
  source_port = fields.source_port;
  destination_port = fields.destination_port;
  length = fields.length;
  checksum = fields.checksum;
}

-- the refusal of a header
abbrev pub header_refusal : List ℕ → Option EtherparseError
header_refusal bytes = option_map of_len (udp.refusal bytes)

-- the refusal of the packet at the front of these bytes
abbrev pub packet_refusal : List ℕ → Option EtherparseError
packet_refusal bytes = option_map of_len (strict_refusal bytes)

-- the result of reading a packet: its header, and the place and length of its payload
abbrev pub packet_in : List ℕ → EtherparseUdpPacket
packet_in packet = record {
  header = fields_of (udp.header_of packet);
  payload_offset = 8;
  payload_len = length packet - 8;
  payload_len_source = len_source_number (len_source_of packet);
}

-- ---- checksums

-- the refusal to compute or test a checksum: the packet is refused, or its payload is longer than `limit`
abbrev pub checksum_refusal : ValueType → ℕ → List ℕ → Option EtherparseError
checksum_refusal value_type limit bytes =
    first_refusal (packet_refusal bytes) (option_map of_value (too_big value_type limit (length (cut bytes) - 8)))

-- The sum from which the checksum of a packet over IPv4 is computed. It covers the pseudo header and the packet. The length in the pseudo
-- header is the number of bytes of the packet. The checksum field, bytes 6 and 7, counts as zeros.
abbrev pub checksummed_ipv4 : List ℕ → List ℕ → List ℕ → ℕ
checksummed_ipv4 source destination packet =
    total (ipv4_pseudo_header source destination numbers.protocol_udp (length packet)) + total (with_checksum 6 packet 0)

-- The sum from which the checksum of a packet over IPv6 is computed. It covers the pseudo header and the packet. The length in the pseudo
-- header is the number of bytes of the packet. The checksum field, bytes 6 and 7, counts as zeros.
abbrev pub checksummed_ipv6 : List ℕ → List ℕ → List ℕ → ℕ
checksummed_ipv6 source destination packet =
    total (ipv6_pseudo_header source destination numbers.protocol_udp (length packet)) + total (with_checksum 6 packet 0)

-- the checksum field is 0, which means that the packet has no checksum (RFC 768)
abbrev pub has_no_checksum : List ℕ → Bool
has_no_checksum packet = be_number packet 6 2 == 0

-- the status of the test of the UDP packet over IPv4 at the front of some bytes
abbrev pub TestTellsIpv4 : List ℕ → List ℕ → List ℕ → ℕ → Type 0
TestTellsIpv4 source destination bytes status =
    Tells (checksum_refusal UdpPayloadLengthIpv4 max_payload_len bytes) (has_no_checksum (cut bytes))
    (IsValidUdpIpv4 source destination (cut bytes)) status

-- the status of the test of the UDP packet over IPv6 at the front of some bytes
abbrev pub TestTellsIpv6 : List ℕ → List ℕ → List ℕ → ℕ → Type 0
TestTellsIpv6 source destination bytes status =
    Tells (checksum_refusal UdpPayloadLengthIpv6 max_payload_len_of_32_bits bytes) (has_no_checksum (cut bytes))
    (IsValidUdpIpv6 source destination (cut bytes)) status
