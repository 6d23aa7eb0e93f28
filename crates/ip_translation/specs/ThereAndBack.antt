-- A message, a header and a whole packet that are translated to the other version of IP and back, with the same prefixes.
use Rattle.std.specs.Prelude.{◌≡◌, ◌≢◌, ℕ, ◌-◌, ◌*◌, ◌/◌, false, List, ◌++◌, length, slice_index, slice_set}
use Rattle.ip_part.specs.Ip.{ipv4_header, ipv6_header}
use Rattle.net_base.specs.IpHeaders.{ipv4_header_len, ipv4_is_fragment}
use Rattle.net_base.specs.IpNumbers.{icmpv4_number, icmpv6_number, tcp_number, udp_number}
use Rattle.net_base.specs.StoredChecksum.{with_checksum as with_number}
use Rattle.word_sum.specs.Checksum.{all_ones, checksum_of, total}
use Rattle.ip_translation.specs.AddressTables.{ComesBack, Ipv6ComesBack}
use Rattle.ip_translation.specs.EchoMessages.{icmp_checksum}
use Rattle.ip_translation.specs.Fragments.{flags, is_part}
use Rattle.ip_translation.specs.HeadersToIpv4 as back
use Rattle.ip_translation.specs.HeadersToIpv4.{is_extension}
use Rattle.ip_translation.specs.HeadersToIpv6.{destination, protocol, source, time_to_live, total_len, translated_header}
use Rattle.ip_translation.specs.PacketsToIpv4 as ipv4
use Rattle.ip_translation.specs.PacketsToIpv6 as ipv6
use Rattle.ip_translation.specs.declared.prefixes.Prefixes.{Prefixes}

-- both addresses of this IPv4 header are the same after they are translated to IPv6 and back
pub record AddressesComeBack (prefixes : Prefixes) (header : List ℕ) : Type 0 where
  pub source_back : ComesBack prefixes.source (source header)
  pub destination_back : ComesBack prefixes.destination (destination header)

-- this UDP packet, translated to IPv6 and back; it is the payload of a packet with this IPv4 header
abbrev pub udp_back : Prefixes → List ℕ → List ℕ → List ℕ
udp_back prefixes header packet =
    ipv4.translated_udp prefixes (translated_header prefixes header) (ipv6.translated_udp prefixes header packet)

-- this TCP segment, translated to IPv6 and back; it is the payload of a packet with this IPv4 header
abbrev pub tcp_back : Prefixes → List ℕ → List ℕ → List ℕ
tcp_back prefixes header segment =
    ipv4.translated_tcp prefixes (translated_header prefixes header) (ipv6.translated_tcp prefixes header segment)

-- ---- the header

-- this IPv4 header with this identification
abbrev pub with_identification : ℕ → List ℕ → List ℕ
with_identification identification header = with_number 4 header identification

-- this IPv4 header with the flags that RFC 7915, section 5.1, gives a packet of its total length; the fragment offset is 0
abbrev pub with_flags : List ℕ → List ℕ
with_flags header = with_number 6 header (flags (total_len header))

-- this IPv4 header with a time to live that is lowered by 1 on each way
abbrev pub lowered_twice : List ℕ → List ℕ
lowered_twice header = slice_set header 8 (time_to_live header - 2)

-- this IPv4 header with its right checksum
abbrev pub with_right_checksum : List ℕ → List ℕ
with_right_checksum header = with_number 10 header (checksum_of (total (with_number 10 header 0)))

-- this IPv4 header without options after the way back: identification, flags, time to live and checksum are other ones
abbrev pub header_back : ℕ → List ℕ → List ℕ
header_back identification header =
    with_right_checksum (lowered_twice (with_flags (with_identification identification header)))

-- ---- whole packets

-- The message of an IPv4 packet with this protocol is the same after the way back. It is no ICMP error and no ICMPv6 message. The checksum
-- of an echo message and of a UDP packet is not 0, and the checksum of a TCP segment is not 65535.
pub record IsRestored (protocol : ℕ) (message : List ℕ) : Type 0 where
  pub no_error : ipv6.is_icmp_error protocol message ≡ false
  pub no_icmpv6 : protocol ≢ icmpv6_number
  pub echo : protocol ≡ icmpv4_number → icmp_checksum message ≢ 0
  pub udp : protocol ≡ udp_number → ipv6.udp_checksum message ≢ 0
  pub tcp : protocol ≡ tcp_number → ipv6.tcp_checksum message ≢ all_ones

-- A whole IPv4 packet without options, whose addresses and whose message are the same after the way back. Its protocol is not the number of
-- an IPv6 extension header, which would be left out on the way back.
pub record IsRestoredPacket (prefixes : Prefixes) (packet : List ℕ) : Type 0 where
  pub addresses : AddressesComeBack prefixes (ipv4_header packet)
  pub no_options : ipv4_header_len packet ≡ 20
  pub whole : ipv4_is_fragment (ipv4_header packet) ≡ false
  pub no_extension : is_extension (protocol (ipv4_header packet)) ≡ false
  pub message : IsRestored (protocol (ipv4_header packet)) (ipv6.message_of packet)

-- The IPv4 packet after the way back: `header_back` lists the fields of the header that are other ones. The bytes that the total length
-- does not count are left out.
abbrev pub packet_back : ℕ → List ℕ → List ℕ
packet_back identification packet = header_back identification (ipv4_header packet) ++ ipv6.message_of packet

-- ---- whole packets over IPv6

-- The message of an IPv6 packet with this next header is the same after the way back. It is no ICMPv6 error and no ICMP message. The
-- checksum of an echo message and of a TCP segment is not 65535.
pub record IsRestoredOverIpv6 (number : ℕ) (message : List ℕ) : Type 0 where
  pub no_error : ipv4.is_icmp_error number message ≡ false
  pub no_icmp : number ≢ icmpv4_number
  pub echo : number ≡ icmpv6_number → icmp_checksum message ≢ all_ones
  pub tcp : number ≡ tcp_number → ipv6.tcp_checksum message ≢ all_ones

-- a whole IPv6 packet or an atomic fragment, whose addresses and whose message are the same after the way back
pub record IsRestoredIpv6Packet (prefixes : Prefixes) (packet : List ℕ) : Type 0 where
  pub source_back : Ipv6ComesBack prefixes.source (back.source (ipv6_header packet))
  pub destination_back : Ipv6ComesBack prefixes.destination (back.destination (ipv6_header packet))
  pub whole : is_part (ipv4.flags_in (ipv6_header packet) (ipv4.payload_of packet)) ≡ false
  pub message : IsRestoredOverIpv6 (back.next_header (ipv4.direct_header packet)) (ipv4.message_of packet)

-- this IPv6 header with flow label 0; the flow label is the low 20 bits of the first four bytes (RFC 8200, section 3)
abbrev pub without_flow_label : List ℕ → List ℕ
without_flow_label header = slice_set (slice_set (slice_set header 1 (slice_index header 1 / 16 * 16)) 2 0) 3 0

-- this IPv6 header with this payload length, and this number of the header or protocol after it
abbrev pub with_payload : ℕ → ℕ → List ℕ → List ℕ
with_payload len number header = slice_set (with_number 4 header len) 6 number

-- this IPv6 header with a hop limit that is lowered by 1 on each way
abbrev pub ipv6_lowered_twice : List ℕ → List ℕ
ipv6_lowered_twice header = slice_set header 7 (back.hop_limit header - 2)

-- This IPv6 header after the way back: flow label and hop limit are other ones. Payload length and next header are other ones only if
-- extension headers are left out.
abbrev pub ipv6_header_back : ℕ → ℕ → List ℕ → List ℕ
ipv6_header_back len number header = ipv6_lowered_twice (with_payload len number (without_flow_label header))

-- The IPv6 packet after the way back. The bytes that the payload length does not count are left out.
abbrev pub ipv6_packet_back : List ℕ → List ℕ
ipv6_packet_back packet =
    ipv6_header_back (length (ipv4.message_of packet)) (back.next_header (ipv4.direct_header packet)) (ipv6_header packet)
    ++ ipv4.message_of packet
