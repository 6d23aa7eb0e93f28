-- The checksum of a header of any of the four protocols: the errors if it can't be computed, its value, and what makes it right.
use Rattle.std.specs.Prelude.{⊤, ◌≡◌, ℕ, ◌+◌, List, ◌++◌, Option, Some, None}
use Rattle.std.specs.Option.{option_map}
use Rattle.icmp_part.specs.Icmpv4Format as icmpv4
use Rattle.icmp_part.specs.Icmpv4Validity.{IsValidIcmpv4}
use Rattle.icmp_part.specs.Icmpv6Format as icmpv6
use Rattle.icmp_part.specs.Icmpv6Validity.{IsValidIcmpv6}
use Rattle.net_base.specs.Refusals.{too_big}
use Rattle.net_base.specs.declared.err.value_too_big_error.ValueTooBigError.{ValueTooBigError}
use Rattle.net_base.specs.declared.err.value_type.ValueType.TheVariants.{Icmpv6PayloadLength, TcpPayloadLengthIpv4, TcpPayloadLengthIpv6, UdpPayloadLengthIpv4, UdpPayloadLengthIpv6}
use Rattle.tcp_part.specs.TcpFormat as tcp
use Rattle.tcp_part.specs.TcpValidity.{IsValidTcpIpv4, IsValidTcpIpv6}
use Rattle.udp_part.specs.UdpFormat as udp
use Rattle.udp_part.specs.UdpValidity.{IsValidUdpIpv4, IsValidUdpIpv6}
use Rattle.word_sum.specs.Checksum.{checksum_of, udp_checksum_of}
use Rattle.etherparse_transport.specs.declared.err.packet.transport_checksum_error.TransportChecksumError.{TransportChecksumError}
use Rattle.etherparse_transport.specs.declared.err.packet.transport_checksum_error.TransportChecksumError.TheVariants.{Icmpv6InIpv4, PayloadLen}
use Rattle.etherparse_transport.specs.declared.transport_header.TransportHeader.{TransportHeader}
use Rattle.etherparse_transport.specs.declared.transport_header.TransportHeader.TheVariants.{Icmpv4, Icmpv6, Tcp, Udp}

-- the header with this checksum
abbrev pub with_checksum_field : TransportHeader → ℕ → TransportHeader
with_checksum_field (Udp header) checksum = Udp (record header { checksum = checksum })
with_checksum_field (Tcp header) checksum = Tcp (record header { checksum = checksum })
with_checksum_field (Icmpv4 header) checksum = Icmpv4 (record header { checksum = checksum })
with_checksum_field (Icmpv6 header) checksum = Icmpv6 (record header { checksum = checksum })

-- ---- errors

-- the error over IPv4: header and payload of UDP or TCP are longer than 65,535 bytes, or the header is an ICMPv6 header
abbrev pub ipv4_refusal : TransportHeader → ℕ → Option TransportChecksumError
ipv4_refusal (Udp header) payload_len = option_map PayloadLen (too_big UdpPayloadLengthIpv4 udp.max_payload_len payload_len)
ipv4_refusal (Tcp header) payload_len =
    option_map PayloadLen (too_big TcpPayloadLengthIpv4 (tcp.max_payload_len_ipv4 (tcp.wire header)) payload_len)
ipv4_refusal (Icmpv4 header) payload_len = None
ipv4_refusal (Icmpv6 header) payload_len = Some Icmpv6InIpv4

-- the error over IPv6: header and payload of UDP, TCP or ICMPv6 are longer than 4,294,967,295 bytes
abbrev pub ipv6_refusal : TransportHeader → ℕ → Option (ValueTooBigError ℕ)
ipv6_refusal (Udp header) payload_len = too_big UdpPayloadLengthIpv6 udp.max_payload_len_of_32_bits payload_len
ipv6_refusal (Tcp header) payload_len = too_big TcpPayloadLengthIpv6 (tcp.max_payload_len_ipv6 (tcp.wire header)) payload_len
ipv6_refusal (Icmpv4 header) payload_len = None
ipv6_refusal (Icmpv6 header) payload_len = too_big Icmpv6PayloadLength icmpv6.max_payload_len payload_len

-- ---- the value of the checksum

-- the checksum over IPv4; 0 for an ICMPv6 header, whose checksum covers IPv6 addresses
abbrev pub checksum_over_ipv4 : List ℕ → List ℕ → TransportHeader → List ℕ → ℕ
checksum_over_ipv4 source destination (Udp header) payload = udp_checksum_of (udp.checksummed_ipv4 source destination header payload)
checksum_over_ipv4 source destination (Tcp header) payload = checksum_of (tcp.checksummed_ipv4 source destination (tcp.wire header) payload)
checksum_over_ipv4 source destination (Icmpv4 header) payload = checksum_of (icmpv4.checksummed header payload)
checksum_over_ipv4 source destination (Icmpv6 header) payload = 0

-- the checksum over IPv6; the checksum of ICMPv4 covers no address
abbrev pub checksum_over_ipv6 : List ℕ → List ℕ → TransportHeader → List ℕ → ℕ
checksum_over_ipv6 source destination (Udp header) payload = udp_checksum_of (udp.checksummed_ipv6 source destination header payload)
checksum_over_ipv6 source destination (Tcp header) payload = checksum_of (tcp.checksummed_ipv6 source destination (tcp.wire header) payload)
checksum_over_ipv6 source destination (Icmpv4 header) payload = checksum_of (icmpv4.checksummed header payload)
checksum_over_ipv6 source destination (Icmpv6 header) payload = checksum_of (icmpv6.checksummed source destination header payload)

-- ---- the checksum is right

-- The length field of a UDP header is 8 plus this payload length (RFC 768). No other transport header contains a length field.
abbrev pub Counts : TransportHeader → ℕ → Type 0
Counts (Udp header) payload_len = header.length ≡ 8 + payload_len
Counts (Tcp header) payload_len = ⊤
Counts (Icmpv4 header) payload_len = ⊤
Counts (Icmpv6 header) payload_len = ⊤

-- a receiver over IPv4 accepts header and payload; it accepts no ICMPv6 message
abbrev pub IsValidOverIpv4 : List ℕ → List ℕ → TransportHeader → List ℕ → Type 0
IsValidOverIpv4 source destination (Udp header) payload = IsValidUdpIpv4 source destination (udp.wire header ++ payload)
IsValidOverIpv4 source destination (Tcp header) payload = IsValidTcpIpv4 source destination (tcp.wire header ++ payload)
IsValidOverIpv4 source destination (Icmpv4 header) payload = IsValidIcmpv4 (icmpv4.wire header ++ payload)
IsValidOverIpv4 source destination (Icmpv6 header) payload = ⊥

-- a receiver over IPv6 accepts header and payload; the checksum of an ICMPv4 message covers no addresses
abbrev pub IsValidOverIpv6 : List ℕ → List ℕ → TransportHeader → List ℕ → Type 0
IsValidOverIpv6 source destination (Udp header) payload = IsValidUdpIpv6 source destination (udp.wire header ++ payload)
IsValidOverIpv6 source destination (Tcp header) payload = IsValidTcpIpv6 source destination (tcp.wire header ++ payload)
IsValidOverIpv6 source destination (Icmpv4 header) payload = IsValidIcmpv4 (icmpv4.wire header ++ payload)
IsValidOverIpv6 source destination (Icmpv6 header) payload = IsValidIcmpv6 source destination (icmpv6.wire header ++ payload)
