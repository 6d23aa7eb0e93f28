-- The verdict on a checksum: whether it is right, and the right checksum if it is wrong.
use Rattle.std.specs.Prelude.{⊤, ◌≡◌, ◌≢◌, ℕ, ◌+◌, ◌<◌, ◌≤◌, ◌==◌, ◌&&◌, not, nat_lt, Bool, false, List, length, Some, None, MatchBool, MatchOption}
use Rattle.icmp_part.specs.Icmpv4Validity.{IsValidIcmpv4}
use Rattle.icmp_part.specs.Icmpv6Validity.{IsValidIcmpv6}
use Rattle.ip_part.specs.Addresses.{Addresses, Ipv4, Ipv6, by_value}
use Rattle.ip_part.specs.declared.transport.TransportInIp.{TransportInIp}
use Rattle.net_base.specs.Bytes.{be_number}
use Rattle.net_base.specs.IpNumbers.{icmpv6_number, tcp_number, udp_number}
use Rattle.net_base.specs.PseudoHeader.{ipv4_pseudo_header, ipv6_pseudo_header, max_len_over_ipv4, max_len_over_ipv6}
use Rattle.net_base.specs.StoredChecksum.{icmp_checksum_place, tcp_checksum_place, udp_checksum_place, with_checksum}
use Rattle.tcp_part.specs.TcpValidity.{IsValidTcpIpv4, IsValidTcpIpv6}
use Rattle.udp_part.specs.UdpSlice.{length_field}
use Rattle.udp_part.specs.UdpValidity.{IsValidUdpIpv4, IsValidUdpIpv6, SumsUpOverIpv4, checksum_field}
use Rattle.word_sum.specs.Checksum.{Verifies, folded, total}
use Rattle.transport_part.specs.Transports.{bytes_of, kept}
use Rattle.transport_part.specs.declared.checksum_verdict.ChecksumVerdict.{ChecksumVerdict}
use Rattle.transport_part.specs.declared.checksum_verdict.ChecksumVerdict.TheVariants.{Absent, Partial, Right, Untested, Wrong}
use Rattle.transport_part.specs.declared.checksum_verdict.Untested.TheVariants.{CutOff, Fragment, OtherProtocol, TooLong, UnknownDestination, ZeroLength}
use Rattle.transport_part.specs.declared.transport_slice.TransportSlice.{TransportSlice}
use Rattle.transport_part.specs.declared.transport_slice.TransportSlice.TheVariants.{Icmpv4, Icmpv6, Tcp, Udp}

-- ---- the stored checksum

-- The sum of only the pseudo header over IPv4, which contains source, destination, protocol and length. A host stores it for its network
-- card, which adds the rest and takes the complement.
abbrev pub partial_over_ipv4 : List ℕ → List ℕ → ℕ → List ℕ → ℕ
partial_over_ipv4 source destination protocol packet = folded (total (ipv4_pseudo_header source destination protocol (length packet)))

-- the sum of only the pseudo header over IPv6
abbrev pub partial_over_ipv6 : List ℕ → List ℕ → ℕ → List ℕ → ℕ
partial_over_ipv6 source destination protocol packet = folded (total (ipv6_pseudo_header source destination protocol (length packet)))

-- the sum of a packet and of a pseudo header that has this sum; the checksum stored at this place counts as zeros
abbrev pub sum_without : ℕ → ℕ → List ℕ → ℕ
sum_without pseudo_header place packet = folded (pseudo_header + total (with_checksum place packet 0))

-- the packet has at most this length, and is valid with the pseudo header that contains its length
abbrev pub VerifiesUpTo : ℕ → (ℕ → List ℕ) → List ℕ → Type 0
VerifiesUpTo max_len pseudo_header_of packet = (length packet ≤ max_len) × Verifies (pseudo_header_of (length packet)) packet

-- ---- the verdict by the protocol

-- The packet is not valid, and becomes valid with the expected checksum. 0 and 65535 give the same sum. If both are valid, the expected
-- checksum is 0.
abbrev pub IsWrong : (List ℕ → Type 0) → ℕ → List ℕ → ℕ → Type 0
IsWrong IsValid place packet expected = (¬ IsValid packet) × IsValid (with_checksum place packet expected)
    × (expected ≡ 65535 → ¬ IsValid (with_checksum place packet 0))

-- The verdict by two facts: whether the packet is valid, and the sum of its pseudo header. The verdict is `Right` exactly if the packet is
-- valid. If the packet is not valid, the verdict is `Partial` if that sum is stored, and otherwise `Wrong`.
abbrev pub JudgesBy : (List ℕ → Type 0) → ℕ → ℕ → List ℕ → ChecksumVerdict → Type 0
JudgesBy IsValid partial place packet Right = IsValid packet
JudgesBy IsValid partial place packet (Wrong expected) = (be_number packet place 2 ≢ partial) × IsWrong IsValid place packet expected
JudgesBy IsValid partial place packet (Partial expected) = (be_number packet place 2 ≡ partial) × IsWrong IsValid place packet expected
JudgesBy IsValid partial place packet Absent = ⊥
JudgesBy IsValid partial place packet (Untested why) = ⊥

-- A wrong checksum of a UDP packet over IPv4, and the expected checksum. A stored 0 means that there is no checksum (RFC 768), and 0 is
-- never expected.
abbrev pub IsWrongUdpIpv4 : List ℕ → List ℕ → List ℕ → ℕ → Type 0
IsWrongUdpIpv4 source destination packet expected = (checksum_field packet ≢ 0) × ((¬ SumsUpOverIpv4 source destination packet)
    × ((expected ≢ 0) × SumsUpOverIpv4 source destination (with_checksum udp_checksum_place packet expected)))

-- the verdict on a UDP packet over IPv4; a stored 0 means that there is no checksum (RFC 768)
abbrev pub JudgesUdpIpv4 : List ℕ → List ℕ → List ℕ → ChecksumVerdict → Type 0
JudgesUdpIpv4 source destination packet Right = (checksum_field packet ≢ 0) × SumsUpOverIpv4 source destination packet
JudgesUdpIpv4 source destination packet (Wrong expected) =
    (checksum_field packet ≢ partial_over_ipv4 source destination udp_number packet) × IsWrongUdpIpv4 source destination packet expected
JudgesUdpIpv4 source destination packet (Partial expected) =
    (checksum_field packet ≡ partial_over_ipv4 source destination udp_number packet) × IsWrongUdpIpv4 source destination packet expected
JudgesUdpIpv4 source destination packet Absent = checksum_field packet ≡ 0
JudgesUdpIpv4 source destination packet (Untested why) = ⊥

-- the verdict on an ICMPv4 message, which has no pseudo header
abbrev pub JudgesIcmpv4 : List ℕ → ChecksumVerdict → Type 0
JudgesIcmpv4 message Right = IsValidIcmpv4 message
JudgesIcmpv4 message (Wrong expected) = IsWrong IsValidIcmpv4 icmp_checksum_place message expected
JudgesIcmpv4 message (Partial expected) = ⊥
JudgesIcmpv4 message Absent = ⊥
JudgesIcmpv4 message (Untested why) = ⊥

-- the verdict over IPv4
abbrev pub JudgesOverIpv4 : List ℕ → List ℕ → TransportSlice → ChecksumVerdict → Type 0
JudgesOverIpv4 source destination (Udp packet) verdict = JudgesUdpIpv4 source destination packet verdict
JudgesOverIpv4 source destination (Tcp segment) verdict =
    JudgesBy (IsValidTcpIpv4 source destination)
    (partial_over_ipv4 source destination tcp_number segment) tcp_checksum_place segment verdict
JudgesOverIpv4 source destination (Icmpv4 message) verdict = JudgesIcmpv4 message verdict
JudgesOverIpv4 source destination (Icmpv6 message) verdict = verdict ≡ Untested OtherProtocol

-- the verdict over IPv6
abbrev pub JudgesOverIpv6 : List ℕ → List ℕ → TransportSlice → ChecksumVerdict → Type 0
JudgesOverIpv6 source destination (Udp packet) verdict =
    JudgesBy (IsValidUdpIpv6 source destination) (partial_over_ipv6 source destination udp_number packet) udp_checksum_place packet verdict
JudgesOverIpv6 source destination (Tcp segment) verdict =
    JudgesBy (IsValidTcpIpv6 source destination)
    (partial_over_ipv6 source destination tcp_number segment) tcp_checksum_place segment verdict
JudgesOverIpv6 source destination (Icmpv4 message) verdict = verdict ≡ Untested OtherProtocol
JudgesOverIpv6 source destination (Icmpv6 message) verdict =
    JudgesBy (IsValidIcmpv6 source destination)
    (partial_over_ipv6 source destination icmpv6_number message) icmp_checksum_place message verdict

-- ---- the verdict by the addresses

-- The packet is too long for a pseudo header over IPv4, whose length field has 16 bits (RFC 768). An ICMPv4 message has no pseudo header.
abbrev pub is_too_long_over_ipv4 : TransportSlice → Bool
is_too_long_over_ipv4 (Udp packet) = nat_lt max_len_over_ipv4 (length packet)
is_too_long_over_ipv4 (Tcp segment) = nat_lt max_len_over_ipv4 (length segment)
is_too_long_over_ipv4 (Icmpv4 message) = false
is_too_long_over_ipv4 (Icmpv6 message) = false

-- The verdict over these addresses. A packet that is too long for a pseudo header is not tested. A packet over IPv6 without a known final
-- destination is not tested either (RFC 8200, section 8.1).
abbrev pub JudgesOver : Addresses → TransportSlice → ChecksumVerdict → Type 0
JudgesOver (Ipv4 source destination) transport verdict =
    MatchBool (is_too_long_over_ipv4 transport) (verdict ≡ Untested TooLong) (JudgesOverIpv4 source destination transport verdict)
JudgesOver (Ipv6 source (Some destination)) transport verdict =
    MatchBool (nat_lt max_len_over_ipv6 (length (bytes_of transport))) (verdict ≡ Untested TooLong)
    (JudgesOverIpv6 source destination transport verdict)
JudgesOver (Ipv6 source None) transport verdict = verdict ≡ Untested UnknownDestination

-- the greatest length that the length field of UDP can state (RFC 768)
abbrev pub max_length_field : ℕ
max_length_field = 65535

-- The length field of a UDP packet is 0 although it could state the length. This is malformed (RFC 768). A jumbogram is longer, and its
-- length field is 0 (RFC 2675, section 4).
abbrev pub lacks_length : TransportSlice → Bool
lacks_length (Udp packet) = (length_field packet == 0) && not (nat_lt max_length_field (length packet))
lacks_length (Tcp segment) = false
lacks_length (Icmpv4 message) = false
lacks_length (Icmpv6 message) = false

-- the verdict over these addresses; a UDP packet is not tested if its length field is 0 although it could state the length
abbrev pub Judges : Addresses → TransportSlice → ChecksumVerdict → Type 0
Judges addresses transport verdict =
    MatchBool (lacks_length transport) (verdict ≡ Untested ZeroLength) (JudgesOver addresses transport verdict)

-- a checksum in a verdict is a number of 16 bits
abbrev pub HasChecksum : ChecksumVerdict → Type 0
HasChecksum (Wrong expected) = expected < 65536
HasChecksum (Partial expected) = expected < 65536
HasChecksum Right = ⊤
HasChecksum Absent = ⊤
HasChecksum (Untested why) = ⊤

-- `IsTrueOf` holds for at most one verdict
abbrev pub AreOne : (ChecksumVerdict → Type 0) → Type 0
AreOne IsTrueOf = (a b : ChecksumVerdict) → HasChecksum a → HasChecksum b → IsTrueOf a → IsTrueOf b → a ≡ b

-- ---- the verdict on the transport of an IP packet

-- The verdict on the transport that was found. A checksum is not tested for the first of these reasons that applies: a fragment, since a
-- checksum covers all fragments; a packet that is cut off, since a checksum covers all bytes; another protocol; a UDP length field of 0
-- (`Judges`); an unknown destination over IPv6, or a packet that is too long (`JudgesOver`). ICMP of the wrong IP version is another
-- protocol.
abbrev pub JudgesFound : TransportInIp → ChecksumVerdict → Type 0
JudgesFound found verdict = MatchBool found.is_fragment (verdict ≡ Untested Fragment) (
    MatchBool found.is_cut_off (verdict ≡ Untested CutOff) (
    MatchOption (kept found) (verdict ≡ Untested OtherProtocol) (λ transport. Judges (by_value found.addresses) transport verdict)))

-- ---- in short

-- a receiver over these addresses accepts the packet, by its protocol
abbrev pub IsValidOver : Addresses → TransportSlice → Type 0
IsValidOver (Ipv4 source destination) (Udp packet) = IsValidUdpIpv4 source destination packet
IsValidOver (Ipv4 source destination) (Tcp segment) = IsValidTcpIpv4 source destination segment
IsValidOver (Ipv4 source destination) (Icmpv4 message) = IsValidIcmpv4 message
IsValidOver (Ipv4 source destination) (Icmpv6 message) = ⊥
IsValidOver (Ipv6 source (Some destination)) (Udp packet) = IsValidUdpIpv6 source destination packet
IsValidOver (Ipv6 source (Some destination)) (Tcp segment) = IsValidTcpIpv6 source destination segment
IsValidOver (Ipv6 source (Some destination)) (Icmpv4 message) = ⊥
IsValidOver (Ipv6 source (Some destination)) (Icmpv6 message) = IsValidIcmpv6 source destination message
IsValidOver (Ipv6 source None) transport = ⊥

-- if the checksum is tested, a receiver accepts the packet exactly if its checksum is right or absent
abbrev pub SaysWhether : Type 0 → ChecksumVerdict → Type 0
SaysWhether IsValid Right = IsValid
SaysWhether IsValid Absent = IsValid
SaysWhether IsValid (Wrong expected) = ¬ IsValid
SaysWhether IsValid (Partial expected) = ¬ IsValid
SaysWhether IsValid (Untested why) = ⊤
