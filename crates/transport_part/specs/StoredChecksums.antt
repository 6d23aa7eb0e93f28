-- The checksum that a packet contains, the checksum that a sending host leaves to its network card, and the checksum that is right.
use Rattle.std.specs.Prelude.{⊤, ◌≡◌, ◌≢◌, ℕ, nat_lt, if◌then◌else◌, List, length, Option, Some, None, MatchOption}
use Rattle.ip_part.specs.Addresses.{Addresses, Ipv4, Ipv6}
use Rattle.ip_part.specs.declared.proto.Proto.{Proto}
use Rattle.ip_part.specs.declared.proto.Proto.TheVariants as protos
use Rattle.net_base.specs.Bytes.{be_number}
use Rattle.net_base.specs.IpNumbers.{icmpv6_number, tcp_number, udp_number}
use Rattle.net_base.specs.PseudoHeader.{ipv4_pseudo_header, ipv6_pseudo_header, max_len_over_ipv6}
use Rattle.net_base.specs.StoredChecksum.{icmp_checksum_place, tcp_checksum_place, udp_checksum_place, with_checksum}
use Rattle.word_sum.specs.Checksum.{folded, total}
use Rattle.transport_part.specs.Transports.{bytes_of, proto_of}
use Rattle.transport_part.specs.Verdicts.{is_too_long_over_ipv4}
use Rattle.transport_part.specs.declared.checksum_verdict.ChecksumVerdict.{ChecksumVerdict}
use Rattle.transport_part.specs.declared.checksum_verdict.ChecksumVerdict.TheVariants.{Absent, Partial, Right, Untested, Wrong}
use Rattle.transport_part.specs.declared.transport_slice.TransportSlice.{TransportSlice}
use Rattle.transport_part.specs.declared.transport_slice.TransportSlice.TheVariants.{Icmpv4, Icmpv6, Tcp, Udp}

-- ---- the stored checksum

-- the place of the checksum in a packet of this protocol, in bytes
abbrev pub checksum_place : Proto → ℕ
checksum_place protos.Udp = udp_checksum_place
checksum_place protos.Tcp = tcp_checksum_place
checksum_place protos.Icmpv4 = icmp_checksum_place
checksum_place protos.Icmpv6 = icmp_checksum_place

-- the checksum that the packet contains
abbrev pub stored_checksum : TransportSlice → ℕ
stored_checksum transport = be_number (bytes_of transport) (checksum_place (proto_of transport)) 2

-- the packet with this checksum instead of the stored checksum
abbrev pub with_stored : TransportSlice → ℕ → TransportSlice
with_stored (Udp packet) checksum = Udp (with_checksum udp_checksum_place packet checksum)
with_stored (Tcp segment) checksum = Tcp (with_checksum tcp_checksum_place segment checksum)
with_stored (Icmpv4 message) checksum = Icmpv4 (with_checksum icmp_checksum_place message checksum)
with_stored (Icmpv6 message) checksum = Icmpv6 (with_checksum icmp_checksum_place message checksum)

-- ---- a partial checksum

-- The pseudo header over IPv4, whose length is the length of the packet (RFC 768; RFC 9293, section 3.1). There is none for ICMPv4 (RFC
-- 792), or for ICMPv6, which is not sent over IPv4.
abbrev pub pseudo_header_over_ipv4 : List ℕ → List ℕ → TransportSlice → Option (List ℕ)
pseudo_header_over_ipv4 source destination (Udp packet) = Some (ipv4_pseudo_header source destination udp_number (length packet))
pseudo_header_over_ipv4 source destination (Tcp segment) = Some (ipv4_pseudo_header source destination tcp_number (length segment))
pseudo_header_over_ipv4 source destination (Icmpv4 message) = None
pseudo_header_over_ipv4 source destination (Icmpv6 message) = None

-- The pseudo header over IPv6, whose length is the length of the packet (RFC 8200, section 8.1). There is none for ICMPv4, which is not
-- sent over IPv6.
abbrev pub pseudo_header_over_ipv6 : List ℕ → List ℕ → TransportSlice → Option (List ℕ)
pseudo_header_over_ipv6 source destination (Udp packet) = Some (ipv6_pseudo_header source destination udp_number (length packet))
pseudo_header_over_ipv6 source destination (Tcp segment) = Some (ipv6_pseudo_header source destination tcp_number (length segment))
pseudo_header_over_ipv6 source destination (Icmpv4 message) = None
pseudo_header_over_ipv6 source destination (Icmpv6 message) = Some (ipv6_pseudo_header source destination icmpv6_number (length message))

-- The pseudo header over these addresses. `None` if there is no pseudo header, if it can't count the packet, or if the final destination is
-- unknown.
abbrev pub pseudo_header_over : Addresses → TransportSlice → Option (List ℕ)
pseudo_header_over (Ipv4 source destination) transport =
    if is_too_long_over_ipv4 transport then None else pseudo_header_over_ipv4 source destination transport
pseudo_header_over (Ipv6 source (Some destination)) transport =
    if nat_lt max_len_over_ipv6 (length (bytes_of transport)) then None else pseudo_header_over_ipv6 source destination transport
pseudo_header_over (Ipv6 source None) transport = None

-- the stored checksum is the sum of only the pseudo header; a host stores this sum, and leaves the rest to its network card
abbrev pub IsPartial : Addresses → TransportSlice → Type 0
IsPartial addresses transport =
    MatchOption (pseudo_header_over addresses transport) ⊥ (λ pseudo_header. stored_checksum transport ≡ folded (total pseudo_header))

-- if this verdict is `Wrong` or `Partial`, it is `Partial` exactly if the stored checksum is the sum of only the pseudo header
abbrev pub SaysWhetherPartial : Type 0 → ChecksumVerdict → Type 0
SaysWhetherPartial IsStoredSum (Wrong expected) = ¬ IsStoredSum
SaysWhetherPartial IsStoredSum (Partial expected) = IsStoredSum
SaysWhetherPartial IsStoredSum Right = ⊤
SaysWhetherPartial IsStoredSum Absent = ⊤
SaysWhetherPartial IsStoredSum (Untested why) = ⊤

-- ---- the right checksum

-- Which checksum is right, given the verdict on the stored checksum. It is the stored checksum if that is right, and the expected checksum
-- if that is wrong. If a UDP packet has no checksum, the right checksum is not 0, since 0 means that there is none (RFC 768).
abbrev pub IsRightBy : ChecksumVerdict → ℕ → ℕ → Type 0
IsRightBy Right stored checksum = checksum ≡ stored
IsRightBy Absent stored checksum = checksum ≢ 0
IsRightBy (Wrong expected) stored checksum = checksum ≡ expected
IsRightBy (Partial expected) stored checksum = checksum ≡ expected
IsRightBy (Untested why) stored checksum = ⊥
