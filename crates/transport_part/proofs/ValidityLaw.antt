-- A verdict states whether the packet is valid.
use Rattle.std.proofs.Common.{◌≡◌, Bool, true, false, List, ℕ, nat_lt, length, Option, Some, None, sym, subst, inl, inr, ◌⊎◌}
use Rattle.std.specs.Prelude.{IfSome, MatchBool, MatchOption}
use Rattle.ip_part.specs.Addresses.{Addresses, Ipv4, Ipv6, by_value}
use Rattle.ip_part.specs.declared.transport.TransportInIp.{TransportInIp}
use Rattle.icmp_part.specs.Icmpv4Validity.{IsValidIcmpv4}
use Rattle.icmp_part.specs.Icmpv6Validity.{IsValidIcmpv6}
use Rattle.net_base.specs.IpNumbers.{icmpv6_number, tcp_number, udp_number}
use Rattle.net_base.specs.StoredChecksum.{icmp_checksum_place, tcp_checksum_place, udp_checksum_place}
use Rattle.tcp_part.specs.TcpValidity.{IsValidTcpIpv4, IsValidTcpIpv6}
use Rattle.udp_part.specs.UdpValidity.{IsValidUdpIpv6}
use Rattle.net_base.specs.PseudoHeader.{max_len_over_ipv6}
use Rattle.transport_part.specs.Transports.{bytes_of, kept}
use Rattle.transport_part.specs.Verdicts.{IsValidOver, Judges, JudgesBy, JudgesFound, JudgesIcmpv4, JudgesOver, JudgesOverIpv4, JudgesOverIpv6, JudgesUdpIpv4, is_too_long_over_ipv4, SaysWhether, lacks_length, partial_over_ipv4, partial_over_ipv6}
use Rattle.transport_part.specs.declared.checksum_verdict.ChecksumVerdict.{ChecksumVerdict}
use Rattle.transport_part.specs.declared.checksum_verdict.ChecksumVerdict.TheVariants.{Absent, Partial, Right, Untested, Wrong}
use Rattle.transport_part.specs.declared.checksum_verdict.Untested.{Untested as Reason}
use Rattle.transport_part.specs.declared.checksum_verdict.Untested.TheVariants.{CutOff, Fragment, OtherProtocol, TooLong, UnknownDestination, ZeroLength}
use Rattle.transport_part.specs.declared.transport_slice.TransportSlice.{TransportSlice}
use Rattle.transport_part.specs.declared.transport_slice.TransportSlice.TheVariants.{Icmpv4, Icmpv6, Tcp, Udp}

-- no statement follows for an untested packet
untested : (P : Type 0) (verdict : ChecksumVerdict) (why : Reason) → verdict ≡ Untested why → SaysWhether P verdict
untested P verdict why is = let Says : ChecksumVerdict → Type 0 = SaysWhether P in subst Says (sym is) tt

unless : (P Q : Type 0) (verdict : ChecksumVerdict) (why : Reason) (condition : Bool) → MatchBool condition (verdict ≡ Untested why) Q
    → (Q → SaysWhether P verdict) → SaysWhether P verdict
unless P Q verdict why true is says = untested P verdict why is
unless P Q verdict why false judged says = says judged

judged : (IsValid : List ℕ → Type 0) (partial place : ℕ) (packet : List ℕ) (verdict : ChecksumVerdict)
    → JudgesBy IsValid partial place packet verdict
    → SaysWhether (IsValid packet) verdict
judged IsValid partial place packet Right valid = valid
judged IsValid partial place packet Absent none = absurd none
judged IsValid partial place packet (Wrong expected) wrong = wrong.1.0
judged IsValid partial place packet (Partial expected) wrong = wrong.1.0
judged IsValid partial place packet (Untested why) none = tt

judged_icmpv4 : (message : List ℕ) (verdict : ChecksumVerdict) → JudgesIcmpv4 message verdict → SaysWhether (IsValidIcmpv4 message) verdict
judged_icmpv4 message Right valid = valid
judged_icmpv4 message Absent none = absurd none
judged_icmpv4 message (Wrong expected) wrong = wrong.0
judged_icmpv4 message (Partial expected) none = absurd none
judged_icmpv4 message (Untested why) none = tt

neither : {A B : Type 0} → (A → ⊥) → (B → ⊥) → (A ⊎ B) → ⊥
neither not_a not_b (inl a) = not_a a
neither not_a not_b (inr b) = not_b b

judged_udp : (source destination packet : List ℕ) (verdict : ChecksumVerdict) → JudgesUdpIpv4 source destination packet verdict
    → SaysWhether (IsValidOver (Ipv4 source destination) (Udp packet)) verdict
judged_udp source destination packet Right right = inr right.1
judged_udp source destination packet Absent none = inl none
judged_udp source destination packet (Wrong expected) wrong = neither wrong.1.0 wrong.1.1.0
judged_udp source destination packet (Partial expected) wrong = neither wrong.1.0 wrong.1.1.0
judged_udp source destination packet (Untested why) none = tt

over_ipv4 : (source destination : List ℕ) (transport : TransportSlice) (verdict : ChecksumVerdict)
    → JudgesOverIpv4 source destination transport verdict → SaysWhether (IsValidOver (Ipv4 source destination) transport) verdict
over_ipv4 source destination (Udp packet) verdict is = judged_udp source destination packet verdict is
over_ipv4 source destination (Tcp segment) verdict is =
    judged (IsValidTcpIpv4 source destination)
    (partial_over_ipv4 source destination tcp_number segment) tcp_checksum_place segment verdict is
over_ipv4 source destination (Icmpv4 message) verdict is = judged_icmpv4 message verdict is
over_ipv4 source destination (Icmpv6 message) verdict is = untested ⊥ verdict OtherProtocol is

over_ipv6 : (source destination : List ℕ) (transport : TransportSlice) (verdict : ChecksumVerdict)
    → JudgesOverIpv6 source destination transport verdict → SaysWhether (IsValidOver (Ipv6 source (Some destination)) transport) verdict
over_ipv6 source destination (Udp packet) verdict is =
    judged (IsValidUdpIpv6 source destination) (partial_over_ipv6 source destination udp_number packet) udp_checksum_place packet verdict is
over_ipv6 source destination (Tcp segment) verdict is =
    judged (IsValidTcpIpv6 source destination)
    (partial_over_ipv6 source destination tcp_number segment) tcp_checksum_place segment verdict is
over_ipv6 source destination (Icmpv4 message) verdict is = untested ⊥ verdict OtherProtocol is
over_ipv6 source destination (Icmpv6 message) verdict is =
    judged (IsValidIcmpv6 source destination)
    (partial_over_ipv6 source destination icmpv6_number message) icmp_checksum_place message verdict is

over : (addresses : Addresses) (transport : TransportSlice) (verdict : ChecksumVerdict) → JudgesOver addresses transport verdict
    → SaysWhether (IsValidOver addresses transport) verdict
over (Ipv4 source destination) transport verdict is =
    unless _ _ verdict TooLong (is_too_long_over_ipv4 transport) is (over_ipv4 source destination transport verdict)
over (Ipv6 source (Some destination)) transport verdict is =
    unless _ _ verdict TooLong (nat_lt max_len_over_ipv6 (length (bytes_of transport))) is (over_ipv6 source destination transport verdict)
over (Ipv6 source None) transport verdict is = untested ⊥ verdict UnknownDestination is

-- a verdict on a packet states whether it is valid
pub says_over : (addresses : Addresses) (transport : TransportSlice) (verdict : ChecksumVerdict) → Judges addresses transport verdict
    → SaysWhether (IsValidOver addresses transport) verdict
says_over addresses transport verdict is = unless _ _ verdict ZeroLength (lacks_length transport) is (over addresses transport verdict)

says_kept : (addresses : Addresses) (kept : Option TransportSlice) (verdict : ChecksumVerdict) (is_fragment is_cut_off : Bool)
    → MatchBool is_fragment (verdict ≡ Untested Fragment) (MatchBool is_cut_off (verdict ≡ Untested CutOff) (
    MatchOption kept (verdict ≡ Untested OtherProtocol) (λ transport. Judges addresses transport verdict)))
    → IfSome kept (λ transport. SaysWhether (IsValidOver addresses transport) verdict)
says_kept addresses None verdict is_fragment is_cut_off is = tt
says_kept addresses (Some transport) verdict is_fragment is_cut_off is =
    unless _ _ verdict Fragment is_fragment is (λ whole. unless _ _ verdict CutOff is_cut_off whole (says_over addresses transport verdict))

-- a verdict on the transport of an IP packet states whether it is valid
pub says_found : (found : TransportInIp) (verdict : ChecksumVerdict) → JudgesFound found verdict
    → IfSome (kept found) (λ transport. SaysWhether (IsValidOver (by_value found.addresses) transport) verdict)
says_found found verdict is = says_kept (by_value found.addresses) (kept found) verdict found.is_fragment found.is_cut_off is
