-- The transport protocol of an IP packet.
use Rattle.std.specs.Prelude.{ℕ, ◌==◌, if◌then◌else◌, Option, Some, None}
use Rattle.net_base.specs.IpNumbers.{icmpv4_number, icmpv6_number, tcp_number, udp_number}
use Rattle.ip_part.specs.Addresses.{Addresses, Ipv4, Ipv6}
use Rattle.ip_part.specs.declared.proto.Proto.{Proto}
use Rattle.ip_part.specs.declared.proto.Proto.TheVariants as protos

-- the protocol with this number (RFC 5237); ICMPv4 is a protocol only over IPv4, and ICMPv6 only over IPv6
abbrev pub proto_over : Addresses → ℕ → Option Proto
proto_over (Ipv4 source destination) number =
    if number == udp_number then Some protos.Udp else if number == tcp_number then Some protos.Tcp else if number == icmpv4_number
    then Some protos.Icmpv4 else None
proto_over (Ipv6 source destination) number =
    if number == udp_number then Some protos.Udp else if number == tcp_number then Some protos.Tcp else if number == icmpv6_number
    then Some protos.Icmpv6 else None
