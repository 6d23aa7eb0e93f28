-- The length of a header and its meaningful bits, for the four protocols in one place.
use Rattle.std.specs.Prelude.{ℕ, List}
use Rattle.icmp_part.specs.Icmpv4Format as icmpv4
use Rattle.icmp_part.specs.Icmpv6Format as icmpv6
use Rattle.ip_part.specs.declared.proto.Proto.{Proto}
use Rattle.ip_part.specs.declared.proto.Proto.TheVariants.{Udp, Tcp, Icmpv4, Icmpv6}
use Rattle.net_base.specs.Bytes.{HeaderLayout}
use Rattle.tcp_part.specs.TcpFormat as tcp
use Rattle.udp_part.specs.UdpFormat as udp

-- the length of a packet's header, and its meaningful bits
abbrev pub layout_of : Proto → List ℕ → HeaderLayout
layout_of Udp bytes = udp.layout
layout_of Tcp bytes = tcp.layout_of bytes
layout_of Icmpv4 bytes = icmpv4.layout_of bytes
layout_of Icmpv6 bytes = icmpv6.layout_of bytes
