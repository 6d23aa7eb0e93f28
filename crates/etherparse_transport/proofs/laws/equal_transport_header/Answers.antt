use Rattle.std.proofs.Common.{◌≡◌, ap, subst, arith, rules}
use Rattle.std.proofs.lemmas.Grind.{common_steps}
use Rattle.std.specs.Prelude.{IsTrue}
use Rattle.icmp_part.specs.contracts.icmpv4_header.Icmpv4HeaderPartialEq.TheImpl as equal_icmpv4
use Rattle.icmp_part.specs.contracts.icmpv6_header.Icmpv6HeaderPartialEq.TheImpl as equal_icmpv6
use Rattle.icmp_part.specs.declared.icmpv4_header.Icmpv4Header.{Icmpv4Header}
use Rattle.icmp_part.specs.declared.icmpv6_header.Icmpv6Header.{Icmpv6Header}
use Rattle.tcp_part.proofs.EqualHeaders.{same_header}
use Rattle.udp_part.specs.contracts.udp_header.UdpHeaderPartialEq.TheImpl as equal_udp
use Rattle.udp_part.specs.declared.udp_header.UdpHeader.{UdpHeader}
use Rattle.etherparse_transport.specs.contracts.transport_header.TransportHeaderEq.TheImpl.Laws.{laws-law}
use Rattle.etherparse_transport.specs.contracts.transport_header.TransportHeaderPartialEq.TheImpl as equal
use Rattle.etherparse_transport.specs.declared.transport_header.TransportHeader.{TransportHeader}
use Rattle.etherparse_transport.specs.declared.transport_header.TransportHeader.TheVariants.{Udp, Tcp, Icmpv4, Icmpv6}
use Rattle.etherparse_transport.proofs.laws.equal_transport_header.Goals as goal

-- equal UDP headers are the same header
same_udp : (a b : UdpHeader) → IsTrue ((equal_udp.ghosts).eq a b) → a ≡ b
same_udp a b is = first_of (search rules, grind (arith, common_steps))

same_icmpv4 : (a b : Icmpv4Header) → IsTrue ((equal_icmpv4.ghosts).eq a b) → a ≡ b
same_icmpv4 a b is = first_of (search rules, grind (arith, common_steps))

same_icmpv6 : (a b : Icmpv6Header) → IsTrue ((equal_icmpv6.ghosts).eq a b) → a ≡ b
same_icmpv6 a b is = first_of (search rules, grind (arith, common_steps))

-- equal headers of any protocol are the same header
same : (a b : TransportHeader) → IsTrue ((equal.ghosts).eq a b) → a ≡ b
same (Udp a) (Udp b) is = ap Udp (same_udp a b is)
same (Udp a) (Tcp b) is = cc
same (Udp a) (Icmpv4 b) is = cc
same (Udp a) (Icmpv6 b) is = cc
same (Tcp a) (Udp b) is = cc
same (Tcp a) (Tcp b) is = ap Tcp (same_header a b is)
same (Tcp a) (Icmpv4 b) is = cc
same (Tcp a) (Icmpv6 b) is = cc
same (Icmpv4 a) (Udp b) is = cc
same (Icmpv4 a) (Tcp b) is = cc
same (Icmpv4 a) (Icmpv4 b) is = ap Icmpv4 (same_icmpv4 a b is)
same (Icmpv4 a) (Icmpv6 b) is = cc
same (Icmpv6 a) (Udp b) is = cc
same (Icmpv6 a) (Tcp b) is = cc
same (Icmpv6 a) (Icmpv4 b) is = cc
same (Icmpv6 a) (Icmpv6 b) is = ap Icmpv6 (same_icmpv6 a b is)

pub returns : goal.returns
returns c =
    rw c.eq.ensures record {
      same = (same c.args.a.now c.args.b.now, λ e. subst (λ b. IsTrue ((equal.ghosts).eq c.args.a.now b)) e (laws-law.refl c.args.a.now));
    }
