use Rattle.std.proofs.Common.{arith}
use Rattle.ip_translation.proofs.packet_to_ipv4.write_message.Goals as goal

pub returns-then-next_header-2-clause-alike : goal.returns-then-next_header-2-clause-alike
returns-then-next_header-2-clause-alike c = record {
  udp = λ is_udp some. c.write_udp.ensures.alike some;
  tcp = λ is_tcp. absurd (omega (arith, c.if-next_header-2.true, c.next_header-2.ensures, is_tcp));
  echo = λ is_icmp. absurd (omega (arith, c.if-next_header-2.true, c.next_header-2.ensures, is_icmp));
}

pub returns-then-next_header-3-clause-alike : goal.returns-then-next_header-3-clause-alike
returns-then-next_header-3-clause-alike c = record {
  udp = λ is_udp some. absurd (omega (arith, c.if-next_header-3.true, c.next_header-3.ensures, is_udp));
  tcp = λ is_tcp. c.write_tcp.ensures.alike;
  echo = λ is_icmp. absurd (omega (arith, c.if-next_header-3.true, c.next_header-3.ensures, is_icmp));
}
