use Rattle.std.proofs.Common.{arith}
use Rattle.ip_translation.proofs.message_translation.write_message.Goals as goal

pub returns-then-protocol-3-clause-alike : goal.returns-then-protocol-3-clause-alike
returns-then-protocol-3-clause-alike c = record {
  udp = λ is_udp some. absurd (omega (arith, c.if-protocol-3.true, c.protocol-3.ensures, is_udp));
  computed = λ is_udp none. absurd (omega (arith, c.if-protocol-3.true, c.protocol-3.ensures, is_udp));
  tcp = λ is_tcp. c.write_tcp.ensures.alike;
  echo = λ is_icmp. absurd (omega (arith, c.if-protocol-3.true, c.protocol-3.ensures, is_icmp));
}
