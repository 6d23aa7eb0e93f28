use Rattle.std.proofs.Common.{rules}
use Rattle.etherparse_transport_c.proofs.UdpLemmas.{enough_ipv6, passes_ipv6}
use Rattle.etherparse_transport_c.proofs.udp.checksum_ipv6.Goals as goal

pub returns-in-Ok-clause-header : goal.returns-in-Ok-clause-header
returns-in-Ok-clause-header c = (enough_ipv6 c.args.bytes.now c.in-Ok.ensures.refused).0

pub returns-in-Ok-clause-passes : goal.returns-in-Ok-clause-passes
returns-in-Ok-clause-passes c =
    let bytes = c.args.bytes.now in
    let lengths = enough_ipv6 bytes c.in-Ok.ensures.refused in
    passes_ipv6 c.args.source.now c.args.destination.now bytes c.packet_checksum_ipv6.result lengths.0 lengths.1 (search rules)
    (rw (← c.in-Ok.ensures.kept) c.packet_checksum_ipv6.ensures.sum) c.in-Ok.ensures.refused
    (rw (← c.in-Ok.ensures.kept) c.packet_checksum_ipv6.ensures.valid)
