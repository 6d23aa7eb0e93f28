use Rattle.std.proofs.Common.{refl}
use Rattle.icmp_part.proofs.Icmpv6FormatLemmas.{accepted-length}
use Rattle.etherparse_transport_c.proofs.IcmpLemmas.{passes_icmpv6}
use Rattle.etherparse_transport_c.proofs.icmpv6.checksum_of_packet.Goals as goal

pub returns-in-Ok-packet_checksum-clause-header : goal.returns-in-Ok-packet_checksum-clause-header
returns-in-Ok-packet_checksum-clause-header c = (accepted-length c.args.bytes.now c.in-Ok.ensures.refused).shortest

pub returns-in-Ok-packet_checksum-clause-passes : goal.returns-in-Ok-packet_checksum-clause-passes
returns-in-Ok-packet_checksum-clause-passes c =
    let whole = accepted-length c.args.bytes.now c.in-Ok.ensures.refused in
    passes_icmpv6 c.args.source.now c.args.destination.now c.args.bytes.now c.in-Ok-packet_checksum.computed whole.shortest
    (rw c.in-Ok.ensures.refused refl) (rw (← c.in-Ok.ensures.kept) c.in-Ok-packet_checksum.ensures.valid)
