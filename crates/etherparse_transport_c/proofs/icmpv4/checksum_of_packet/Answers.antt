use Rattle.std.proofs.Common.{refl}
use Rattle.icmp_part.proofs.Icmpv4FormatLemmas.{accepted-whole}
use Rattle.etherparse_transport_c.proofs.IcmpLemmas.{passes_icmpv4}
use Rattle.etherparse_transport_c.proofs.icmpv4.checksum_of_packet.Goals as goal

pub returns-in-Ok-clause-header : goal.returns-in-Ok-clause-header
returns-in-Ok-clause-header c = (accepted-whole c.args.bytes.now c.in-Ok.ensures.refused).shortest

pub returns-in-Ok-clause-passes : goal.returns-in-Ok-clause-passes
returns-in-Ok-clause-passes c =
    let whole = accepted-whole c.args.bytes.now c.in-Ok.ensures.refused in
    passes_icmpv4 c.args.bytes.now c.packet_checksum.result whole.shortest (rw c.in-Ok.ensures.refused refl)
    (rw (← c.in-Ok.ensures.kept) c.packet_checksum.ensures.valid)
