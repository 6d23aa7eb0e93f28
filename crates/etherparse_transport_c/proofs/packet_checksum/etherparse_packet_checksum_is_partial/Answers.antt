use Rattle.etherparse_transport_c.specs.PacketChecksum.{HasPartial}
use Rattle.etherparse_transport_c.proofs.PacketChecksumLemmas.{accepted_in, as_number}
use Rattle.etherparse_transport_c.proofs.packet_checksum.etherparse_packet_checksum_is_partial.Goals as goal

pub returns-in-Ok-has_partial-clause-partial : goal.returns-in-Ok-has_partial-clause-partial
returns-in-Ok-has_partial-clause-partial c =
    let carried = c.in-Ok.carried in
    let found = c.in-Ok.ensures.found in
    let stated = c.in-Ok.ensures.stated in
    let accepted = accepted_in c.args.bytes.now carried found stated c.in-Ok-has_partial.ensures.refused in
    rw (c.in-Ok.ensures.refused, accepted)
    (record {
      carried = carried;
      carries = found;
      length = stated;
      tells = as_number c.in-Ok-has_partial.partial (HasPartial carried) c.from.result c.from.ensures c.in-Ok-has_partial.ensures.partial;
    })
