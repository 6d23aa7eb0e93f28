use Rattle.std.proofs.Common.{Some, ap, sym, ◌∙◌}
use Rattle.etherparse_transport_c.proofs.UdpLemmas.{long_refused}
use Rattle.etherparse_transport_c.proofs.udp.counted_packet.Goals as goal

pub returns-in-Err-check_payload_len-clause-refused : goal.returns-in-Err-check_payload_len-clause-refused
returns-in-Err-check_payload_len-clause-refused c =
    long_refused c.args.value_type c.args.limit c.args.bytes.now c.in-Ok.packet c.payload.result.now c.in-Err-check_payload_len.refused
    c.in-Ok.ensures.refused c.in-Ok.ensures.kept c.payload.ensures c.in-Err-check_payload_len.ensures
    ∙ ap Some (sym c.of_value.ensures.numbers)
