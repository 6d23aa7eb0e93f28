use Rattle.std.proofs.Common.{ap, sym, ◌∙◌}
use Rattle.etherparse_transport_c.specs.WrittenPackets.{header_at, message_refusal, payload_at}
use Rattle.etherparse_transport_c.proofs.WritePacketLemmas.{ipv6_written}
use Rattle.etherparse_transport_c.proofs.write_packet.etherparse_write_packet_ipv6.Goals as goal

pub returns-in-Ok-write_packet_ipv6-clause-buffer : goal.returns-in-Ok-write_packet_ipv6-clause-buffer
returns-in-Ok-write_packet_ipv6-clause-buffer c =
    let message = c.args.message.now in
    let proto_is = c.proto_in_ipv6.ensures in
    let read = c.in-Ok.ensures in
    let packet = c.in-Ok-write_packet_ipv6.ensures in
    ipv6_written c.args.header.now message c.in-Ok.parts.0 c.in-Ok.parts.1.now c.write_packet_ipv6.new.slice c.args.buffer.now
    c.in-Ok-write_packet_ipv6.len (sym (ap (λ proto. message_refusal c.args.header.now.next_header proto message) proto_is) ∙ read.refused)
    (read.header ∙ ap (λ proto. header_at proto message) proto_is) (read.payload ∙ ap (λ proto. payload_at proto message) proto_is)
    packet.refused packet.len packet.written
