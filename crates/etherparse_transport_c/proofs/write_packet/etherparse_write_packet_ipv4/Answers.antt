use Rattle.std.proofs.Common.{ap, sym, ◌∙◌}
use Rattle.etherparse_transport_c.specs.WrittenPackets.{header_at, message_refusal, payload_at}
use Rattle.etherparse_transport_c.proofs.WritePacketLemmas.{ipv4_read, ipv4_written}
use Rattle.etherparse_transport_c.proofs.write_packet.etherparse_write_packet_ipv4.Goals as goal

pub returns-in-Ok-write_packet_ipv4-clause-buffer : goal.returns-in-Ok-write_packet_ipv4-clause-buffer
returns-in-Ok-write_packet_ipv4-clause-buffer c =
    let message = c.args.message.now in
    let proto_is = c.proto_in_ipv4.ensures in
    let read = c.in-Ok.ensures in
    let packet = c.in-Ok-write_packet_ipv4.ensures in
    ipv4_written c.args.header.now message c.in-Ok.parts.0 c.in-Ok.parts.1.now c.write_packet_ipv4.new.slice c.args.buffer.now
    c.in-Ok-write_packet_ipv4.len (sym (ap (λ proto. message_refusal c.args.header.now.protocol proto message) proto_is) ∙ read.refused)
    (read.header ∙ ap (λ proto. header_at proto message) proto_is) (read.payload ∙ ap (λ proto. payload_at proto message) proto_is)
    packet.refused packet.len packet.written

pub returns-in-Ok-write_packet_ipv4-clause-read : goal.returns-in-Ok-write_packet_ipv4-clause-read
returns-in-Ok-write_packet_ipv4-clause-read c = λ accepted.
    let message = c.args.message.now in
    let proto_is = c.proto_in_ipv4.ensures in
    ipv4_read c.args.header.now message c.in-Ok.parts.0 c.in-Ok.parts.1.now
    (c.in-Ok.ensures.header ∙ ap (λ proto. header_at proto message) proto_is)
    (c.in-Ok.ensures.payload ∙ ap (λ proto. payload_at proto message) proto_is) c.in-Ok-write_packet_ipv4.ensures.read
