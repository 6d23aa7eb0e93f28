use Rattle.std.proofs.Common.{subst, sym}
use Rattle.etherparse_transport.specs.Formats.{IsReadBack}
use Rattle.etherparse_transport.specs.Headers.{IsValidOverIpv4}
use Rattle.etherparse_transport.specs.Packets.{sent_over_ipv4}
use Rattle.etherparse_transport.specs.declared.transport_header.TransportHeader.{TransportHeader}
use Rattle.etherparse_transport.proofs.ip.write_packet.write_message_ipv4.Goals as goal

pub returns-in-Tcp-clause-valid : goal.returns-in-Tcp-clause-valid
returns-in-Tcp-clause-valid c =
    let IsValid : TransportHeader → Type 0 = λ header.
    IsValidOverIpv4 c.args.source c.args.destination
    (sent_over_ipv4 c.args.source c.args.destination header c.args.payload.now) c.args.payload.now in
    subst IsValid (sym c.in-Tcp.is) c.write_tcp_ipv4.ensures.valid

pub returns-in-Tcp-clause-reads_back : goal.returns-in-Tcp-clause-reads_back
returns-in-Tcp-clause-reads_back c =
    let IsRead : TransportHeader → Type 0 =
    λ header. IsReadBack (sent_over_ipv4 c.args.source c.args.destination header c.args.payload.now) c.args.payload.now in
    subst IsRead (sym c.in-Tcp.is) c.write_tcp_ipv4.ensures.reads_back
