use Rattle.std.proofs.Common.{◌++◌, drop, subst}
use Rattle.udp_part.specs.UdpFormat.{DecodesAs, wire}
use Rattle.etherparse_transport_c.proofs.UdpLemmas.{reads_back}
use Rattle.etherparse_transport_c.proofs.udp.etherparse_udp_header_write.Goals as goal

pub returns-clause-reads_back : goal.returns-clause-reads_back
returns-clause-reads_back c accepted =
    let rest = drop 8 c.args.buffer.now in
    let decodes = subst (λ header. DecodesAs (wire header ++ rest) header rest) c.header.ensures (c.to_bytes.ensures.reads_back rest) in
    rw (c.write.ensures.buffer, c.to_bytes.ensures.written, c.header.ensures, accepted)
    (reads_back c.args.fields.now c.args.buffer.now decodes)
