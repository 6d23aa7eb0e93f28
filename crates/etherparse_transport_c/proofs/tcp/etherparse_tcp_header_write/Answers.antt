use Rattle.std.proofs.Common.{◌++◌, drop, length, subst}
use Rattle.tcp_part.specs.TcpFormat.{DecodesAs, wire}
use Rattle.etherparse_transport_c.specs.Tcp.{header_in}
use Rattle.etherparse_transport_c.proofs.TcpLemmas.{flags_small, reads_back, room}
use Rattle.etherparse_transport_c.proofs.tcp.etherparse_tcp_header_write.Goals as goal

pub returns-in-Ok-clause-reads_back : goal.returns-in-Ok-clause-reads_back
returns-in-Ok-clause-reads_back c accepted =
    let fields = c.args.fields.now in
    let options = c.args.options.now in
    let rest = drop (length (wire (header_in fields options))) c.args.buffer.now in
    let decodes = subst (λ header. DecodesAs (wire header ++ rest) header rest) c.in-Ok.ensures.made (c.to_bytes.ensures.reads_back rest) in
    let fits = room fields options (length c.args.buffer.now) accepted in
    rw (c.write.ensures.buffer, c.deref.ensures.0, c.to_bytes.ensures.written, c.in-Ok.ensures.made, fits.1)
    (reads_back fields options c.args.buffer.now (flags_small fields options fits.0) decodes)
